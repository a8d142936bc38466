-- What follows the end of the image in a file (T.81, B.2.1: EOI ends it).
use Rattle.std.specs.Prelude.{◌≡◌, ◌≢◌, ℕ, ◌+◌, List, ◌++◌, length, Option, Some, None}
use Rattle.jr_base.specs.declared.marker.TheConstants.{EOI}
use Rattle.jr_cut.specs.declared.scan_end.ScanEnd.{ScanEnd}
use Rattle.jr_cut.specs.declared.scan_end.ScanEnd.TheVariants.{EndOfImage}
use Rattle.jr_cut.specs.Cut.{marker, IsCut}
use Rattle.jr_cut.specs.PartialCut.{PartialCutValue, HasCut}

-- the scan's bytes, of which the first is at offset start, are ended by EOI, and the bytes after this marker begin at that offset
pub record IsImageEnd (n start : ℕ) (bytes : List ℕ) (at : ℕ) : Type 0 where
  pub datas : List (List ℕ)
  pub cut : IsCut n start bytes datas EndOfImage
  pub more : ℕ
  pub after : List ℕ
  pub ended : cut.tail ≡ marker more EOI ++ after
  pub begins : at + length after ≡ start + length bytes

-- where these bytes begin, or that no EOI ended the scan
abbrev pub IsImageEndOf : (n start : ℕ) → List ℕ → ScanEnd → Option ℕ → Type 0
IsImageEndOf n start bytes end None = end ≢ EndOfImage
IsImageEndOf n start bytes end (Some at) = IsImageEnd n start bytes at

-- these bytes of the scan have come, and those after its segments are not read yet
pub record HasCutToRest (start : ℕ) (bytes : List ℕ) (c : PartialCutValue) : Type 0 where
  pub cut : HasCut start bytes c
  pub rest : cut.tail ≡ c.rest
  pub all : c.at + length c.rest ≡ start + length bytes
