-- Where in an interval's bits, and in its file, the MCUs end that can be decoded.
use Rattle.std.specs.Prelude.{◌≡◌, ℕ, ◌/◌, List, length, ℤ}
use Rattle.jr_cut.specs.declared.file_segments.CodedSpan.{CodedSpan}
use Rattle.jr_scan.specs.IntervalValue.{IntervalValue}
use Rattle.jr_scan.specs.Mcus.{Front, LongestFront}
use Rattle.jr_damage.specs.Offsets.{BeginsByte}

-- an interval's first k whole MCUs have these blocks, and the bits before that one
pub record FrontTo (i : IntervalValue) (k : ℕ) (zs : List (List ℤ)) (bit : ℕ) : Type 0 where
  pub front : Front i k zs
  pub ends : bit ≡ length front.taken

-- the bits of an interval's longest prefix end in the byte at that offset of the file, or before it
pub record IsDecodableEnd (i : IntervalValue) (file : List ℕ) (span : CodedSpan) (at : ℕ) : Type 0 where
  pub mcus : ℕ
  pub blocks : List (List ℤ)
  pub bit : ℕ
  pub longest : LongestFront i mcus blocks
  pub front : FrontTo i mcus blocks bit
  pub begins : BeginsByte file span i.bytes (bit / 8) at
