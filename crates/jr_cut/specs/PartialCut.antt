-- The bytes of a scan that have come so far, and what they are cut into.
use Rattle.std.specs.Prelude.{◌≡◌, ℕ, suc, ◌+◌, ◌-◌, ◌%◌, ◌≤◌, List, [], ◌∷◌, ◌++◌, length}
use Rattle.jr_base.specs.declared.marker.TheConstants.{RST0}
use Rattle.jr_cut.specs.declared.scan_end.ScanEnd.{ScanEnd}
use Rattle.jr_cut.specs.declared.scan_end.ScanEnd.TheVariants.{EndOfFile}
use Rattle.jr_cut.specs.Cut.{IsRaw, marker, IsEnding}

-- the maximum number of segments; the data of each; all data in order; the offset in the file of the bytes that are not read yet, and
-- these bytes; and what has ended the scan. While that is the end of the bytes the last segment is open
pub record PartialCutValue : Type 0 where
  pub intervals : ℕ
  pub segments : List (List ℕ)
  pub unstuffed : List ℕ
  pub at : ℕ
  pub rest : List ℕ
  pub ended : ScanEnd

-- the bytes are segments that spell these data, and the markers between them, the first of which has number k modulo 8
abbrev pub AreSegments : ℕ → List ℕ → List (List ℕ) → Type 0
AreSegments k read [] = ⊥
AreSegments k read (d ∷ []) = IsRaw read d
AreSegments k read (d ∷ e ∷ ds) = (raw : List ℕ) × (more : ℕ) × (others : List ℕ) × (read ≡ raw ++ (marker more (RST0 + k % 8) ++ others)) × IsRaw raw d × AreSegments (suc k) others (e ∷ ds)

-- these bytes of the scan have come, the first of which is at that offset of the file: those that are read are segments, and after
-- them is what has ended the scan; while no marker has, that is what is not read yet
pub record HasCut (start : ℕ) (bytes : List ℕ) (c : PartialCutValue) : Type 0 where
  pub read : List ℕ
  pub tail : List ℕ
  pub are : AreSegments 0 read c.segments
  pub count : length c.segments ≤ c.intervals
  pub spelled : bytes ≡ read ++ tail
  pub ends : IsEnding c.intervals (length c.segments - 1) (start + length read) tail c.ended
  pub few : c.at + length c.rest ≤ start + length bytes
  pub unread : c.ended ≡ EndOfFile → (c.at ≡ start + length read) × (c.rest ≡ tail)
