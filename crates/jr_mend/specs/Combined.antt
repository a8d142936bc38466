-- A file that is combined of copies of it: each byte is that of a copy at the same offset.
use Rattle.std.specs.Prelude.{◌≡◌, ◌≢◌, ℕ, suc, ◌<◌, ◌≤◌, ◌&&◌, if◌then◌else◌, nat_le, List, [], ◌∷◌, length, slice_get, slice_index_or, Some}
use Rattle.jr_mend.specs.declared.byte_runs.ByteRun.{ByteRun}
use Rattle.jr_mend.specs.declared.combining.CombineError.{CombineError}
use Rattle.jr_mend.specs.declared.combining.CombineError.TheVariants as error
use Rattle.jr_mend.specs.Copies.{CopyValue, HasOtherHead}

-- the copy that the byte at an offset is from: that of the run in which it is, otherwise the first
abbrev pub copy_at : List ByteRun → (offset : ℕ) → ℕ
copy_at [] p = 0
copy_at (r ∷ runs) p = if nat_le r.start p && nat_le (suc p) r.end then r.copy else copy_at runs p

-- runs follow one another from one offset to another
abbrev pub AreBetween : (from to : ℕ) → List ByteRun → Type 0
AreBetween from to [] = from ≤ to
AreBetween from to (r ∷ runs) = (from ≤ r.start) × (r.start < r.end) × AreBetween r.end to runs

-- each byte of the file is at the same offset in the copy that the runs name
abbrev pub AreBytesByRuns : (copies : List CopyValue) → (runs : List ByteRun) → (file : List ℕ) → Type 0
AreBytesByRuns copies runs file =
    (p : ℕ) → p < length file → (copy : CopyValue) × (slice_get copies (copy_at runs p) ≡ Some copy) × (slice_index_or file p 0 ≡ slice_index_or copy.file p 0)

-- the file is as long as the first copy, and the runs lie in its scan
pub record IsCombined (copies : List CopyValue) (runs : List ByteRun) (file : List ℕ) : Type 0 where
  pub first : CopyValue
  pub is_first : slice_get copies 0 ≡ Some first
  pub long : length file ≡ length first.file
  pub order : AreBetween first.scan.head.scan_at (length file) runs
  pub bytes : AreBytesByRuns copies runs file

-- why copies are not combined: copy k has another header, or another length, than the first copy
abbrev pub IsCombineErrorOf : List CopyValue → CombineError → Type 0
IsCombineErrorOf copies error.Memory = Unit {0}
IsCombineErrorOf copies (error.OtherHead k) = HasOtherHead copies k
IsCombineErrorOf copies (error.OtherLength k) = (k < length copies) × ((c : CopyValue) → length (slice_index_or copies k c).file ≢ length (slice_index_or copies 0 c).file)
