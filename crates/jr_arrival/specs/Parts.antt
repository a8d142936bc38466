-- A part of a file.
use Rattle.std.specs.Prelude.{ℕ, Bool, true, List}
use Rattle.jr_arrival.specs.declared.file_bytes.FileBytes.{FileBytes}

-- some bytes of a file, the offset of the first one, and whether the file ends after them
pub record FilePart : Type 0 where
  pub from : ℕ
  pub bytes : List ℕ
  pub are_all : Bool

abbrev pub part_at : (from : ℕ) (bytes : List ℕ) (are_all : Bool) → FilePart
part_at from bytes are_all = record { from = from; bytes = bytes; are_all = are_all }

abbrev pub part_of : FileBytes → FilePart
part_of f = part_at f.from f.bytes.now f.are_all

-- the same bytes, with which the file ends
abbrev pub last_part : FilePart → FilePart
last_part x = part_at x.from x.bytes true
