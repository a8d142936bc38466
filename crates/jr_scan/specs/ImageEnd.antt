-- Where the bytes after the end of the image begin in a file.
use Rattle.std.specs.Prelude.{ℕ, List, drop, Option}
use Rattle.jr_cut.specs.ImageEnd.{IsImageEndOf}
use Rattle.jr_scan.specs.ScanValue.{ScanValue, intervals_of}

-- the offset of the first byte after the EOI marker that ended the file's scan, or that no EOI did
abbrev pub IsImageEndIn : List ℕ → ScanValue → Option ℕ → Type 0
IsImageEndIn file s at = IsImageEndOf (intervals_of s.head) s.head.scan_at (drop s.head.scan_at file) s.ended at
