-- All of a scan's image in a buffer.
use Rattle.std.specs.Prelude.{◌≡◌, ℕ, ◌<◌, List, length, map}
use Rattle.jr_paint.specs.Text.{lines_of}
use Rattle.jr_scan.specs.ScanValue.{ScanValue}
use Rattle.jr_picture.specs.declared.counts.Counts.{Counts}
use Rattle.jr_picture.specs.declared.mark.Mark.{Mark}
use Rattle.jr_picture.specs.Headline.{AreCounts, ShowsFirst}
use Rattle.jr_rows.specs.MarkBytes.{mark_byte}

-- these are the lines of the scan's image, all of whose intervals are marked; if marks were asked for, the bytes are its
-- marks; and these are their counts
pub record PaintsWhole (scan : ScanValue) (pixels old_bytes bytes : List ℕ) (c : Counts) : Type 0 where
  pub marks : List Mark
  pub f : ℕ → ℕ → ℕ → ℕ
  pub shows : ShowsFirst scan (length scan.intervals) marks f
  pub lines : pixels ≡ lines_of scan.head f scan.head.height
  pub store : 0 < length old_bytes → bytes ≡ map mark_byte marks
  pub counted : AreCounts marks c.sound c.damaged c.blank
