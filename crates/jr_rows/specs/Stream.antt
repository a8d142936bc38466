-- What is written of a scan.
use Rattle.std.specs.Prelude.{◌≡◌, ℕ, List, Option, Result, IfOk, is_err}
use Rattle.jr_base.specs.declared.tally.Tally.{Tally}
use Rattle.jr_base.specs.declared.writing.WriteFault.{WriteFault}
use Rattle.jr_base.specs.Tally.{has_failed}
use Rattle.jr_scan.specs.ScanValue.{ScanValue}
use Rattle.jr_scan.specs.FirstIntervalsValue.{FirstIntervalsValue}
use Rattle.jr_paint.specs.Text.{text_of}
use Rattle.jr_paint.specs.Written.{IsSent}
use Rattle.jr_picture.specs.declared.counts.Counts.{Counts}
use Rattle.jr_picture.specs.DecodedScan.{DecodedScan, marks_of}
use Rattle.jr_picture.specs.Headline.{AreCounts}
use Rattle.jr_picture.specs.Samples.{samples_of}
use Rattle.jr_rows.specs.Rows.{DecodesFirst, CountsRows}
use Rattle.jr_rows.specs.declared.marked.Marked.{Marked}

-- the image of the scan with its first n intervals decoded is written, or a prefix of it, and then the writer has failed
abbrev pub SendsPicture : {T U E : Type 0} → (T → Option (List ℕ)) → Tally T → Tally T → Result U E → ScanValue → ℕ → Type 0
SendsPicture known old new result scan n = (b : DecodedScan) → DecodesFirst scan n b → IsSent known old new result (text_of scan.head (samples_of b))

-- the numbers of its intervals that are sound, damaged and blank
abbrev pub HasCounts : ScanValue → ℕ → Counts → Type 0
HasCounts scan n c = (b : DecodedScan) → DecodesFirst scan n b → AreCounts (marks_of b) c.sound c.damaged c.blank

-- the image of a scan, of which this part is decoded, is sent, and the marks of its intervals are returned
pub record IsSentBy {T : Type 0} (known : T → Option (List ℕ)) (part : FirstIntervalsValue) (old new : Tally T) (result : Result Marked WriteFault) : Type 0 where
  pub counts : IfOk result (CountsRows part.scan part.limit)
  pub failed : has_failed new ≡ is_err result
  pub sent : SendsPicture known old new result part.scan part.limit
