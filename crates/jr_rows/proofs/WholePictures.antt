-- All lines of a scan's image, and all its marks.
use Rattle.std.proofs.Common.{◌≡◌, ℕ, ◌-◌, ◌<◌, List, length, map, refl, sym, ap, ◌∙◌, arith}
use Rattle.jr_head.specs.HeadValue.{HeadValue}
use Rattle.jr_head.specs.Geometry.{IsValid, mcus_down, mcus_of}
use Rattle.jr_paint.specs.Lines.{next_lines_of}
use Rattle.jr_paint.specs.Text.{lines_of}
use Rattle.jr_scan.specs.IntervalValue.{IntervalValue}
use Rattle.jr_scan.specs.ScanValue.{ScanValue, intervals_of}
use Rattle.jr_piece.specs.Outcome.{HasOutcome}
use Rattle.jr_picture.specs.declared.counts.Counts.{Counts}
use Rattle.jr_picture.specs.DecodedScan.{DecodedScan, marks_of}
use Rattle.jr_picture.specs.Samples.{samples_of}
use Rattle.jr_rows.specs.MarkBytes.{HasMarkSpace, StoresBetween, mark_byte}
use Rattle.jr_rows.specs.Rows.{DecodesFirst}
use Rattle.jr_rows.specs.SomeLines.{row_with}
use Rattle.jr_rows.specs.Stream.{HasCounts}
use Rattle.jr_rows.specs.Whole.{PaintsWhole}
use Rattle.jr_rows.proofs.Countings.{all_last, none_first}
use Rattle.jr_rows.proofs.FirstDecoded.{first_decoded, marks_there, shows_first}
use Rattle.jr_rows.proofs.StoredMarks.{are_marks}

-- the row of MCUs that has the first line
pub first_row : (h : HeadValue) → row_with h 0 ≡ 0
first_row h = omega arith

-- the lines starting at the first one
all_lines : (h : HeadValue) (f : ℕ → ℕ → ℕ → ℕ) (n : ℕ) → next_lines_of h f 0 n ≡ lines_of h f n
unfolding lines_of
all_lines h f n = refl

module _ (scan : ScanValue) (some : 0 < mcus_of scan.head) (more : 0 < intervals_of scan.head) (count : length scan.intervals ≡ intervals_of scan.head) where
  -- the marks of the intervals of all rows are all marks
  pub all_stored : (old new : List ℕ) → HasMarkSpace scan old → StoresBetween scan 0 (mcus_down scan.head) old new → (b : DecodedScan) → DecodesFirst scan (length scan.intervals) b → 0 < length old → new ≡ map mark_byte (marks_of b)
  all_stored old new space stores b first there =
      let n = length scan.intervals in
      let from = none_first scan.head n some more in
      let to = all_last scan.head n some (omega (arith, count)) in
      let marks = marks_there scan n b first in
      are_marks (marks_of b) new (stores.long ∙ space there ∙ sym marks) (λ k lt. stores.store b first there k (omega (arith, from)) (omega (arith, to, lt, marks)))

  -- the samples of the decoded scan are its image
  pub painted_whole : ((i : IntervalValue) → HasOutcome i) → IsValid scan.head → (pixels old new : List ℕ) (c : Counts)
      → ((b : DecodedScan) → DecodesFirst scan (length scan.intervals) b → pixels ≡ next_lines_of scan.head (samples_of b) 0 (scan.head.height - 0))
      → HasMarkSpace scan old → StoresBetween scan 0 (mcus_down scan.head) old new → HasCounts scan (length scan.intervals) c → PaintsWhole scan pixels old new c
  painted_whole each valid pixels old new c lines space stores counts =
      let n = length scan.intervals in
      let board = first_decoded each scan n (omega arith) in
      let f = samples_of board.0 in
      let size : scan.head.height - 0 ≡ scan.head.height = omega arith in
      record {
        marks = marks_of board.0;
        f = f;
        shows = shows_first scan n board.0 board.1 valid;
        lines = lines board.0 board.1 ∙ ap (next_lines_of scan.head f 0) size ∙ all_lines scan.head f scan.head.height;
        store = all_stored old new space stores board.0 board.1;
        counted = counts board.0 board.1;
      }
