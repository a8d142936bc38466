-- The lines of the image that a row of MCUs has.
use Rattle.std.proofs.Common.{◌≡◌, ℕ, ◌+◌, ◌-◌, ◌*◌, ◌/◌, ◌<◌, ◌≤◌, ◌∙◌, List, length, max, min, ap, arith}
use Rattle.std.proofs.lemmas.Nat.{mul-le}
use Rattle.std.specs.Int.{div_ceil}
use Rattle.std.proofs.Math.Nat.{add-mul}
use Rattle.std.proofs.lemmas.Grind.{div_ceil_times}
use Rattle.std.proofs.lemmas.Nat.{div-add-mod', mod_below}
use Rattle.jr_head.specs.HeadValue.{HeadValue}
use Rattle.jr_head.specs.Geometry.{IsValid, vertical_max}
use Rattle.jr_paint.proofs.Places.{below_div_ceil, in_div_ceil}
use Rattle.jr_paint.specs.Lines.{next_lines_of}
use Rattle.jr_scan.specs.IntervalValue.{IntervalValue}
use Rattle.jr_scan.specs.ScanValue.{ScanValue}
use Rattle.jr_piece.specs.Outcome.{HasOutcome}
use Rattle.jr_picture.specs.DecodedScan.{DecodedScan, marks_of}
use Rattle.jr_picture.specs.Samples.{samples_of}
use Rattle.jr_rows.specs.Rows.{DecodesFirst}
use Rattle.jr_rows.specs.SomeLines.{CountsBetween, PaintsLines, row_after, row_with}
use Rattle.jr_rows.specs.declared.marked.Marked.{Marked}
use Rattle.jr_rows.proofs.FirstDecoded.{first_decoded, shows_first}

-- the rows of `deep` lines that have lines `first` to `end`
module _ (deep first end height : ℕ) (p : 0 < deep) (some : first < end) (inside : end ≤ height) where
  pub starts : first / deep * deep ≤ first
  starts = omega (arith, div-add-mod' first deep)

  pub reaches : first < (first / deep + 1) * deep
  reaches = omega (arith, div-add-mod' first deep, mod_below first deep p, add-mul (first / deep) 1 deep)

  pub some_row : first / deep < div_ceil end deep
  some_row = in_div_ceil (first / deep) end deep p (omega (arith, starts, some))

  pub ends : end ≤ div_ceil end deep * deep
  ends = (div_ceil_times end deep p).0

  pub last : (row : ℕ) → row < div_ceil end deep → row * deep < end
  last row lt = below_div_ceil row end deep p lt

  pub few_rows : div_ceil end deep ≤ div_ceil height deep
  few_rows =
      let row = div_ceil end deep - 1 in
      omega (arith, some_row, in_div_ceil row height deep p (omega (arith, last row (omega (arith, some_row)), inside)))

-- the number of lines starting at line `first` and before `end` that are before a row of MCUs
abbrev pub done_lines : HeadValue → (first end row : ℕ) → ℕ
done_lines h first end row = min end (max first (row * (8 * vertical_max h))) - first

-- `count` more with the row
pub next_done : (h : HeadValue) (first end row y count : ℕ) → first < end → row * (8 * vertical_max h) < end → first < (row + 1) * (8 * vertical_max h)
    → y ≡ max first (row * (8 * vertical_max h)) → y + count ≡ min end ((row + 1) * (8 * vertical_max h))
    → (y ≡ first + done_lines h first end row) × (done_lines h first end (row + 1) ≡ done_lines h first end row + count)
next_done h first end row y count some starts reaches at to =
    let next = add-mul row 1 (8 * vertical_max h) in
    (omega (arith, some, starts, at), omega (arith, some, starts, reaches, at, to, next))

-- the lines of a decoded scan there are lines of its image
pub painted_lines : ((i : IntervalValue) → HasOutcome i) → (scan : ScanValue) → IsValid scan.head → (first count : ℕ) (pixels : List ℕ) (m : Marked)
    → ((b : DecodedScan) → DecodesFirst scan (length scan.intervals) b → pixels ≡ next_lines_of scan.head (samples_of b) first (first + count - first))
    → CountsBetween scan (row_with scan.head first) (row_after scan.head (first + count)) m → PaintsLines scan first count pixels m
painted_lines each scan valid first count pixels m lines counts =
    let n = length scan.intervals in
    let board = first_decoded each scan n (omega arith) in
    let size : first + count - first ≡ count = omega arith in
    record {
      marks = marks_of board.0;
      f = samples_of board.0;
      shows = shows_first scan n board.0 board.1 valid;
      lines = lines board.0 board.1 ∙ ap (next_lines_of scan.head (samples_of board.0) first) size;
      counted = record { sound_are = counts.sound board.0 board.1; damaged_are = counts.damaged board.0 board.1 };
    }

-- some lines of a row of MCUs fit if all of them do
pub lines_fit : (count deep line size space : ℕ) → count ≤ deep → line ≡ size → deep * size ≤ space → count * line ≤ space
lines_fit count deep line size space few is all =
    let same : count * line ≡ count * size = ap (λ (k : ℕ). count * k) is in
    omega (arith, same, mul-le count size deep size few (omega arith), all)
