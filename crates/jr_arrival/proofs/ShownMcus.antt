-- What a board shows of MCUs of an interval.
use Rattle.std.proofs.Common.{◌≡◌, ℕ, ◌+◌, ◌*◌, ◌/◌, ◌%◌, ◌<◌, ◌≤◌, Some, List, [], get_or, sym, ap, ◌∙◌, arith}
use Rattle.std.proofs.lemmas.Nat.{div-add-mod'}
use Rattle.std.proofs.Math.Nat.{add-mul, div-lt_iff_lt-mul}
use Rattle.jr_head.specs.HeadValue.{HeadValue}
use Rattle.jr_head.specs.Geometry.{blocks_of}
use Rattle.jr_head.specs.Intervals.{interval_number, within_interval}
use Rattle.jr_scan.specs.ScanValue.{ScanValue, interval_of, intervals_of, mcus_in}
use Rattle.jr_piece.specs.PieceValue.{PieceValue}
use Rattle.jr_piece.specs.Outcome.{IsOutcome}
use Rattle.jr_piece.specs.Units.{unit_in_piece}
use Rattle.jr_picture.specs.DecodedScan.{piece_at}
use Rattle.jr_rows.specs.Bands.{unit_shown, unit_shown_of}
use Rattle.jr_rows.specs.Rows.{ShowsAfter, ShowsFirstUnits}
use Rattle.jr_rows.proofs.IntervalPlaces.{interval_at}
use Rattle.jr_rows.proofs.ReadRows.{posted_there, shown_more}

-- data units that are those of each outcome of an interval are those that a board shows
module _ (t : ScanValue) (n number mcu mcus before : ℕ) (units : List (List ℕ)) (some : 0 < blocks_of t.head) (number_few : number < intervals_of t.head) (marked : number < n) (few : mcu + mcus ≤ mcus_in t.head number)
    (codes : (o : PieceValue) → o.interval ≡ interval_of t number → IsOutcome o → (k : ℕ) → k < mcus * blocks_of t.head → get_or units (before + k) [] ≡ unit_in_piece o (mcu * blocks_of t.head + k)) where
  abbrev h : HeadValue
  h = t.head

  abbrev m : ℕ
  m = blocks_of h

  pub shown_there : ShowsAfter t n (number * h.restart + mcu) before mcus units
  shown_there b first k lt =
      let j = k / m in
      let near : j < mcus = (div-lt_iff_lt-mul some).1 lt in
      let place = interval_at h number (mcu + j) number_few (omega (arith, near, few)) in
      let at : number * h.restart + mcu + j ≡ number * h.restart + (mcu + j) = omega arith in
      let p = posted_there t n b first number marked in
      let unit = codes p.piece p.interval p.outcome k lt in
      let per : mcu * m + k ≡ (mcu + j) * m + k % m = omega (arith, div-add-mod' k m, add-mul mcu j m) in
      let turned : unit_shown_of h (k % m) (Some p.piece) ((mcu + j) * m + k % m) ≡ unit_shown_of h (k % m) (piece_at b (interval_number h (number * h.restart + mcu + j))) (within_interval h (number * h.restart + mcu + j) * m + k % m) =
      ap (λ q. unit_shown_of h (k % m) q ((mcu + j) * m + k % m)) (sym p.at)
      ∙ ap (λ x. unit_shown_of h (k % m) (piece_at b number) (x * m + k % m)) (sym (ap (within_interval h) at ∙ place.1))
      ∙ ap (λ x. unit_shown_of h (k % m) (piece_at b x) (within_interval h (number * h.restart + mcu + j) * m + k % m)) (sym (ap (interval_number h) at ∙ place.0)) in
      unit ∙ ap (unit_in_piece p.piece) per ∙ turned
      ∙ ap (λ (g : HeadValue). unit_shown_of g (k % m) (piece_at b (interval_number g (number * h.restart + mcu + j))) (within_interval g (number * h.restart + mcu + j) * blocks_of g + k % m)) (ap (λ (u : ScanValue). u.head) (sym first.scan_is))

-- more of the row after the part that is shown
pub shown_on : (t : ScanValue) (n from done more at : ℕ) (old new : List (List ℕ)) → 0 < blocks_of t.head → at ≡ from + done → ShowsFirstUnits t n from done old
    → ((k : ℕ) → k < done * blocks_of t.head → get_or new k [] ≡ get_or old k []) → ShowsAfter t n at (done * blocks_of t.head) more new → ShowsFirstUnits t n from (done + more) new
shown_on t n from done more at old new some e before kept there b first =
    shown_more (blocks_of t.head) done more from (unit_shown b) (λ k. get_or old k []) (λ k. get_or new k []) some (before b first) kept
    (λ k lt. there b first k lt ∙ ap (λ (m : ℕ). unit_shown b (m + k / blocks_of t.head) (k % blocks_of t.head)) e)
