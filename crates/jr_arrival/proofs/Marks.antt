-- The number of intervals that have a decoding.
use Rattle.std.proofs.Common.{◌≡◌, ℕ, ◌+◌, ◌<◌, Bool, cond, length, sym, subst, ◌∙◌, arith}
use Rattle.jr_head.specs.Geometry.{mcus_down, mcus_of}
use Rattle.jr_scan.specs.IntervalValue.{IntervalValue}
use Rattle.jr_scan.specs.ScanValue.{ScanValue, interval_of, intervals_of}
use Rattle.jr_scan.specs.Mcus.{ReportsSound}
use Rattle.jr_rows.specs.Rows.{CountsMarks, CountsRows, coded_before, intervals_before}
use Rattle.jr_rows.specs.declared.marked.Marked.{Marked}
use Rattle.jr_piece.proofs.UnitReading.{outcome_reports}
use Rattle.jr_rows.proofs.ReadRows.{counts_both, counts_one}
use Rattle.jr_rows.proofs.Countings.{all_last, none_first}

-- the marks after one more interval
pub counted : (t : ScanValue) (i : IntervalValue) (number : ℕ) (before one more : Marked) (is_sound : Bool) → number < length t.intervals → CountsMarks t (length t.intervals) 0 number before → interval_of t number ≡ i → ReportsSound is_sound i
    → one.sound ≡ cond is_sound 1 0 → one.damaged ≡ cond is_sound 0 1 → more.sound ≡ before.sound + one.sound → more.damaged ≡ before.damaged + one.damaged → CountsMarks t (length t.intervals) 0 (number + 1) more
counted t i number before one more is_sound inside so_far same stated s d sums sumd =
    let all = length t.intervals in
    counts_both t all 0 number (number + 1) before one more so_far (counts_one t all number one inside inside is_sound s d (λ p o e. outcome_reports i is_sound stated p o (e ∙ same))) sums sumd

-- those of all intervals are those of all rows
pub of_all_rows : (s : ScanValue) (m : Marked) → 0 < mcus_of s.head → 0 < intervals_of s.head → length s.intervals ≡ intervals_of s.head → CountsMarks s (length s.intervals) 0 (length s.intervals) m → CountsRows s (length s.intervals) m
of_all_rows s m some more all c =
    let n = length s.intervals in
    subst (λ (k : ℕ). CountsMarks s n k (intervals_before s.head (coded_before s.head n (mcus_down s.head))) m) (sym (none_first s.head n some more))
    (subst (λ (k : ℕ). CountsMarks s n 0 k m) (sym (all_last s.head n some (omega (arith, all)))) c)
