use Rattle.std.proofs.Common.{◌≡◌, ℕ, ◌<◌, length, sym, ap, subst, ◌∙◌, arith, rules}
use Rattle.jr_head.specs.HeadValue.{HeadValue}
use Rattle.jr_head.specs.Geometry.{mcus_of}
use Rattle.jr_scan.specs.ScanValue.{ScanValue, intervals_of}
use Rattle.jr_rows.specs.Rows.{CountsMarks, CountsRows}
use Rattle.jr_rows.specs.Stream.{HasCounts}
use Rattle.jr_arrival.specs.PartialFile.{PartialImageValue}
use Rattle.jr_arrival.proofs.Marks.{of_all_rows}
use Rattle.jr_arrival.proofs.partial_image.PartialImage.finish.Goals as goal

pub counts_of-counts-requires-clause-counts : goal.counts_of-counts-requires-clause-counts
counts_of-counts-requires-clause-counts c =
    let s : ScanValue = c.in_ok-scan.scan in
    let e : c.self.inside.scan.scan ≡ s = sym c.in_ok-scan.ensures in
    let n : c.intervals.result ≡ length s.intervals = c.intervals.ensures.value in
    let marks : CountsMarks s (length s.intervals) 0 (length s.intervals) c.marks-marked.result = subst (λ (t : ScanValue). CountsMarks t (length t.intervals) 0 (length t.intervals) c.marks-marked.result) e c.marks-marked.ensures in
    let all : length s.intervals ≡ intervals_of s.head = sym n ∙ c.intervals.ensures.count in
    let some : 0 < mcus_of s.head = subst (λ (t : ScanValue). 0 < mcus_of t.head) e (subst (λ (h : HeadValue). 0 < mcus_of h) c.head.ensures.value (search (rules, arith))) in
    subst (λ (k : ℕ). CountsRows s k c.marks-marked.result) (sym n) (of_all_rows s c.marks-marked.result some (omega (arith, c.intervals.ensures.some, c.intervals.ensures.count)) all marks)

pub returns-clause-counts : goal.returns-clause-counts
returns-clause-counts c =
    let e : c.in_ok-scan.scan ≡ c.args.self.partial_scan.scan = c.in_ok-scan.ensures ∙ ap (λ (v : PartialImageValue). v.partial_scan.scan) c.self.view_is in
    let n : c.intervals.result ≡ length c.in_ok-scan.scan.intervals = c.intervals.ensures.value in
    subst (λ (t : ScanValue). HasCounts t (length t.intervals) c.counts_of-counts.result) e (subst (λ (k : ℕ). HasCounts c.in_ok-scan.scan k c.counts_of-counts.result) n c.counts_of-counts.ensures)
