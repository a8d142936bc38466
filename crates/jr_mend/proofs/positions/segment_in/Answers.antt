use Rattle.std.proofs.Common.{ℕ, ◌+◌, ◌≤◌, List, length, sym, ap, subst, ◌∙◌, arith}
use Rattle.jr_damage.specs.Coded.{IsNextAt, IsSegmentOf}
use Rattle.jr_scan.specs.ScanValue.{intervals_of}
use Rattle.jr_mend.proofs.NextPositions.{next_within}
use Rattle.jr_mend.proofs.positions.segment_in.Goals as goal

pub segment_at-requires-clause-there : goal.segment_at-requires-clause-there
segment_at-requires-clause-there c =
    subst (λ (f : List ℕ). c.args.at ≤ length f) (sym c.file.ensures) (next_within c.args.copy.now.file c.args.copy.now.scan c.args.i c.args.at c.requires.at)

pub segment_at-requires-clause-few : goal.segment_at-requires-clause-few
segment_at-requires-clause-few c = omega (arith, c.requires.there, c.intervals-count.ensures.value ∙ ap intervals_of c.head.ensures.value)

pub returns-clause-segment : goal.returns-clause-segment
returns-clause-segment c =
    let s = c.args.copy.now.scan in
    let i = c.args.i in
    let is = c.file.ensures in
    let count = c.intervals-count.ensures.value ∙ ap intervals_of c.head.ensures.value in
    let begins = subst (λ (f : List ℕ). IsNextAt f s i c.args.at) (sym is) c.requires.at in
    subst (λ (f : List ℕ). IsSegmentOf f s i c.segment_at.result.bytes) is (c.segment_at.ensures.bytes (intervals_of s.head) s.intervals s.ended (sym count) begins)

pub returns-clause-next : goal.returns-clause-next
returns-clause-next c =
    let s = c.args.copy.now.scan in
    let i = c.args.i in
    let is = c.file.ensures in
    let count = c.intervals-count.ensures.value ∙ ap intervals_of c.head.ensures.value in
    let begins = subst (λ (f : List ℕ). IsNextAt f s i c.args.at) (sym is) c.requires.at in
    subst (λ (f : List ℕ). IsNextAt f s (i + 1) c.segment_at.result.next) is (c.segment_at.ensures.next (intervals_of s.head) s.intervals s.ended (sym count) begins)
