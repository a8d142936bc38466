use Rattle.std.proofs.Common.{◌≡◌, ℕ, ◌+◌, ◌<◌, ◌∷◌, [], List, length, sym, subst, get_or, length-append, arith}
use Rattle.jr_cut.specs.declared.file_segments.FileSegment.{FileSegment}
use Rattle.jr_damage.specs.Coded.{IsNextAt}
use Rattle.jr_mend.specs.Copies.{CopyValue}
use Rattle.jr_mend.proofs.NextPositions.{IsNextIn, next_in_copy, one_pushed, zip_from}
use Rattle.jr_mend.proofs.positions.starts_of.Goals as goal

pub loop-k-preserved : goal.loop-k-preserved
loop-k-preserved c =
    let copies = c.args.copies.now in
    let segments = c.loop-k.segments.items in
    let k = c.loop-k.k in
    let start = c.start_of.result in
    let before = c.loop-k.invariant in
    let items = c.in_ok-push.ensures.items in
    let next = next_in_copy copies 0 k start c.index-copies-k.result c.loop-k-test.true c.index-copies-k.is c.start_of.ensures in
    let pushed = one_pushed (IsNextIn copies 0) segments k start next before.0 before.1 in
    subst (λ (l : List FileSegment). (length l ≡ k + 1) × ((j : ℕ) (s : FileSegment) → j < k + 1 → IsNextIn copies 0 j (get_or l j s))) (sym items) (omega (arith, before.0, length-append segments (start ∷ [])), pushed)

pub returns : goal.returns
returns c =
    zip_from (λ (e : CopyValue) (t : FileSegment). IsNextAt e.file e.scan 0 t.next) c.args.copies.now c.loop-k.segments.items (omega (arith, c.loop-k.invariant.0, c.loop-k-test.false, c.loop-k.auto.k-end)) (λ k d s lt. c.loop-k.invariant.1 k s (omega (arith, lt, c.loop-k-test.false)) d)
