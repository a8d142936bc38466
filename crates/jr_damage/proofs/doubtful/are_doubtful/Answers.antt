use Rattle.std.proofs.Common.{◌↔◌, IsTrue, ℕ, ℤ, slice_index_or, pos, subst, rules, w16}
use Rattle.std.proofs.lemmas.Int.{to_z-of_z}
use Rattle.jr_damage.specs.Doubtful.{IsDoubtful}
use Rattle.jr_damage.proofs.Doubts.{one_more}
use Rattle.jr_damage.proofs.doubtful.are_doubtful.Goals as goal

pub loop-n-preserved : goal.loop-n-preserved
loop-n-preserved c =
    let value = slice_index_or c.args.values.now c.loop-n.n (pos 0) in
    let step = slice_index_or c.args.steps.now c.loop-n.n 0 in
    let this = subst (λ (v : ℤ). IsTrue c.is_doubtful-found.result ↔ IsDoubtful v step) (to_z-of_z w16 value (search rules)) c.is_doubtful-found.ensures in
    one_more (λ (j : ℕ). IsDoubtful (slice_index_or c.args.values.now j (pos 0)) (slice_index_or c.args.steps.now j 0)) c.loop-n.n c.loop-n.found c.is_doubtful-found.result c.loop-n.invariant this
