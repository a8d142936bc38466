use Rattle.std.proofs.Common.{◌≡◌, ◌∙◌, ℕ, [], ◌∷◌, ◌++◌, length, subst, arith}
use Rattle.jri_memory.specs.Checks.{AreStored}
use Rattle.jri_memory.proofs.check.mark_intervals.Goals as goal

pub loop-i-preserved : goal.loop-i-preserved
loop-i-preserved c =
    let store = c.loop-i.invariant.0 in
    let more = c.mark_interval-marked.ensures.store store.0 store.1 in
    ((store.0 ++ more.0 ∷ [], more.1), c.mark_interval-marked.ensures.few, c.mark_interval-marked.ensures.long ∙ c.loop-i.auto.marks)

pub returns-clause-store : goal.returns-clause-store
returns-clause-store c =
    let store = c.loop-i.invariant.0 in
    let all : c.loop-i.i ≡ length c.args.scan.now.intervals = omega (arith, c.loop-i.auto.i-end, c.loop-i-test.false, c.intervals-i-end.ensures.value) in
    (store.0, subst (λ (n : ℕ). AreStored c.args.scan.now n c.loop-i.marked c.loop-i.marks store.0) all store.1)
