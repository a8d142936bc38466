use Rattle.std.proofs.Common.{◌≡◌, ℕ, ◌≤◌, ◌∙◌, inl, inr, get_or, length, ap, subst, sym, rules, arith}
use Rattle.std.proofs.lemmas.Bool.{cases_lt}
use Rattle.std.proofs.lemmas.List.{get_or_default}
use Rattle.jr_mend.specs.Copies.{CopyValue}
use Rattle.jr_mend.proofs.buffers.longest_of.Goals as goal

pub loop-k-preserved : goal.loop-k-preserved
loop-k-preserved c =
    let copies = c.args.copies.now in
    let k = c.loop-k.k in
    let copy = c.index-copies-k.result in
    let long : length copy.file ≤ c.max-longest.result = search (rules, arith, ap length c.file.ensures) in (
      (λ j d lt. elim (cases_lt j k) [
        | inl h ↦ search (rules, arith, c.loop-k.invariant.0 j d h)
        | inr h ↦
            let same : j ≡ k = omega (arith, h, lt) in
            let is : copy ≡ get_or copies j d = c.index-copies-k.is ∙ get_or_default copies k copy d c.loop-k-test.true ∙ ap (λ (n : ℕ). get_or copies n d) (sym same) in
            subst (λ (x : CopyValue). length x.file ≤ c.max-longest.result) is long
      ]),
      search (rules, arith, c.loop-k.invariant.1),
    )

pub returns-clause-longest : goal.returns-clause-longest
returns-clause-longest c = λ k d lt. c.loop-k.invariant.0 k d (omega (arith, lt, c.loop-k-test.false))
