use Rattle.std.proofs.Common.{rules, arith, ℕ, ◌≤◌, ◌≡◌, slice_index, w16, FitsSigned, inl, inr, subst}
use Rattle.std.proofs.lemmas.Bool.{cases_lt}
use Rattle.std.proofs.lemmas.Int.{to_z-of_z}
use Rattle.std.proofs.lemmas.Nat.{le_or_l, le_or_r}
use Rattle.std.specs.Prelude.{unsigned_abs}
use Rattle.jr_idct.specs.Matrix.{at}
use Rattle.jr_idct.proofs.small.are_within.Goals as goal

pub loop-n-preserved : goal.loop-n-preserved
loop-n-preserved c e j h =
    let n = c.loop-n.n in
    let more = c.excess_of-excess.result in
    let f : FitsSigned w16 (at c.args.a.now n) = search rules in
    let g : FitsSigned w16 (at c.args.b.now n) = search rules in
    let before : c.loop-n.excess ≡ 0 = omega (arith, e, le_or_l c.loop-n.excess more) in
    let here : more ≡ 0 = omega (arith, e, le_or_r c.loop-n.excess more) in
    elim (cases_lt j n) [
      | inl l ↦ c.loop-n.invariant before j l
      | inr o ↦
          let same : n ≡ j = omega (arith, h, o) in
          subst (λ (j : ℕ). (unsigned_abs (at c.args.a.now j) ≤ slice_index c.args.limits.now j) × (unsigned_abs (at c.args.b.now j) ≤ slice_index c.args.limits.now j)) same
          (rw (to_z-of_z w16 (at c.args.a.now n) f) at c.excess_of-excess.ensures.first here, rw (to_z-of_z w16 (at c.args.b.now n) g) at c.excess_of-excess.ensures.second here)
    ]
