use Rattle.std.proofs.Common.{◌≡◌, ◌≤◌, ℕ, ◌+◌, List, length, take, drop, replicate, length-drop, ap, subst, ◌∙◌, arith}
use Rattle.jr_base.specs.declared.marker.TheConstants.{PREFIX}
use Rattle.jr_cut.specs.UnstuffingValue.{UnstuffingValue}
use Rattle.jr_cut.proofs.Cuts.{rest_is}
use Rattle.jr_cut.proofs.Unstuffed.{fill_more}
use Rattle.jr_cut.proofs.unstuff.Unstuffing.fill.Goals as goal

pub invariant_of-self : goal.invariant_of-self
invariant_of-self c =
    let bytes = c.self.inside.bytes.items in
    let after = c.self.inside.at + c.self.inside.fill in
    let n = c.fill_count.result in
    let slice = rest_is c.deref.result.now after ∙ ap (drop after) c.deref.ensures.value in
    let full = subst (λ (xs : List ℕ). take n xs ≡ replicate n PREFIX) slice c.fill_count.ensures.full in
    let within = subst (λ (xs : List ℕ). n ≤ length xs) slice c.fill_count.ensures.within in
    (c.self.invariant.0, omega (arith, within, length-drop after bytes, c.self.invariant.1), fill_more bytes c.self.inside.at c.self.inside.fill n c.self.invariant.2 full)

pub returns-clause-full : goal.returns-clause-full
returns-clause-full c =
    let bytes = c.self.inside.bytes.items in
    let after = c.self.inside.at + c.self.inside.fill in
    let n = c.fill_count.result in
    let all = c.self.inside.fill + n in
    let slice = rest_is c.deref.result.now after ∙ ap (drop after) c.deref.ensures.value in
    let full = subst (λ (xs : List ℕ). take n xs ≡ replicate n PREFIX) slice c.fill_count.ensures.full in
    subst (λ (u : UnstuffingValue). take all u.rest ≡ replicate all PREFIX) c.self.view_is (fill_more bytes c.self.inside.at c.self.inside.fill n c.self.invariant.2 full)
