use Rattle.std.proofs.Common.{rules, ◌≡◌, ℤ, pos, List, get_or, set, refl, w16, w32, ap, subst, ◌∙◌}
use Rattle.std.specs.Prelude.{◌+ℤ◌}
use mir.Val.{SFits, to_z, of_z}
use Rattle.jr_mcu.proofs.Greater.{shifted_by, small_sum}
use Rattle.jr_mcu.proofs.shifting.shifted.Goals as goal

pub returns : goal.returns
returns c =
    let block = c.args.block.now in
    let sum = get_or block 0 (pos 0) +ℤ c.args.by in
    let same : c.in_ok-shifted.shifted ≡ block = search (rules, c.in_ok-shifted.ensures.value) in
    let own : SFits w16 c.first.result = search (rules, c.first.type_inv) in
    let fits : SFits w16 (get_or block 0 (pos 0)) = subst (SFits w16) c.first.ensures own in
    let passed = to_z w16 (of_z w16 (to_z w32 (of_z w32 (to_z w32 (of_z w32 c.from.result) +ℤ to_z w32 (of_z w32 c.args.by))))) in
    let store : c.set.new.self ≡ set block 0 sum = c.set.ensures ∙ ap (λ (x : List ℤ). set x 0 passed) same ∙ ap (set block 0) (small_sum (get_or block 0 (pos 0)) c.args.by c.from.result c.requires.first c.requires.by fits (c.from.ensures ∙ ap (λ (x : ℤ). to_z w16 (of_z w16 x)) c.first.ensures)) in
    shifted_by block c.set.new.self c.args.by sum c.requires.some store refl
