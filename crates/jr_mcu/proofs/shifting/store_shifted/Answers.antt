use Rattle.std.proofs.Common.{rules, ◌≡◌, ◌<◌, ℕ, ℤ, pos, List, [], length, get_or, set, refl, sym, ap, subst, ◌∙◌, arith, inl, inr, w32}
use Rattle.std.proofs.lemmas.Bool.{cases_lt}
use Rattle.std.proofs.lemmas.Int.{to_z-of_z}
use Rattle.std.proofs.lemmas.List.{get_or_default, get_or-set_same, get_or-set_other, length-set}
use Rattle.jr_head.specs.Geometry.{order_of}
use Rattle.jr_mcu.specs.Mcus.{component, block_of}
use Rattle.jr_mcu.specs.Shift.{of_component, IsShifted, IsInMcuRange, IsSmall}
use Rattle.jr_mcu.proofs.InMcu.{component_in}
use Rattle.jr_mcu.proofs.shifting.store_shifted.Goals as goal

pub shifted-requires-clause-first : goal.shifted-requires-clause-first
shifted-requires-clause-first c =
    let blocks = c.args.blocks.now in
    let k = c.loop-k.k in
    let z = c.index-blocks-k.result in
    let lt : k < length blocks = search (rules, arith, c.loop-k-test.true, ap (λ (o : List ℕ). length o) c.order-order.ensures.value, c.requires.count) in
    let is : z ≡ get_or blocks k [] = c.index-blocks-k.is ∙ get_or_default blocks k z [] lt in
    subst (λ (x : List ℤ). IsInMcuRange (get_or x 0 (pos 0))) (sym is) (c.requires.small k lt)

pub loop-k-preserved : goal.loop-k-preserved
loop-k-preserved c =
    let h = c.args.head.now in
    let by = c.args.by.now in
    let k = c.loop-k.k in
    let d = get_or c.order-order.result.now k 0 in
    let y = c.in_ok-others.field-0 in
    let space : k < length (order_of h) = search (rules, arith, c.loop-k-test.true, ap (λ (o : List ℕ). length o) c.order-order.ensures.value) in
    let long : k < length c.loop-k.others = omega (arith, space, c.loop-k.invariant.space, c.requires.space) in
    let at : d ≡ component h k = ap (λ (o : List ℕ). get_or o k 0) c.order-order.ensures.value ∙ sym (component_in h k space) in
    let z = c.index-blocks-k.result in
    let is : z ≡ block_of c.args.blocks.now k = c.index-blocks-k.is ∙ get_or_default c.args.blocks.now k z [] (omega (arith, space, c.requires.count)) in
    let here0 : IsShifted (of_component by d) z y = search (rules, c.in_ok-others.ensures) in
    let here1 = subst (λ (x : List ℤ). IsShifted (of_component by d) x y) is here0 in
    let here = subst (λ (j : ℕ). IsShifted (of_component by j) (block_of c.args.blocks.now k) y) at here1 in
    record {
      space = length-set c.loop-k.others k y ∙ c.loop-k.invariant.space;
      each = λ n lt. elim (cases_lt n k) [
        | inl l ↦ subst (IsShifted (of_component by (component h n)) (block_of c.args.blocks.now n)) (sym (get_or-set_other c.loop-k.others k n y [] (omega arith))) (c.loop-k.invariant.each n l)
        | inr g ↦
            let e : k ≡ n = omega arith in
            subst (λ (j : ℕ). IsShifted (of_component by (component h j)) (block_of c.args.blocks.now j) (get_or (set c.loop-k.others k y) j [])) e
            (subst (IsShifted (of_component by (component h k)) (block_of c.args.blocks.now k)) (sym (get_or-set_same c.loop-k.others k y [] long)) here)
      ];
    }

pub shifted-requires-clause-some : goal.shifted-requires-clause-some
shifted-requires-clause-some c =
    let blocks = c.args.blocks.now in
    let k = c.loop-k.k in
    let z = c.index-blocks-k.result in
    let lt : k < length blocks = omega (arith, c.loop-k-test.true, ap (λ (o : List ℕ). length o) c.order-order.ensures.value, c.requires.count) in
    let is : z ≡ get_or blocks k [] = c.index-blocks-k.is ∙ get_or_default blocks k z [] lt in
    subst (λ (x : List ℤ). 0 < length x) (sym is) (c.requires.some k lt)

pub loop-k-init : goal.loop-k-init
loop-k-init c = record { space = refl; each = λ n lt. absurd (omega (arith, lt)) }

pub bounds-blocks-k : goal.bounds-blocks-k
bounds-blocks-k c = omega (arith, c.loop-k-test.true, ap (λ (o : List ℕ). length o) c.order-order.ensures.value, c.requires.count)

pub bounds-others-k : goal.bounds-others-k
bounds-others-k c = omega (arith, c.loop-k-test.true, ap (λ (o : List ℕ). length o) c.order-order.ensures.value, c.loop-k.invariant.space, c.requires.space)

pub bounds-by-order : goal.bounds-by-order
bounds-by-order c = search (rules, arith, c.order-order.ensures.within c.loop-k.k 0 c.loop-k-test.true)

pub shifted-requires-clause-by : goal.shifted-requires-clause-by
shifted-requires-clause-by c =
    let d = get_or c.order-order.result.now c.loop-k.k 0 in
    let small : IsSmall (get_or c.args.by.now d (pos 0)) = c.requires.by d (pos 0) (search (rules, arith, c.order-order.ensures.within c.loop-k.k 0 c.loop-k-test.true)) in
    subst IsSmall (sym (to_z-of_z w32 (get_or c.args.by.now d (pos 0)) (search rules))) small

pub returns : goal.returns
returns c = record {
  count = c.loop-k.invariant.space ∙ c.requires.space ∙ sym c.requires.count;
  each = λ n lt. c.loop-k.invariant.each n (omega (arith, lt, c.loop-k-test.false, ap (λ (o : List ℕ). length o) c.order-order.ensures.value, c.requires.count));
}
