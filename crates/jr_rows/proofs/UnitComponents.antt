-- The component of a data unit of an MCU, by its position there (T.81, A.2.3).
use Rattle.std.proofs.Common.{◌≡◌, ℕ, zero, suc, ◌+◌, ◌*◌, ◌/◌, ◌%◌, ◌<◌, List, [], ◌∷◌, length, take, replicate, get_or, ap, ◌∙◌, arith}
use Rattle.std.specs.Prelude.{sum_by}
use Rattle.std.proofs.Math.Nat.{mod-eq_of_lt}
use Rattle.std.proofs.lemmas.List.{get_or-append-add, get_or-replicate, get_or_append_left, length-replicate}
use Rattle.std.proofs.lemmas.List.Sums.{sum_by-cons}
use Rattle.std.proofs.lemmas.Nat.{mul-add-lt}
use Rattle.jr_head.specs.declared.component.Component.{Component}
use Rattle.jr_head.specs.HeadValue.{HeadValue}
use Rattle.jr_head.specs.Geometry.{IsValid, no_component, units_of, order_from, order_of, blocks_before, components_of, horizontal_of, vertical_of}
use Rattle.jr_head.proofs.SamplingLaws.{length-order}
use Rattle.jr_paint.proofs.Factors.{sampled_at}
use Rattle.jr_paint.proofs.Places.{place_of_lies}
use Rattle.jr_mcu.specs.Mcus.{component}
use Rattle.jr_picture.specs.Headline.{spot_of}
use Rattle.jr_picture.proofs.DecodedPictures.{block_there}

-- data unit k of those of component c
in_order : (i : ℕ) (cs : List Component) (c k : ℕ) → c < length cs → k < units_of (get_or cs c no_component) → get_or (order_from i cs) (sum_by units_of (take c cs) + k) 0 ≡ i + c
in_order i [] c k lt few = absurd (omega (arith, lt))
in_order i (x ∷ cs) zero k lt few =
    let own = replicate (units_of x) i in
    let here : k < length own = omega (arith, length-replicate (units_of x) i, few) in
    let first : 0 + k ≡ k = omega arith in
    let number : i ≡ i + 0 = omega arith in
    ap (λ (n : ℕ). get_or (order_from i (x ∷ cs)) n 0) first ∙ get_or_append_left own (order_from (suc i) cs) 0 k here ∙ get_or-replicate (units_of x) k i 0 few ∙ number
in_order i (x ∷ cs) (suc c) k lt few =
    let own = replicate (units_of x) i in
    let after : sum_by units_of (x ∷ take c cs) + k ≡ length own + (sum_by units_of (take c cs) + k) = omega (arith, sum_by-cons units_of x (take c cs), length-replicate (units_of x) i) in
    let number : suc i + c ≡ i + suc c = omega arith in
    ap (λ (n : ℕ). get_or (order_from i (x ∷ cs)) n 0) after ∙ get_or-append-add own (order_from (suc i) cs) (sum_by units_of (take c cs) + k) 0
    ∙ in_order (suc i) cs c k (omega (arith, lt)) few ∙ number

-- the data unit of a sample of component c is one of component c
pub component_there : (h : HeadValue) (c x y : ℕ) → IsValid h → c < components_of h → component h (spot_of h c x y).block ≡ c
component_there h c x y l p =
    let s = sampled_at h c l p in
    let there = place_of_lies (horizontal_of h c) (vertical_of h c) x y s.across s.down in
    let block = (spot_of h c x y).block in
    let line = y % (8 * vertical_of h c) / 8 in
    let column = x % (8 * horizontal_of h c) / 8 in
    let few : line * horizontal_of h c + column < horizontal_of h c * vertical_of h c = mul-add-lt line (horizontal_of h c) column (vertical_of h c) there.block_down there.block_across in
    let own : block ≡ blocks_before h c + (line * horizontal_of h c + column) = omega arith in
    let inside : block < length (order_of h) = omega (arith, block_there h c x y l p, length-order 0 h.components) in
    let none : 0 + c ≡ c = omega arith in
    ap (λ (n : ℕ). get_or (order_of h) n 0) (mod-eq_of_lt inside ∙ own) ∙ in_order 0 h.components c (line * horizontal_of h c + column) p few ∙ none
