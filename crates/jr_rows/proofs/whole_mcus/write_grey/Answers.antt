use Rattle.std.proofs.Common.{◌≡◌, ℕ, ◌+◌, ◌*◌, ◌<◌, ◌≤◌, ◌∙◌, min, length, ap, sym, arith, rules}
use Rattle.std.proofs.lemmas.List.{length-take-le}
use Rattle.std.proofs.Math.Nat.{add-mul, mul-le-mul_right}
use Rattle.jr_head.specs.Geometry.{blocks_of, mcus_across, quantiser_of}
use Rattle.jr_idct.specs.Transform.{samples}
use Rattle.jr_idct.proofs.Zeros.{grey}
use Rattle.jr_mcu.specs.Mcus.{component}
use Rattle.jr_rows.specs.Groups.{units_in}
use Rattle.jr_rows.proofs.GroupLists.{units_long}
use Rattle.jr_rows.proofs.whole_mcus.write_grey.Goals as goal

-- the borrowed blocks fit
fits : (units at_once per most blocks long : ℕ) → units ≤ at_once * per → at_once ≡ most → per ≡ blocks → long ≡ most * blocks → units ≤ long
fits units at_once per most blocks long within e is all = let whole = ap (λ (n : ℕ). n * per) e ∙ ap (λ (n : ℕ). most * n) is in omega (arith, within, whole, all)

-- the number of MCUs that fit
few_of : (some at_once mcus : ℕ) → some ≡ min at_once mcus → some ≤ mcus
few_of some at_once mcus e = omega (arith, e)

few_at_once : (some at_once mcus : ℕ) → some ≡ min at_once mcus → some ≤ at_once
few_at_once some at_once mcus e = omega (arith, e)

some_of : (some at_once mcus : ℕ) → some ≡ min at_once mcus → 0 < at_once → 0 < mcus → 0 < some
some_of some at_once mcus e more lt = omega (arith, e, more, lt)

pub units_to-requires-clause-few : goal.units_to-requires-clause-few
units_to-requires-clause-few c = few_at_once c.min-some.result c.mcus_at_once-at_once.result c.args.mcus c.min-some.ensures

pub units_to-requires-clause-short : goal.units_to-requires-clause-short
units_to-requires-clause-short c = c.order.ensures.few

pub slice_bounds-blocks-end : goal.slice_bounds-blocks-end
slice_bounds-blocks-end c = fits _ _ _ _ _ _ c.units_to.ensures.within c.mcus_at_once-at_once.ensures.value c.order.ensures.count c.requires.near

pub slice_bounds-blocks-end-2 : goal.slice_bounds-blocks-end-2
slice_bounds-blocks-end-2 c =
    let inside = fits _ _ _ _ _ _ c.units_to.ensures.within c.mcus_at_once-at_once.ensures.value c.order.ensures.count c.requires.near in
    sym (length-take-le c.units_to.result c.args.blocks.now inside)

pub transform_blocks-requires-clause-space : goal.transform_blocks-requires-clause-space
transform_blocks-requires-clause-space c = c.requires.space

pub returns-clause-some : goal.returns-clause-some
returns-clause-some c = some_of c.min-some.result c.mcus_at_once-at_once.result c.args.mcus c.min-some.ensures c.mcus_at_once-at_once.ensures.some c.requires.some

pub returns-clause-few : goal.returns-clause-few
returns-clause-few c = few_of c.min-some.result c.mcus_at_once-at_once.result c.args.mcus c.min-some.ensures

pub returns-clause-space : goal.returns-clause-space
returns-clause-space c = c.transform_blocks.ensures.space

pub returns-clause-kept : goal.returns-clause-kept
returns-clause-kept c = search (rules, c.transform_blocks.ensures.kept)

pub transform_blocks-requires-clause-inside : goal.transform_blocks-requires-clause-inside
transform_blocks-requires-clause-inside c =
    let h = c.args.head.now in
    let some = c.min-some.result in
    let inside = fits _ _ _ _ _ _ c.units_to.ensures.within c.mcus_at_once-at_once.ensures.value c.order.ensures.count c.requires.near in
    let long : length c.zero_from.new.blocks ≡ some * blocks_of h = c.zero_from.auto.blocks ∙ length-take-le c.units_to.result c.args.blocks.now inside ∙ c.units_to.ensures.value ∙ ap (λ (k : ℕ). some * k) c.order.ensures.count in
    let few : some ≤ c.args.mcus = few_of some c.mcus_at_once-at_once.result c.args.mcus c.min-some.ensures in
    let all : (c.args.done + some) * blocks_of h ≤ mcus_across h * blocks_of h = mul-le-mul_right {m = c.args.done + some} {n = mcus_across h} (blocks_of h) (omega (arith, few, c.requires.within)) in
    let whole : length (units_in h c.args.lines.now.groups) ≡ mcus_across h * blocks_of h = units_long h c.args.lines.now.groups in
    omega (arith, long, all, whole, add-mul c.args.done some (blocks_of h))

pub returns-clause-grey : goal.returns-clause-grey
returns-clause-grey c k lt =
    let h = c.args.head.now in
    let some = c.min-some.result in
    let inside = fits _ _ _ _ _ _ c.units_to.ensures.within c.mcus_at_once-at_once.ensures.value c.order.ensures.count c.requires.near in
    let long : length c.zero_from.new.blocks ≡ some * blocks_of h = c.zero_from.auto.blocks ∙ length-take-le c.units_to.result c.args.blocks.now inside ∙ c.units_to.ensures.value ∙ ap (λ (k : ℕ). some * k) c.order.ensures.count in
    let here : k < length c.zero_from.new.blocks = omega (arith, lt, long) in
    c.transform_blocks.ensures.here k here ∙ ap (λ z. samples z (quantiser_of h (component h k))) (c.zero_from.ensures.zeros k (omega arith) here) ∙ grey (quantiser_of h (component h k))
