use Rattle.std.proofs.Common.{◌≡◌, ℕ, ◌+◌, ◌-◌, ◌*◌, ◌/◌, ◌%◌, ◌<◌, ◌≤◌, ◌∙◌, List, length, ap, sym, arith, rules, slice_index_or}
use Rattle.std.proofs.lemmas.Nat.{mul-le, mod_below}
use Rattle.std.proofs.Math.Nat.{div-le_self, mod-eq_of_lt}
use Rattle.jr_head.specs.HeadValue.{HeadValue}
use Rattle.jr_head.specs.Geometry.{blocks_before, blocks_of, horizontal_of, order_of}
use Rattle.jr_head.proofs.SamplingLaws.{length-order}
use Rattle.jr_mcu.specs.Mcus.{component}
use Rattle.jr_rows.specs.Groups.{group_of, groups_across, lines_before_component}
use Rattle.jr_rows.proofs.GroupNumbers.{whose}
use Rattle.jr_rows.proofs.row_lines.start_of.Goals as goal

-- the entry of the order is the data unit's component
owner : (h : HeadValue) (order : List ℕ) (x j : ℕ) → order ≡ order_of h → j < blocks_of h → x ≡ slice_index_or order j 0 → x ≡ component h j
owner h order x j e lt is =
    let few : j < length (order_of h) = omega (arith, lt, length-order 0 h.components) in
    is ∙ ap (λ (o : List ℕ). slice_index_or o j 0) e ∙ ap (λ n. slice_index_or (order_of h) n 0) (sym (mod-eq_of_lt few))

pub overflow_sub-unit : goal.overflow_sub-unit
overflow_sub-unit c =
    let h = c.args.head.now in
    let own = owner h c.order.result.now c.from-c.result c.args.j c.order.ensures.value c.requires.unit c.from-c.ensures in
    let there = whose h c.args.j c.requires.valid c.requires.unit in
    omega (arith, c.units_before.ensures.value, ap (blocks_before h) own, there.1)

pub overflow_add-result : goal.overflow_add-result
overflow_add-result c =
    let h = c.args.head.now in
    let unit = c.args.j - c.units_before.result in
    let small : c.from-c.result < 256 = search (rules, arith) in
    let few : unit ≤ 10 = omega (arith, c.requires.unit, c.requires.valid.components.blocks) in
    let rows = div-le_self unit c.horizontal-step.result in
    let line : c.lines_before_component.result + 8 * (unit / c.horizontal-step.result) ≤ 8240 = omega (arith, few, rows, c.lines_before_component.ensures.few, small) in
    let most = mul-le (c.lines_before_component.result + 8 * (unit / c.horizontal-step.result)) c.args.across 8240 262144 line (omega (arith, c.requires.few)) in
    let low = mod_below unit c.horizontal-step.result c.horizontal-step.ensures.some in
    search (rules, arith, most, low, c.horizontal-step.ensures.few)

pub returns : goal.returns
returns c =
    let h = c.args.head.now in
    let own = owner h c.order.result.now c.from-c.result c.args.j c.order.ensures.value c.requires.unit c.from-c.ensures in
    let before : c.units_before.result ≡ blocks_before h (component h c.args.j) = c.units_before.ensures.value ∙ ap (blocks_before h) own in
    let step : c.horizontal-step.result ≡ horizontal_of h (component h c.args.j) = c.horizontal-step.ensures.value ∙ ap (horizontal_of h) own in
    let lines : c.lines_before_component.result ≡ lines_before_component h (component h c.args.j) = c.lines_before_component.ensures.value ∙ ap (lines_before_component h) own in
    let none : group_of h 0 c.args.j 0 ≡ (lines_before_component h (component h c.args.j) + 8 * ((c.args.j - blocks_before h (component h c.args.j)) / horizontal_of h (component h c.args.j))) * groups_across h + (c.args.j - blocks_before h (component h c.args.j)) % horizontal_of h (component h c.args.j) = omega arith in
    record {
      first_is = rw (before, step, lines, c.requires.across) (sym none);
      step_is = step;
    }
