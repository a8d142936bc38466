use Rattle.std.proofs.Common.{rules, arith, ◌≡◌, ◌<◌, ℕ, ℤ, List, [], length, get_or, ap, sym, subst, ◌∙◌}
use Rattle.jr_head.specs.Geometry.{order_of}
use Rattle.jr_scan.specs.Speculation.{SpeculationValue, IsSpeculationOf, KeepsBlocks, blocks_at}
use Rattle.jr_mcu.specs.Shift.{HaveFirstInMcuRange}
use Rattle.jr_scan.proofs.KeptMcus.{speculation_of, lent, mcu_within, some_speculated, some_first}
use Rattle.jr_scan.proofs.speculation.Speculation.store.Goals as goal

pub overflow_mul-start : goal.overflow_mul-start
overflow_mul-start c =
    let i = c.args.interval.now in
    let g = speculation_of c.self.inside.number c.self.inside.mcus.items c.self.inside.blocks.items in
    let keeps : KeepsBlocks g = search (rules, arith, c.is_empty.ensures, c.if-is_empty.false) in
    let of = subst (IsSpeculationOf i) (sym c.self.view_is) c.requires.of in
    let per = length c.order-per_mcu.result.now in
    let size : per ≡ length (order_of i.head) = ap length (c.order-per_mcu.ensures.value ∙ ap order_of c.head-head.ensures.value) in
    let lt : c.args.k < length g.mcus = subst (λ (v : SpeculationValue). c.args.k < length v.mcus) (sym c.self.view_is) c.in_ok-to.ensures.kept in
    search (rules, arith, mcu_within i g c.args.k per keeps of lt size)

pub overflow_add-end : goal.overflow_add-end
overflow_add-end c =
    let i = c.args.interval.now in
    let g = speculation_of c.self.inside.number c.self.inside.mcus.items c.self.inside.blocks.items in
    let keeps : KeepsBlocks g = search (rules, arith, c.is_empty.ensures, c.if-is_empty.false) in
    let of = subst (IsSpeculationOf i) (sym c.self.view_is) c.requires.of in
    let per = length c.order-per_mcu.result.now in
    let size : per ≡ length (order_of i.head) = ap length (c.order-per_mcu.ensures.value ∙ ap order_of c.head-head.ensures.value) in
    let lt : c.args.k < length g.mcus = subst (λ (v : SpeculationValue). c.args.k < length v.mcus) (sym c.self.view_is) c.in_ok-to.ensures.kept in
    search (rules, arith, mcu_within i g c.args.k per keeps of lt size)

pub store_shifted-requires-clause-some : goal.store_shifted-requires-clause-some
store_shifted-requires-clause-some c =
    let i = c.args.interval.now in
    let g = speculation_of c.self.inside.number c.self.inside.mcus.items c.self.inside.blocks.items in
    let keeps : KeepsBlocks g = search (rules, arith, c.is_empty.ensures, c.if-is_empty.false) in
    let of = subst (IsSpeculationOf i) (sym c.self.view_is) c.requires.of in
    let k = c.args.k in
    let per = length c.order-per_mcu.result.now in
    let size : per ≡ length (order_of i.head) = ap length (c.order-per_mcu.ensures.value ∙ ap order_of c.head-head.ensures.value) in
    let lt : k < length g.mcus = subst (λ (v : SpeculationValue). k < length v.mcus) (sym c.self.view_is) c.in_ok-to.ensures.kept in
    let mcu = some_speculated i g k keeps of lt in
    let is = lent i g c.as_slice-own.result.now k per size c.as_slice-own.ensures.value in
    subst (λ (zs : List (List ℤ)). (n : ℕ) → n < length zs → 0 < length (get_or zs n [])) (sym is) (some_first i mcu.0 (blocks_at i g k) mcu.1)

pub store_shifted-requires-clause-small : goal.store_shifted-requires-clause-small
store_shifted-requires-clause-small c =
    let i = c.args.interval.now in
    let g = speculation_of c.self.inside.number c.self.inside.mcus.items c.self.inside.blocks.items in
    let keeps : KeepsBlocks g = search (rules, arith, c.is_empty.ensures, c.if-is_empty.false) in
    let of = subst (IsSpeculationOf i) (sym c.self.view_is) c.requires.of in
    let k = c.args.k in
    let per = length c.order-per_mcu.result.now in
    let size : per ≡ length (order_of i.head) = ap length (c.order-per_mcu.ensures.value ∙ ap order_of c.head-head.ensures.value) in
    let lt : k < length g.mcus = subst (λ (v : SpeculationValue). k < length v.mcus) (sym c.self.view_is) c.in_ok-to.ensures.kept in
    let mcu = some_speculated i g k keeps of lt in
    let is = lent i g c.as_slice-own.result.now k per size c.as_slice-own.ensures.value in
    subst HaveFirstInMcuRange (sym is) mcu.1.firsts
