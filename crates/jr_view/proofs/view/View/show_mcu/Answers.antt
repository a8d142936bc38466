use Rattle.std.proofs.Common.{rules, ◌≡◌, ◌/◌, ◌<◌, Bool, List, ℕ, true, false, cond, get_or, length, set, sym, ap, subst, ◌∙◌, arith}
use Rattle.std.specs.Arc.{arc_value}
use Rattle.std.specs.Vec.{with_items}
use Rattle.std.proofs.lemmas.List.{get_or_read, with_items_is}
use Rattle.jr_head.specs.HeadValue.{HeadValue}
use Rattle.jr_head.specs.Geometry.{blocks_of, mcus_across, mcus_of}
use Rattle.jr_scan.specs.ScanValue.{ScanValue}
use Rattle.jr_piece.specs.Units.{grey_unit}
use Rattle.jr_view.specs.ViewValue.{ViewValue}
use Rattle.jr_view.specs.Views.{has_seen_row, units_shown}
use Rattle.jr_view.proofs.Rows.{byte_is, few_rows, kept_view}
use Rattle.jr_view.proofs.Units.{mcu_shown, space}
use Rattle.jr_view.proofs.view.View.show_mcu.Goals as goal

pub store_mcu-requires-clause-space : goal.store_mcu-requires-clause-space
store_mcu-requires-clause-space c =
    let h = (arc_value c.self.inside.scan).head in
    let per : length c.order-per_mcu.result.now ≡ blocks_of h = c.order-per_mcu.ensures.count ∙ ap blocks_of (c.head-head.ensures.value ∙ ap (λ (s : ScanValue). s.head) c.deref.ensures) in
    let in_picture : c.args.mcu < mcus_of h = subst (λ (v : ViewValue). c.args.mcu < mcus_of v.scan.head) (sym c.self.view_is) c.requires.mcu in
    let fits = space c.args.mcu (length c.order-per_mcu.result.now) (blocks_of h) (mcus_of h) (length c.self.inside.units.items) per in_picture c.self.invariant.units in
    let long : length c.deref_mut.result.now ≡ length c.self.inside.units.items = ap length c.deref_mut.ensures.value in
    omega (arith, fits, long)

pub overflow_mul-mcu : goal.overflow_mul-mcu
overflow_mul-mcu c =
    let h = (arc_value c.self.inside.scan).head in
    let per : length c.order-per_mcu.result.now ≡ blocks_of h = c.order-per_mcu.ensures.count ∙ ap blocks_of (c.head-head.ensures.value ∙ ap (λ (s : ScanValue). s.head) c.deref.ensures) in
    let in_picture : c.args.mcu < mcus_of h = subst (λ (v : ViewValue). c.args.mcu < mcus_of v.scan.head) (sym c.self.view_is) c.requires.mcu in
    let fits = space c.args.mcu (length c.order-per_mcu.result.now) (blocks_of h) (mcus_of h) (length c.self.inside.units.items) per in_picture c.self.invariant.units in
    search (rules, arith, fits)

pub overflow_add-self : goal.overflow_add-self
overflow_add-self c =
    let few = few_rows (record { scan = arc_value c.self.inside.scan; units = c.self.inside.units.items; seen = c.self.inside.seen.items }) in
    let rows = c.self.invariant.rows in
    search (rules, arith, few, rows)

pub invariant_of-self : goal.invariant_of-self
invariant_of-self c =
    let of = arc_value c.self.inside.scan in
    let m = c.args.mcu in
    let seen = c.self.inside.seen.items in
    let head : c.head-head.result.now ≡ of.head = c.head-head.ensures.value ∙ ap (λ (s : ScanValue). s.head) c.deref.ensures in
    let in_picture : m < mcus_of of.head = subst (λ (v : ViewValue). m < mcus_of v.scan.head) (sym c.self.view_is) c.requires.mcu in
    let within : m < length seen = omega (arith, in_picture, c.self.invariant.seen) in
    let is = with_items_is c.self.inside.units c.store_mcu.new.units (c.store_mcu.auto.units ∙ c.deref_mut.ensures.len) in
    let long : length (with_items c.self.inside.units c.store_mcu.new.units).items ≡ length c.self.inside.units.items = ap length is ∙ c.store_mcu.auto.units ∙ ap length c.deref_mut.ensures.value in
    let unseen = sym (get_or_read seen m c.index.result.now within c.index.ensures false) ∙ c.if-index.false in
    let wide : 0 < mcus_across of.head = subst (λ (g : HeadValue). 0 < mcus_across g) head c.is_row_whole.ensures.wide in
    let whole = c.is_row_whole.ensures.value ∙ ap (λ (bs : List Bool). has_seen_row c.head-head.result.now bs (m / mcus_across c.head-head.result.now)) c.deref-2.ensures.value
    ∙ ap (λ (g : HeadValue). has_seen_row g (set seen m true) (m / mcus_across g)) head in
    let kept = kept_view of c.self.inside.units.items (with_items c.self.inside.units c.store_mcu.new.units).items seen m c.self.inside.rows c.from.result c.self.invariant long wide in_picture unseen
    (c.from.ensures ∙ byte_is c.is_row_whole.result ∙ ap (λ b. cond b 1 0) whole) in
    search (rules, kept)

pub returns-clause-shown : goal.returns-clause-shown
returns-clause-shown c f =
    let of = arc_value c.self.inside.scan in
    let m = c.args.mcu in
    let old = c.args.self.now in
    let us = c.store_mcu.new.units in
    let head : c.head-head.result.now ≡ of.head = c.head-head.ensures.value ∙ ap (λ (s : ScanValue). s.head) c.deref.ensures in
    let per : length c.order-per_mcu.result.now ≡ blocks_of old.scan.head = c.order-per_mcu.ensures.count ∙ ap blocks_of head ∙ ap (λ (v : ViewValue). blocks_of v.scan.head) c.self.view_is in
    let long : length c.self.inside.seen.items ≡ length old.seen = ap (λ (v : ViewValue). length v.seen) c.self.view_is in
    let all : mcus_of of.head ≡ mcus_of old.scan.head = ap (λ (v : ViewValue). mcus_of v.scan.head) c.self.view_is in
    let within : m < length old.seen = omega (arith, c.requires.mcu, c.self.invariant.seen, long, all) in
    let was = c.deref_mut.ensures.value ∙ ap (λ (v : ViewValue). v.units) c.self.view_is in
    mcu_shown old _ m c.args.from (length c.order-per_mcu.result.now) (units_shown c.args.shown.now) us per (ap (λ (v : ViewValue). v.scan) c.self.view_is)
    (with_items_is c.self.inside.units us (c.store_mcu.auto.units ∙ c.deref_mut.ensures.len)) (ap (λ (v : ViewValue). set v.seen m true) c.self.view_is) within
    c.store_mcu.ensures.here
    (λ k lt. c.store_mcu.ensures.before k lt ∙ ap (λ (vs : List (List ℕ)). get_or vs k grey_unit) was)
    (λ k le. c.store_mcu.ensures.after k le ∙ ap (λ (vs : List (List ℕ)). get_or vs k grey_unit) was)
