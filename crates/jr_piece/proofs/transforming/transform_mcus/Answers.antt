use Rattle.std.proofs.Common.{rules, ◌≡◌, ◌+◌, ◌*◌, ◌%◌, ◌<◌, ◌≤◌, ℕ, List, length, get_or, set, refl, sym, subst, ap, ◌∙◌, arith}
use Rattle.std.proofs.Math.Nat.{add-mul, mod-eq_of_lt, mul-add-mod_self_right}
use Rattle.jr_head.specs.Geometry.{blocks_of, order_of, quantiser_of}
use Rattle.jr_piece.specs.Outcome.{unit_of}
use Rattle.jr_piece.proofs.StoredUnits.{all_stored, as_long, store_one, store_two}
use Rattle.jr_piece.proofs.Transformed.{unit_is}
use Rattle.jr_piece.proofs.transforming.transform_mcus.Goals as goal
use Rattle.jr_piece.proofs.transforming.transform_mcus.Goals.{then-count-j, else-count-j}

pub loop-j-init : goal.loop-j-init
loop-j-init g c = record {
  space = c.requires.space;
  lie = record { long = refl; kept = λ k lt. refl; first = λ k lt. absurd (omega (arith, lt)); second = λ k lt more. absurd (omega (arith, lt)) };
}

pub store-requires-clause-space : goal.store-requires-clause-space
store-requires-clause-space g c = c.loop-j.invariant.space

pub store-requires-clause-inside : goal.store-requires-clause-inside
store-requires-clause-inside g c = omega (arith, c.requires.inside, c.loop-j.invariant.lie.long, c.if-count-j.true)

pub store-requires-then-count-j-clause-inside : goal.store-requires-then-count-j-clause-inside
store-requires-then-count-j-clause-inside g c =
    let h = c.args.head.now in
    let us = g.U.UnitSink.units h c.loop-j.units in
    let long = as_long us (g.U.UnitSink.units h c.store.new.self) (c.args.mcu * blocks_of h + c.loop-j.j) c.transform_two.result.0 c.store.ensures.store in
    let whole : c.min-count.result ≡ blocks_of h = omega (arith, c.if-count-j.true, c.min-count.ensures, c.order-order.ensures.count) in
    omega (arith, add-mul c.args.mcu 1 (blocks_of h), whole, long, c.requires.inside, c.loop-j.invariant.lie.long, c.if-count-j.true)

pub store-requires-else-count-j-clause-space : goal.store-requires-else-count-j-clause-space
store-requires-else-count-j-clause-space g c = c.loop-j.invariant.space

pub store-requires-else-count-j-clause-inside : goal.store-requires-else-count-j-clause-inside
store-requires-else-count-j-clause-inside g c = omega (arith, c.requires.inside, c.loop-j.invariant.lie.long, c.loop-j-test.true, c.min-count.ensures)

pub loop-j-preserved : goal.loop-j-preserved
loop-j-preserved g c =
    let h = c.args.head.now in
    let zs = c.args.blocks.now in
    let j = c.loop-j.j in
    let per = blocks_of h in
    let count = c.min-count.result in
    let at = c.args.mcu * per in
    let f = unit_of h zs in
    let old = g.U.UnitSink.units h c.args.units.now in
    let us = g.U.UnitSink.units h c.loop-j.units in
    let lie = c.loop-j.invariant.lie in
    let order : length (order_of h) ≡ per = ap (λ (o : List ℕ). length o) (sym c.order-order.ensures.value) ∙ c.order-order.ensures.count in
    let low : j < count = c.loop-j-test.true in
    let space : j < length (order_of h) = omega (arith, low, order, c.min-count.ensures, c.order-order.ensures.count) in
    let inside : j < length zs = omega (arith, low, c.min-count.ensures) in
    let q : c.quantisers-quantisers.result.now ≡ quantiser_of h (get_or (order_of h) j 0) = search (rules, c.quantisers-quantisers.ensures, c.from.ensures, c.order-order.ensures.value) in
    let here : j % length (order_of h) ≡ j = mod-eq_of_lt space in
    elim c.if-count-j.branch [
      | then-count-j w ↦
          let more : count + j < length zs = w.if-count-j.true in
          let whole : count ≡ per = omega (arith, more, c.min-count.ensures, c.order-order.ensures.count) in
          let e : w.transform_two.result.0 ≡ f j = w.transform_two.ensures.first ∙ unit_is h zs j j _ _ inside w.index-blocks-j.is here q in
          let there : (count + j) % length (order_of h) ≡ j = ap (λ (n : ℕ). n % length (order_of h)) (omega (arith, whole, order)) ∙ mul-add-mod_self_right 1 (length (order_of h)) j ∙ here in
          let d : w.transform_two.result.1 ≡ f (count + j) = w.transform_two.ensures.second ∙ unit_is h zs (count + j) j _ _ more w.index-blocks-count.is there q in
          let mid = g.U.UnitSink.units h w.store.new.self in
          let next : (c.args.mcu + 1) * per + j ≡ at + (count + j) = omega (arith, add-mul c.args.mcu 1 per, whole) in
          let one : mid ≡ set us (at + j) (f j) = search (rules, w.store.ensures.store, e) in
          let two : g.U.UnitSink.units h w.store-then-count-j.new.self ≡ set mid ((c.args.mcu + 1) * per + j) (f (count + j)) = search (rules, w.store-then-count-j.ensures.store, d) in
          let second : w.store-then-count-j.new.self ≡ c.if-count-j.units = sym w.units-is in
          record {
            space = subst (g.U.UnitSink.has_space h) second w.store-then-count-j.ensures.space;
            lie = store_two f at count (length zs) j old us lie mid (g.U.UnitSink.units h c.if-count-j.units) ((c.args.mcu + 1) * per + j) one
                (ap (λ u. g.U.UnitSink.units h u) w.units-is ∙ two) next low (omega (arith, next, c.requires.inside, lie.long, more));
          }
      | else-count-j w ↦
          let e : w.transform_one.result ≡ f j = w.transform_one.ensures ∙ unit_is h zs j j _ _ inside w.index-blocks-j-else-count-j.is here q in
          let over : length zs ≤ count + j = omega (arith, w.if-count-j.false) in
          record {
            space = subst (g.U.UnitSink.has_space h) (sym w.units-is) w.store-else-count-j.ensures.space;
            lie = store_one f at count (length zs) j old us lie (g.U.UnitSink.units h c.if-count-j.units) (ap (λ u. g.U.UnitSink.units h u) w.units-is ∙ w.store-else-count-j.ensures.store ∙ ap (λ x. set us (at + j) x) e) low (omega (arith, c.requires.inside, lie.long, inside)) over;
          }
    ]

pub returns-clause-space : goal.returns-clause-space
returns-clause-space g c = c.loop-j.invariant.space

pub returns-clause-count : goal.returns-clause-count
returns-clause-count g c = c.loop-j.invariant.lie.long

pub returns-clause-kept : goal.returns-clause-kept
returns-clause-kept g c = c.loop-j.invariant.lie.kept

pub returns-clause-here : goal.returns-clause-here
returns-clause-here g c k lt =
    let h = c.args.head.now in
    let done : c.min-count.result ≤ c.loop-j.j = omega (arith, c.loop-j-test.false) in
    all_stored (unit_of h c.args.blocks.now) (c.args.mcu * blocks_of h) c.min-count.result (length c.args.blocks.now) c.loop-j.j (g.U.UnitSink.units h c.args.units.now) (g.U.UnitSink.units h c.loop-j.units) c.loop-j.invariant.lie done
    (omega (arith, c.min-count.ensures, c.requires.few, c.order-order.ensures.count)) k lt
