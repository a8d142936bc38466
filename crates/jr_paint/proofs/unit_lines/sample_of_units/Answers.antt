use Rattle.std.proofs.Common.{◌≡◌, ◌<◌, ap, subst, ◌∙◌, arith, rules}
use Rattle.jr_head.specs.HeadValue.{HeadValue}
use Rattle.jr_head.specs.Geometry.{components_of, blocks_of, mcus_of}
use Rattle.jr_paint.specs.Geometry.{place_in}
use Rattle.jr_paint.specs.Units.{sample_in_unit}
use Rattle.jr_paint.specs.declared.geometry.Spot.{Spot}
use Rattle.jr_paint.proofs.unit_lines.sample_of_units.Goals as goal

pub unit-unit-requires-clause-component : goal.unit-unit-requires-clause-component
unit-unit-requires-clause-component g c = subst (λ (v : HeadValue). c.args.c < components_of v) c.requires.head c.requires.component

pub unit-unit-requires-clause-mcu : goal.unit-unit-requires-clause-mcu
unit-unit-requires-clause-mcu g c = subst (λ (v : HeadValue). c.place-spot.result.mcu < mcus_of v) c.requires.head c.place-spot.ensures.mcu

pub unit-unit-requires-clause-block : goal.unit-unit-requires-clause-block
unit-unit-requires-clause-block g c = subst (λ (v : HeadValue). c.place-spot.result.block < blocks_of v) c.requires.head c.place-spot.ensures.block

pub overflow_mul-spot : goal.overflow_mul-spot
overflow_mul-spot g c = omega (arith, ap (λ (s : Spot). s.row) c.place-spot.ensures.closed)

pub overflow_add-spot : goal.overflow_add-spot
overflow_add-spot g c = omega (arith, ap (λ (s : Spot). s.row) c.place-spot.ensures.closed, ap (λ (s : Spot). s.col) c.place-spot.ensures.closed)

pub sample_at-requires : goal.sample_at-requires
sample_at-requires g c = omega (arith, ap (λ (s : Spot). s.row) c.place-spot.ensures.closed, ap (λ (s : Spot). s.col) c.place-spot.ensures.closed)

pub returns : goal.returns
returns g c =
    let at : c.sample_at.result ≡ sample_in_unit c.unit-unit.result (place_in c.place-spot.result) = search (rules, c.sample_at.ensures) in
    at ∙ c.unit-unit.ensures (place_in c.place-spot.result) ∙ ap (λ (s : Spot). g.U.Units.shown_in c.args.units.now c.args.c s.mcu s.block (place_in s)) c.place-spot.ensures.closed
