use Rattle.std.proofs.Common.{◌+◌, ◌*◌, ◌<◌, subst, ◌∙◌, arith}
use Rattle.jr_head.specs.HeadValue.{HeadValue}
use Rattle.jr_head.specs.Geometry.{blocks_of, mcus_of}
use Rattle.jr_paint.proofs.Along.{unit_inside, shown_along}
use Rattle.jr_paint.proofs.unit_lines.fill_unit.Goals as goal

pub overflow_add-start : goal.overflow_add-start
overflow_add-start g c =
    let s = unit_inside c.args.head.now c.args.c c.args.y c.args.n c.in_mcu-column.result.0 c.in_mcu-column.result.1 c.horizontal.result c.args.start c.requires.valid c.requires.component (omega (arith, c.requires.some, c.requires.across)) c.requires.line c.requires.start c.horizontal.ensures.value c.in_mcu-column.ensures.mcu c.in_mcu-column.ensures.column in
    omega (arith, s.0, c.mcus-mcus.ensures.value, c.mcus-mcus.ensures.few)

pub overflow_add-start-2 : goal.overflow_add-start-2
overflow_add-start-2 g c =
    let s = unit_inside c.args.head.now c.args.c c.args.y c.args.n c.in_mcu-column.result.0 c.in_mcu-column.result.1 c.horizontal.result c.args.start c.requires.valid c.requires.component (omega (arith, c.requires.some, c.requires.across)) c.requires.line c.requires.start c.horizontal.ensures.value c.in_mcu-column.ensures.mcu c.in_mcu-column.ensures.column in
    omega (arith, s.1, c.requires.valid.components.blocks)

pub unit-unit-requires-clause-mcu : goal.unit-unit-requires-clause-mcu
unit-unit-requires-clause-mcu g c =
    let s = unit_inside c.args.head.now c.args.c c.args.y c.args.n c.in_mcu-column.result.0 c.in_mcu-column.result.1 c.horizontal.result c.args.start c.requires.valid c.requires.component (omega (arith, c.requires.some, c.requires.across)) c.requires.line c.requires.start c.horizontal.ensures.value c.in_mcu-column.ensures.mcu c.in_mcu-column.ensures.column in
    subst (λ (h : HeadValue). c.args.start.mcu + c.in_mcu-column.result.0 < mcus_of h) c.requires.head s.0

pub unit-unit-requires-clause-block : goal.unit-unit-requires-clause-block
unit-unit-requires-clause-block g c =
    let s = unit_inside c.args.head.now c.args.c c.args.y c.args.n c.in_mcu-column.result.0 c.in_mcu-column.result.1 c.horizontal.result c.args.start c.requires.valid c.requires.component (omega (arith, c.requires.some, c.requires.across)) c.requires.line c.requires.start c.horizontal.ensures.value c.in_mcu-column.ensures.mcu c.in_mcu-column.ensures.column in
    subst (λ (h : HeadValue). c.args.start.block + c.in_mcu-column.result.1 < blocks_of h) c.requires.head s.1

pub returns : goal.returns
returns g c = λ k lt.
    c.store.ensures k lt ∙ c.unit-unit.ensures (8 * c.args.start.row + k)
    ∙ shown_along (g.U.Units.shown_in c.args.units.now) c.args.head.now c.args.c c.args.y c.args.n k c.in_mcu-column.result.0 c.in_mcu-column.result.1 c.horizontal.result c.args.start c.horizontal.ensures.some (omega (arith, lt, c.store.auto.out, c.requires.few)) c.requires.start c.horizontal.ensures.value c.in_mcu-column.ensures.mcu c.in_mcu-column.ensures.column
