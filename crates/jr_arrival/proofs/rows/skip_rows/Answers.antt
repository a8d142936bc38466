use Rattle.std.proofs.Common.{◌≡◌, ◌-◌, ◌<◌, ◌≤◌, min, sym, ap, ◌∙◌, arith, rules}
use Rattle.std.specs.Prelude.{true, false}
use Rattle.jr_head.specs.Geometry.{mcus_across, mcus_down}
use Rattle.jr_arrival.specs.declared.file_bytes.FileBytes.{FileBytes}
use Rattle.jr_arrival.proofs.BetweenRows.{comes_first, comes_on, leaves_at}
use Rattle.jr_arrival.proofs.rows.skip_rows.Goals as goal

pub rows-init : goal.rows-init
rows-init c =
    let e = c.in_ok-source.ensures in
    record {
      come = comes_first c.args.head.now c.args.file c.args.place.now c.in_ok-source.source c.requires.lies e.at e.file e.before e.right;
      space = c.shape_of-shape.ensures.across;
      few = omega arith;
    }

pub rows-preserved : goal.rows-preserved
rows-preserved c =
    let h = c.args.head.now in
    let walk = c.walk_row.ensures in
    let next = c.row_place-next.ensures in
    let most : c.min-most.result ≤ c.shape_of-shape.result.down - c.args.place.now.row = search (rules, arith) in
    let inside : c.rows.next.row < mcus_down h = omega (arith, c.rows-test.true, most, c.shape_of-shape.ensures.down, c.requires.lies.row) in
    let all : c.walk_row.result ≡ mcus_across h = omega (arith, walk.walks.few, c.if-walk_row-shape.false, c.shape_of-shape.ensures.across) in
    record {
      come = comes_on h c.args.file c.args.place.now c.rows.next c.rows.source c.rows.invariant.come inside c.walk_row.new.source c.row_place-next.new.self c.walk_row.result c.row_place-next.result walk.walks.steps all (next.steps h walk.walks.steps.at) next.row next.interval next.mcu (next.place h);
      space = walk.space;
      few = omega (arith, next.row, c.rows-test.true);
    }

pub walk_row-requires-clause-space : goal.walk_row-requires-clause-space
walk_row-requires-clause-space c = c.rows.invariant.space

pub returns-then-walk_row-shape-clause-place : goal.returns-then-walk_row-shape-clause-place
returns-then-walk_row-shape-clause-place c whole t may is = (c.rows.invariant.come.place whole t may is).1

pub returns-clause-place : goal.returns-clause-place
returns-clause-place c whole t may is = (c.rows.invariant.come.place whole t may is).1

pub returns-then-walk_row-shape-clause-all : goal.returns-then-walk_row-shape-clause-all
returns-then-walk_row-shape-clause-all c all =
    let walk = c.walk_row.ensures in
    let waits = walk.waits (omega (arith, c.if-walk_row-shape.true, c.shape_of-shape.ensures.across)) in
    let wrong : true ≡ false = sym (ap (λ (f : FileBytes). f.are_all) (walk.walks.steps.part ∙ c.rows.invariant.come.file) ∙ all) ∙ waits.goes_on in
    absurd (let stated : true ≡ false = wrong in cc)

pub returns-then-walk_row-shape-clause-most : goal.returns-then-walk_row-shape-clause-most
returns-then-walk_row-shape-clause-most c lt =
    let h = c.args.head.now in
    let walk = c.walk_row.ensures in
    let few : c.walk_row.result < mcus_across h = omega (arith, c.if-walk_row-shape.true, c.shape_of-shape.ensures.across) in
    let most : c.min-most.result ≤ c.shape_of-shape.result.down - c.args.place.now.row = search (rules, arith) in
    let inside : c.rows.next.row < mcus_down h = omega (arith, c.rows-test.true, most, c.shape_of-shape.ensures.down, c.requires.lies.row) in
    leaves_at h c.args.file c.args.place.now c.rows.next c.rows.source c.rows.invariant.come inside c.walk_row.new.source c.walk_row.result walk.walks.steps few (walk.waits (omega (arith, few)))

pub returns-clause-most : goal.returns-clause-most
returns-clause-most c lt =
    let most : c.min-most.result ≡ min c.args.rows (c.shape_of-shape.result.down - c.args.place.now.row) = search rules in
    absurd (omega (arith, lt, c.rows-test.false, most, c.shape_of-shape.ensures.down))
