use Rattle.std.proofs.Common.{rules, arith, ◌≡◌, length}
use Rattle.std.specs.Int.{div_ceil}
use Rattle.std.proofs.lemmas.List.{length-map}
use Rattle.once_cell.specs.Once.{cell_name}
use Rattle.jr_cells.proofs.StripCounts.{begins_within, no_more, space_of_cells}
use Rattle.jr_cells.proofs.strip_cells.StripCells.open.Goals as goal

pub returns-clause-enough : goal.returns-clause-enough
returns-clause-enough c = λ k zs f.
    let most = c.most_mcus.ensures.enough k zs f in
    search (rules, most, c.div_ceil.ensures, length-map c.in_ok-cells.cells.items cell_name)

pub returns-clause-within : goal.returns-clause-within
returns-clause-within c = λ place h.
    let many : length c.in_ok-cells.cells.items ≡ div_ceil c.most_mcus.result c.args.each = search rules in
    let begins = begins_within c.most_mcus.result c.args.each place c.requires (omega (arith, h, many, length-map c.in_ok-cells.cells.items cell_name)) in
    omega (arith, begins, c.most_mcus.ensures.claimed)

pub returns-clause-few : goal.returns-clause-few
returns-clause-few c =
    let many : length c.in_ok-cells.cells.items ≡ div_ceil c.most_mcus.result c.args.each = search rules in
    let fewer = no_more c.most_mcus.result c.args.each c.requires in
    let total = length-map c.in_ok-cells.cells.items cell_name in
    space_of_cells _ c.most_mcus.result _ _ (omega (arith, total, many, fewer)) c.most_mcus.ensures.coded
