use Rattle.std.proofs.Common.{rules, arith, ap, ◌≡◌, ℕ, ◌+◌, ◌*◌, ◌/◌, ◌≤◌}
use Rattle.std.specs.Int.{div_ceil}
use Rattle.std.proofs.Math.Nat.{add-mul}
use Rattle.std.proofs.lemmas.Grind.{div_ceil_times}
use Rattle.jr_head.specs.Geometry.{vertical_max}
use Rattle.jr_rows.proofs.SomeLines.{last, some_row}
use Rattle.jr_rows.proofs.lines.rows_of.Goals as goal

pub returns-clause-some : goal.returns-clause-some
returns-clause-some c =
    let there = some_row c.shape_of-deep.result.deep c.args.first c.args.end c.args.head.now.height c.shape_of-deep.ensures.some c.requires.some c.requires.inside in
    search (rules, arith, there)

pub returns-clause-last : goal.returns-clause-last
returns-clause-last c row lt =
    let deep = c.shape_of-deep.result.deep in
    let is : c.div_ceil.result ≡ div_ceil c.args.end deep = search rules in
    let before = last deep c.args.first c.args.end c.args.head.now.height c.shape_of-deep.ensures.some c.requires.some c.requires.inside row (omega (arith, lt, is)) in
    let whole : row * deep ≡ row * (8 * vertical_max c.args.head.now) = ap (λ (k : ℕ). row * k) c.shape_of-deep.ensures.deep in
    omega (arith, before, whole)

pub returns-clause-starts : goal.returns-clause-starts
returns-clause-starts c =
    let deep = c.shape_of-deep.result.deep in
    let row = c.args.first / deep in
    omega (arith, ap (λ (k : ℕ). row * k) c.shape_of-deep.ensures.deep, c.shape_of-deep.ensures.some)

pub returns-clause-reaches : goal.returns-clause-reaches
returns-clause-reaches c =
    let deep = c.shape_of-deep.result.deep in
    let row = c.args.first / deep in
    omega (arith, add-mul row 1 deep, ap (λ (k : ℕ). (row + 1) * k) c.shape_of-deep.ensures.deep, c.shape_of-deep.ensures.some)

pub returns-clause-ends : goal.returns-clause-ends
returns-clause-ends c =
    let deep = c.shape_of-deep.result.deep in
    let all : c.args.end ≤ div_ceil c.args.end deep * deep = (div_ceil_times c.args.end deep c.shape_of-deep.ensures.some).0 in
    omega (arith, all, ap (λ (k : ℕ). k * deep) c.div_ceil.ensures, ap (λ (k : ℕ). c.div_ceil.result * k) c.shape_of-deep.ensures.deep)
