use Rattle.std.proofs.Common.{◌≡◌, ℕ, ◌+◌, ◌*◌, ap, ◌∙◌, sym}
use Rattle.std.proofs.Math.Nat.{add-mul}
use Rattle.jr_rows.specs.Rows.{line_count}
use Rattle.jr_arrival.specs.Places.{lines_between}
use Rattle.jr_arrival.proofs.RowLines.{next_row}
use Rattle.jr_arrival.proofs.rows.span_of_row.Goals as goal

pub returns-clause-count : goal.returns-clause-count
returns-clause-count c =
    let h = c.args.head.now in
    let first = c.args.first in
    let row = c.args.row in
    let line = c.shape_of-line.result.line in
    let next = next_row h c.assert_invariant.ensures.components.down first row c.requires.order c.requires.row in
    let before : c.lines_between.result ≡ lines_between h first row = c.lines_between.ensures.value in
    let after : c.lines_between-2.result ≡ c.lines_between.result + line_count h row = c.lines_between-2.ensures.value ∙ next ∙ ap (λ (k : ℕ). k + line_count h row) (sym before) in
    ap (λ (k : ℕ). k * line) after ∙ add-mul c.lines_between.result (line_count h row) line ∙ ap (λ (k : ℕ). c.lines_between.result * line + line_count h row * k) c.shape_of-line.ensures.line
