use Rattle.std.proofs.Common.{◌+◌, ◌-◌}
use Rattle.jri_canvas.specs.Layouts.{LieOn, laid_line, line_in, plain_line_size}
use Rattle.jri_canvas.proofs.lines.lay_lines.Given as goal

abbrev pub invariant-loop-k : goal.invariant-loop-k
invariant-loop-k l = LieOn l.fn.form l.fn.first (l.fn.first + l.k) (λ k. laid_line l.fn.form (line_in (plain_line_size l.fn.form) l.fn.lines (k - l.fn.first))) l.initial.canvas l.canvas
