use Rattle.std.proofs.Common.{◌≡◌, ◌≤◌, ◌-◌, ◌*◌, length, take}
use Rattle.jr_paint.specs.Lines.{next_lines_of, line_size}
use Rattle.jr_paint.proofs.lines.paint_lines.Given as goal

abbrev pub invariant-lines : goal.invariant-lines
invariant-lines g l = record {
  within : l.painted ≤ l.fn.count;
  filled : l.filled ≡ l.painted * line_size (g.S.Samples.head_of l.samples);
  long : length l.pixels ≡ length l.initial.pixels;
  front : take l.filled l.pixels ≡ next_lines_of (g.S.Samples.head_of l.samples) (g.S.Samples.shown l.samples) l.fn.y l.painted;
}

abbrev pub decreases-lines : goal.decreases-lines
decreases-lines g l = l.fn.count - l.painted
