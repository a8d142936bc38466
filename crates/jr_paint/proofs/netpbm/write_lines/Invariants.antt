use Rattle.std.proofs.Common.{◌≡◌, ◌≤◌, ◌-◌, ◌++◌, false, length, take}
use Rattle.jr_base.specs.Tally.{has_failed}
use Rattle.jr_paint.specs.Text.{header_of, lines_of}
use Rattle.jr_paint.specs.Written.{WritesUpTo}
use Rattle.jr_paint.proofs.netpbm.write_lines.Given as goal

abbrev pub invariant-lines : goal.invariant-lines
invariant-lines g l = record {
  within : l.y ≤ l.height;
  filled : l.filled ≤ length l.pixels;
  long : length l.pixels ≡ length l.initial.pixels;
  unfailed : has_failed l.out ≡ false;
  sent : WritesUpTo g.W.Write.contents l.initial.out l.out (header_of (g.S.Samples.head_of l.samples) ++ lines_of (g.S.Samples.head_of l.samples) (g.S.Samples.shown l.samples) l.y) (take l.filled l.pixels);
}

abbrev pub decreases-lines : goal.decreases-lines
decreases-lines g l = l.height - l.y
