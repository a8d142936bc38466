use Rattle.std.proofs.Common.{◌≡◌, ◌*◌, take}
use Rattle.jr_paint.specs.Lines.{halved_colours_of}
use Rattle.jr_paint.proofs.halves.convert_rest.Given as goal

abbrev pub invariant-loop-i : goal.invariant-loop-i
invariant-loop-i l = take (3 * l.i) l.out ≡ halved_colours_of l.luma l.cb l.cr 0 l.i
