use Rattle.std.proofs.Common.{◌≡◌, ◌*◌, take}
use Rattle.jr_paint.specs.Lines.{halved_colours_of}
use Rattle.jr_paint.proofs.halves.convert_whole_blocks_of_one.Given as goal

abbrev pub invariant-loop-n : goal.invariant-loop-n
invariant-loop-n l = take (3 * (32 * l.n)) l.out ≡ halved_colours_of l.luma l.cb l.cr 0 (32 * l.n)
