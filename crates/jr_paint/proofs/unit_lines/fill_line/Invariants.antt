use Rattle.std.proofs.Common.{◌≡◌, ℕ, ◌*◌, ◌<◌, slice_index}
use Rattle.jr_paint.specs.Units.{sample_by_units}
use Rattle.jr_paint.proofs.unit_lines.fill_line.Given as goal

abbrev pub invariant-loop-n : goal.invariant-loop-n
invariant-loop-n g l = (k : ℕ) → k < 8 * l.n → slice_index l.out k ≡ sample_by_units l.head (g.U.Units.shown_in l.units) l.c k l.y
