use Rattle.std.proofs.Common.{◌*◌, length}
use Rattle.jr_head.specs.Geometry.{blocks_of}
use Rattle.jr_piece.specs.Outcome.{unit_of}
use Rattle.jr_piece.proofs.StoredUnits.{Lie}
use Rattle.jr_piece.proofs.transforming.transform_mcus.Given as goal

abbrev pub invariant-loop-j : goal.invariant-loop-j
invariant-loop-j g l = record {
  space : g.U.UnitSink.has_space l.head l.units;
  lie : Lie (unit_of l.head l.blocks) (l.mcu * blocks_of l.head) l.count (length l.blocks) l.j (g.U.UnitSink.units l.head l.fn.units) (g.U.UnitSink.units l.head l.units);
}
