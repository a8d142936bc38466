use Rattle.std.proofs.Common.{◌-◌}
use Rattle.jr_head.specs.Geometry.{mcus_across}
use Rattle.jr_arrival.specs.Sources.{Walks}
use Rattle.jr_arrival.proofs.row_walk.walk_row.Given as goal

abbrev pub invariant-mcus : goal.invariant-mcus
invariant-mcus g l = record {
  walks : Walks l.head (g.S.McuSource.value l.initial.source) (g.S.McuSource.value l.source) g.K.McuSink.keeps l.done l.walked (g.K.McuSink.groups l.initial.sink) (g.K.McuSink.groups l.sink);
  space : g.K.McuSink.has_space l.head l.sink;
}

abbrev pub decreases-mcus : goal.decreases-mcus
decreases-mcus g l = mcus_across l.head - l.done - l.walked
