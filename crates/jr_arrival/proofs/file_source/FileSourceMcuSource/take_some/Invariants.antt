use Rattle.std.proofs.Common.{◌≡◌}
use Rattle.jr_arrival.specs.FileSources.{source_of, to_read}
use Rattle.jr_arrival.specs.Sources.{Walks}
use Rattle.jr_arrival.proofs.file_source.FileSourceMcuSource.take_some.Given as goal

abbrev pub invariant-windows : goal.invariant-windows
invariant-windows g l = record {
  walks : Walks l.head (source_of l.initial.self) (source_of l.self) g.K.McuSink.keeps l.done 0 (g.K.McuSink.groups l.initial.sink) (g.K.McuSink.groups l.sink);
  number : l.self.cursor.number ≡ l.initial.self.cursor.number;
  space : g.K.McuSink.has_space l.head l.sink;
}

abbrev pub decreases-windows : goal.decreases-windows
decreases-windows g l = to_read l.self.window
