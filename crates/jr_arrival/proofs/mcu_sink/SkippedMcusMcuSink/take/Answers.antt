use Rattle.std.proofs.Common.{[], rules}
use Rattle.jr_arrival.proofs.mcu_sink.SkippedMcusMcuSink.take.Goals as goal

pub returns-clause-taken : goal.returns-clause-taken
returns-clause-taken c read =
    let passed = c.skip.ensures.passed [] read in
    record { blocks = passed.0; read = passed.3; adds = λ keep. search (rules, keep) }
