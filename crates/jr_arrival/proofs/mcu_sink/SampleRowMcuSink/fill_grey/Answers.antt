use Rattle.jr_arrival.proofs.mcu_sink.SampleRowMcuSink.fill_grey.Goals as goal

pub returns-clause-grey : goal.returns-clause-grey
returns-clause-grey c keep = record { kept = c.write_grey.ensures.kept; each = c.write_grey.ensures.grey }
