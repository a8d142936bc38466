use Rattle.jri_memory.proofs.calls.decode_lines.Goals as goal

pub returns-in-Ok-Some-clause-no_picture : goal.returns-in-Ok-Some-clause-no_picture
returns-in-Ok-Some-clause-no_picture c unsound undamaged = absurd (undamaged (c.report_decoded.ensures.done unsound))
