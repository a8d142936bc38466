use Rattle.std.proofs.Common.{rules}
use Rattle.jri_memory.proofs.canvas_calls.decode_canvas.Goals as goal

pub returns-in-Ok-Some-clause-no_picture : goal.returns-in-Ok-Some-clause-no_picture
returns-in-Ok-Some-clause-no_picture c unsound undamaged = absurd (undamaged (c.report_decoded.ensures.done unsound))

pub returns-in-Err-clause-space : goal.returns-in-Err-clause-space
returns-in-Err-clause-space c e = c.in-Err.ensures.space (search (rules, c.report_undone.ensures.space e))

pub returns-in-Err-clause-long : goal.returns-in-Err-clause-long
returns-in-Err-clause-long c e = c.in-Err.ensures.long (search (rules, c.report_undone.ensures.long e))
