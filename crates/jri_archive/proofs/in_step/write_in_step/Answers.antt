use Rattle.std.proofs.Common.{rules, inl, inr}
use Rattle.jri_archive.proofs.in_step.write_in_step.Goals as goal

pub returns-in-Ok-clause-bytes : goal.returns-in-Ok-clause-bytes
returns-in-Ok-clause-bytes c =
    inl (record { head = c.args.head.now; ended = c.in-Ok.resynced.ended; is_head = c.requires; is = search (rules, c.in-Ok.ensures.resynced) })

pub returns-then-is_in_step-clause-bytes : goal.returns-then-is_in_step-clause-bytes
returns-then-is_in_step-clause-bytes c =
    inr (inl (record { head = c.args.head.now; is_head = c.requires; in_step = search (rules, c.is_in_step.ensures); same = c.unchanged.ensures.bytes; none = c.unchanged.ensures.breaks }))
