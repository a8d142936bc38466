use Rattle.std.proofs.Common.{inr, rules}
use Rattle.jri_memory.proofs.OnResults.{on_ok}
use Rattle.jri_memory.proofs.places.decode_in_window.Goals as goal

pub returns-else-not-is_in_window-clause-inside : goal.returns-else-not-is_in_window-clause-inside
returns-else-not-is_in_window-clause-inside c =
    on_ok c.decode_there.result _ (inr (record { h = _; is = search rules; there = c.has_row_at.ensures.there c.if-not-has_row_at.false; within = c.is_in_window.ensures.there c.if-not-is_in_window.false }))

pub returns-else-not-is_in_window-clause-space : goal.returns-else-not-is_in_window-clause-space
returns-else-not-is_in_window-clause-space c space =
    record { h = _; is = search rules; there = c.has_row_at.ensures.there c.if-not-has_row_at.false; within = c.is_in_window.ensures.there c.if-not-is_in_window.false }
