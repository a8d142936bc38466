use Rattle.std.proofs.Common.{inr, rules}
use Rattle.jri_memory.proofs.OnResults.{on_ok}
use Rattle.jri_memory.proofs.places.skip_in_window.Goals as goal

pub returns-else-not-is_in_window-clause-inside : goal.returns-else-not-is_in_window-clause-inside
returns-else-not-is_in_window-clause-inside c =
    on_ok c.skip_there.result _ (inr (record { h = _; is = search rules; there = c.has_row_at.ensures.there c.if-not-has_row_at.false; within = c.is_in_window.ensures.there c.if-not-is_in_window.false }))

pub returns-then-not-is_in_window-clause-why : goal.returns-then-not-is_in_window-clause-why
returns-then-not-is_in_window-clause-why c space = record { h = _; is = search rules; there = c.has_row_at.ensures.there c.if-not-has_row_at.false; out = c.is_in_window.ensures.not_there c.if-not-is_in_window.true }

pub returns-then-not-has_row_at-clause-why : goal.returns-then-not-has_row_at-clause-why
returns-then-not-has_row_at-clause-why c space = record { h = _; is = search rules; none = c.has_row_at.ensures.not_there c.if-not-has_row_at.true }
