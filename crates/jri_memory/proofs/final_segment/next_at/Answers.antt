use Rattle.std.proofs.Common.{ℕ, length, min, inl, inr, sym, subst}
use Rattle.std.proofs.lemmas.List.{take_rest}
use Rattle.jr_cut.specs.Coded.{EndsAfter}
use Rattle.jri_memory.proofs.Arrived.{begins_with, ends, goes_on}
use Rattle.jri_memory.proofs.final_segment.next_at.Goals as goal

pub returns-in-Restart-clause-next : goal.returns-in-Restart-clause-next
returns-in-Restart-clause-next c whole is =
    let a = c.args in
    let bytes = a.file.bytes.now in
    let due = rw (take_rest bytes a.end) at c.in-Restart.ensures in
    inl (goes_on bytes whole a.file.are_all (begins_with bytes a.file.are_all whole is) a.intervals a.k a.end c.requires.there c.in-Restart.marker due.0 due.1)

pub returns-in-End-clause-next : goal.returns-in-End-clause-next
returns-in-End-clause-next c whole is =
    let a = c.args in
    let bytes = a.file.bytes.now in
    let ending = rw (take_rest bytes a.end) at c.in-End.ensures in
    let b = begins_with bytes a.file.are_all whole is in
    inr (subst (λ (m : ℕ). EndsAfter whole a.intervals a.k a.end (min m (length whole))) (sym c.end_of.ensures) (ends bytes whole a.file.are_all b a.intervals a.k a.end c.requires.there c.in-End.ended (c.is_final.ensures.ends c.if-is_final.true) ending))
