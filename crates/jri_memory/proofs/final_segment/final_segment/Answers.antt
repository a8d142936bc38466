use Rattle.std.proofs.Common.{◌⊎◌, ◌+◌, ◌≤◌, ℕ, List, length, min, take, drop, ap, subst, length-drop, arith}
use Rattle.std.proofs.lemmas.List.{drop-drop}
use Rattle.jr_cut.specs.Coded.{EndsAfter, GoesOnAfter}
use Rattle.jr_cut.specs.Cut.{IsRaw, IsStop}
use Rattle.jr_cut.proofs.Cuts.{rest_is}
use Rattle.jri_memory.specs.FinalSegments.{end_of}
use Rattle.jri_memory.proofs.Arrived.{begins_with, final, final_past, none_past}
use Rattle.jri_memory.proofs.final_segment.final_segment.Goals as goal

pub returns-then-at-all-clause-is : goal.returns-then-at-all-clause-is
returns-then-at-all-clause-is c whole s is e begins =
    let bytes = c.args.file.bytes.now in
    let all = c.args.file.are_all in
    let past : end_of all bytes ≤ c.args.at = omega (arith, c.if-at-all.true, c.end_of-all.ensures) in
    final_past bytes whole all (begins_with bytes all whole is) s c.args.k c.args.at past begins c.end_of-all.result c.end_of-all.ensures

pub returns-then-at-length-clause-waits : goal.returns-then-at-length-clause-waits
returns-then-at-length-clause-waits c = none_past c.args.file.bytes.now c.args.at (omega (arith, c.if-at-length.true))

pub returns-clause-is : goal.returns-clause-is
returns-clause-is c whole s is e begins =
    let bytes = c.args.file.bytes.now in
    let all = c.args.file.are_all in
    let at = c.args.at in
    let k = c.args.k in
    let len = c.segment_length.result in
    let next = c.in_ok-next.next in
    let stated = c.segment_length.ensures in
    let rest = rest_is bytes at in
    let within : at + len ≤ length bytes = omega (arith, stated.within, ap length rest, length-drop at bytes, c.if-at-length.false) in
    let raw = subst (λ (l : List ℕ). IsRaw (take len l) stated.data.0) rest stated.data.1 in
    let stop = subst IsStop (drop-drop len at bytes) (subst (λ (l : List ℕ). IsStop (drop len l)) rest stated.stop) in
    let o = min next (length whole) in
    let follows = subst (λ (n : ℕ). GoesOnAfter whole n k (at + len) o ⊎ EndsAfter whole n k (at + len) o) e (c.in_ok-next.ensures.next whole is) in
    final bytes whole all (begins_with bytes all whole is) s k at len next stated.data.0 within raw stop follows begins
