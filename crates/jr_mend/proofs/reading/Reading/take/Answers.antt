use Rattle.std.proofs.Common.{◌≡◌, ℕ, ◌+◌, ◌-◌, ◌≤◌, ◌∷◌, length, refl, sym, ap, subst, ◌∙◌, arith}
use Rattle.jr_mend.specs.Reading.{IsOutlook}
use Rattle.jr_mend.specs.Resync.{since_after}
use Rattle.jr_mend.proofs.Readings.{read_more, segment, slice_is, takes}
use Rattle.jr_mend.proofs.reading.Reading.take.Goals as goal

pub returns-clause-read : goal.returns-clause-read
returns-clause-read c = λ h has meets.
    let file = c.args.file.now in
    let mid = c.note.new.self in
    let m = c.args.marker in
    let len = c.segment_length.result in
    let same = c.in_ok-note.ensures.same in
    let next = c.in_ok-begin_next.ensures in
    let there : mid.at + m.length ≤ length file = omega (arith, same.4, c.requires.within) in
    let stated = segment file (mid.at + m.length) len there c.segment_length.ensures.within c.segment_length.ensures.data c.segment_length.ensures.stop in
    let end = mid.at + m.length + len in
    let part : end - c.begin_next.new.self.at ≡ m.length + len = omega (arith, next.same.1) in
    let counted = c.since_after-self.ensures ∙ ap (λ (s : ℕ). since_after s m.missing (end - c.begin_next.new.self.at)) next.same.2 ∙ ap (since_after mid.since m.missing) part in
    let size = c.after-self.ensures.size ∙ ap (λ o. o.size) next.same.3 in
    read_more file h c.args.self.now _ m has meets
    (takes file c.args.self.now mid _ m len _ stated c.in_ok-note.ensures.breaks same.0 same.1 same.2 same.3 same.4 refl next.number counted size
    (λ n x ms code goes is. c.after-self.ensures.is n x ms code goes (subst (IsOutlook n (x ∷ ms)) (sym next.same.3) is)) next.same.0 next.written (grind (arith, slice_is file (mid.at + m.length) (mid.at + m.length + len) len refl)))
