use Rattle.std.proofs.Common.{◌≡◌, ◌<◌, ◌≤◌, inl, sym, ap, subst, arith}
use Rattle.jr_head.specs.HeadValue.{HeadValue}
use Rattle.jr_head.specs.Intervals.{mcus_in}
use Rattle.jr_scan.specs.declared.cursor.Cursor.{Cursor}
use Rattle.jr_arrival.specs.PartialSources.{partial_source_of}
use Rattle.jr_arrival.specs.Sources.{Steps}
use Rattle.jr_arrival.proofs.PartialSteps.{begins, begins_some}
use Rattle.jr_arrival.proofs.partial_source.PartialSourceMcuSource.advance.Goals as goal

pub returns-then-not-is_over-clause-waits : goal.returns-then-not-is_over-clause-waits
returns-then-not-is_over-clause-waits c stated =
    let k = c.args.self.now.cursor in
    let is = c.requires.at in
    record { going = c.is_over.ensures.going c.if-not-is_over.true; next = inl (omega (arith, is.reading.few, ap (λ (h : HeadValue). mcus_in h k.number) is.head, c.mcus_in.ensures.value, c.if-self-mcus_in.false)) }

pub returns-clause-steps : goal.returns-clause-steps
returns-clause-steps c =
    let h = c.args.head.now in
    let s = c.args.self.now in
    let is = c.requires.at in
    let few : s.cursor.mcu ≤ mcus_in h s.cursor.number = omega (arith, is.reading.few, ap (λ (h : HeadValue). mcus_in h s.cursor.number) is.head) in
    let all : s.cursor.mcu ≡ mcus_in h s.cursor.number = omega (arith, few, c.mcus_in.ensures.value, c.if-self-mcus_in.false) in
    subst (λ (k : Cursor). Steps h (partial_source_of s) (partial_source_of (record s { cursor = k; marked = c.partial_marks-self.result })) 0) (sym c.at_start-self.ensures)
    (begins h s is all c.requires.more c.partial_marks-self.result (c.is_over.ensures.over c.if-not-is_over.false) c.partial_marks-self.ensures.counts)

pub returns-clause-some : goal.returns-clause-some
returns-clause-some c stated =
    let h = c.args.head.now in
    let s = c.args.self.now in
    let is = c.requires.at in
    let few : s.cursor.mcu ≤ mcus_in h s.cursor.number = omega (arith, is.reading.few, ap (λ (h : HeadValue). mcus_in h s.cursor.number) is.head) in
    let all : s.cursor.mcu ≡ mcus_in h s.cursor.number = omega (arith, few, c.mcus_in.ensures.value, c.if-self-mcus_in.false) in
    subst (λ (k : Cursor). k.mcu < mcus_in h k.number) (sym c.at_start-self.ensures) (begins_some h s is all c.requires.more)
