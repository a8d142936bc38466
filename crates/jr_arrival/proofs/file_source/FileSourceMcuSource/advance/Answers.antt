use Rattle.std.proofs.Common.{◌≡◌, ℕ, ◌+◌, ◌<◌, ap, sym, subst, ◌∙◌, arith, rules}
use Rattle.jr_head.specs.Intervals.{mcus_in}
use Rattle.jr_scan.specs.declared.cursor.Cursor.{Cursor}
use Rattle.jr_arrival.specs.declared.file_source.FileSource.{FileSource}
use Rattle.jr_arrival.specs.FileSources.{Waits, source_of}
use Rattle.jr_arrival.specs.Sources.{Steps}
use Rattle.jr_arrival.proofs.SourceSteps.{nowhere}
use Rattle.jr_arrival.proofs.Standing.{begins}
use Rattle.jr_arrival.proofs.Waiting.{waits_after}
use Rattle.jr_rows.proofs.IntervalPlaces.{mcus_in_some, next_there}
use Rattle.jr_arrival.proofs.file_source.FileSourceMcuSource.advance.Goals as goal

pub begin_next-requires : goal.begin_next-requires
begin_next-requires c =
    let h = c.args.head.now in
    let k = c.args.self.now.cursor in
    let all : k.mcu ≡ mcus_in h k.number = omega (arith, c.requires.at.is_in.few, c.mcus_in.ensures.value, c.if-self-mcus_in.false) in
    let next = next_there h k.number k.mcu c.requires.at.is_in.number all c.requires.more in
    search (rules, arith, next.0, ap (λ (x : Cursor). x.number) c.find_end.ensures.cursor, c.intervals-most.ensures.value)

pub returns-clause-steps : goal.returns-clause-steps
returns-clause-steps c =
    let h = c.args.head.now in
    let s = c.args.self.now in
    let f = c.find_end.new.self in
    let e = c.find_end.ensures in
    let k = s.cursor in
    let all : k.mcu ≡ mcus_in h k.number = omega (arith, c.requires.at.is_in.few, c.mcus_in.ensures.value, c.if-self-mcus_in.false) in
    let next = next_there h k.number k.mcu c.requires.at.is_in.number all c.requires.more in
    subst (λ (n : FileSource). Steps h (source_of s) (source_of n) 0) (sym c.begin_next.ensures)
    (begins h s f e.window e.file e.cursor next.0 (omega (arith, next.1)) (e.follows c.if-not-find_end.false))

pub returns-clause-some : goal.returns-clause-some
returns-clause-some c stated =
    let h = c.args.head.now in
    let k = c.args.self.now.cursor in
    let n = c.begin_next.new.self in
    let all : k.mcu ≡ mcus_in h k.number = omega (arith, c.requires.at.is_in.few, c.mcus_in.ensures.value, c.if-self-mcus_in.false) in
    let next = next_there h k.number k.mcu c.requires.at.is_in.number all c.requires.more in
    let number : n.cursor.number ≡ k.number + 1 = ap (λ (d : FileSource). d.cursor.number) c.begin_next.ensures ∙ ap (λ (x : Cursor). x.number + 1) c.find_end.ensures.cursor in
    let some = mcus_in_some h (k.number + 1) (omega (arith, c.requires.more)) next.0 in
    let here : n.cursor.mcu < mcus_in h (k.number + 1) = omega (arith, ap (λ (d : FileSource). d.cursor.mcu) c.begin_next.ensures, some) in
    subst (λ (i : ℕ). n.cursor.mcu < mcus_in h i) (sym number) here

pub returns-then-not-find_end-clause-steps : goal.returns-then-not-find_end-clause-steps
returns-then-not-find_end-clause-steps c =
    let h = c.args.head.now in
    let s = c.args.self.now in
    let kept = c.find_end.ensures.kept c.if-not-find_end.true in
    subst (λ (n : FileSource). Steps h (source_of s) (source_of n) 0) (sym kept.0) (nowhere h (source_of s) c.requires.at)

pub returns-then-not-find_end-clause-waits : goal.returns-then-not-find_end-clause-waits
returns-then-not-find_end-clause-waits c stated =
    let h = c.args.head.now in
    let s = c.args.self.now in
    let k = s.cursor in
    let failed = c.if-not-find_end.true in
    let e = c.find_end.ensures in
    let kept = e.kept failed in
    let all : k.mcu ≡ mcus_in h k.number = omega (arith, c.requires.at.is_in.few, c.mcus_in.ensures.value, c.if-self-mcus_in.false) in
    subst (Waits h) (sym kept.0) (waits_after h s c.requires.at c.assert_invariant.ensures (e.waits failed) (e.goes_on failed) all kept.1)
