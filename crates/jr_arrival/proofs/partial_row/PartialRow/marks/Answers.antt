use Rattle.std.proofs.Common.{◌≡◌, ℕ, ◌<◌, length, refl, sym, subst, arith, rules}
use Rattle.jr_scan.specs.ScanValue.{ScanValue, interval_of}
use Rattle.jr_scan.specs.Mcus.{ReportsSound}
use Rattle.jr_scan.specs.declared.cursor.Cursor.{Cursor}
use Rattle.jr_rows.specs.Rows.{CountsMarks}
use Rattle.jr_arrival.specs.PartialRows.{ReadsTo}
use Rattle.jr_arrival.proofs.Marks.{counted}
use Rattle.jr_arrival.proofs.Readings.{at_the_start, becomes_itself}
use Rattle.jr_arrival.proofs.partial_row.PartialRow.marks.Goals as goal

pub loop-i-init : goal.loop-i-init
loop-i-init c =
    let s : ScanValue = c.args.scan.now.scan in
    c.partial_marks-marked.ensures.counts s (becomes_itself c.args.scan.now) refl

pub is_sound-is_sound-requires-clause-reads : goal.is_sound-is_sound-requires-clause-reads
is_sound-is_sound-requires-clause-reads c =
    let s : ScanValue = c.args.scan.now.scan in
    subst (λ (k : Cursor). ReadsTo c.args.scan.now k.number k.mcu k.place) (sym c.at_start.ensures) (at_the_start (interval_of s c.loop-i.i))

pub with-marked-requires : goal.with-marked-requires
with-marked-requires c =
    let one = c.one.ensures.sound in
    let is = c.loop-i.invariant.few in
    search (rules, arith, is)

pub loop-i-preserved : goal.loop-i-preserved
loop-i-preserved c =
    let s : ScanValue = c.args.scan.now.scan in
    let i = c.loop-i.i in
    let stated = subst (λ (k : Cursor). ReportsSound c.is_sound-is_sound.result (interval_of s k.number)) c.at_start.ensures c.is_sound-is_sound.ensures in
    let inside : i < length s.intervals = omega (arith, c.loop-i-test.true, c.intervals-all.ensures.value) in
    counted s (interval_of s i) i c.loop-i.marked c.one.result c.with-marked.result c.is_sound-is_sound.result inside c.loop-i.invariant refl stated c.one.ensures.sound c.one.ensures.damaged c.with-marked.ensures.sound c.with-marked.ensures.damaged

pub returns : goal.returns
returns c =
    let s : ScanValue = c.args.scan.now.scan in
    let end : c.loop-i.i ≡ length s.intervals = search (rules, arith) in
    subst (λ (k : ℕ). CountsMarks s (length s.intervals) 0 k c.loop-i.marked) end c.loop-i.invariant
