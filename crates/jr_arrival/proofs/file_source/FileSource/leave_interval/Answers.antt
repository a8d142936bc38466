use Rattle.std.proofs.Common.{◌≡◌, ◌+◌, ◌%◌, ◌++◌, ◌∙◌, ℕ, drop, Some, None, refl, sym, ap, subst, arith, rules}
use Rattle.std.specs.Prelude.{true, false}
use Rattle.jr_cut.specs.declared.stop.Stop.TheVariants.{End, Restart}
use Rattle.jr_cut.specs.PartialSegments.{IsStopOf}
use Rattle.jr_base.specs.declared.marker.TheConstants.{RST0}
use Rattle.jr_cut.specs.Cut.{IsEnding, marker}
use Rattle.jr_scan.specs.Run.{start_of_interval}
use Rattle.jr_head.specs.Intervals.{intervals_of}
use Rattle.jr_arrival.specs.declared.file_bytes.FileBytes.{FileBytes}
use Rattle.jr_arrival.specs.FileSources.{begun, start_unless}
use Rattle.jr_arrival.proofs.Standing.{right_by}
use Rattle.jr_cut.proofs.Following.{restart_within}
use Rattle.jr_arrival.proofs.Steps.{ended_true, next_true}
use Rattle.jr_arrival.proofs.file_source.FileSource.leave_interval.Goals as goal

pub overflow_add-end : goal.overflow_add-end
overflow_add-end c =
    let s = c.args.self.now in
    let end = c.end_of_data-end.result in
    let n = intervals_of c.args.head.now in
    let tail = drop end s.window.file.bytes.now in
    let restart : IsStopOf n s.cursor.number end tail (Restart c.in-Restart.marker) = subst (IsStopOf n s.cursor.number end tail) c.in-Restart.is c.stop_after.ensures.is in
    let few = restart_within s.window.file.bytes.now end s.cursor.number c.in-Restart.marker c.end_of_data-end.ensures.within restart.1 in
    search (rules, arith, few, c.stop_after.ensures.long)

pub fill-requires-clause-at : goal.fill-requires-clause-at
fill-requires-clause-at c =
    let s = c.args.self.now in
    let end = c.end_of_data-end.result in
    let n = intervals_of c.args.head.now in
    let tail = drop end s.window.file.bytes.now in
    let restart : IsStopOf n s.cursor.number end tail (Restart c.in-Restart.marker) = subst (IsStopOf n s.cursor.number end tail) c.in-Restart.is c.stop_after.ensures.is in
    let few = restart_within s.window.file.bytes.now end s.cursor.number c.in-Restart.marker c.end_of_data-end.ensures.within restart.1 in
    search (rules, arith, few)

pub returns-in-Restart-clause-follows : goal.returns-in-Restart-clause-follows
returns-in-Restart-clause-follows c stated over whole t may right =
    let s = c.args.self.now in
    let h = c.args.head.now in
    let d = c.fill.new.self in
    let e = c.fill.ensures in
    let end = c.end_of_data-end.result in
    let o = c.end_of_data-end.ensures in
    let number = s.cursor.number in
    let tail = drop end s.window.file.bytes.now in
    let restart : IsStopOf (intervals_of h) number end tail (Restart c.in-Restart.marker) = subst (IsStopOf (intervals_of h) number end tail) c.in-Restart.is c.stop_after.ensures.is in
    let b = restart.1 in
    let few = restart_within s.window.file.bytes.now end number c.in-Restart.marker o.within b in
    let from = s.window.file.from in
    let at : d.file.from + d.at ≡ from + end + (b.more + 2) = omega (arith, e.at, b.long, ap (λ (f : FileBytes). f.from) e.file) in
    let starts = b.spelled ∙ ap (λ (k : ℕ). marker b.more (RST0 + number % 8) ++ drop k tail) b.long in
    let next = next_true h s c.requires.window end o.spells.0 o.spells.1 o.spells.2 o.within o.spells.3 whole t may over right b.more restart.0 starts (omega (arith, few, b.long)) in
    right_by whole t (begun (record s { window = d })) (number + 1) 0 (from + end + (b.more + 2)) (Some start_of_interval) false refl refl at (ap start_unless over) over (omega (arith, right.from, o.spells.2)) next

pub returns-else-not-is_final-clause-follows : goal.returns-else-not-is_final-clause-follows
returns-else-not-is_final-clause-follows c stated over whole t may right =
    let s = c.args.self.now in
    let h = c.args.head.now in
    let d = c.leave.new.self in
    let l = c.leave.ensures in
    let end = c.end_of_data-end.result in
    let o = c.end_of_data-end.ensures in
    let number = s.cursor.number in
    let tail = drop end s.window.file.bytes.now in
    let ending : IsStopOf (intervals_of h) number end tail (End c.in-End.ended) = subst (IsStopOf (intervals_of h) number end tail) c.in-End.is c.stop_after.ensures.is in
    let final = c.is_final.ensures.ends c.if-not-is_final.false may.more may.none in
    let none = ended_true h s c.requires.window end o.spells.0 o.spells.1 o.spells.2 o.within o.spells.3 whole t may over right c.in-End.ended ending final in
    let at : d.file.from + d.at ≡ s.window.file.from + end = omega (arith, l.at, ap (λ (f : FileBytes). f.from) l.file) in
    right_by whole t (begun (record s { window = d; ended = true })) (number + 1) 0 (s.window.file.from + end) None true refl refl at refl refl (omega (arith, right.from, o.spells.2)) none

pub returns-then-not-is_final-clause-waits : goal.returns-then-not-is_final-clause-waits
returns-then-not-is_final-clause-waits c stated =
    let s = c.args.self.now in
    let end = c.end_of_data-end.result in
    let e = c.end_of_data-end.ensures in
    let n = intervals_of c.args.head.now in
    let bytes = s.window.file.bytes.now in
    let tail = drop end bytes in
    let ending : IsStopOf n s.cursor.number end tail (End c.in-End.ended) = subst (IsStopOf n s.cursor.number end tail) c.in-End.is c.stop_after.ensures.is in
    let fill = subst (IsEnding n s.cursor.number end tail) (c.is_final.ensures.waits c.if-not-is_final.true) ending in
    record {
      read = e.spells.0;
      found = e.spells.1;
      within = omega (arith, e.within, e.spells.2);
      spelled = e.spells.3;
      fill = fill.0;
      all = ap (λ (k : ℕ). drop k bytes) (sym e.spells.2) ∙ fill.1;
    }
