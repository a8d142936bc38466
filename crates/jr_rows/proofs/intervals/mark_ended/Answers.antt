use Rattle.std.proofs.Common.{rules, arith, sym, subst, cond, ap, ◌≡◌, ℕ, ◌<◌, length}
use Rattle.std.specs.Prelude.{slice_index}
use Rattle.jr_head.specs.Geometry.{mcus_of}
use Rattle.jr_scan.specs.IntervalValue.{IntervalValue}
use Rattle.jr_scan.specs.ScanValue.{intervals_of, interval_of, mcus_in}
use Rattle.jr_scan.specs.Mcus.{ReportsSound}
use Rattle.jr_piece.specs.PieceValue.{PieceValue}
use Rattle.jr_piece.specs.Outcome.{IsOutcome}
use Rattle.jr_picture.specs.declared.mark.Mark.TheVariants.{Sound, Damaged}
use Rattle.jr_rows.specs.MarkBytes.{StoresMarks, mark_byte}
use Rattle.jr_rows.specs.Rows.{CountsMarks}
use Rattle.jr_piece.proofs.UnitReading.{outcome_reports}
use Rattle.jr_rows.proofs.IntervalPlaces.{ends_before, ends_with}
use Rattle.jr_rows.proofs.StoredMarks.{stores_none, stores_one}
use Rattle.jr_rows.proofs.ReadRows.{counts_none, counts_one}
use Rattle.jr_rows.proofs.intervals.mark_ended.Goals as goal

pub returns-then-cursor-mcus-clause-counts : goal.returns-then-cursor-mcus-clause-counts
returns-then-cursor-mcus-clause-counts c =
    let r = c.args.cursor.now in
    let t = c.args.part.now.scan in
    let number : r.number < intervals_of t.head = search (rules, arith, c.requires.lies.number) in
    let few : r.mcu < mcus_in t.head r.number = search (rules, arith) in
    counts_none t c.args.part.now.limit r.number _ _ c.none.ensures.sound c.none.ensures.damaged (sym (ends_before t.head r.number r.mcu number few))

pub returns-then-cursor-mcus-clause-stores : goal.returns-then-cursor-mcus-clause-stores
returns-then-cursor-mcus-clause-stores c =
    let r = c.args.cursor.now in
    let t = c.args.part.now.scan in
    let number : r.number < intervals_of t.head = search (rules, arith, c.requires.lies.number) in
    let few : r.mcu < mcus_in t.head r.number = search (rules, arith) in
    stores_none t c.args.part.now.limit r.number _ c.args.marks.now (sym (ends_before t.head r.number r.mcu number few))

pub returns-clause-counts : goal.returns-clause-counts
returns-clause-counts c =
    let r = c.args.cursor.now in
    let t = c.args.part.now.scan in
    let n = c.args.part.now.limit in
    let number : r.number < intervals_of t.head = search (rules, arith, c.requires.lies.number) in
    let some : 0 < mcus_of t.head = search (rules, arith) in
    let interval = c.requires.interval in
    let all : r.mcu ≡ mcus_in t.head r.number = omega (arith, c.requires.lies.at.few, c.if-cursor-mcus.false, c.mcus-2.ensures, ap (λ (i : IntervalValue). i.mcus) interval) in
    let reports : (p : PieceValue) → IsOutcome p → p.interval ≡ interval_of t r.number → p.is_sound ≡ c.is_sound-is_sound.result = outcome_reports (interval_of t r.number) c.is_sound-is_sound.result (subst (ReportsSound c.is_sound-is_sound.result) interval c.is_sound-is_sound.ensures) in
    let sound : c.one.result.sound ≡ cond {A = ℕ} c.is_sound-is_sound.result 1 0 = search (rules, c.one.ensures.sound) in
    let damaged : c.one.result.damaged ≡ cond {A = ℕ} c.is_sound-is_sound.result 0 1 = search (rules, c.one.ensures.damaged) in
    subst (λ (to : ℕ). CountsMarks t n r.number to c.one.result) (sym (ends_with t.head r.number r.mcu some number all))
    (counts_one t n r.number c.one.result c.requires.decoded c.requires.lies.number c.is_sound-is_sound.result sound damaged reports)

pub returns-clause-stores : goal.returns-clause-stores
returns-clause-stores c =
    let r = c.args.cursor.now in
    let t = c.args.part.now.scan in
    let n = c.args.part.now.limit in
    let number : r.number < intervals_of t.head = search (rules, arith, c.requires.lies.number) in
    let some : 0 < mcus_of t.head = search (rules, arith) in
    let interval = c.requires.interval in
    let all : r.mcu ≡ mcus_in t.head r.number = omega (arith, c.requires.lies.at.few, c.if-cursor-mcus.false, c.mcus-2.ensures, ap (λ (i : IntervalValue). i.mcus) interval) in
    let reports : (p : PieceValue) → IsOutcome p → p.interval ≡ interval_of t r.number → p.is_sound ≡ c.is_sound-is_sound.result = outcome_reports (interval_of t r.number) c.is_sound-is_sound.result (subst (ReportsSound c.is_sound-is_sound.result) interval c.is_sound-is_sound.ensures) in
    let store : 0 < length c.args.marks.now → slice_index c.write_mark.new.marks r.number ≡ mark_byte (cond c.is_sound-is_sound.result Sound Damaged) = λ there. search (rules, c.write_mark.ensures.store there) in
    subst (λ (to : ℕ). StoresMarks t n r.number to c.args.marks.now c.write_mark.new.marks) (sym (ends_with t.head r.number r.mcu some number all))
    (stores_one t n r.number c.args.marks.now c.write_mark.new.marks c.requires.decoded c.is_sound-is_sound.result reports c.write_mark.ensures.long store c.write_mark.ensures.kept)
