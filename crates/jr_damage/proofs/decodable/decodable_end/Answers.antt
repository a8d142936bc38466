use Rattle.std.proofs.Common.{◌≡◌, ◌/◌, ◌≤◌, ℕ, Some, length, sym, ap, subst, arith, rules}
use Rattle.jr_scan.specs.IntervalValue.{IntervalValue}
use Rattle.jr_scan.specs.Run.{start_of_interval}
use Rattle.jr_scan.specs.Cursors.{IsPlaceAfter, TakesMcus}
use Rattle.jr_scan.specs.declared.cursor.Cursor.{Cursor}
use Rattle.jr_scan.proofs.CursorRuns.{at_start}
use Rattle.jr_damage.proofs.Skipping.{all_taken, cut_to, front_there, has_place, longest_there}
use Rattle.jr_damage.proofs.decodable.decodable_end.Goals as goal

pub take-whole-requires-clause-at : goal.take-whole-requires-clause-at
take-whole-requires-clause-at c = subst (λ (k : Cursor). IsPlaceAfter c.of-front.result k.mcu k.place) (sym c.at_start-cursor.ensures) (at_start c.of-front.result)

pub returns-in_default : goal.returns-in_default
returns-in_default c = λ longest.
    let e = c.take-whole.ensures in
    let new = c.take-whole.new.self in
    let own : c.of-front.result ≡ cut_to c.args.interval c.args.mcus = search (rules, c.of-front.ensures, c.number-number.ensures, c.head.ensures.value, c.bytes.ensures.bytes) in
    let at = subst (λ (v : IntervalValue). IsPlaceAfter v new.mcu new.place) own e.at in
    absurd (has_place c.args.interval c.args.mcus longest new.mcu new.place at c.in_default.is)

pub returns : goal.returns
returns c = λ longest.
    let i = c.args.interval in
    let m = c.args.mcus in
    let e = c.take-whole.ensures in
    let new = c.take-whole.new.self in
    let n = c.take-whole.result in
    let own : c.of-front.result ≡ cut_to i m = search (rules, c.of-front.ensures, c.number-number.ensures, c.head.ensures.value, c.bytes.ensures.bytes) in
    let from : c.at_start-cursor.result.place ≡ Some start_of_interval = ap (λ (k : Cursor). k.place) c.at_start-cursor.ensures in
    let zero : c.at_start-cursor.result.mcu ≡ 0 = ap (λ (k : Cursor). k.mcu) c.at_start-cursor.ensures in
    let t = e.some start_of_interval from in
    let first = subst (λ (k : ℕ). TakesMcus c.of-front.result k start_of_interval m n t.0 new.place) zero t.1 in
    let taken : TakesMcus (cut_to i m) 0 start_of_interval m n t.0 new.place = subst (λ (v : IntervalValue). TakesMcus v 0 start_of_interval m n t.0 new.place) own first in
    let all : n ≡ m = all_taken i m longest start_of_interval n t.0 new.place taken e.few in
    let mcu : new.mcu ≡ m = omega (arith, e.mcu, zero, all) in
    let next = (subst (λ (v : IntervalValue). IsPlaceAfter v new.mcu new.place) own e.at).next c.in-Some.place c.in-Some.is in
    let few : c.in-Some.place.bit / 8 ≤ length i.bytes = omega (arith, next.1.can.0) in
    record {
      mcus = m;
      blocks = next.0;
      bit = c.in-Some.place.bit;
      longest = longest_there i m longest new.mcu next.0 c.in-Some.place next.1 mcu;
      front = front_there i m longest new.mcu next.0 c.in-Some.place next.1 mcu;
      begins = search (rules, c.offset_of.ensures, c.requires.raw, few);
    }
