use Rattle.std.proofs.Common.{◌≡◌, ℕ, ◌+◌, ◌-◌, ◌*◌, ◌≤◌, min, length, take, sym, ap, subst, ◌∙◌, arith}
use Rattle.std.proofs.Math.Nat.{mul-le-mul_right}
use Rattle.jr_head.specs.Geometry.{IsValid, order_of}
use Rattle.jr_scan.specs.declared.place.Place.{Place}
use Rattle.jr_scan.specs.McuReader.{per_mcu}
use Rattle.jr_scan.specs.Run.{RunOf}
use Rattle.jr_scan.specs.Cursors.{TakesMcus}
use Rattle.jr_scan.proofs.CursorSteps.{GoesOn, after, takes}
use Rattle.jr_scan.proofs.cursor.Cursor.take.Goals as goal

abbrev Taken : Type 0
Taken = goal.After-self-2-1

valid : (c : Taken) → IsValid c.args.interval.head
valid c = subst IsValid c.head-valid.ensures.value c.head-valid.ensures.valid

asked : (c : Taken) → c.min-mcus.result ≡ min c.args.most (c.args.interval.mcus - c.args.self.now.mcu)
asked c = c.min-mcus.ensures ∙ ap (λ (k : ℕ). min c.args.most (k - c.args.self.now.mcu)) c.mcus.ensures

few : (c : Taken) → c.args.self.now.mcu + c.min-mcus.result ≤ c.args.interval.mcus
few c = omega (arith, asked c, c.requires.at.few)

on : (c : Taken) → GoesOn c.args.interval c.in-Some.from c.min-mcus.result c.take_all-whole.result c.take_all-whole.ensures.taken.0 c.at-reader.result c.take_all-whole.new.reader
on c =
    let e = c.take_all-whole.ensures in
    record { run = c.at-reader.ensures.run; start = c.at-reader.ensures.mcu; run' = e.run; mcu = e.mcu; read = e.taken.1; ended = e.ended }

pub returns-clause-at : goal.returns-clause-at
returns-clause-at c =
    let next = c.requires.at.next c.in-Some.from c.in-Some.is in
    let e = c.place_after-self.ensures in
    after c.args.interval (valid c) c.args.self.now.mcu c.min-mcus.result c.take_all-whole.result c.in-Some.from next.0 next.1 (few c) c.take_all-whole.ensures.few c.take_all-whole.ensures.taken.0
    c.at-reader.result c.take_all-whole.new.reader (on c) c.place_after-self.result e.place e.can e.none

pub returns-clause-stuck : goal.returns-clause-stuck
returns-clause-stuck c = λ lt more. c.place_after-self.ensures.short (omega (arith, asked c, lt, more, c.take_all-whole.ensures.few))

pub returns-clause-none : goal.returns-clause-none
returns-clause-none c = λ none. let z = sym none ∙ c.in-Some.is in cc

pub returns-clause-some : goal.returns-clause-some
returns-clause-some c = λ from is.
    let same : c.in-Some.from ≡ from = let two = sym c.in-Some.is ∙ is in cc in
    let next = c.requires.at.next c.in-Some.from c.in-Some.is in
    let e = c.place_after-self.ensures in
    let took = takes c.args.interval (valid c) c.args.self.now.mcu c.min-mcus.result c.take_all-whole.result c.in-Some.from next.0 next.1 (few c) c.take_all-whole.ensures.few c.take_all-whole.ensures.taken.0
    c.at-reader.result c.take_all-whole.new.reader (on c) c.place_after-self.result e.place e.can e.none c.args.most (asked c) in
    let per : per_mcu c.at-reader.result ≡ length (order_of c.args.interval.head) = ap (λ (o : RunOf). length (order_of o.interval.head)) c.at-reader.ensures.run in (
      c.take_all-whole.ensures.taken.0,
      subst (λ (p : Place). TakesMcus c.args.interval c.args.self.now.mcu p c.args.most c.take_all-whole.result c.take_all-whole.ensures.taken.0 c.place_after-self.result) same took,
      λ t. ap (λ (n : ℕ). take (c.take_all-whole.result * n) c.take_all-whole.new.blocks) (sym per) ∙ c.take_all-whole.ensures.taken.2 t,
    )

pub at-reader-requires-clause-within : goal.at-reader-requires-clause-within
at-reader-requires-clause-within c = (c.requires.at.next c.in-Some.from c.in-Some.is).1.can.0

pub at-reader-requires-clause-in_range : goal.at-reader-requires-clause-in_range
at-reader-requires-clause-in_range c = (c.requires.at.next c.in-Some.from c.in-Some.is).1.can.1

pub take_all-whole-requires-clause-space : goal.take_all-whole-requires-clause-space
take_all-whole-requires-clause-space c = λ t.
    let per : per_mcu c.at-reader.result ≡ length (order_of c.args.interval.head) = ap (λ (o : RunOf). length (order_of o.interval.head)) c.at-reader.ensures.run in
    let fits : c.min-mcus.result * length (order_of c.args.interval.head) ≤ c.args.most * length (order_of c.args.interval.head) = mul-le-mul_right (length (order_of c.args.interval.head)) (omega (arith, c.min-mcus.ensures)) in
    let same = ap (λ (n : ℕ). c.min-mcus.result * n) per in
    omega (arith, c.requires.space t, fits, same)

pub take_all-whole-requires-clause-valid : goal.take_all-whole-requires-clause-valid
take_all-whole-requires-clause-valid c = subst (λ (o : RunOf). IsValid o.interval.head) (sym c.at-reader.ensures.run) (subst IsValid c.head-valid.ensures.value c.head-valid.ensures.valid)
