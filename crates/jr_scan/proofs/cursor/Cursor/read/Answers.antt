use Rattle.std.proofs.Common.{rules, arith, refl, inr, sym, subst, ap, ◌∙◌, ◌≡◌, ℕ, ◌+◌, ◌-◌, ◌*◌, ◌<◌, ◌≤◌, le_refl, None, List, [], length, take}
use Rattle.std.specs.Prelude.{ℤ}
use Rattle.std.proofs.Math.Nat.{mul-le-mul_right}
use Rattle.std.proofs.lemmas.Nat.{mul-le}
use Rattle.jr_head.specs.HeadValue.{HeadValue}
use Rattle.jr_head.specs.Geometry.{IsValid, order_of}
use Rattle.jr_scan.specs.Speculations.{AreSpeculationsOf}
use Rattle.jr_scan.specs.McuReader.{HasEnded, HasRead, McuReaderValue, per_mcu}
use Rattle.jr_scan.specs.Run.{RunOf}
use Rattle.jr_scan.proofs.McuReaders.{read_on}
use Rattle.jr_scan.specs.Cursors.{IsPlaceAfter, TakesMcus}
use Rattle.jr_scan.proofs.CursorSteps.{GoesOn, after, onward, reads, takes}
use Rattle.jr_scan.proofs.cursor.Cursor.read.Goals as goal
use Rattle.jr_scan.proofs.cursor.Cursor.read.Goals.{in-Some-speculations, in-None}

abbrev Taken : Type 0
Taken = goal.After-blocks-2-1

per_is : (c : Taken) → per_mcu c.at-reader.result ≡ length (order_of c.args.interval.head)
per_is c = ap (λ (o : RunOf). length (order_of o.interval.head)) c.at-reader.ensures.run

len_is : (c : Taken) → length c.order-per_mcu.result.now ≡ length (order_of c.args.interval.head)
len_is c = search rules

valid : (c : Taken) → IsValid c.args.interval.head
valid c = subst IsValid c.head.ensures.value c.head.ensures.valid

-- the blocks of a further MCU have space if fewer are taken than there is space for
one_more : (n mcus per own long : ℕ) → n < mcus → per ≡ own → long ≡ mcus * own → (n + 1) * per ≤ long
one_more n mcus per own long lt e space =
    let more : (n + 1) * own ≤ mcus * own = mul-le-mul_right {m = n + 1} {n = mcus} own (omega (arith, lt)) in
    let same = ap (λ (k : ℕ). (n + 1) * k) e in
    omega (arith, more, space, same)

most_of : (r r' : McuReaderValue) (o : RunOf) (n : ℕ) → r.run ≡ o → r.mcu ≡ 0 → r'.run ≡ r.run → r'.mcu ≡ r.mcu + n → r'.mcu ≤ r'.run.mcus → n ≤ o.mcus
most_of r r' o n run start on mcu few = let same = ap (λ (q : RunOf). q.mcus) (on ∙ run) in omega (arith, start, mcu, few, same)

-- what the reader has done, whichever way it read
pub record Done (r r' : McuReaderValue) (n mcus : ℕ) (blocks : List (List ℤ)) : Type 0 where
  pub run : r'.run ≡ r.run
  pub mcu : r'.mcu ≡ r.mcu + n
  pub few : n ≤ mcus
  pub read : HasRead r' (take (n * per_mcu r) blocks)
  pub ended : n < mcus → HasEnded r'

done : (c : Taken) → Done c.at-reader.result c.match-speculations.reader c.match-speculations.whole c.args.mcus c.match-speculations.blocks
done c =
    let r = c.at-reader.result in
    elim c.match-speculations.branch [
      | in-Some-speculations w ↦
          let e = w.read_by-whole.ensures in
          let here : Done r w.read_by-whole.new.self w.read_by-whole.result c.args.mcus w.read_by-whole.new.blocks = record {
            run = e.run;
            mcu = e.mcus;
            few = most_of r w.read_by-whole.new.self _ w.read_by-whole.result c.at-reader.ensures.run c.at-reader.ensures.mcu e.run e.mcus e.few;
            read = e.read [] c.at-reader.ensures.read;
            ended = λ lt. e.ended (one_more w.read_by-whole.result c.args.mcus (per_mcu r) _ (length w.read_by-whole.new.blocks) lt (per_is c) (w.read_by-whole.auto.blocks ∙ c.requires.space));
          } in
          subst (λ (x : McuReaderValue). Done r x c.match-speculations.whole c.args.mcus c.match-speculations.blocks) (sym w.reader-is)
          (subst (λ (k : ℕ). Done r w.read_by-whole.new.self k c.args.mcus c.match-speculations.blocks) (sym w.whole-is)
          (subst (λ (l : List (List ℤ)). Done r w.read_by-whole.new.self w.read_by-whole.result c.args.mcus l) (sym w.blocks-is) here))
      | in-None w ↦
          let e = w.take_mcus-whole.ensures in
          let law : IsValid r.run.interval.head = subst (λ (o : RunOf). IsValid o.interval.head) (sym c.at-reader.ensures.run) (valid c) in
          let here : Done r w.take_mcus-whole.new.self w.take_mcus-whole.result c.args.mcus w.take_mcus-whole.new.blocks = record {
            run = e.run;
            mcu = e.mcus;
            few = e.most;
            read = subst (HasRead w.take_mcus-whole.new.self) (sym (e.taken.2 refl)) (read_on r w.take_mcus-whole.new.self w.take_mcus-whole.result [] e.taken.0 law e.run e.mcus e.few e.taken.1 c.at-reader.ensures.read);
            ended = λ lt. inr (e.ended lt);
          } in
          subst (λ (x : McuReaderValue). Done r x c.match-speculations.whole c.args.mcus c.match-speculations.blocks) (sym w.reader-is)
          (subst (λ (k : ℕ). Done r w.take_mcus-whole.new.self k c.args.mcus c.match-speculations.blocks) (sym w.whole-is)
          (subst (λ (l : List (List ℤ)). Done r w.take_mcus-whole.new.self w.take_mcus-whole.result c.args.mcus l) (sym w.blocks-is) here))
    ]

abbrev blocks : (c : Taken) → List (List ℤ)
blocks c = take (c.match-speculations.whole * per_mcu c.at-reader.result) c.match-speculations.blocks

on : (c : Taken) → GoesOn c.args.interval c.in-Some.from c.args.mcus c.match-speculations.whole (blocks c) c.at-reader.result c.match-speculations.reader
on c = let d = done c in record { run = c.at-reader.ensures.run; start = c.at-reader.ensures.mcu; run' = d.run; mcu = d.mcu; read = d.read; ended = d.ended }

-- the position after the whole MCUs
whole_at : (c : Taken) → IsPlaceAfter c.args.interval (c.args.self.now.mcu + c.match-speculations.whole) c.place_after-self.result
whole_at c =
    let next = c.requires.at.next c.in-Some.from c.in-Some.is in
    let e = c.place_after-self.ensures in
    after c.args.interval (valid c) c.args.self.now.mcu c.args.mcus c.match-speculations.whole c.in-Some.from next.0 next.1 c.requires.few (done c).few (blocks c) c.at-reader.result c.match-speculations.reader (on c)
    c.place_after-self.result e.place e.can e.none

stuck : (c : Taken) → c.match-speculations.whole < c.args.mcus → c.args.self.now.mcu + c.match-speculations.whole < c.args.interval.mcus → c.place_after-self.result ≡ None
stuck c lt more = c.place_after-self.ensures.short lt

pub returns-clause-at : goal.returns-clause-at
returns-clause-at c =
    let few = (done c).few in
    let far = onward c.args.interval c.args.self.now.mcu c.args.mcus c.match-speculations.whole (c.args.self.now.mcu + c.match-speculations.whole) c.place_after-self.result refl (whole_at c) c.requires.few few (stuck c) in
    let all : c.args.self.now.mcu + c.match-speculations.whole + (c.args.mcus - c.match-speculations.whole) ≡ c.args.self.now.mcu + c.args.mcus = omega (arith, few) in
    subst (λ (k : ℕ). IsPlaceAfter c.args.interval k c.place_after-self.result) all far

pub returns-clause-blocks : goal.returns-clause-blocks
returns-clause-blocks c = λ front zs longest.
    let n = c.match-speculations.whole in
    let new = c.match-speculations.blocks in
    let us = c.zero_from-2.new.blocks in
    let per = length (order_of c.args.interval.head) in
    let first : n * length c.order-per_mcu.result.now ≡ n * per = ap (λ (k : ℕ). n * k) (len_is c) in
    let long : length us ≡ c.args.mcus * per = c.zero_from-2.auto.blocks ∙ c.match-speculations.auto.blocks ∙ c.requires.space in
    let next = c.requires.at.next c.in-Some.from c.in-Some.is in
    let q = c.place_after-self.ensures in
    reads c.args.interval c.args.self.now.mcu c.args.mcus n (c.args.self.now.mcu + n) c.place_after-self.result refl (whole_at c) c.requires.few (done c).few (stuck c)
    c.args.self.now.place new us (λ none. let z = sym none ∙ c.in-Some.is in absurd cc) long
    (λ p there.
    let same : c.in-Some.from ≡ p = let two = sym c.in-Some.is ∙ there in cc in
    let took = takes c.args.interval (valid c) c.args.self.now.mcu c.args.mcus n c.in-Some.from next.0 next.1 c.requires.few (done c).few (blocks c) c.at-reader.result c.match-speculations.reader (on c)
    c.place_after-self.result q.place q.can q.none c.args.mcus (omega (arith, c.requires.few)) in
    (blocks c, subst (λ x. TakesMcus c.args.interval c.args.self.now.mcu x c.args.mcus n (blocks c) c.place_after-self.result) same took, λ t. ap (λ (k : ℕ). take (n * k) new) (sym (per_is c))))
    (λ k lt. c.zero_from-2.ensures.kept k (omega (arith, lt, first))) (λ k ge lt. c.zero_from-2.ensures.zeros k (omega (arith, ge, first)) lt) front zs longest

pub returns-in_default-clause-at : goal.returns-in_default-clause-at
returns-in_default-clause-at c =
    let none = c.in_default.is in
    let far = onward c.args.interval c.args.self.now.mcu c.args.mcus 0 c.args.self.now.mcu c.args.self.now.place (omega arith) c.requires.at c.requires.few (omega arith) (λ lt more. none) in
    let all : c.args.self.now.mcu + (c.args.mcus - 0) ≡ c.args.self.now.mcu + c.args.mcus = omega arith in
    subst (λ (k : ℕ). IsPlaceAfter c.args.interval k c.args.self.now.place) all far

pub returns-in_default-clause-blocks : goal.returns-in_default-clause-blocks
returns-in_default-clause-blocks c = λ front zs longest.
    let none = c.in_default.is in
    let us = c.zero_from.new.blocks in
    reads c.args.interval c.args.self.now.mcu c.args.mcus 0 c.args.self.now.mcu c.args.self.now.place (omega arith) c.requires.at c.requires.few (omega arith) (λ lt more. none)
    c.args.self.now.place us us (λ n. refl) (c.zero_from.auto.blocks ∙ c.requires.space) (λ p there. let z = sym none ∙ there in absurd cc)
    (λ k lt. refl) (λ k ge lt. c.zero_from.ensures.zeros k (omega arith) lt) front zs longest

pub at-reader-requires-clause-within : goal.at-reader-requires-clause-within
at-reader-requires-clause-within c = (c.requires.at.next c.in-Some.from c.in-Some.is).1.can.0

pub at-reader-requires-clause-in_range : goal.at-reader-requires-clause-in_range
at-reader-requires-clause-in_range c = (c.requires.at.next c.in-Some.from c.in-Some.is).1.can.1

fits : (n mcus per own long : ℕ) → n ≤ mcus → per ≡ own → long ≡ mcus * own → n * per ≤ long
fits n mcus per own long le e all =
    let few = mul-le-mul_right {m = n} {n = mcus} own le in
    let same = ap (λ (k : ℕ). n * k) e in
    omega (arith, few, same, all)

pub read_by-whole-requires : goal.read_by-whole-requires
read_by-whole-requires c =
    let own = rw c.in-Some-speculations.is at c.requires.same in
    record { same = subst (λ (o : RunOf). AreSpeculationsOf o.interval c.in-Some-speculations.speculations.now) (sym c.at-reader.ensures.run) own }

pub take_mcus-whole-requires-clause-few : goal.take_mcus-whole-requires-clause-few
take_mcus-whole-requires-clause-few c = omega (arith, c.at-reader.ensures.mcu, ap (λ (o : RunOf). o.mcus) c.at-reader.ensures.run)

pub take_mcus-whole-requires-clause-space : goal.take_mcus-whole-requires-clause-space
take_mcus-whole-requires-clause-space c t =
    let per = ap (λ (o : RunOf). length (order_of o.interval.head)) c.at-reader.ensures.run in
    fits c.args.mcus c.args.mcus _ _ _ (le_refl _) per c.requires.space

pub overflow_mul-whole : goal.overflow_mul-whole
overflow_mul-whole c =
    let most = mul-le c.match-speculations.whole (length c.order-per_mcu.result.now) 4294967295 10 (omega (arith, c.type_inv.whole)) c.order-per_mcu.ensures.few in
    omega (arith, most)

pub zero_from-requires-2 : goal.zero_from-requires-2
zero_from-requires-2 c =
    let per : length c.order-per_mcu.result.now ≡ length (order_of c.args.interval.head) = ap (λ (l : List ℕ). length l) (c.order-per_mcu.ensures.value ∙ ap (λ (h : HeadValue). order_of h) c.head.ensures.value) in
    let few : c.match-speculations.whole ≤ c.args.mcus = elim c.match-speculations.branch [
      | in-Some-speculations w ↦
          let e = w.read_by-whole.ensures in
          subst (λ (k : ℕ). k ≤ c.args.mcus) (sym w.whole-is) (most_of c.at-reader.result w.read_by-whole.new.self _ w.read_by-whole.result c.at-reader.ensures.run c.at-reader.ensures.mcu e.run e.mcus e.few)
      | in-None w ↦ subst (λ (k : ℕ). k ≤ c.args.mcus) (sym w.whole-is) w.take_mcus-whole.ensures.most
    ] in
    fits c.match-speculations.whole c.args.mcus _ _ _ few per (c.match-speculations.auto.blocks ∙ c.requires.space)
