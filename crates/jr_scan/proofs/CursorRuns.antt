-- Runs of an interval that follow one another, and the prefixes that they are.
use Rattle.std.proofs.Common.{◌≡◌, ℕ, zero, suc, ◌+◌, ◌-◌, ◌*◌, ◌<◌, ◌≤◌, min, inl, inr, Option, Some, None, List, [], ◌++◌, length, take, drop, refl, sym, ap, subst, ◌∙◌, arith}
use Rattle.std.specs.Prelude.{ℤ}
use Rattle.std.specs.List.{All}
use Rattle.std.proofs.lemmas.Bool.{cases_lt}
use Rattle.std.proofs.Math.Seq.{drop-append_seam, take-append_seam}
use Rattle.jr_head.specs.Geometry.{order_of, IsValid}
use Rattle.jr_scan.specs.declared.place.Place.{Place}
use Rattle.jr_scan.specs.declared.place.RunEnd.{RunEnd}
use Rattle.jr_scan.specs.declared.place.RunEnd.TheVariants.{AllRead, NoMcu}
use Rattle.jr_mcu.specs.Block.{IsInDcRange}
use Rattle.jr_scan.specs.IntervalValue.{IntervalValue}
use Rattle.jr_scan.specs.Mcus.{Front, LongestFront, AreBlocks}
use Rattle.jr_mcu.specs.Mcus.{no_predictions}
use Rattle.jr_scan.specs.Run.{RunOf, start_of_interval, run_from, HasNoMcu, IsRun, RunRead, CanReadFrom, FirstMcus, IsNext}
use Rattle.jr_scan.specs.McuReader.{McuReaderValue, HasRead, HasEnded}
use Rattle.jr_mcu.proofs.McuLaws.{no_blocks}
use Rattle.jr_scan.proofs.McuReaders.{front_of_run, run_of_front}
use Rattle.jr_scan.specs.Cursors.{IsPlaceAfter, TakesMcus}
use Rattle.jr_scan.proofs.ScanLaws.{OneRun, RunsMeet, ShorterFront}

-- a list begins with the slice that was written over its first elements
pub written : (n : ℕ) (xs ys : List (List ℤ)) → length xs ≡ n → take n (xs ++ ys) ≡ xs
written n xs ys e = ap (λ (k : ℕ). take k (xs ++ ys)) (sym e) ∙ take-append_seam xs ys

-- what a reader of whole MCUs has read or skipped, if it had read nothing of a run starting at this position
module _ (r r' : McuReaderValue) (j i : IntervalValue) (from : Place) (m n : ℕ) (ys : List (List ℤ)) (same : j ≡ i) (run : r.run ≡ run_from j from m) (start : r.mcu ≡ 0) (run' : r'.run ≡ r.run) (mcu : r'.mcu ≡ r.mcu + n)
    (read : HasRead r' ys) where
  its_run : r'.run ≡ run_from i from m
  its_run = run' ∙ run ∙ ap (λ (v : IntervalValue). run_from v from m) same

  pub passed_place : IsRun (run_from i from n) ys r'.place AllRead
  passed_place =
      let count : r'.mcu ≡ n = omega (arith, mcu, start) in
      let s = subst (λ (o : RunOf). IsRun (run_from o.interval o.from r'.mcu) ys r'.place AllRead) its_run read.run in
      subst (λ (k : ℕ). IsRun (run_from i from k) ys r'.place AllRead) count s

  none_follows : HasEnded r' → n < m → HasNoMcu i r'.place
  none_follows ended lt = elim ended [
    | inl full ↦ absurd (omega (arith, full, mcu, start, lt, ap (λ (o : RunOf). o.mcus) its_run))
    | inr stuck ↦ subst (λ (o : RunOf). HasNoMcu o.interval r'.place) its_run stuck
  ]

  pub passed_part : (n < m → HasEnded r') → FirstMcus (run_from i from m) n ys
  passed_part ended = record { to = r'.place; run = passed_place; none = λ lt. none_follows (ended lt) lt }

abbrev read : (r : RunOf) (zs : List (List ℤ)) (to : Place) (end : RunEnd) → IsRun r zs to end → RunRead r
read r zs to end is = record { blocks = zs; to = to; end = end; is = is }

-- a reader that has ended has read the blocks of its run, if this has all its MCUs
pub all_read : OneRun → (r : McuReaderValue) (zs ys : List (List ℤ)) (to : Place) → IsValid r.run.interval.head → IsRun r.run ys to AllRead → HasRead r zs → HasEnded r → zs ≡ ys
all_read one r zs ys to valid run has ended =
    let s = has.run in
    let count : s.count ≡ r.mcu = s.ends in
    elim (cases_lt r.mcu r.run.mcus) [
      | inl lt ↦ elim ended [
        | inl full ↦ absurd (omega (arith, full, lt))
        | inr none ↦
            let here : IsRun r.run zs r.place NoMcu = record { count = s.count; few = omega (arith, count, lt); taken = s.taken; mcus = s.mcus; spelled = s.spelled; bit = s.bit; predictions = s.predictions; ends = (omega (arith, count, lt), none) } in
            let e : NoMcu ≡ AllRead = (one r.run (read r.run zs r.place NoMcu here) (read r.run ys to AllRead run) valid).2 in
            absurd (let z : NoMcu ≡ AllRead = e in cc)
      ]
      | inr ge ↦
          let here : IsRun r.run zs r.place AllRead = record { count = s.count; few = omega (arith, count, has.few); taken = s.taken; mcus = s.mcus; spelled = s.spelled; bit = s.bit; predictions = s.predictions; ends = omega (arith, count, ge, has.few) } in
          (one r.run (read r.run zs r.place AllRead here) (read r.run ys to AllRead run) valid).0
    ]

-- if no whole MCU follows, the prefix is the longest
stuck : OneRun → ShorterFront → (i : IntervalValue) (k : ℕ) (zs : List (List ℤ)) (to : Place) → IsValid i.head → IsRun (run_from i start_of_interval k) zs to AllRead → HasNoMcu i to → k ≤ i.mcus → LongestFront i k zs
stuck one shorter i k zs to valid r none few = record { front = front_of_run i k zs to r few; longest = λ j ys f. most j ys f }
  where
    most : (j : ℕ) (ys : List (List ℤ)) → Front i j ys → j ≤ k
    most j ys f = elim (cases_lt k j) [
      | inr g ↦ g
      | inl l ↦
          let there = run_of_front i (k + 1) (take ((k + 1) * length (order_of i.head)) ys) (shorter i (k + 1) j ys (omega arith) f) in
          let count : r.count ≡ k = r.ends in
          let here : IsRun (run_from i start_of_interval (k + 1)) zs to NoMcu = record { count = r.count; few = omega (arith, count); taken = r.taken; mcus = r.mcus; spelled = r.spelled; bit = r.bit; predictions = r.predictions; ends = (omega (arith, count), none) } in
          let more = run_from i start_of_interval (k + 1) in
          let e : NoMcu ≡ AllRead = (one more (read more zs to NoMcu here) (read more _ there.0 AllRead there.1) valid).2 in
          absurd (let z : NoMcu ≡ AllRead = e in cc)
    ]

-- all MCUs are the longest prefix
pub whole : (i : IntervalValue) (k : ℕ) (zs : List (List ℤ)) → Front i k zs → k ≡ i.mcus → LongestFront i k zs
whole i k zs f e = record { front = f; longest = λ j ys g. omega (arith, g.at_most, e) }

-- nothing is read at the start
start_in_range : All IsInDcRange no_predictions
start_in_range zero d lt = (omega arith, omega arith)
start_in_range (suc zero) d lt = (omega arith, omega arith)
start_in_range (suc (suc zero)) d lt = (omega arith, omega arith)
start_in_range (suc (suc (suc k))) d lt = absurd (omega arith)

pub at_start : (i : IntervalValue) → IsPlaceAfter i 0 (Some start_of_interval)
at_start i = record {
  few = omega arith;
  next = λ p e.
      let same : start_of_interval ≡ p = cc in (
        [],
        subst (IsNext i 0 []) same (record {
          run = record { count = 0; few = omega arith; taken = []; mcus = (omega arith, no_blocks i.head no_predictions); spelled = refl; bit = refl; predictions = refl; ends = refl };
          can = (omega arith, start_in_range);
        }),
      );
  none = λ e. let z : Some start_of_interval ≡ None = e in cc;
}

-- the first MCUs of an interval, and those of the run after them
module _ (one : OneRun) (meet : RunsMeet) (shorter : ShorterFront) (i : IntervalValue) (valid : IsValid i.head) (first : ℕ) (zs : List (List ℤ)) (p : Place) (next : IsNext i first zs p) (n m : ℕ) (ys : List (List ℤ)) (here : FirstMcus (run_from i p m) n ys) (few : first + n ≤ i.mcus) where
  joined : IsRun (run_from i start_of_interval (first + n)) (zs ++ ys) here.to AllRead
  joined = meet i start_of_interval first n (read _ zs p AllRead next.run) (read _ ys here.to AllRead here.run) valid refl

  pub front : Front i (first + n) (zs ++ ys)
  front = front_of_run i (first + n) (zs ++ ys) here.to joined few

  pub blocks : AreBlocks i first n ys
  blocks =
      let long : length zs ≡ first * length (order_of i.head) = next.run.mcus.0 ∙ ap (λ (k : ℕ). k * length (order_of i.head)) next.run.ends in
      record { all = zs ++ ys; front = front; last = sym (ap (λ (k : ℕ). drop k (zs ++ ys)) (sym long) ∙ drop-append_seam zs ys) }

  pub longest : n < m → LongestFront i (first + n) (zs ++ ys)
  longest lt = stuck one shorter i (first + n) (zs ++ ys) here.to valid joined (here.none lt) few

  pub going : (q : Place) → IsRun (run_from i p n) ys q AllRead → CanReadFrom i q → IsNext i (first + n) (zs ++ ys) q
  going q r can = record { run = meet i start_of_interval first n (read _ zs p AllRead next.run) (read _ ys q AllRead r) valid refl; can = can }

  -- the next position is this one, or no further MCU is whole
  pub after : (q : Option Place) → first + m ≤ i.mcus → ((x : Place) → q ≡ Some x → IsRun (run_from i p n) ys x AllRead) → ((x : Place) → q ≡ Some x → CanReadFrom i x) → (q ≡ None → n < m) → IsPlaceAfter i (first + n) q
  after q space there can none = record {
    few = few;
    next = λ x e. (zs ++ ys, going x (there x e) (can x e));
    none = λ e. let lt = none e in (first + n, zs ++ ys, omega arith, omega (arith, lt, space), longest lt);
  }

  -- fewer than are asked for are taken only if no further one follows
  pub takes : (most : ℕ) → m ≡ min most (i.mcus - first) → (q : Option Place) → (q ≡ None → n < m) → TakesMcus i first p most n ys q
  takes most asked q none = record {
    are = blocks;
    to = here.to;
    run = here.run;
    last = λ lt. elim (cases_lt n m) [
      | inl l ↦ (zs ++ ys, longest l)
      | inr g ↦ (zs ++ ys, whole i (first + n) (zs ++ ys) front (omega (arith, few, g, asked, lt)))
    ];
    none = λ e. (zs ++ ys, longest (none e));
  }
