-- How a cursor moves over the MCUs of an interval.
use Rattle.std.proofs.Common.{◌≡◌, ℕ, ◌+◌, ◌-◌, ◌*◌, ◌<◌, ◌≤◌, min, Bool, true, false, inl, inr, Option, Some, None, List, [], length, length-append, get_or, take, refl, sym, ap, subst, ◌∙◌, arith}
use Rattle.std.specs.Prelude.{ℤ}
use Rattle.std.proofs.lemmas.Bool.{cases_lt}
use Rattle.std.proofs.lemmas.List.{get_or-drop, get_or-take, get_or_default, get_or_past}
use Rattle.std.proofs.Math.Nat.{add-mul, mul-le-mul_right}
use Rattle.jr_head.specs.Geometry.{IsValid, order_of}
use Rattle.jr_scan.specs.declared.place.Place.{Place}
use Rattle.jr_scan.specs.declared.place.RunEnd.TheVariants.{AllRead}
use Rattle.jr_scan.specs.IntervalValue.{IntervalValue}
use Rattle.jr_scan.specs.Mcus.{Decodes, Front, HasDecoding, HasLongestFront, HasNoDecoding, LongestFront, ReportsSound, units_before}
use Rattle.jr_scan.specs.McuReader.{HasEnded, HasRead, McuReaderValue}
use Rattle.jr_scan.specs.Run.{IsRun, RunOf, left_at, run_from, start_of_interval, whole_run, CanReadFrom, FirstMcus, IsNext}
use Rattle.jr_scan.proofs.McuReaders.{left_is, no_space}
use Rattle.jr_scan.specs.Cursors.{IsPlaceAfter, TakesMcus, zero_block}
use Rattle.jr_scan.proofs.ScanLaws as laws
use Rattle.jr_scan.proofs.CursorRuns as runs
use Rattle.jr_scan.proofs.LongestFronts.{whole_longest}

-- what a reader has taken of at most m MCUs starting at a position
pub record GoesOn (i : IntervalValue) (p : Place) (m n : ℕ) (ys : List (List ℤ)) (r r' : McuReaderValue) : Type 0 where
  pub run : r.run ≡ run_from i p m
  pub start : r.mcu ≡ 0
  pub run' : r'.run ≡ r.run
  pub mcu : r'.mcu ≡ r.mcu + n
  pub read : HasRead r' ys
  pub ended : n < m → HasEnded r'

-- the MCUs that are taken starting at a position, and the next position
module _ (i : IntervalValue) (valid : IsValid i.head) (first m n : ℕ) (p : Place) (zs : List (List ℤ)) (next : IsNext i first zs p) (few : first + m ≤ i.mcus) (most : n ≤ m) (ys : List (List ℤ)) (r r' : McuReaderValue) (on : GoesOn i p m n ys r r')
    (q : Option Place) (there : (x : Place) → q ≡ Some x → x ≡ r'.place) (can : (x : Place) → q ≡ Some x → CanReadFrom r'.run.interval x) (none : q ≡ None → n < m) where
  here : FirstMcus (run_from i p m) n ys
  here = runs.passed_part r r' i i p m n ys refl on.run on.start on.run' on.mcu on.read on.ended

  fewer : first + n ≤ i.mcus
  fewer = omega (arith, few, most)

  pub after : IsPlaceAfter i (first + n) q
  after =
      let run = runs.passed_place r r' i i p m n ys refl on.run on.start on.run' on.mcu on.read in
      let own : r'.run.interval ≡ i = ap (λ (o : RunOf). o.interval) (on.run' ∙ on.run) in
      runs.after laws.one_run laws.runs_meet laws.shorter_front i valid first zs p next n m ys here fewer q few
      (λ x e. subst (λ (y : Place). IsRun (run_from i p n) ys y AllRead) (sym (there x e)) run) (λ x e. subst (λ (v : IntervalValue). CanReadFrom v x) own (can x e)) none

  pub takes : (all : ℕ) → m ≡ min all (i.mcus - first) → TakesMcus i first p all n ys q
  takes all asked = runs.takes laws.one_run laws.runs_meet laws.shorter_front i valid first zs p next n m ys here fewer all asked q none

-- no more are taken where the bits can code no more
pub takes_all : (i : IntervalValue) → IsValid i.head → (first : ℕ) (p : Place) (zs : List (List ℤ)) → IsNext i first zs p → (most m coded n : ℕ) (ys : List (List ℤ)) (q : Option Place) → m ≡ min most (i.mcus - first) → n ≤ coded
    → ((k : ℕ) (xs : List (List ℤ)) (to : Place) → IsRun (run_from i p k) xs to AllRead → k ≤ m → k ≤ coded) → TakesMcus i first p coded n ys q → TakesMcus i first p most n ys q
takes_all i valid first p zs next most m coded n ys q asked few enough t =
    record {
      are = t.are;
      to = t.to;
      run = t.run;
      last = λ lt. elim (cases_lt n coded) [
        | inl less ↦ t.last less
        | inr full ↦ elim (cases_lt n m) [
          | inl more ↦
              let within : t.to.bit ≤ 8 * length i.bytes = omega (arith, next.can.0, t.run.bit, ap length t.run.spelled, length-append t.run.taken (left_at i t.to), left_is i p) in
              let none = no_space i p t.to n m coded ys valid within t.run enough full more in
              (_, runs.longest laws.one_run laws.runs_meet laws.shorter_front i valid first zs p next n m ys (record { to = t.to; run = t.run; none = λ less. none }) t.are.front.at_most more)
          | inr all ↦ (t.are.all, runs.whole i (first + n) t.are.all t.are.front (omega (arith, t.are.front.at_most, all, asked, lt)))
        ]
      ];
      none = t.none;
    }

-- n of `mcus` MCUs after the first of an interval are taken, and the others are grey
module _ (i : IntervalValue) (first mcus n m : ℕ) (q : Option Place) (is : m ≡ first + n) (at : IsPlaceAfter i m q) (few : first + mcus ≤ i.mcus) (le : n ≤ mcus) (stuck : n < mcus → m < i.mcus → q ≡ None) where
  pub onward : IsPlaceAfter i (m + (mcus - n)) q
  onward = elim (cases_lt n mcus) [
    | inl lt ↦
        let none : q ≡ None = stuck lt (omega (arith, is, few, lt)) in
        let far = at.none none in
        record {
          few = omega (arith, is, few, le);
          next = λ p e. let z : Some p ≡ None = sym e ∙ none in cc;
          none = λ e. (far.0, far.1, omega (arith, far.2), far.3, far.4);
        }
    | inr all ↦ subst (λ (k : ℕ). IsPlaceAfter i k q) (omega (arith, le, all)) at
  ]

  -- blocks of which those after the whole MCUs are zeros are the interval's
  module _ (place : Option Place) (new us : List (List ℤ)) (nothing : place ≡ None → n ≡ 0) (long : length us ≡ mcus * length (order_of i.head))
      (some : (p : Place) → place ≡ Some p → (ys : List (List ℤ)) × TakesMcus i first p mcus n ys q × (true ≡ true → take (n * length (order_of i.head)) new ≡ ys))
      (kept : (k : ℕ) → k < n * length (order_of i.head) → get_or us k [] ≡ get_or new k []) (zeros : (k : ℕ) → n * length (order_of i.head) ≤ k → k < length us → get_or us k [] ≡ zero_block)
      (front : ℕ) (zs : List (List ℤ)) (longest : LongestFront i front zs) where
    abbrev per : ℕ
    per = length (order_of i.head)

    whole : (k : ℕ) → k < n * per → get_or us k [] ≡ get_or zs (first * per + k) zero_block
    whole k lt = go place refl
      where
        go : (p : Option Place) → place ≡ p → get_or us k [] ≡ get_or zs (first * per + k) zero_block
        go None none = let zero : n * per ≡ 0 * per = ap (λ (j : ℕ). j * per) (nothing none) in absurd (omega (arith, zero, lt))
        go (Some p) there =
            let t = some p there in
            let are = t.1.are in
            let j = first * per + k in
            let far : first + n ≤ front = longest.longest (first + n) are.all are.front in
            let most : (first + n) * per ≤ front * per = mul-le-mul_right per far in
            let within : j < (first + n) * per = omega (arith, lt, add-mul first n per) in
            let e : take ((first + n) * per) zs ≡ are.all = laws.one_front i (first + n) (take ((first + n) * per) zs) are.all (laws.shorter_front i (first + n) front zs far longest.front) are.front in
            kept k lt ∙ sym (get_or-take (n * per) new k [] lt) ∙ ap (λ (l : List (List ℤ)). get_or l k []) (t.2 refl ∙ are.last) ∙ get_or-drop (first * per) are.all k []
            ∙ ap (λ (l : List (List ℤ)). get_or l j []) (sym e) ∙ get_or-take ((first + n) * per) zs j [] within
            ∙ get_or_default zs j [] zero_block (omega (arith, within, most, longest.front.mcus.0))

    rest : (k : ℕ) → n * per ≤ k → k < length us → get_or us k [] ≡ get_or zs (first * per + k) zero_block
    rest k ge lt =
        let less : n < mcus = elim (cases_lt n mcus) [
          | inl l ↦ l
          | inr all ↦ let past : mcus * per ≤ n * per = mul-le-mul_right {m = mcus} {n = n} per all in absurd (omega (arith, past, ge, lt, long))
        ] in
        let far = at.none (stuck less (omega (arith, is, few, less))) in
        let le : front ≤ first + n = omega (arith, far.4.longest front zs longest.front, far.2, is) in
        let past : front * per ≤ (first + n) * per = mul-le-mul_right {m = front} {n = first + n} per le in
        zeros k ge lt ∙ sym (get_or_past zs (first * per + k) zero_block (omega (arith, past, ge, longest.front.mcus.0, add-mul first n per)))

    pub reads : (k : ℕ) → k < length us → get_or us k [] ≡ get_or zs (units_before i first + k) zero_block
    reads k lt = elim (cases_lt k (n * per)) [
      | inl l ↦ whole k l
      | inr g ↦ rest k g lt
    ]

-- an interval has no decoding if its longest prefix is not all of it
pub cut_short : (i : IntervalValue) (front : ℕ) → front < i.mcus → HasLongestFront i front → HasNoDecoding i
cut_short i front less longest ys d = let le = longest.1.longest i.mcus ys (whole_longest i ys d).front in omega (arith, le, less)

-- the blocks of all its MCUs are its decoding if it has one
pub all_decode : (i : IntervalValue) (first : ℕ) (zs : List (List ℤ)) → first ≡ i.mcus → HasDecoding i → Front i first zs → Decodes i zs
all_decode i first zs all d front = subst (Decodes i) (laws.one_front i i.mcus d.0 zs (whole_longest i d.0 d.1).front (subst (λ (k : ℕ). Front i k zs) all front)) d.1

-- if all MCUs are whole the interval has a decoding, provided that fewer than eight bits are left
module _ (i : IntervalValue) (valid : IsValid i.head) (mcu : ℕ) (place : Option Place) (at : IsPlaceAfter i mcu place) (p : Place) (is : place ≡ Some p) (all : mcu ≡ i.mcus) where
  abbrev blocks : List (List ℤ)
  blocks = (at.next p is).0

  mine : IsRun (whole_run i) blocks p AllRead
  mine = subst (λ (m : ℕ). IsRun (run_from i start_of_interval m) blocks p AllRead) all (at.next p is).1.run

  pub sound_there : 8 * length i.bytes - p.bit < 8 → Decodes i blocks
  sound_there few = (laws.whole_run i blocks).1 (p, mine, omega (arith, left_is i p, few))

  pub bits_there : (8 * length i.bytes - p.bit < 8 → ⊥) → HasNoDecoding i
  bits_there many ys d =
      let w = (laws.whole_run i ys).0 d in
      let to = w.0 in
      let few = w.2 in
      let same : p ≡ to = (laws.one_run (whole_run i) (record { blocks = blocks; to = p; end = AllRead; is = mine }) (record { blocks = ys; to = to; end = AllRead; is = w.1 }) valid).1 in
      many (omega (arith, left_is i p, ap (λ (x : Place). length (left_at i x)) same, few))

  pub reports_there : (b : Bool) → (b ≡ true → 8 * length i.bytes - p.bit < 8) → (b ≡ false → 8 * length i.bytes - p.bit < 8 → ⊥) → ReportsSound b i
  reports_there true few many = (blocks, sound_there (few refl))
  reports_there false few many = bits_there (many refl)
