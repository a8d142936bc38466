-- The MCUs of an interval are read one after the other, up to the first doubtful one.
use Rattle.std.proofs.Common.{refl, ◌≡◌, ℕ, ◌+◌, ◌*◌, ◌<◌, ◌≤◌, List, [], ◌++◌, length, take, drop, sym, ap, subst, ◌∙◌, inl, inr, length-drop, arith}
use Rattle.std.specs.Prelude.{ℤ, ◌↔◌, ◌||◌, Bool, true, false, IsTrue, slice_index}
use Rattle.std.proofs.lemmas.Bool.{cases_lt}
use Rattle.std.proofs.lemmas.List.{drop-append-le, take-append-le, take_all}
use Rattle.std.proofs.Math.Nat.{le_of_mul-le-mul_right, mul-le-mul_right}
use Rattle.std.proofs.Math.Seq.{drop-append_seam}
use Rattle.jr_base.specs.Blocks.{at, AreFactors}
use Rattle.jr_base.specs.Zigzag.{natural_index, zigzag_place}
use Rattle.jr_base.proofs.Orders.{natural_below, place_below, place_of_natural}
use Rattle.jr_head.specs.HeadValue.{HeadValue}
use Rattle.jr_head.specs.Geometry.{order_of, IsValid}
use Rattle.jr_mcu.specs.Mcus.{no_predictions, Mcus}
use Rattle.jr_scan.specs.declared.place.RunEnd.TheVariants.{AllRead}
use Rattle.jr_scan.specs.IntervalValue.{IntervalValue}
use Rattle.jr_scan.specs.McuReader.{McuReaderValue, HasRead, HasEnded, HasReadOf}
use Rattle.jr_scan.specs.Run.{RunOf, start_of_interval, whole_run, run_from, left_at, IsRun}
use Rattle.jr_scan.proofs.McuReaders.{longest_read}
use Rattle.jr_damage.specs.Fronts.{FrontTo}
use Rattle.jr_damage.specs.Doubtful.{HasDoubtful, HasNoDoubtful, IsDoubtful, IsDoubtfulMcu, IsFirstDoubtful, NoneDoubtful, mcu_of}

-- ---- what a reader has read is a prefix up to its position

own_run : (r : McuReaderValue) (i : IntervalValue) (zs : List (List ℤ)) → HasReadOf r i zs → IsRun (run_from i start_of_interval r.mcu) zs r.place AllRead
own_run r i zs s = subst (λ (o : RunOf). IsRun (run_from o.interval o.from r.mcu) zs r.place AllRead) s.0 s.1.run

own_few : (r : McuReaderValue) (i : IntervalValue) (zs : List (List ℤ)) → HasReadOf r i zs → r.mcu ≤ i.mcus
own_few r i zs s = omega (arith, s.1.few, ap (λ (o : RunOf). o.mcus) s.0)

own_count : (r : McuReaderValue) (i : IntervalValue) (zs : List (List ℤ)) → HasReadOf r i zs → length zs ≡ r.mcu * length (order_of i.head)
own_count r i zs s =
    let run = own_run r i zs s in
    let count : run.count ≡ r.mcu = run.ends in
    run.mcus.0 ∙ ap (λ (k : ℕ). k * length (order_of i.head)) count

pub front_to : (r : McuReaderValue) (i : IntervalValue) (zs : List (List ℤ)) → HasReadOf r i zs → FrontTo i r.mcu zs r.place.bit
front_to r i zs s =
    let run = own_run r i zs s in
    let count : run.count ≡ r.mcu = run.ends in
    record {
      front = record { at_most = own_few r i zs s; taken = run.taken; rest = left_at i r.place; mcus = subst (λ (n : ℕ). Mcus i.head no_predictions n zs run.taken) count run.mcus; spelled = run.spelled };
      ends = omega (arith, run.bit);
    }

-- ---- one more MCU

module _ (h : HeadValue) (zs ys : List (List ℤ)) (m : ℕ) (long : length zs ≡ m * length (order_of h)) where
  mcu_before : (j : ℕ) → j < m → mcu_of h (zs ++ ys) j ≡ mcu_of h zs j
  mcu_before j lt =
      let per = length (order_of h) in
      let most : (j + 1) * per ≤ m * per = mul-le-mul_right per (omega (arith, lt)) in
      let size : (j + 1) * per ≡ j * per + per = omega arith in
      ap (take per) (drop-append-le (j * per) zs ys (omega (arith, most, size, long)))
      ∙ take-append-le per (drop (j * per) zs) ys (omega (arith, most, size, long, length-drop (j * per) zs))

  mcu_last : length ys ≡ length (order_of h) → mcu_of h (zs ++ ys) m ≡ ys
  mcu_last one =
      ap (λ (k : ℕ). take (length (order_of h)) (drop k (zs ++ ys))) (sym long)
      ∙ ap (take (length (order_of h))) (drop-append_seam zs ys)
      ∙ take_all (length (order_of h)) ys (omega (arith, one))

  none_before : NoneDoubtful h zs m → NoneDoubtful h (zs ++ ys) m
  none_before none j lt is = none j lt (subst (IsDoubtfulMcu h) (mcu_before j lt) is)

  none_more : length ys ≡ length (order_of h) → NoneDoubtful h zs m → (IsDoubtfulMcu h ys → ⊥) → NoneDoubtful h (zs ++ ys) (m + 1)
  none_more one none last j lt is = elim (cases_lt j m) [
    | inl less ↦ none_before none j less is
    | inr not_less ↦
        let here : j ≡ m = omega (arith, lt, not_less) in
        last (subst (IsDoubtfulMcu h) (ap (mcu_of h (zs ++ ys)) here ∙ mcu_last one) is)
  ]

-- ---- the reader of an interval

-- it has read m MCUs, none of which is doubtful
pub record HasSought (i : IntervalValue) (r : McuReaderValue) (m : ℕ) : Type 0 where
  pub run : r.run ≡ whole_run i
  pub mcu : r.mcu ≡ m
  pub zs : List (List ℤ)
  pub read : HasRead r zs
  pub none : NoneDoubtful i.head zs m

pub nothing_sought : (i : IntervalValue) (r : McuReaderValue) → r.run ≡ whole_run i → r.mcu ≡ 0 → HasRead r [] → HasSought i r 0
nothing_sought i r run mcu read = record { run = run; mcu = mcu; zs = []; read = read; none = λ j lt is. omega (arith, lt) }

module _ (i : IntervalValue) (r r' : McuReaderValue) (m : ℕ) (ys : List (List ℤ)) (s : HasSought i r m) (run : r'.run ≡ r.run) (mcu : r'.mcu ≡ r.mcu + 1) (one : length ys ≡ length (order_of i.head)) (read : HasRead r' (s.zs ++ ys)) where
  long : length s.zs ≡ m * length (order_of i.head)
  long = own_count r i s.zs (s.run, s.read) ∙ ap (λ (k : ℕ). k * length (order_of i.head)) s.mcu

  number : r'.mcu ≡ m + 1
  number = omega (arith, mcu, s.mcu)

  pub sought_more : (IsDoubtfulMcu i.head ys → ⊥) → HasSought i r' (m + 1)
  sought_more last = record { run = run ∙ s.run; mcu = number; zs = s.zs ++ ys; read = read; none = none_more i.head s.zs ys m long one s.none last }

  pub found_first : IsDoubtfulMcu i.head ys → IsFirstDoubtful i (record { number = m; from = r.place.bit; to = r'.place.bit })
  found_first is = record {
    blocks = s.zs ++ ys;
    earlier = s.zs;
    before = subst (λ (k : ℕ). FrontTo i k s.zs r.place.bit) s.mcu (front_to r i s.zs (s.run, s.read));
    up_to = subst (λ (k : ℕ). FrontTo i k (s.zs ++ ys) r'.place.bit) number (front_to r' i (s.zs ++ ys) (run ∙ s.run, read));
    is = subst (IsDoubtfulMcu i.head) (sym (mcu_last i.head s.zs ys m long one)) is;
    first = none_before i.head s.zs ys m long s.none;
  }

  pub found_within : m < i.mcus
  found_within = omega (arith, number, own_few r' i (s.zs ++ ys) (run ∙ s.run, read))

pub sought_all : (i : IntervalValue) (r : McuReaderValue) (m : ℕ) → IsValid r.run.interval.head → HasSought i r m → HasEnded r → HasNoDoubtful i
sought_all i r m valid s ended = record {
  mcus = r.mcu;
  blocks = s.zs;
  front = longest_read r i s.zs valid ((s.run, s.read), ended);
  none = subst (NoneDoubtful i.head s.zs) (sym s.mcu) s.none;
}

-- a reader reads one MCU if there is space for one
pub one_taken : (n per : ℕ) → 0 < n → 0 < per → n * per ≤ per → n ≡ 1
one_taken n per some units fits =
    let one : n * per ≤ 1 * per = omega (arith, fits) in
    omega (arith, some, le_of_mul-le-mul_right {m = n} {n = 1} one units)

-- in natural order the values and steps are the same
pub natural_doubt : (z natural : List ℤ) (q factors : List ℕ) → ((n : ℕ) → n < 64 → at natural n ≡ at z (zigzag_place n)) → AreFactors q factors → HasDoubtful factors natural ↔ HasDoubtful q z
natural_doubt z natural q factors values steps = (to, from)
  where
    to : HasDoubtful factors natural → HasDoubtful q z
    to d = (zigzag_place d.0, place_below d.0 d.1, subst (λ (s : ℕ). IsDoubtful (at z (zigzag_place d.0)) s) (steps d.0 d.1) (subst (λ (v : ℤ). IsDoubtful v (slice_index factors d.0)) (values d.0 d.1) d.2))

    from : HasDoubtful q z → HasDoubtful factors natural
    from d =
        let n = natural_index d.0 in
        let below = natural_below d.0 d.1 in
        let place = place_of_natural d.0 d.1 in
        let value : at z d.0 ≡ at natural n = sym (values n below ∙ ap (at z) place) in
        let step : slice_index q d.0 ≡ slice_index factors n = sym (steps n below ∙ ap (slice_index q) place) in
        (n, below, subst (λ (s : ℕ). IsDoubtful (at natural n) s) step (subst (λ (v : ℤ). IsDoubtful v (slice_index q d.0)) value d.2))

-- one more of the numbers below n
pub one_more : (P : ℕ → Type 0) (n : ℕ) (b c : Bool) → IsTrue b ↔ ((j : ℕ) × (j < n) × P j) → IsTrue c ↔ P n → IsTrue (b || c) ↔ ((j : ℕ) × (j < n + 1) × P j)
one_more P n true c h g = (λ t. (let d = h.0 refl in (d.0, omega (arith, d.1), d.2)), λ d. refl)
one_more P n false c h g = (
  λ t. (n, omega arith, g.0 t),
  λ d. elim (cases_lt d.0 n) [
    | inl less ↦ (let none : false ≡ true = h.1 (d.0, less, d.2) in absurd cc)
    | inr not_less ↦ (let here : d.0 ≡ n = omega (arith, d.1, not_less) in g.1 (subst P here d.2))
  ],
)
