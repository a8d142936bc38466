-- Which MCUs of an interval its data so far make final.
use Rattle.std.proofs.Common.{◌≡◌, ℕ, ◌+◌, ◌*◌, ◌<◌, ◌≤◌, inl, inr, Bool, List, ◌++◌, length, take, drop, refl, sym, ap, subst, ◌∙◌, append_assoc, length-append, arith}
use Rattle.std.specs.Prelude.{ℤ}
use Rattle.std.proofs.lemmas.Bool.{cases_lt}
use Rattle.std.proofs.lemmas.List.{drop-drop}
use Rattle.std.proofs.Math.Seq.{drop-append_seam}
use Rattle.jr_code.specs.Bits.{bits}
use Rattle.jr_code.proofs.BitLemmas.{length-bits}
use Rattle.jr_code.proofs.CodeLemmas.{one_word}
use Rattle.jr_head.specs.Geometry.{IsValid, order_of}
use Rattle.jr_head.proofs.SamplingLaws.{length-order}
use Rattle.jr_mcu.specs.Mcus.{Mcus, no_predictions, predicted}
use Rattle.jr_mcu.proofs.McuLaws.{one_blocks}
use Rattle.jr_scan.specs.declared.place.Place.{Place}
use Rattle.jr_scan.specs.declared.place.RunEnd.TheVariants.{AllRead, NoMcu}
use Rattle.jr_scan.specs.IntervalValue.{IntervalValue}
use Rattle.jr_scan.specs.Mcus.{Front, LongestFront}
use Rattle.jr_scan.specs.Run.{HasNoMcu, IsRun, RunRead, left_at, run_from, start_of_interval}
use Rattle.jr_scan.proofs.LongestFronts.{longest_front}
use Rattle.jr_scan.proofs.McuReaders.{front_of_run, run_of_front, stopped}
use Rattle.jr_scan.proofs.ScanLaws.{one_run, runs_meet, shorter_front}
use Rattle.jr_arrival.specs.declared.window.TheConstants.{MCU_BITS}
use Rattle.jr_arrival.specs.LongerFile.{IsKnown, IsNeverWhole, MayGrow}
use Rattle.jr_arrival.specs.More.{with_more}
use Rattle.jr_arrival.proofs.Longest.{none_in_long}
use Rattle.jr_arrival.proofs.MoreData.{bits_more, run_is_final}

-- ---- the bits past a prefix

pub same_rest : (i : IntervalValue) (j k : ℕ) (ys zs : List (List ℤ)) → j ≡ k → (a : Front i j ys) (b : Front i k zs) → a.rest ≡ b.rest
same_rest i j k ys zs e a b =
    (one_blocks i.head no_predictions one_word ys zs a.taken b.taken a.rest b.rest a.mcus.1 b.mcus.1 (sym a.spelled ∙ b.spelled) (a.mcus.0 ∙ ap (λ (n : ℕ). n * length (order_of i.head)) e ∙ sym b.mcus.0)).1

-- they are left where the next MCU's bits begin
pub rest_left : (i : IntervalValue) (k : ℕ) (ys zs : List (List ℤ)) (p : Place) (a : Front i k ys) → IsRun (run_from i start_of_interval k) zs p AllRead → a.rest ≡ left_at i p
rest_left i k ys zs p a r =
    let b : Front i k zs = record { at_most = a.at_most; taken = r.taken; rest = left_at i p; mcus = subst (λ (n : ℕ). Mcus i.head no_predictions n zs r.taken) r.ends r.mcus; spelled = r.spelled } in
    same_rest i k k ys zs refl a b

-- two longest prefixes have the same number of MCUs
pub same_longest : (i : IntervalValue) (j k : ℕ) (ys zs : List (List ℤ)) → LongestFront i j ys → LongestFront i k zs → j ≡ k
same_longest i j k ys zs a b = omega (arith, a.longest k zs b.front, b.longest j ys a.front)

-- ---- an MCU that never becomes whole

-- no MCU begins the bits past a longest prefix
none_past : (i : IntervalValue) (k : ℕ) (zs : List (List ℤ)) (p : Place) → IsValid i.head → LongestFront i k zs → k < i.mcus → IsRun (run_from i start_of_interval k) zs p AllRead → HasNoMcu i p
none_past i k zs p valid l lt r ys taken rest m e =
    let q : Place = record { bit = p.bit + length taken; predictions = predicted i.head p.predictions ys } in
    let left : left_at i q ≡ rest = sym (drop-drop (length taken) p.bit (bits i.bytes)) ∙ ap (drop (length taken)) e ∙ drop-append_seam taken rest in
    let next : IsRun (run_from i p 1) ys q AllRead = record { count = 1; few = omega arith; taken = taken; mcus = m; spelled = e ∙ ap (λ (b : List Bool). taken ++ b) (sym left); bit = refl; predictions = refl; ends = refl } in
    let first : RunRead (run_from i start_of_interval k) = record { blocks = zs; to = p; end = AllRead; is = r } in
    let second : RunRead (run_from i first.to 1) = record { blocks = ys; to = q; end = AllRead; is = next } in
    let both : IsRun (run_from i start_of_interval (k + 1)) (zs ++ ys) q AllRead = runs_meet i start_of_interval k 1 first second valid refl in
    let longer = l.longest (k + 1) (zs ++ ys) (front_of_run i (k + 1) (zs ++ ys) q both (omega (arith, lt))) in
    omega (arith, longer)

-- if the maximum number of bits of an MCU is left past it, it stays the longest
longest_stays : (i : IntervalValue) (more : List ℕ) (k : ℕ) (zs : List (List ℤ)) → IsValid i.head → (l : LongestFront i k zs) → MCU_BITS ≤ length l.front.rest → (j : ℕ) (ys : List (List ℤ)) → Front (with_more i more) j ys → j ≤ k
longest_stays i more k zs valid l long j ys f = elim (cases_lt k j) [
  | inr g ↦ g
  | inl lt ↦
      let longer = with_more i more in
      let w = run_of_front i k zs l.front in
      let p = w.0 in
      let r = w.1 in
      let none : HasNoMcu i p = none_past i k zs p valid l (omega (arith, lt, f.at_most)) r in
      let within : p.bit ≤ 8 * length i.bytes = omega (arith, r.bit, ap length r.spelled, length-append r.taken (left_at i p), length-bits i.bytes) in
      let left : 16650 ≤ length (left_at i p) = omega (arith, long, ap length (rest_left i k zs zs p l.front r)) in
      let units : length (order_of i.head) ≤ 10 = omega (arith, length-order 0 i.head.components, valid.components.blocks) in
      let none_there : HasNoMcu longer p = none_in_long i more p units within left none in
      let all = run_from longer start_of_interval (k + 1) in
      let here : IsRun all zs p NoMcu = stopped longer start_of_interval p k (k + 1) zs (omega arith) (run_is_final (run_from i start_of_interval k) more zs p (omega arith) r) none_there in
      let some = take ((k + 1) * length (order_of i.head)) ys in
      let there = run_of_front longer (k + 1) some (shorter_front longer (k + 1) j ys (omega (arith, lt)) f) in
      let a : RunRead all = record { blocks = zs; to = p; end = NoMcu; is = here } in
      let b : RunRead all = record { blocks = some; to = there.0; end = AllRead; is = there.1 } in
      let e : NoMcu ≡ AllRead = (one_run all a b valid).2 in
      absurd (let z : NoMcu ≡ AllRead = e in cc)
]

-- the longest prefix, with at least the maximum number of bits of an MCU past it
abbrev pub HasLongRest : IntervalValue → ℕ → List (List ℤ) → Type 0
HasLongRest i k zs = (l : LongestFront i k zs) × (MCU_BITS ≤ length l.front.rest)

pub long_rest_stays : (i : IntervalValue) (more : List ℕ) (k : ℕ) (zs : List (List ℤ)) → IsValid i.head → HasLongRest i k zs → HasLongRest (with_more i more) k zs
long_rest_stays i more k zs valid has =
    let f = has.0.front in
    let there : Front (with_more i more) k zs = record {
      at_most = f.at_most;
      taken = f.taken;
      rest = f.rest ++ bits more;
      mcus = f.mcus;
      spelled = bits_more i.bytes more ∙ ap (λ (b : List Bool). b ++ bits more) f.spelled ∙ append_assoc f.taken f.rest (bits more);
    } in
    (record { front = there; longest = longest_stays i more k zs valid has.0 has.1 }, omega (arith, has.1, length-append f.rest (bits more)))

-- so an MCU past it is never whole with more data
pub never_stays : (i : IntervalValue) (more : List ℕ) (mcu : ℕ) → IsValid i.head → IsNeverWhole i mcu → IsNeverWhole (with_more i more) mcu
never_stays i more mcu valid n =
    let stays = long_rest_stays i more n.front n.blocks valid (n.longest, n.long) in
    record { front = n.front; blocks = n.blocks; few = n.few; longest = stays.0; long = stays.1 }

-- ---- the number of an interval's MCUs that are final

-- the next MCU of a prefix that may become longer is not known
pub not_known : (i : IntervalValue) (mcu : ℕ) → MayGrow i mcu → IsKnown i mcu → ⊥
not_known i mcu g (inl w) = let longer = g.longest.longest (mcu + 1) w.0 w.1 in omega (arith, longer)
not_known i mcu g (inr n) =
    let e = same_longest i n.front mcu n.blocks g.blocks n.longest g.longest in
    let same = same_rest i n.front mcu n.blocks g.blocks e n.longest.front g.longest.front in
    omega (arith, n.long, g.short, ap length same)

-- the interval's data so far make the MCUs before this one final, and not this one
pub record IsLimit (i : IntervalValue) (limit : ℕ) : Type 0 where
  pub few : limit ≤ i.mcus
  pub before : (mcu : ℕ) → mcu < limit → IsKnown i mcu
  pub none : limit < i.mcus → IsKnown i limit → ⊥

-- an MCU of a prefix is known
known_in : (i : IntervalValue) (front : ℕ) (zs : List (List ℤ)) → Front i front zs → (mcu : ℕ) → mcu < front → IsKnown i mcu
known_in i front zs f mcu lt = inl (take ((mcu + 1) * length (order_of i.head)) zs, shorter_front i (mcu + 1) front zs (omega (arith, lt)) f)

limit_by : (i : IntervalValue) (front : ℕ) (zs : List (List ℤ)) (l : LongestFront i front zs) → (limit : ℕ) × IsLimit i limit
limit_by i front zs l = elim (cases_lt (length l.front.rest) MCU_BITS) [
  | inl short ↦ (front, record { few = l.front.at_most; before = known_in i front zs l.front; none = λ lt known. not_known i front (record { blocks = zs; longest = l; short = short }) known })
  | inr long ↦ (
    i.mcus,
    record {
      few = omega arith;
      before = λ mcu lt. elim (cases_lt mcu front) [ inl within ↦ known_in i front zs l.front mcu within | inr past ↦ inr (record { front = front; blocks = zs; few = past; longest = l; long = long }) ];
      none = λ lt known. absurd (omega (arith, lt));
    },
  )
]

pub limit_of : (i : IntervalValue) → (limit : ℕ) × IsLimit i limit
limit_of i = let far = longest_front one_word i in limit_by i far.0 far.1 far.2

-- no prefix reaches past it
pub front_few : (i : IntervalValue) (limit front : ℕ) (zs : List (List ℤ)) → IsLimit i limit → Front i front zs → front ≤ limit
front_few i limit front zs l f = elim (cases_lt limit front) [
  | inl lt ↦ absurd (l.none (omega (arith, lt, f.at_most)) (known_in i front zs f limit lt))
  | inr g ↦ g
]

-- and all MCUs are before it if they never become whole
pub never_few : (i : IntervalValue) (limit mcu : ℕ) → IsLimit i limit → mcu ≤ i.mcus → (front : ℕ) (zs : List (List ℤ)) (l : LongestFront i front zs) → MCU_BITS ≤ length l.front.rest → mcu ≤ limit
never_few i limit mcu l few front zs longest long = elim (cases_lt limit mcu) [
  | inl lt ↦ absurd (l.none (omega (arith, lt, few)) (inr (record { front = front; blocks = zs; few = front_few i limit front zs l longest.front; longest = longest; long = long })))
  | inr g ↦ g
]
