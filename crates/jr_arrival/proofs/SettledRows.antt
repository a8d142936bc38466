-- The rows of MCUs that the bytes so far make final.
use Rattle.std.proofs.Common.{◌≡◌, ℕ, ◌+◌, ◌-◌, ◌*◌, ◌/◌, ◌%◌, ◌<◌, ◌≤◌, min, Bool, cond, inl, inr, List, [], length, drop, get_or, sym, ap, subst, ◌∙◌, length-append, arith}
use Rattle.std.specs.Int.{div_ceil}
use Rattle.std.proofs.lemmas.Bool.{cases_lt}
use Rattle.std.proofs.lemmas.Bool.Decides.{eqb_tells}
use Rattle.std.proofs.lemmas.List.{get_or_past}
use Rattle.std.proofs.lemmas.Nat.{div-add-mod', mod_below}
use Rattle.std.proofs.Math.Nat.{add-mul, mul-le-mul_right}
use Rattle.jr_head.specs.HeadValue.{HeadValue}
use Rattle.jr_code.specs.Bits.{bits}
use Rattle.jr_head.specs.Geometry.{IsValid, mcus_across, mcus_down, mcus_of}
use Rattle.jr_head.proofs.SamplingLaws.{some_there, units_some}
use Rattle.jr_head.specs.Intervals.{first_mcu_of, interval_number, within_interval}
use Rattle.jr_cut.specs.declared.scan_end.ScanEnd.TheVariants.{EndOfFile}
use Rattle.jr_cut.proofs.CutLaw.{one_cut}
use Rattle.jr_scan.specs.ScanValue.{ScanValue, IsScanOf, interval_of, intervals_of, mcus_in}
use Rattle.jr_rows.proofs.IntervalPlaces.{inside, interval_at, mcus_in_some, next_there}
use Rattle.jr_rows.proofs.PictureRows.{all_rows}
use Rattle.jr_rows.proofs.RowStarts.{mcu_there}
use Rattle.jr_arrival.specs.LongerFile.{HasEndedAt, IsKnown, IsSettled}
use Rattle.jr_arrival.specs.Settled.{HasRows}
use Rattle.jr_arrival.proofs.Knowing.{IsLimit}
use Rattle.jr_arrival.proofs.ReadOn.{nothing_whole}
use Rattle.jr_arrival.proofs.ScansGoOn.{data_at}

-- an interval's MCUs are before those of the later ones
pub before_later : (h : HeadValue) (i j mcu : ℕ) → i < j → j < intervals_of h → mcu ≤ mcus_in h i → i * h.restart + mcu ≤ j * h.restart
before_later h i j mcu lt few le = elim (eqb_tells h.restart 0) [
  | inl t ↦
      let one : j < 1 = subst (λ (b : Bool). j < cond b 1 (div_ceil (mcus_of h) h.restart)) t.0 few in
      absurd (omega (arith, lt, one))
  | inr f ↦
      let low : mcu ≤ min h.restart (mcus_of h - i * h.restart) = subst (λ (b : Bool). mcu ≤ cond b (mcus_of h) (min h.restart (mcus_of h - i * h.restart))) f.0 le in
      let next : (i + 1) * h.restart ≤ j * h.restart = mul-le-mul_right {m = i + 1} {n = j} h.restart (omega (arith, lt)) in
      omega (arith, low, next, add-mul i 1 h.restart)
]

-- the MCUs of an interval are some of the image's
mcus_few : (h : HeadValue) (i n : ℕ) → 0 < mcus_of h → i < intervals_of h → n ≤ mcus_in h i → first_mcu_of h i + n ≤ mcus_of h
mcus_few h i n some few le = elim (cases_lt 0 n) [
  | inl l ↦ let last = inside h i (n - 1) few (omega (arith, l, le)) in omega (arith, l, last)
  | inr g ↦ let first = inside h i 0 few (mcus_in_some h i some few) in omega (arith, g, first)
]

-- the first rows, whose MCUs are among the first ones
pub settles_rows : (bytes : List ℕ) (s : ScanValue) (mcus : ℕ) → mcus ≤ mcus_of s.head → 0 < mcus_across s.head → ((m : ℕ) → m < mcus → IsSettled bytes s m) → (mcus < mcus_of s.head → IsSettled bytes s mcus → ⊥)
    → HasRows bytes s (mcus / mcus_across s.head)
settles_rows bytes s mcus most some before none =
    let across = mcus_across s.head in
    let rows = mcus / across in
    let whole : mcus ≡ rows * across + mcus % across = sym (div-add-mod' mcus across) in
    let low = mod_below mcus across some in
    let next : (rows + 1) * across ≡ rows * across + across = omega (arith, add-mul rows 1 across) in
    record {
      few = elim (cases_lt (mcus_down s.head) rows) [
        | inl l ↦
            let more : (mcus_down s.head + 1) * across ≤ rows * across = mul-le-mul_right {m = mcus_down s.head + 1} {n = rows} across (omega (arith, l)) in
            absurd (omega (arith, more, add-mul (mcus_down s.head) 1 across, all_rows s.head, whole, most, some))
        | inr g ↦ g
      ];
      settled = λ row lt m from to.
          let high : (row + 1) * across ≤ rows * across = mul-le-mul_right {m = row + 1} {n = rows} across (omega (arith, lt)) in
          before m (omega (arith, to, high, whole));
      next = λ lt settled.
          let high : (rows + 1) * across ≤ mcus_down s.head * across = mul-le-mul_right {m = rows + 1} {n = mcus_down s.head} across (omega (arith, lt)) in
          none (omega (arith, high, next, all_rows s.head, whole, low)) (settled mcus (omega (arith, whole)) (omega (arith, whole, low, next)));
    }

-- while no marker has ended the scan its last interval is not over
module _ (bytes : List ℕ) (s : ScanValue) (c : IsScanOf bytes s) (i : ℕ) (end : s.ended ≡ EndOfFile) (last : i + 1 ≡ length c.segments) (inside : i < intervals_of s.head) where
  abbrev h : HeadValue
  h = s.head

  not_ended : (j : ℕ) → i ≤ j → HasEndedAt bytes s j → ⊥
  not_ended j le e = elim e.1 [
    | inl n ↦ n end
    | inr lt ↦
        let same = (one_cut (intervals_of h) h.scan_at (drop h.scan_at bytes) e.0.segments c.segments s.ended s.ended e.0.cut c.cut).0 in
        absurd (omega (arith, lt, le, last, ap length same))
  ]

  no_data : get_or s.intervals (i + 1) [] ≡ []
  no_data = data_at s c.segments (intervals_of h - length c.segments) (i + 1) c.intervals ∙ get_or_past c.segments (i + 1) [] (omega (arith, last))

  -- an interval without data has no final MCU
  not_known_there : (j : ℕ) → IsValid h → get_or s.intervals j [] ≡ [] → (mcu : ℕ) → IsKnown (interval_of s j) mcu → ⊥
  not_known_there j valid none mcu (inl w) =
      let some = units_some h.components (some_there h.kind h.components valid.components.count) valid.components.sampled in
      let empty = nothing_whole s j 0 some none in
      let longer = empty.longest.longest (mcu + 1) w.0 w.1 in
      omega (arith, longer, empty.few)
  not_known_there j valid none mcu (inr n) =
      let f = n.longest.front in
      let empty : length (bits (get_or s.intervals j [])) ≡ length (bits []) = ap (λ (b : List ℕ). length (bits b)) none in
      omega (arith, n.long, empty, ap length f.spelled, length-append f.taken f.rest)

  -- an MCU of it that its data do not make final is not final; past its last one none is
  pub not_settled : (mcu : ℕ) → mcu ≤ mcus_in h i → (mcu < mcus_in h i → IsKnown (interval_of s i) mcu → ⊥) → IsValid h → first_mcu_of h i + mcu < mcus_of h → IsSettled bytes s (first_mcu_of h i + mcu) → ⊥
  not_settled mcu few none valid more settled =
      let m = first_mcu_of h i + mcu in
      elim (cases_lt mcu (mcus_in h i)) [
        | inl l ↦
            let at = interval_at h i mcu inside l in
            elim settled [
              | inl e ↦ not_ended (interval_number h m) (omega (arith, at.0)) e
              | inr known ↦ none l (subst (IsKnown (interval_of s i)) at.1 (subst (λ (k : ℕ). IsKnown (interval_of s k) (within_interval h m)) at.0 known))
            ]
        | inr g ↦
            let next = next_there h i mcu inside (omega (arith, g, few)) more in
            let is : m ≡ (i + 1) * h.restart + 0 = omega (arith, next.1) in
            let number : interval_number h m ≡ i + 1 = ap (interval_number h) is ∙ (interval_at h (i + 1) 0 next.0 (mcus_in_some h (i + 1) (omega (arith, more)) next.0)).0 in
            elim settled [
              | inl e ↦ not_ended (interval_number h m) (omega (arith, number)) e
              | inr known ↦ not_known_there (i + 1) valid no_data (within_interval h m) (subst (λ (k : ℕ). IsKnown (interval_of s k) (within_interval h m)) number known)
            ]
      ]

  -- the MCUs before it and those that its data make final are final
  module _ (limit : ℕ) (l : IsLimit (interval_of s i) limit) where
    settled_before : (m : ℕ) → m < mcus_of h → m < first_mcu_of h i + limit → IsSettled bytes s m
    settled_before m there lt =
        let at = mcu_there h m there in
        let j = interval_number h m in
        elim (cases_lt j i) [
          | inl early ↦ inl (c, inr (omega (arith, early, last)))
          | inr ge ↦ elim (cases_lt i j) [
            | inl late ↦ let before = before_later h i j limit late at.0 l.few in absurd (omega (arith, before, at.1, lt))
            | inr le ↦
                let same : i ≡ j = omega (arith, ge, le) in
                inr (subst (λ (k : ℕ). IsKnown (interval_of s k) (within_interval h m)) same (l.before (within_interval h m) (omega (arith, lt, at.1, ap (λ (k : ℕ). k * h.restart) same))))
          ]
        ]

    pub has_rows : IsValid h → 0 < mcus_across h → 0 < mcus_of h → HasRows bytes s ((first_mcu_of h i + limit) / mcus_across h)
    has_rows valid across mcus =
        let most = mcus_few h i limit mcus inside l.few in
        settles_rows bytes s (first_mcu_of h i + limit) most across (λ m lt. settled_before m (omega (arith, lt, most)) lt) (not_settled limit l.few l.none valid)
