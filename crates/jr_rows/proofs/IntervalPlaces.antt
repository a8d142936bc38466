-- MCUs of a scan by the interval that holds them, and their number in it.
use Rattle.std.proofs.Common.{◌≡◌, ℕ, inl, inr, ◌+◌, ◌-◌, ◌*◌, ◌/◌, ◌%◌, ◌<◌, ◌≤◌, min, Bool, true, cond, nat_le, sym, ap, subst, ◌∙◌, arith}
use Rattle.std.specs.Int.{div_ceil}
use Rattle.std.proofs.Math.Nat.{add-mul, div-mul-le_self, le-div_iff_mul-le, mul-le-mul_right}
use Rattle.std.proofs.Math.Dec.{eqb, leb}
use Rattle.std.proofs.lemmas.Bool.{cases_lt}
use Rattle.std.proofs.lemmas.Bool.Decides.{eqb_tells, leb_tells}
use Rattle.std.proofs.lemmas.Nat.{div-mul-add, mod-mul-add}
use Rattle.jr_head.specs.HeadValue.{HeadValue}
use Rattle.jr_head.specs.Geometry.{mcus_of}
use Rattle.jr_paint.proofs.Places.{below_div_ceil, in_div_ceil}
use Rattle.jr_scan.specs.ScanValue.{intervals_of, mcus_in}
use Rattle.jr_picture.specs.Headline.{interval_number, within_interval}
use Rattle.jr_rows.specs.Rows.{mcus_before, intervals_before}

-- the two cases: one interval, or one for each restart interval
one_interval : (h : HeadValue) (number : ℕ) (b : Bool) → b ≡ true → number < cond b 1 (div_ceil (mcus_of h) h.restart) → number ≡ 0
one_interval h number b t lt = let one : number < 1 = subst (λ (b : Bool). number < cond b 1 (div_ceil (mcus_of h) h.restart)) t lt in omega (arith, one)

no_mcus : (number restart : ℕ) → restart ≡ 0 → number * restart ≡ 0
no_mcus number restart e = let times = ap (λ (k : ℕ). number * k) e in omega (arith, times)

pub interval_at : (h : HeadValue) (number mcu : ℕ) → number < intervals_of h → mcu < mcus_in h number
    → (interval_number h (number * h.restart + mcu) ≡ number) × (within_interval h (number * h.restart + mcu) ≡ mcu)
interval_at h number mcu lt few = elim (eqb_tells h.restart 0) [
  | inl t ↦
      let i = number * h.restart + mcu in
      let first : number ≡ 0 = one_interval h number (eqb h.restart 0) t.0 lt in
      (ap (λ (b : Bool). cond b 0 (i / h.restart)) t.0 ∙ sym first, ap (λ (b : Bool). cond b i (i % h.restart)) t.0 ∙ omega (arith, no_mcus number h.restart t.1))
  | inr f ↦
      let i = number * h.restart + mcu in
      let here : mcu < min h.restart (mcus_of h - number * h.restart) = subst (λ (b : Bool). mcu < cond b (mcus_of h) (min h.restart (mcus_of h - number * h.restart))) f.0 few in
      let low : mcu < h.restart = omega (arith, here) in
      (ap (λ (b : Bool). cond b 0 (i / h.restart)) f.0 ∙ div-mul-add number h.restart mcu low, ap (λ (b : Bool). cond b i (i % h.restart)) f.0 ∙ mod-mul-add number h.restart mcu low)
]

-- each interval has MCUs
pub mcus_in_some : (h : HeadValue) (number : ℕ) → 0 < mcus_of h → number < intervals_of h → 0 < mcus_in h number
mcus_in_some h number some lt = elim (eqb_tells h.restart 0) [
  | inl t ↦ subst (λ (b : Bool). 0 < cond b (mcus_of h) (min h.restart (mcus_of h - number * h.restart))) (sym t.0) some
  | inr f ↦
      let r : 0 < h.restart = omega (arith, f.1) in
      let there : number < div_ceil (mcus_of h) h.restart = subst (λ (b : Bool). number < cond b 1 (div_ceil (mcus_of h) h.restart)) f.0 lt in
      let before = below_div_ceil number (mcus_of h) h.restart r there in
      let here : 0 < min h.restart (mcus_of h - number * h.restart) = omega (arith, before, r) in
      subst (λ (b : Bool). 0 < cond b (mcus_of h) (min h.restart (mcus_of h - number * h.restart))) (sym f.0) here
]

-- after the last MCU of an interval the next one begins
pub next_there : (h : HeadValue) (number mcu : ℕ) → number < intervals_of h → mcu ≡ mcus_in h number → number * h.restart + mcu < mcus_of h
    → (number + 1 < intervals_of h) × (number * h.restart + mcu ≡ (number + 1) * h.restart)
next_there h number mcu lt all more = elim (eqb_tells h.restart 0) [
  | inl t ↦
      let whole : mcu ≡ mcus_of h = all ∙ ap (λ (b : Bool). cond b (mcus_of h) (min h.restart (mcus_of h - number * h.restart))) t.0 in
      absurd (omega (arith, whole, more))
  | inr f ↦
      let r : 0 < h.restart = omega (arith, f.1) in
      let whole : mcu ≡ min h.restart (mcus_of h - number * h.restart) = all ∙ ap (λ (b : Bool). cond b (mcus_of h) (min h.restart (mcus_of h - number * h.restart))) f.0 in
      let next : number * h.restart + mcu ≡ (number + 1) * h.restart = omega (arith, whole, more, add-mul number 1 h.restart) in
      let there : number + 1 < div_ceil (mcus_of h) h.restart = in_div_ceil (number + 1) (mcus_of h) h.restart r (omega (arith, next, more)) in
      (subst (λ (b : Bool). number + 1 < cond b 1 (div_ceil (mcus_of h) h.restart)) (sym f.0) there, next)
]

-- after the last MCU of all no interval follows
pub last_there : (h : HeadValue) (number mcu : ℕ) → number < intervals_of h → mcu ≤ mcus_in h number → 0 < mcus_of h → number * h.restart + mcu ≡ mcus_of h
    → (number + 1 ≡ intervals_of h) × (mcu ≡ mcus_in h number)
last_there h number mcu lt few some all = elim (eqb_tells h.restart 0) [
  | inl t ↦
      let first : number ≡ 0 = one_interval h number (eqb h.restart 0) t.0 lt in
      let one : number + 1 ≡ 1 = omega (arith, first) in
      let whole : mcu ≡ mcus_of h = omega (arith, all, no_mcus number h.restart t.1) in
      (one ∙ sym (ap (λ (b : Bool). cond b 1 (div_ceil (mcus_of h) h.restart)) t.0), whole ∙ sym (ap (λ (b : Bool). cond b (mcus_of h) (min h.restart (mcus_of h - number * h.restart))) t.0))
  | inr f ↦
      let r : 0 < h.restart = omega (arith, f.1) in
      let there : number < div_ceil (mcus_of h) h.restart = subst (λ (b : Bool). number < cond b 1 (div_ceil (mcus_of h) h.restart)) f.0 lt in
      let least : mcu ≤ min h.restart (mcus_of h - number * h.restart) = subst (λ (b : Bool). mcu ≤ cond b (mcus_of h) (min h.restart (mcus_of h - number * h.restart))) f.0 few in
      let last : number + 1 ≡ div_ceil (mcus_of h) h.restart = elim (cases_lt (number + 1) (div_ceil (mcus_of h) h.restart)) [
        | inl more ↦ let after = below_div_ceil (number + 1) (mcus_of h) h.restart r more in absurd (omega (arith, after, least, all, add-mul number 1 h.restart))
        | inr no_more ↦ omega (arith, there, no_more)
      ] in
      let whole : mcu ≡ min h.restart (mcus_of h - number * h.restart) = omega (arith, least, all) in
      (last ∙ sym (ap (λ (b : Bool). cond b 1 (div_ceil (mcus_of h) h.restart)) f.0), whole ∙ sym (ap (λ (b : Bool). cond b (mcus_of h) (min h.restart (mcus_of h - number * h.restart))) f.0))
]

-- an MCU of an interval is one of the image's
pub inside : (h : HeadValue) (number mcu : ℕ) → number < intervals_of h → mcu < mcus_in h number → number * h.restart + mcu < mcus_of h
inside h number mcu lt few = elim (eqb_tells h.restart 0) [
  | inl t ↦
      let here : mcu < mcus_of h = subst (λ (b : Bool). mcu < cond b (mcus_of h) (min h.restart (mcus_of h - number * h.restart))) t.0 few in
      omega (arith, here, no_mcus number h.restart t.1)
  | inr f ↦
      let here : mcu < min h.restart (mcus_of h - number * h.restart) = subst (λ (b : Bool). mcu < cond b (mcus_of h) (min h.restart (mcus_of h - number * h.restart))) f.0 few in
      omega (arith, here)
]

-- before an MCU of an interval exactly the intervals before it end
pub ends_before : (h : HeadValue) (number mcu : ℕ) → number < intervals_of h → mcu < mcus_in h number → intervals_before h (number * h.restart + mcu) ≡ number
ends_before h number mcu lt few = elim (leb_tells (mcus_of h) (number * h.restart + mcu)) [
  | inl t ↦ absurd (omega (arith, inside h number mcu lt few, t.1))
  | inr f ↦ ap (λ (b : Bool). cond b (intervals_of h) (interval_number h (number * h.restart + mcu))) f.0 ∙ (interval_at h number mcu lt few).0
]

-- with its last MCU it also ends
pub ends_with : (h : HeadValue) (number mcu : ℕ) → 0 < mcus_of h → number < intervals_of h → mcu ≡ mcus_in h number → intervals_before h (number * h.restart + mcu) ≡ number + 1
ends_with h number mcu some lt all = elim (leb_tells (mcus_of h) (number * h.restart + mcu)) [
  | inl t ↦
      let whole : number * h.restart + mcu ≡ mcus_of h = omega (arith, t.1, not_beyond h number mcu lt all) in
      ap (λ (b : Bool). cond b (intervals_of h) (interval_number h (number * h.restart + mcu))) t.0 ∙ sym (last_there h number mcu lt (omega (arith, all)) some whole).0
  | inr f ↦
      let next = next_there h number mcu lt all (omega (arith, f.1)) in
      let at : number * h.restart + mcu ≡ (number + 1) * h.restart + 0 = omega (arith, next.1) in
      ap (λ (b : Bool). cond b (intervals_of h) (interval_number h (number * h.restart + mcu))) f.0 ∙ ap (interval_number h) at ∙ (interval_at h (number + 1) 0 next.0 (mcus_in_some h (number + 1) some next.0)).0
]
  where
    not_beyond : (h : HeadValue) (number mcu : ℕ) → number < intervals_of h → mcu ≡ mcus_in h number → number * h.restart + mcu ≤ mcus_of h
    not_beyond h number mcu lt all = elim (eqb_tells h.restart 0) [
      | inl t ↦
          let here : mcu ≡ mcus_of h = all ∙ ap (λ (b : Bool). cond b (mcus_of h) (min h.restart (mcus_of h - number * h.restart))) t.0 in
          omega (arith, here, no_mcus number h.restart t.1)
      | inr f ↦
          let r : 0 < h.restart = omega (arith, f.1) in
          let there : number < div_ceil (mcus_of h) h.restart = subst (λ (b : Bool). number < cond b 1 (div_ceil (mcus_of h) h.restart)) f.0 lt in
          let here : mcu ≡ min h.restart (mcus_of h - number * h.restart) = all ∙ ap (λ (b : Bool). cond b (mcus_of h) (min h.restart (mcus_of h - number * h.restart))) f.0 in
          omega (arith, here, below_div_ceil number (mcus_of h) h.restart r there)
    ]

-- an MCU before those of the first n intervals is of one of them
pub of_first : (h : HeadValue) (n number mcu some : ℕ) → number < intervals_of h → 0 < some → number * h.restart + mcu + some ≤ mcus_before h n → number < n
of_first h n number mcu some lt positive few = elim (leb_tells (intervals_of h) n) [
  | inl t ↦ omega (arith, lt, t.1)
  | inr f ↦
      let short : number * h.restart + mcu + some ≤ n * h.restart = subst (λ (b : Bool). number * h.restart + mcu + some ≤ cond b (mcus_of h) (n * h.restart)) f.0 few in
      elim (cases_lt number n) [
        | inl l ↦ l
        | inr le ↦ let more = mul-le-mul_right h.restart le in absurd (omega (arith, short, more, positive))
      ]
]

-- an MCU after those of the first n intervals is of none of them
pub after_first : (h : HeadValue) (n mcu : ℕ) → mcu < mcus_of h → mcus_before h n ≤ mcu → n ≤ interval_number h mcu
after_first h n mcu inside far = elim (leb_tells (intervals_of h) n) [
  | inl t ↦ let all = subst (λ (b : Bool). cond b (mcus_of h) (n * h.restart) ≤ mcu) t.0 far in absurd (omega (arith, all, inside))
  | inr f ↦
      let past : n * h.restart ≤ mcu = subst (λ (b : Bool). cond b (mcus_of h) (n * h.restart) ≤ mcu) f.0 far in
      elim (eqb_tells h.restart 0) [
        | inl t ↦
            let one : n < 1 = subst (λ (b : Bool). n < cond b 1 (div_ceil (mcus_of h) h.restart)) t.0 (omega (arith, f.1)) in
            omega (arith, one)
        | inr g ↦
            let r : 0 < h.restart = omega (arith, g.1) in
            subst (λ (b : Bool). n ≤ cond b 0 (mcu / h.restart)) (sym g.0) (omega (arith, (le-div_iff_mul-le r).1 past))
      ]
]

-- with the MCUs of the first n intervals these end
pub first_end : (h : HeadValue) (n : ℕ) → 0 < mcus_of h → n ≤ intervals_of h → intervals_before h (mcus_before h n) ≡ n
first_end h n some few = elim (leb_tells (intervals_of h) n) [
  | inl t ↦
      let all : mcus_before h n ≡ mcus_of h = ap (λ (b : Bool). cond b (mcus_of h) (n * h.restart)) t.0 in
      ap (intervals_before h) all ∙ ap (λ (b : Bool). cond b (intervals_of h) (interval_number h (mcus_of h))) (leb_refl (mcus_of h)) ∙ omega (arith, t.1, few)
  | inr f ↦
      let lt : n < intervals_of h = omega (arith, f.1) in
      let all : mcus_before h n ≡ n * h.restart + 0 = ap (λ (b : Bool). cond b (mcus_of h) (n * h.restart)) f.0 ∙ omega arith in
      ap (intervals_before h) all ∙ ends_before h n 0 lt (mcus_in_some h n some lt)
]
  where
    leb_refl : (n : ℕ) → nat_le n n ≡ true
    leb_refl n = search arith

-- the MCUs of the first intervals are not all, if these are not all
pub first_inside : (h : HeadValue) (n : ℕ) → 0 < mcus_of h → n < intervals_of h → n * h.restart < mcus_of h
first_inside h n some lt = let at = inside h n 0 lt (mcus_in_some h n some lt) in omega (arith, at)

-- the MCUs of the first n intervals are some of the image's
pub first_few : (h : HeadValue) (n : ℕ) → 0 < mcus_of h → mcus_before h n ≤ mcus_of h
first_few h n some = elim (leb_tells (intervals_of h) n) [
  | inl t ↦ subst (λ (b : Bool). cond b (mcus_of h) (n * h.restart) ≤ mcus_of h) (sym t.0) (omega arith)
  | inr f ↦ subst (λ (b : Bool). cond b (mcus_of h) (n * h.restart) ≤ mcus_of h) (sym f.0) (let at = first_inside h n some (omega (arith, f.1)) in omega (arith, at))
]

-- no more intervals end than there are
pub ends_few : (h : HeadValue) (m : ℕ) → intervals_before h m ≤ intervals_of h
ends_few h m = elim (leb_tells (mcus_of h) m) [
  | inl t ↦ subst (λ (b : Bool). cond b (intervals_of h) (interval_number h m) ≤ intervals_of h) (sym t.0) (omega arith)
  | inr f ↦ subst (λ (b : Bool). cond b (intervals_of h) (interval_number h m) ≤ intervals_of h) (sym f.0) (elim (eqb_tells h.restart 0) [
    | inl t ↦ subst (λ (b : Bool). cond b 0 (m / h.restart) ≤ cond b 1 (div_ceil (mcus_of h) h.restart)) (sym t.0) (omega arith)
    | inr g ↦
        let r : 0 < h.restart = omega (arith, g.1) in
        let there = in_div_ceil (m / h.restart) (mcus_of h) h.restart r (omega (arith, div-mul-le_self m h.restart, f.1)) in
        subst (λ (b : Bool). cond b 0 (m / h.restart) ≤ cond b 1 (div_ceil (mcus_of h) h.restart)) (sym g.0) (omega (arith, there))
  ])
]
