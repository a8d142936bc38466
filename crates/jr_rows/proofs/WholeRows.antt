-- Rows of MCUs that are whole intervals.
use Rattle.std.proofs.Common.{◌≡◌, ℕ, ◌+◌, ◌*◌, ◌<◌, ◌≤◌, Bool, true, false, min, cond, inl, inr, sym, ap, subst, ◌∙◌, arith}
use Rattle.std.specs.Int.{div_ceil}
use Rattle.std.proofs.Math.Dec.{leb}
use Rattle.std.proofs.Math.Nat.{mul_assoc, mul-le-mul_right}
use Rattle.std.proofs.lemmas.Bool.{cases_lt}
use Rattle.std.proofs.lemmas.Bool.Decides.{eqb_tells}
use Rattle.jr_head.specs.HeadValue.{HeadValue}
use Rattle.jr_head.specs.Geometry.{mcus_across, mcus_down, mcus_of}
use Rattle.jr_paint.proofs.Places.{in_div_ceil}
use Rattle.jr_scan.specs.ScanValue.{intervals_of}
use Rattle.jr_rows.specs.Rows.{coded_before, mcus_before}
use Rattle.jr_rows.proofs.PictureRows.{row_inside}

-- an image with an MCU has one in a row
pub across_some : (h : HeadValue) → 0 < mcus_of h → 0 < mcus_across h
across_some h some = elim (cases_lt 0 (mcus_across h)) [
  | inl l ↦ l
  | inr z ↦ let none : mcus_of h ≤ 0 * mcus_down h = mul-le-mul_right (mcus_down h) z in absurd (omega (arith, none, some))
]

module _ (h : HeadValue) (row intervals : ℕ) (pixels : 0 < mcus_of h) (below : row < mcus_down h) (whole : intervals * h.restart ≡ mcus_across h) where
  some : 0 < mcus_across h
  some = across_some h pixels

  start : row * intervals * h.restart ≡ row * mcus_across h
  start = mul_assoc row intervals h.restart ∙ ap (λ (n : ℕ). row * n) whole

  inside : row * mcus_across h < mcus_of h
  inside = omega (arith, row_inside h row below, some)

  -- the first interval of a row is one of the scan's
  pub row_there : row * intervals < intervals_of h
  row_there = elim (eqb_tells h.restart 0) [
    | inl t ↦ let none = ap (λ (k : ℕ). intervals * k) t.1 in absurd (omega (arith, none, whole, some))
    | inr f ↦
        let r : 0 < h.restart = omega (arith, f.1) in
        let at : row * intervals * h.restart < mcus_of h = omega (arith, start, inside) in
        subst (λ (b : Bool). row * intervals < cond b 1 (div_ceil (mcus_of h) h.restart)) (sym f.0) (in_div_ceil (row * intervals) (mcus_of h) h.restart r at)
  ]

  -- if the first n intervals are decoded, what is read before the row ends where its first interval starts, or the first undecoded one
  pub row_at : (n : ℕ) → n ≤ intervals_of h → min (row * intervals) n * h.restart + 0 ≡ coded_before h n row
  row_at n few = elim (cases_lt n (intervals_of h)) [
    | inl some_blank ↦
        let before : mcus_before h n ≡ n * h.restart = ap (λ (b : Bool). cond b (mcus_of h) (n * h.restart)) (is_less n (intervals_of h) some_blank) in
        elim (cases_lt (row * intervals) n) [
          | inl decoded ↦
              let least : min (row * intervals) n ≡ row * intervals = omega (arith, decoded) in
              let times = ap (λ (k : ℕ). k * h.restart) least in
              let below : row * intervals ≤ n = omega (arith, decoded) in
              let more = mul-le-mul_right h.restart below in
              omega (arith, start, before, times, more)
          | inr blank ↦
              let least : min (row * intervals) n ≡ n = omega (arith, blank) in
              let times = ap (λ (k : ℕ). k * h.restart) least in
              let more = mul-le-mul_right h.restart blank in
              omega (arith, start, before, times, more)
        ]
    | inr none_blank ↦
        let before : mcus_before h n ≡ mcus_of h = ap (λ (b : Bool). cond b (mcus_of h) (n * h.restart)) (is_most n (intervals_of h) none_blank) in
        let least : min (row * intervals) n ≡ row * intervals = omega (arith, row_there, none_blank) in
        let times = ap (λ (k : ℕ). k * h.restart) least in
        omega (arith, start, inside, before, times)
  ]
    where
      is_less : (n all : ℕ) → n < all → leb all n ≡ false
      is_less n all lt = search (arith, lt)

      is_most : (n all : ℕ) → all ≤ n → leb all n ≡ true
      is_most n all le = search (arith, le)
