-- What a valid header says about the factors of a component.
use Rattle.std.proofs.Common.{◌≡◌, ℕ, zero, suc, inl, inr, ◌+◌, ◌-◌, ◌*◌, ◌/◌, ◌%◌, ◌<◌, ◌≤◌, arith, ap, ◌∙◌}
use Rattle.std.specs.Int.{div_ceil}
use Rattle.std.proofs.Math.Nat.{mul-le-mul_left, mul-le-mul_right, div-add-mod, mul-div-mul_left, div-mul-le_self}
use Rattle.std.proofs.lemmas.Nat.{mul-le, div_below}
use Rattle.std.proofs.lemmas.Bool.{cases_lt}
use Rattle.std.proofs.lemmas.Grind.{div_ceil_times}
use Rattle.jr_head.specs.HeadValue.{HeadValue}
use Rattle.jr_head.specs.Geometry.{IsValid, IsSampled, IsSubsampled, component_at, no_component, components_of, horizontal_of, vertical_of, horizontal_max, vertical_max, blocks_before}
use Rattle.jr_paint.specs.Geometry.{samples_across, samples_down}
use Rattle.jr_paint.proofs.Places.{below_div_ceil, in_div_ceil, blocks_before_le}

pub sampled_at : (h : HeadValue) (c : ℕ) → IsValid h → c < components_of h → IsSampled (component_at h c)
sampled_at h c l p = l.components.sampled c no_component p

pub subsampled_at : (h : HeadValue) (c : ℕ) → IsValid h → c < components_of h → IsSubsampled (horizontal_max h) (vertical_max h) (component_at h c)
subsampled_at h c l p = l.components.subsampled c no_component p

-- no more samples than pixels
few_samples : (n a m : ℕ) → 0 < m → a ≤ m → div_ceil (n * a) m ≤ n
few_samples n a m p h =
    elim (cases_lt n (div_ceil (n * a) m)) [
      | inr few ↦ few
      | inl more ↦
          let less = below_div_ceil n (n * a) m p more in
          let most : n * a ≤ n * m = mul-le-mul_left n h in
          absurd (omega (arith, less, most))
    ]

pub samples_across-le : (h : HeadValue) (c : ℕ) → IsValid h → c < components_of h → samples_across h c ≤ h.width
samples_across-le h c l p = few_samples h.width (horizontal_of h c) (horizontal_max h) l.components.across (subsampled_at h c l p).narrower

pub samples_down-le : (h : HeadValue) (c : ℕ) → IsValid h → c < components_of h → samples_down h c ≤ h.height
samples_down-le h c l p = few_samples h.height (vertical_of h c) (vertical_max h) l.components.down (subsampled_at h c l p).lower

pub scaled_below : (x size a m : ℕ) → 0 < a → 0 < m → x < size → x * a / m < div_ceil (size * a) m
scaled_below x size a m p q h =
    let low = div-mul-le_self (x * a) m in
    let more : (x + 1) * a ≤ size * a = mul-le-mul_right a (omega arith) in
    in_div_ceil (x * a / m) (size * a) m q (omega arith)

-- the data units of the components before one are fewer than ten
pub blocks_before_few : (h : HeadValue) (c : ℕ) → IsValid h → c < components_of h → blocks_before h c ≤ 10
blocks_before_few h c l p = omega (arith, blocks_before_le h c p, l.components.blocks)

pub units_few : (h : HeadValue) (c : ℕ) → IsValid h → c < components_of h → horizontal_of h c * vertical_of h c ≤ 16
units_few h c l p = mul-le (horizontal_of h c) (vertical_of h c) 4 4 (sampled_at h c l p).narrow (sampled_at h c l p).low

-- if a factor divides the greatest one, pixel x has sample x / f
pub scaled : (x a m f : ℕ) → 0 < a → m ≡ a * f → x * a / m ≡ x / f
scaled x a m f p whole =
    let turned : x * a ≡ a * x = grind arith in
    ap (λ k. k / m) turned ∙ ap (λ k. a * x / k) whole ∙ mul-div-mul_left x f p

some_of : (a m q : ℕ) → 0 < m → m ≡ a * q → 0 < q
some_of a m zero p e = absurd (omega (arith, p, e))
some_of a m (suc q) p e = omega arith

pub factor_some : (a m : ℕ) → 0 < a → 0 < m → m % a ≡ 0 → 0 < m / a
factor_some a m p q d = some_of a m (m / a) q (omega (arith, div-add-mod m a))

pub factor_few : (a m : ℕ) → 0 < a → m ≤ 4 → m / a ≤ 4
factor_few a m p h =
    let low = div-mul-le_self m a in
    let less : m / a * 1 ≤ m / a * a = mul-le-mul_left (m / a) p in
    omega (arith, low, less)

some_count : (n c f : ℕ) → 0 < n → n ≤ c * f → 0 < c
some_count n zero f p h = absurd (omega (arith, p, h))
some_count n (suc c) f p h = omega arith

added : (k a : ℕ) → (k + 1) * a ≡ k * a + a
added k a = grind arith

-- the samples of n pixels, f pixels for each sample
module _ (n f : ℕ) (some : 0 < n) (f_some : 0 < f) where
  pub enough : n ≤ f * div_ceil n f
  enough = let t = div_ceil_times n f f_some in omega (arith, t.0)

  pub few : div_ceil n f ≤ n
  few =
      let t = div_ceil_times n f f_some in
      elim (cases_lt n (div_ceil n f)) [
        | inr less ↦ less
        | inl more ↦
            let times : (n + 1) * f ≤ div_ceil n f * f = mul-le-mul_right f (omega (arith, more)) in
            let product : n * 1 ≤ n * f = mul-le-mul_left n f_some in
            absurd (omega (arith, t.1, times, product))
      ]

  pub sample_near : (k : ℕ) → k < n → k / f < div_ceil n f
  sample_near k h = div_below k f (div_ceil n f) f_some (omega (arith, enough))

  pub inside : (a m : ℕ) → 0 < a → 0 < m → m ≡ a * f → div_ceil n f ≤ div_ceil (n * a) m
  inside a m p r whole =
      let t = div_ceil_times n f f_some in
      let count = div_ceil n f in
      let one : 0 < count = some_count n count f some t.0 in
      let z = count - 1 in
      let last : z + 1 ≡ count = omega (arith, one) in
      let near : z * f < n = omega (arith, t.1, added z f, ap (λ k. k * f) last) in
      let scaled_up : (z * f + 1) * a ≤ n * a = mul-le-mul_right a (omega (arith, near)) in
      let turned : z * m ≡ z * f * a = ap (λ k. z * k) whole ∙ grind arith in
      let less : z < div_ceil (n * a) m = in_div_ceil z (n * a) m r (omega (arith, scaled_up, turned, p, added (z * f) a)) in
      omega (arith, less, one)

-- the samples of component c for a line, each for f pixels, are there
pub stretched_inside : (h : HeadValue) (c f : ℕ) → IsValid h → c < components_of h → 0 < f → horizontal_max h ≡ horizontal_of h c * f → div_ceil h.width f ≤ samples_across h c
stretched_inside h c f l p q whole =
    inside h.width f (omega (arith, l.wide, l.narrow)) q (horizontal_of h c) (horizontal_max h) (sampled_at h c l p).across l.components.across whole
