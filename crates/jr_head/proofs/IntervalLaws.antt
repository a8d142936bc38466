-- Where restart intervals begin.
use Rattle.std.proofs.Common.{◌≡◌, ℕ, suc, ◌+◌, ◌*◌, ◌<◌, ◌≤◌, cond, ap, subst, sym, ◌∙◌, inl, inr, arith}
use Rattle.std.specs.Int.{div_ceil}
use Rattle.std.proofs.lemmas.Grind.{div_ceil_times}
use Rattle.std.proofs.lemmas.Bool.Decides.{eqb_tells}
use Rattle.std.proofs.Math.Nat.{mul-le-mul_right}
use Rattle.jr_head.specs.HeadValue.{HeadValue}
use Rattle.jr_head.specs.Geometry.{mcus_of}
use Rattle.jr_head.specs.Intervals.{intervals_of}

-- an interval starts before the last MCU
starts_before : (mcus r i : ℕ) → 0 < r → i < div_ceil mcus r → i * r < mcus
starts_before mcus r i some lt =
    let t = div_ceil_times mcus r some in
    let more : suc i * r ≤ div_ceil mcus r * r = mul-le-mul_right r lt in
    let e : suc i * r ≡ i * r + r = omega arith in
    omega (arith, t.1, more, e)

pub interval_starts : (h : HeadValue) (r m i : ℕ) → r ≡ h.restart → 0 < m → m ≡ mcus_of h → i < intervals_of h → i * r < m
interval_starts h r m i e some same lt = elim (eqb_tells h.restart 0) [
  | inl t ↦
      let none : r ≡ 0 = e ∙ t.1 in
      rw none (omega (arith, some))
  | inr f ↦
      let n : intervals_of h ≡ div_ceil (mcus_of h) h.restart = ap (λ b. cond b 1 (div_ceil (mcus_of h) h.restart)) f.0 in
      let before = starts_before (mcus_of h) h.restart i (omega (arith, f.1)) (omega (arith, n)) in
      subst (λ (k : ℕ). i * k < m) (sym e) (subst (λ (k : ℕ). i * h.restart < k) (sym same) before)
]
