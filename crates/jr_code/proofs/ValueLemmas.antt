-- The values of additional bits.
use Rattle.std.proofs.Common.{◌≡◌, ℕ, zero, suc, ◌-◌, ◌*◌, ◌<◌, ◌≤◌, ◌^◌, Bool, true, false, cond, refl, sym, ap, subst, ◌∙◌, arith}
use Rattle.std.specs.Prelude.{ℤ, List, pos, ◌+ℤ◌, ◌-ℤ◌, ◌≤ℤ◌, ◌+◌, nat_le, length}
use Rattle.std.proofs.Math.Pow.{pow_mono}
use Rattle.std.proofs.lemmas.Int.{ints}
use Rattle.std.proofs.lemmas.Bool.{cases_lt}
use Rattle.std.proofs.Common.{inl, inr}
use Rattle.jr_code.specs.Bits.{extend, number, value}
use Rattle.jr_code.proofs.BitLemmas.{number_below}

pub extended_high : (size v : ℕ) → (size ≡ 0 → ⊥) → 2 ^ (size - 1) ≤ v → extend size v ≡ pos v
extended_high zero v some h = absurd (some refl)
extended_high (suc s) v some h =
    let e : suc s - 1 ≡ s = omega arith in
    let le : 2 ^ s ≤ v = subst (λ (k : ℕ). 2 ^ k ≤ v) e h in
    let t : nat_le (2 ^ s) v ≡ true = grind (arith) in
    ap (λ (b : Bool). cond b (pos v) ((pos v -ℤ pos (2 ^ suc s)) +ℤ pos 1)) t

pub extended_low : (size v : ℕ) → (size ≡ 0 → ⊥) → v < 2 ^ (size - 1) → extend size v ≡ (pos v -ℤ pos (2 * 2 ^ (size - 1))) +ℤ pos 1
extended_low zero v some h = absurd (some refl)
extended_low (suc s) v some h =
    let e : suc s - 1 ≡ s = omega arith in
    let lt : v < 2 ^ s = subst (λ (k : ℕ). v < 2 ^ k) e h in
    let f : nat_le (2 ^ s) v ≡ false = grind (arith) in
    let twice : 2 ^ suc s ≡ 2 * 2 ^ (suc s - 1) = ap (λ (k : ℕ). 2 ^ suc k) (sym e) ∙ omega arith in
    ap (λ (b : Bool). cond b (pos v) ((pos v -ℤ pos (2 ^ suc s)) +ℤ pos 1)) f ∙ ap (λ (k : ℕ). (pos v -ℤ pos k) +ℤ pos 1) twice

-- from -m to m
abbrev pub Within : ℕ → ℤ → Type 0
Within m x = (x ≤ℤ pos m) × (pos 0 ≤ℤ (x +ℤ pos m))

pub within_zero : (m : ℕ) → Within m (pos 0)
within_zero m = (omega (arith, ints), omega (arith, ints))

pub extended_within : (size v m : ℕ) → v < 2 ^ size → 2 ^ size ≤ m + 1 → Within m (extend size v)
extended_within zero v m lt fits = within_zero m
extended_within (suc s) v m lt fits =
    let e : suc s - 1 ≡ s = omega arith in
    let twice : 2 ^ suc s ≡ 2 * 2 ^ s = omega arith in
    elim (cases_lt v (2 ^ (suc s - 1))) [
      | inl l ↦
          let is = extended_low (suc s) v (λ z. omega arith) l in
          let same : 2 ^ (suc s - 1) ≡ 2 ^ s = ap (λ (k : ℕ). 2 ^ k) e in
          subst (Within m) (sym is) (omega (arith, ints, same, twice), omega (arith, ints, same, twice))
      | inr g ↦
          let is = extended_high (suc s) v (λ z. omega arith) g in
          subst (Within m) (sym is) (omega (arith, ints), omega (arith, ints))
    ]

pub value_within : (w : List Bool) (k m : ℕ) → length w ≤ k → 2 ^ k ≤ m + 1 → Within m (value w)
value_within w k m few fits =
    let mono : 2 ^ length w ≤ 2 ^ k = pow_mono few in
    extended_within (length w) (number w) m (number_below w) (omega arith)
