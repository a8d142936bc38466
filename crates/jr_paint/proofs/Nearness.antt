-- How near colours are to the exact ones: before they are clamped by a table of all chrominances, and then clamped.
use Rattle.std.proofs.Common.{arith, refl, ◌≡◌, ℕ, zero, suc, ◌*◌, ◌<◌, Bool, true, ◌&&◌, ℤ, pos, negsuc, neg_ℤ, ◌+ℤ◌, ◌-ℤ◌, ◌*ℤ◌, ◌≤ℤ◌, int_le, ap, ◌∙◌, inl, inr}
use Rattle.std.proofs.lemmas.Int.{ints}
use Rattle.std.proofs.lemmas.Bool.{and_parts, cases_eq}
use Rattle.jr_paint.specs.Colours.{IsWithin, floor_div, byte_of, off, clamped_exact}

from_test : (a b : ℤ) → int_le a b ≡ true → a ≤ℤ b
from_test a b e = grind (arith, ints, e)

-- the first k numbers pass
abbrev pass_below : (ℕ → Bool) → ℕ → Bool
pass_below p zero = true
pass_below p (suc k) = p k && pass_below p k

pass_at : (p : ℕ → Bool) (n : ℕ) → pass_below p n ≡ true → (k : ℕ) → k < n → p k ≡ true
pass_at p zero e k h = absurd (omega (arith, h))
pass_at p (suc n) e k h =
    let both = and_parts (p n) (pass_below p n) e in
    elim (cases_eq k n) [ inl same ↦ ap p same ∙ both.0 | inr other ↦ pass_at p n both.1 k (omega (arith, h, other)) ]

-- a weighted sum over 65536, rounded, is within e of one over 100000
abbrev near : ℕ → ℤ → ℤ → Bool
near e weighted exact =
    let d = pos 100000 *ℤ floor_div (weighted +ℤ pos 32768) 65536 -ℤ exact in
    int_le (neg_ℤ (pos e)) d && int_le d (pos e)

clamped : (e y : ℕ) (q x : ℤ) → IsWithin e (pos 100000 *ℤ q -ℤ x) → IsWithin e (pos (100000 * byte_of (pos y +ℤ q)) -ℤ pos (clamped_exact (pos (100000 * y) +ℤ x)))
clamped e y q x h = sums (pos y +ℤ q) (pos (100000 * y) +ℤ x) (omega (arith, ints, h), omega (arith, ints, h))
  where
    sums : (a b : ℤ) → IsWithin e (pos 100000 *ℤ a -ℤ b) → IsWithin e (pos (100000 * byte_of a) -ℤ pos (clamped_exact b))
    sums (pos a) (pos b) h = (omega (arith, ints, h), omega (arith, ints, h))
    sums (pos a) (negsuc b) h = (omega (arith, ints, h), omega (arith, ints, h))
    sums (negsuc a) (pos b) h = (omega (arith, ints, h), omega (arith, ints, h))
    sums (negsuc a) (negsuc b) h = (omega (arith, ints, h), omega (arith, ints, h))

from_near : (e y : ℕ) (w x : ℤ) → near e w x ≡ true → IsWithin e (pos (100000 * byte_of (pos y +ℤ floor_div (w +ℤ pos 32768) 65536)) -ℤ pos (clamped_exact (pos (100000 * y) +ℤ x)))
from_near e y w x t =
    let both = and_parts _ _ t in
    clamped e y (floor_div (w +ℤ pos 32768) 65536) x (from_test _ _ both.0, from_test _ _ both.1)

red_near : ℕ → Bool
red_near c = near 49800 (pos 91881 *ℤ off c) (pos 140200 *ℤ off c)

blue_near : ℕ → Bool
blue_near c = near 50000 (pos 116130 *ℤ off c) (pos 177200 *ℤ off c)

green_near : ℕ → ℕ → Bool
green_near b r = near 50054 (neg_ℤ (pos 22554) *ℤ off b -ℤ pos 46802 *ℤ off r) (neg_ℤ (pos 34414) *ℤ off b -ℤ pos 71414 *ℤ off r)

reds : pass_below red_near 256 ≡ true
unfolding red_near
reds = refl

blues : pass_below blue_near 256 ≡ true
unfolding blue_near
blues = refl

greens : pass_below (λ b. pass_below (green_near b) 256) 256 ≡ true
unfolding green_near
greens = refl

pub colours_are_near : (y cb cr : ℕ) → cb < 256 → cr < 256
    → IsWithin 49800 (pos (100000 * byte_of (pos y +ℤ floor_div (pos 91881 *ℤ off cr +ℤ pos 32768) 65536)) -ℤ pos (clamped_exact (pos (100000 * y) +ℤ pos 140200 *ℤ off cr)))
    × IsWithin 50054 (pos (100000 * byte_of (pos y +ℤ floor_div (neg_ℤ (pos 22554) *ℤ off cb -ℤ pos 46802 *ℤ off cr +ℤ pos 32768) 65536)) -ℤ pos (clamped_exact (pos (100000 * y) +ℤ (neg_ℤ (pos 34414) *ℤ off cb -ℤ pos 71414 *ℤ off cr))))
    × IsWithin 50000 (pos (100000 * byte_of (pos y +ℤ floor_div (pos 116130 *ℤ off cb +ℤ pos 32768) 65536)) -ℤ pos (clamped_exact (pos (100000 * y) +ℤ pos 177200 *ℤ off cb)))
unfolding red_near blue_near green_near
colours_are_near y cb cr hb hr = (
  from_near 49800 y (pos 91881 *ℤ off cr) (pos 140200 *ℤ off cr) (pass_at red_near 256 reds cr hr),
  from_near 50054 y (neg_ℤ (pos 22554) *ℤ off cb -ℤ pos 46802 *ℤ off cr) (neg_ℤ (pos 34414) *ℤ off cb -ℤ pos 71414 *ℤ off cr) (pass_at (green_near cb) 256 (pass_at (λ b. pass_below (green_near b) 256) 256 greens cb hb) cr hr),
  from_near 50000 y (pos 116130 *ℤ off cb) (pos 177200 *ℤ off cb) (pass_at blue_near 256 blues cb hb),
)
