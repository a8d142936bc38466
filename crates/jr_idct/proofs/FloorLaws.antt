-- The floor: its definition, and that no other number satisfies it.
use Rattle.std.proofs.Common.{arith, ◌≡◌, ℕ, suc, ◌<◌, ◌≤◌, pos, negsuc, ◌+ℤ◌, ◌≤ℤ◌, ◌<ℤ◌, ℤ}
use Rattle.std.proofs.Math.IntN.{◌*ℤ◌}
use Rattle.std.proofs.Math.Nat.{mul-le-mul_left}
use Rattle.std.proofs.lemmas.Int.{ints, by_lt_z}
use Rattle.std.specs.Prelude.{◌↔◌}
use Rattle.jr_idct.specs.Matrix.{floor_div}

pub floor_below : (z : ℤ) (d : ℕ) → 0 < d → (pos d *ℤ floor_div z d) ≤ℤ z
floor_below (pos a) d h = omega (arith, ints)
floor_below (negsuc a) d h = omega (arith, ints)

pub floor_above : (z : ℤ) (d : ℕ) → 0 < d → z <ℤ (pos d *ℤ floor_div z d +ℤ pos d)
floor_above (pos a) d h = omega (arith, ints)
floor_above (negsuc a) d h = omega (arith, ints)

apart : (d : ℕ) (a b : ℤ) → a <ℤ b → (pos d *ℤ a +ℤ pos d) ≤ℤ (pos d *ℤ b)
apart d (pos a) (pos b) h = let s : suc a ≤ b = omega (arith, ints) in omega (arith, ints, mul-le-mul_left d s)
apart d (pos a) (negsuc b) h = absurd (omega (arith, ints))
apart d (negsuc a) (pos b) h = omega (arith, ints)
apart d (negsuc a) (negsuc b) h = let s : suc b ≤ a = omega (arith, ints) in omega (arith, ints, mul-le-mul_left d s)

pub floor_is : (z q : ℤ) (d : ℕ) → 0 < d → (pos d *ℤ q) ≤ℤ z → z <ℤ (pos d *ℤ q +ℤ pos d) → q ≡ floor_div z d
floor_is z q d h low high =
    let f = floor_div z d in
    let a = floor_below z d h in
    let b = floor_above z d h in
    by_lt_z q f
    (λ less. let s = apart d q f less in absurd (omega (arith, ints, s, a, high)))
    (λ most. by_lt_z f q
    (λ less. let s = apart d f q less in absurd (omega (arith, ints, s, b, low)))
    (λ least. omega (arith, ints, most, least)))

pub floors_agree : (z q : ℤ) (d : ℕ) → 0 < d → (q ≡ floor_div z d) ↔ (((pos d *ℤ q) ≤ℤ z) × (z <ℤ (pos d *ℤ q +ℤ pos d)))
floors_agree z q d h = ((λ e. rw e (floor_below z d h, floor_above z d h)), (λ w. floor_is z q d h w.0 w.1))
