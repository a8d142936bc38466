-- Whole numbers: bounds, division and bytes.
use Rattle.std.specs.Prelude.{ℕ, min, ℤ, pos, negsuc, neg_ℤ, ◌≤ℤ◌}
use Rattle.std.specs.Int.Signed.{shr_z}

-- z lies from -n to n
abbrev pub IsWithin : ℕ → ℤ → Type 0
IsWithin n z = (neg_ℤ (pos n) ≤ℤ z) × (z ≤ℤ pos n)

-- z divided by d, rounded towards the lesser number
abbrev pub floor_div : ℤ → ℕ → ℤ
floor_div z d = shr_z z d

-- the nearest number from 0 to 255
abbrev pub byte_of : ℤ → ℕ
byte_of (pos n) = min n 255
byte_of (negsuc n) = 0
