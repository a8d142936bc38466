-- Lanes of vectors that hold a row of each of two blocks: eight numbers of the first, then eight of the second.
use Rattle.std.specs.Prelude.{ℕ, ◌+◌, ◌-◌, ◌*◌, ◌/◌, ◌^◌, ◌<◌, Bool, cond, ℤ, ◌+ℤ◌, ◌-ℤ◌, List, [], ◌∷◌, slice_index_or}
use Rattle.jr_idct.specs.Matrix.{at, floor_div, IsWithin}

-- which of the sixteen lanes is lane j of a half of them: of the lower halves of both rows, or of the upper ones
abbrev pub half_lane : Bool → ℕ → ℕ
half_lane upper j = j + 4 * (j / 4) + cond upper 4 0

-- lane p of row i
abbrev pub lane : List (List ℤ) → ℕ → ℕ → ℤ
lane rows i p = at (slice_index_or rows i []) p

-- z fits in 32 bits, and without its last bits in 16
abbrev pub IsShort : ℕ → ℤ → Type 0
IsShort bits z = IsWithin (2 ^ 31 - 1) z × IsWithin 32767 (floor_div z (2 ^ bits))

-- of even and odd parts in eight lanes, the sums and the differences are short
abbrev pub AreShort : ℕ → (even odd : List ℤ) → Type 0
AreShort bits even odd = (j : ℕ) → j < 8 → IsShort bits (at even j +ℤ at odd j) × IsShort bits (at even j -ℤ at odd j)

-- of two vectors of sixteen lanes, which lanes are taken by turns from the lower or from the upper parts of both halves:
-- one at a time, two, or four
abbrev pub word_lanes : Bool → List ℕ
word_lanes upper = cond upper (4 ∷ 20 ∷ 5 ∷ 21 ∷ 6 ∷ 22 ∷ 7 ∷ 23 ∷ 12 ∷ 28 ∷ 13 ∷ 29 ∷ 14 ∷ 30 ∷ 15 ∷ 31 ∷ []) (0 ∷ 16 ∷ 1 ∷ 17 ∷ 2 ∷ 18 ∷ 3 ∷ 19 ∷ 8 ∷ 24 ∷ 9 ∷ 25 ∷ 10 ∷ 26 ∷ 11 ∷ 27 ∷ [])

abbrev pub doubles : Bool → List ℕ
doubles upper = cond upper (4 ∷ 5 ∷ 20 ∷ 21 ∷ 6 ∷ 7 ∷ 22 ∷ 23 ∷ 12 ∷ 13 ∷ 28 ∷ 29 ∷ 14 ∷ 15 ∷ 30 ∷ 31 ∷ []) (0 ∷ 1 ∷ 16 ∷ 17 ∷ 2 ∷ 3 ∷ 18 ∷ 19 ∷ 8 ∷ 9 ∷ 24 ∷ 25 ∷ 10 ∷ 11 ∷ 26 ∷ 27 ∷ [])

abbrev pub quads : Bool → List ℕ
quads upper = cond upper (4 ∷ 5 ∷ 6 ∷ 7 ∷ 20 ∷ 21 ∷ 22 ∷ 23 ∷ 12 ∷ 13 ∷ 14 ∷ 15 ∷ 28 ∷ 29 ∷ 30 ∷ 31 ∷ []) (0 ∷ 1 ∷ 2 ∷ 3 ∷ 16 ∷ 17 ∷ 18 ∷ 19 ∷ 8 ∷ 9 ∷ 10 ∷ 11 ∷ 24 ∷ 25 ∷ 26 ∷ 27 ∷ [])

-- of two vectors of 32 bytes, in the same way: one at a time, or four
abbrev pub bytes : Bool → List ℕ
bytes upper = cond upper
    (8 ∷ 40 ∷ 9 ∷ 41 ∷ 10 ∷ 42 ∷ 11 ∷ 43 ∷ 12 ∷ 44 ∷ 13 ∷ 45 ∷ 14 ∷ 46 ∷ 15 ∷ 47 ∷ 24 ∷ 56 ∷ 25 ∷ 57 ∷ 26 ∷ 58 ∷ 27 ∷ 59 ∷ 28 ∷ 60 ∷ 29 ∷ 61 ∷ 30 ∷ 62 ∷ 31 ∷ 63 ∷ [])
    (0 ∷ 32 ∷ 1 ∷ 33 ∷ 2 ∷ 34 ∷ 3 ∷ 35 ∷ 4 ∷ 36 ∷ 5 ∷ 37 ∷ 6 ∷ 38 ∷ 7 ∷ 39 ∷ 16 ∷ 48 ∷ 17 ∷ 49 ∷ 18 ∷ 50 ∷ 19 ∷ 51 ∷ 20 ∷ 52 ∷ 21 ∷ 53 ∷ 22 ∷ 54 ∷ 23 ∷ 55 ∷ [])

abbrev pub fours : Bool → List ℕ
fours upper = cond upper
    (8 ∷ 9 ∷ 10 ∷ 11 ∷ 40 ∷ 41 ∷ 42 ∷ 43 ∷ 12 ∷ 13 ∷ 14 ∷ 15 ∷ 44 ∷ 45 ∷ 46 ∷ 47 ∷ 24 ∷ 25 ∷ 26 ∷ 27 ∷ 56 ∷ 57 ∷ 58 ∷ 59 ∷ 28 ∷ 29 ∷ 30 ∷ 31 ∷ 60 ∷ 61 ∷ 62 ∷ 63 ∷ [])
    (0 ∷ 1 ∷ 2 ∷ 3 ∷ 32 ∷ 33 ∷ 34 ∷ 35 ∷ 4 ∷ 5 ∷ 6 ∷ 7 ∷ 36 ∷ 37 ∷ 38 ∷ 39 ∷ 16 ∷ 17 ∷ 18 ∷ 19 ∷ 48 ∷ 49 ∷ 50 ∷ 51 ∷ 20 ∷ 21 ∷ 22 ∷ 23 ∷ 52 ∷ 53 ∷ 54 ∷ 55 ∷ [])
