-- The quality by which libjpeg scales the luminance table of T.81, K.1.
use Rattle.std.specs.Prelude.{◌≡◌, ℕ, ◌+◌, ◌-◌, ◌*◌, ◌/◌, ◌<◌, ◌⊎◌, List, [], ◌∷◌, max, nat_lt, slice_index, if◌then◌else◌}
use Rattle.jr_head.specs.HeadValue.{HeadValue}
use Rattle.jr_head.specs.Geometry.{quantiser_of}

-- table K.1, in zigzag order (T.81, A.3.6)
abbrev pub luminance : List ℕ
luminance =
    16 ∷ 11 ∷ 12 ∷ 14 ∷ 12 ∷ 10 ∷ 16 ∷ 14 ∷ 13 ∷ 14 ∷ 18 ∷ 17 ∷ 16 ∷ 19 ∷ 24 ∷ 40
    ∷ 26 ∷ 24 ∷ 22 ∷ 22 ∷ 24 ∷ 49 ∷ 35 ∷ 37 ∷ 29 ∷ 40 ∷ 58 ∷ 51 ∷ 61 ∷ 60 ∷ 57 ∷ 51
    ∷ 56 ∷ 55 ∷ 64 ∷ 72 ∷ 92 ∷ 78 ∷ 64 ∷ 68 ∷ 87 ∷ 69 ∷ 55 ∷ 56 ∷ 80 ∷ 109 ∷ 81 ∷ 87
    ∷ 95 ∷ 98 ∷ 103 ∷ 104 ∷ 103 ∷ 62 ∷ 77 ∷ 113 ∷ 121 ∷ 112 ∷ 100 ∷ 120 ∷ 92 ∷ 101 ∷ 103 ∷ 99 ∷ []

-- the percentage of a quality from 1 to 100
abbrev pub percent : ℕ → ℕ
percent quality = if nat_lt quality 50 then 5000 / quality else 200 - 2 * quality

-- an element of the table that is scaled and rounded, 1 at least
abbrev pub scaled : ℕ → ℕ → ℕ
scaled percentage unscaled = max 1 ((unscaled * percentage + 50) / 100)

-- it is that, or the greatest of a baseline table if that is greater
abbrev pub IsScaled : ℕ → ℕ → ℕ → Type 0
IsScaled percentage unscaled element =
    (element ≡ scaled percentage unscaled) ⊎ ((element ≡ 255) × (255 < scaled percentage unscaled))

-- a file's table is that of K.1, scaled
abbrev pub IsScaledTable : ℕ → List ℕ → Type 0
IsScaledTable percentage table = (k : ℕ) → k < 64 → IsScaled percentage (slice_index luminance k) (slice_index table k)

-- the table of the first component is
abbrev pub HasQuality : HeadValue → ℕ → Type 0
HasQuality head quality = IsScaledTable (percent quality) (quantiser_of head 0)
