-- What contracts see of the coefficients and of the quantisers of data units.
use Rattle.std.specs.Prelude.{◌≡◌, ℕ, ◌*◌, ◌<◌, ◌≤◌, ℤ, pos, List, length, map, slice_index, slice_index_or}
use Rattle.jr_base.specs.Zigzag.{natural_indexes, places, zigzag_place}
use Rattle.jr_base.specs.declared.quantisers.TheConstants.{MAX_PRODUCT}

-- number k of a list
abbrev pub at : List ℤ → ℕ → ℤ
at xs k = slice_index_or xs k (pos 0)

-- numbers in natural order, arranged in zigzag order
unfoldable pub in_zigzag_order : List ℤ → List ℤ
in_zigzag_order xs = map (at xs) natural_indexes

-- numbers in zigzag order, arranged in natural order
unfoldable pub in_natural_order : List ℤ → List ℤ
in_natural_order xs = map (at xs) places

-- the elements of a quantisation table, arranged in natural order
abbrev pub AreFactors : (elements factors : List ℕ) → Type 0
AreFactors elements factors = (n : ℕ) → n < 64 → slice_index factors n ≡ slice_index elements (zigzag_place n)

-- a coefficient of at most this size has a product with its factor within which the transform reckons in 16 bits
abbrev pub AreLimits : (factors limits : List ℕ) → Type 0
AreLimits factors limits = (n : ℕ) → n < 64 → slice_index limits n * slice_index factors n ≤ MAX_PRODUCT
