-- How exact the samples of an image are: those of a sound interval next to T.81's ideal transform of its decoding.
use Rattle.std.specs.Prelude.{ℕ, ◌*◌, List, ℤ, pos, ◌≤ℤ◌}
use Rattle.jr_head.specs.Geometry.{quantiser_of}
use Rattle.jr_idct.specs.Transform.{product_at}
use Rattle.jr_idct.specs.Ideal.{energy, IsFaithful}
use Rattle.jr_mcu.specs.Mcus.{component, block_of}
use Rattle.jr_scan.specs.IntervalValue.{IntervalValue}
use Rattle.jr_scan.specs.Mcus.{Decodes}
use Rattle.jr_picture.specs.Headline.{Holds, spot_of, unit_number}

-- the dequantised coefficients of data unit n of these blocks, in natural order (T.81, A.3.4)
abbrev pub dequantised_unit : IntervalValue → List (List ℤ) → ℕ → ℕ → ℤ
dequantised_unit i zs n = product_at (block_of zs n) (quantiser_of i.head (component i.head n))

-- those of the data unit that has the sample in column x and line y of component c
abbrev pub dequantised_at : IntervalValue → List (List ℤ) → (c x y : ℕ) → ℕ → ℤ
dequantised_at i zs c x y = dequantised_unit i zs (unit_number i.head (spot_of i.head c x y))

-- the interval has a decoding, and each of its samples whose block has an energy of at most the square of 3400 is shown as
-- the ideal sample of that block, rounded down or up
pub record ShowsFaithfully (i : IntervalValue) (f : ℕ → ℕ → ℕ → ℕ) : Type 0 where
  pub blocks : List (List ℤ)
  pub decodes : Decodes i blocks
  pub samples : (c x y : ℕ) → Holds i c x y → energy (dequantised_at i blocks c x y) ≤ℤ pos (3400 * 3400)
      → IsFaithful (f c x y) (dequantised_at i blocks c x y) (spot_of i.head c x y).row (spot_of i.head c x y).col
