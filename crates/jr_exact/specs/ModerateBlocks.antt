-- Blocks whose samples are those of an image, or not far from it, and how exact an image shows them (T.81, A.3.3).
use Rattle.std.specs.Prelude.{ℕ, ◌*◌, ◌^◌, ◌<◌, ◌≤◌, List, ℤ, pos, ◌≤ℤ◌}
use Rattle.jr_idct.specs.Matrix.{IsWithin}
use Rattle.jr_idct.specs.Ideal.{energy, ideal, IsFaithful}
use Rattle.jr_idct.specs.Transform.{sample_of}
use Rattle.jr_scan.specs.IntervalValue.{IntervalValue}
use Rattle.jr_scan.specs.Mcus.{Decodes}
use Rattle.jr_picture.specs.Headline.{Holds, spot_of}
use Rattle.jr_picture.specs.Exactness.{dequantised_at}

-- each ideal value of the block is from -424 to 424, and so each ideal sample from -296 to 552
pub record IsModerate (x : ℕ → ℤ) : Type 0 where
  pub n : ℕ
  pub large : 10 ^ 6 ≤ n
  pub values : (r c : ℕ) → r < 8 → c < 8 → IsWithin (8 * n * 424) (ideal n x r c)

-- Such a block has an energy of at most the square of 3400.
abbrev pub ModerateBlocksHaveLittleEnergy : Type 0
ModerateBlocksHaveLittleEnergy = (x : ℕ → ℤ) → IsModerate x → energy x ≤ℤ pos (3400 * 3400)

-- Each of its samples is the ideal one rounded down or up.
abbrev pub ModerateSamplesAreFaithful : Type 0
ModerateSamplesAreFaithful = (x : ℕ → ℤ) (r c : ℕ) → r < 8 → c < 8 → IsModerate x → IsFaithful (sample_of x r c) x r c

-- the interval has a decoding, and each of its samples whose block is moderate is shown as the ideal sample, rounded down or up
pub record ShowsModerateFaithfully (i : IntervalValue) (f : ℕ → ℕ → ℕ → ℕ) : Type 0 where
  pub blocks : List (List ℤ)
  pub decodes : Decodes i blocks
  pub samples : (c x y : ℕ) → Holds i c x y → IsModerate (dequantised_at i blocks c x y)
      → IsFaithful (f c x y) (dequantised_at i blocks c x y) (spot_of i.head c x y).row (spot_of i.head c x y).col
