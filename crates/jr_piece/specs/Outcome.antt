-- The result that T.81 gives for an interval: the samples of its data units, or that it has no decoding and how long its prefix is.
use Rattle.std.specs.Prelude.{◌≡◌, ℕ, ◌<◌, true, false, List, [], length, ℤ, slice_index_or}
use Rattle.jr_head.specs.HeadValue.{HeadValue}
use Rattle.jr_head.specs.Geometry.{quantiser_of}
use Rattle.jr_scan.specs.IntervalValue.{IntervalValue}
use Rattle.jr_mcu.specs.Mcus.{component, block_of}
use Rattle.jr_scan.specs.Mcus.{Decodes, HasNoDecoding, LongestFront}
use Rattle.jr_idct.specs.Transform.{samples}
use Rattle.jr_piece.specs.PieceValue.{PieceValue}

-- the samples of data unit n: its block, by the quantisers of its component (T.81, A.3.3, A.3.4 and A.3.6)
abbrev pub unit_of : HeadValue → List (List ℤ) → ℕ → List ℕ
unit_of h zs n = samples (block_of zs n) (quantiser_of h (component h n))

-- these are the samples of the data units whose blocks are zs
pub record AreSamples (h : HeadValue) (zs : List (List ℤ)) (units : List (List ℕ)) : Type 0 where
  pub count : length units ≡ length zs
  pub each : (n : ℕ) → n < length zs → slice_index_or units n [] ≡ unit_of h zs n

-- the interval has a decoding, of which these are the samples
pub record IsSound (i : IntervalValue) (units : List (List ℕ)) : Type 0 where
  pub blocks : List (List ℤ)
  pub decodes : Decodes i blocks
  pub samples : AreSamples i.head blocks units

-- the interval has none; its longest decodable prefix has n whole MCUs, of which these are the samples
pub record IsDamaged (i : IntervalValue) (front : ℕ) (units : List (List ℕ)) : Type 0 where
  pub undecodable : HasNoDecoding i
  pub blocks : List (List ℤ)
  pub longest : LongestFront i front blocks
  pub samples : AreSamples i.head blocks units

-- a piece contains the result that T.81 gives for its interval
pub record IsOutcome (p : PieceValue) : Type 0 where
  pub sound : p.is_sound ≡ true → IsSound p.interval p.samples
  pub whole : p.is_sound ≡ true → p.front ≡ p.interval.mcus
  pub damaged : p.is_sound ≡ false → IsDamaged p.interval p.front p.samples

-- there is a piece that contains the result that T.81 gives for the interval
abbrev pub HasOutcome : IntervalValue → Type 0
HasOutcome i = (p : PieceValue) × (p.interval ≡ i) × IsOutcome p
