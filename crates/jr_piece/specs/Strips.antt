-- Strips: consecutive whole MCUs of an interval, as far as its bits contain them, whatever follows.
use Rattle.std.specs.Prelude.{◌≡◌, ℕ, ◌+◌, ◌-◌, ◌*◌, ◌<◌, ◌≤◌, min, Bool, List, [], ◌∷◌, ◌++◌, map, length, take, drop, slice_get, Some, ℤ}
use Rattle.std.specs.List.{All}
use Rattle.std.specs.declared.sync.Arc.{Arc}
use Rattle.std.specs.Arc.{arc_value}
use Rattle.std.specs.declared.alloc.Global.{Global}
use Rattle.jr_scan.specs.declared.place.Place.{Place}
use Rattle.jr_scan.specs.declared.place.RunEnd.TheVariants.{AllRead}
use Rattle.jr_scan.specs.IntervalValue.{IntervalValue}
use Rattle.jr_scan.specs.Mcus.{AreBlocks, HasLongestFront, ReportsSound, units_before}
use Rattle.jr_scan.specs.Run.{CanReadFrom, IsRun, run_from}
use Rattle.jr_piece.specs.PieceValue.{PieceValue}
use Rattle.jr_piece.specs.Outcome.{AreSamples}
use Rattle.jr_piece.specs.StripValue.{CodedStripValue, PlacedStripValue, StripValue}

-- a strip holds the samples of the blocks of its MCUs
pub record IsStrip (s : StripValue) : Type 0 where
  pub blocks : List (List ℤ)
  pub are : AreBlocks s.interval s.first s.mcus blocks
  pub samples : AreSamples s.interval.head blocks s.samples

-- a coded strip holds such blocks
abbrev pub HasItsBlocks : CodedStripValue → Type 0
HasItsBlocks s = AreBlocks s.interval s.first s.mcus s.blocks

-- a piece shows the strip's MCUs, and at their data units the strip's samples
pub record ShowsStrip (p : PieceValue) (s : StripValue) : Type 0 where
  pub few : s.first + s.mcus ≤ p.front
  pub samples : s.samples ≡ drop (units_before s.interval s.first) (take (units_before s.interval (s.first + s.mcus)) p.samples)

-- the second strip starts where the first one ends
abbrev pub Follows : StripValue → StripValue → Type 0
Follows a b = (a.interval ≡ b.interval) × (b.first ≡ a.first + a.mcus)

-- both as one strip
abbrev pub joined : StripValue → StripValue → StripValue
joined a b = record { interval = a.interval; first = a.first; mcus = a.mcus + b.mcus; samples = a.samples ++ b.samples }

-- the strip has them all
abbrev pub IsWhole : StripValue → Type 0
IsWhole s = (s.first ≡ 0) × HasLongestFront s.interval s.mcus

-- the strip as a piece
abbrev pub piece_of : Bool → StripValue → PieceValue
piece_of is_sound s = record { interval = s.interval; is_sound = is_sound; front = s.mcus; samples = s.samples }

-- the blocks of the strip's MCUs are those that follow its position
pub record IsPlaced (s : PlacedStripValue) : Type 0 where
  pub blocks : List (List ℤ)
  pub are : AreBlocks s.interval s.first s.mcus blocks
  pub can : CanReadFrom s.interval s.from
  pub to : Place
  pub run : IsRun (run_from s.interval s.from s.mcus) blocks to AllRead

-- the strips that these Arcs share
abbrev pub shared_strips : List (Arc StripValue Global) → List StripValue
shared_strips strips = map arc_value strips

-- all of them are of this interval
abbrev pub AreOf : IntervalValue → List StripValue → Type 0
AreOf i strips = All (λ s. s.interval ≡ i) strips

-- the number of MCUs of each strip but the last: that of the first one
abbrev pub mcus_of_each : List StripValue → ℕ
mcus_of_each [] = 1
mcus_of_each (s ∷ more) = s.mcus

-- strip j if the MCUs before `front` make strips of one size and the last has the MCUs that are left
pub record IsStripAt (each front j : ℕ) (s : StripValue) : Type 0 where
  pub some : 0 < s.mcus
  pub first : s.first ≡ j * each
  pub mcus : s.mcus ≡ min each (front - j * each)

-- these are all of them, in their order
pub record AreInOrder (front : ℕ) (strips : List StripValue) : Type 0 where
  pub at : (j : ℕ) (s : StripValue) → slice_get strips j ≡ Some s → IsStripAt (mcus_of_each strips) front j s
  pub all : front ≤ length strips * mcus_of_each strips

-- the interval's bits begin with that number of whole MCUs and no more, and the flag is whether it has a decoding
abbrev pub ReportsEnd : IntervalValue → ℕ → Bool → Type 0
ReportsEnd i front is_sound = HasLongestFront i front × ReportsSound is_sound i
