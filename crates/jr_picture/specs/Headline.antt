-- What an image of a scan shows, by the marks of its intervals. f is its samples by component, column and line.
use Rattle.std.specs.Prelude.{◌≡◌, ◌≢◌, ℕ, ◌+◌, ◌*◌, ◌<◌, ◌≤◌, ◌==◌, Bool, true, false, List, length, count_by, ℤ, slice_index, slice_index_or, if◌then◌else◌}
use Rattle.jr_segments.specs.declared.kind.Kind.{Kind}
use Rattle.jr_segments.specs.declared.kind.Kind.TheVariants.{Grey, Rgb, Ycc}
use Rattle.jr_head.specs.HeadValue.{HeadValue}
use Rattle.jr_head.specs.Geometry.{components_of, horizontal_of, vertical_of, blocks_of}
use Rattle.jr_head.specs.Geometry as heads
pub use Rattle.jr_head.specs.Intervals.{interval_number, within_interval}
use Rattle.jr_paint.specs.Geometry.{samples_across, samples_down}
pub use Rattle.jr_paint.specs.Geometry.{spot_of, place_in}
use Rattle.jr_paint.specs.declared.geometry.Spot.{Spot}
use Rattle.jr_paint.specs.Text.{text_of}
use Rattle.jr_scan.specs.IntervalValue.{IntervalValue}
use Rattle.jr_scan.specs.ScanValue.{ScanValue}
use Rattle.jr_scan.specs.ScanValue as scans
use Rattle.jr_scan.specs.Mcus.{Decodes, HasNoDecoding, LongestFront}
use Rattle.jr_piece.specs.Outcome.{unit_of}
use Rattle.jr_picture.specs.declared.mark.Mark.{Mark}
use Rattle.jr_picture.specs.declared.mark.Mark.TheVariants.{Blank, Sound, Damaged}

-- the sample of an interval that is not decoded: black
abbrev pub blank_of : Kind → ℕ → ℕ
blank_of Grey c = 0
blank_of Rgb c = 0
blank_of Ycc c = if c == 0 then 0 else 128

-- the data unit of a spot in the interval that holds it
abbrev pub unit_number : HeadValue → Spot → ℕ
unit_number h s = within_interval h s.mcu * blocks_of h + s.block

-- the image has this sample, and the interval holds it
pub record Holds (i : IntervalValue) (c x y : ℕ) : Type 0 where
  pub component : c < components_of i.head
  pub column : x < samples_across i.head c
  pub line : y < samples_down i.head c
  pub interval : interval_number i.head (spot_of i.head c x y).mcu ≡ i.number

-- the sample there of these blocks of the interval
abbrev pub decoded_sample : IntervalValue → List (List ℤ) → ℕ → ℕ → ℕ → ℕ
decoded_sample i zs c x y = slice_index (unit_of i.head zs (unit_number i.head (spot_of i.head c x y))) (place_in (spot_of i.head c x y))

-- the interval has a decoding, and each of its samples is shown
pub record ShowsDecoding (i : IntervalValue) (f : ℕ → ℕ → ℕ → ℕ) : Type 0 where
  pub blocks : List (List ℤ)
  pub decodes : Decodes i blocks
  pub samples : (c x y : ℕ) → Holds i c x y → f c x y ≡ decoded_sample i blocks c x y

-- the interval has no decoding; its longest decodable prefix of whole MCUs is shown, and grey after it
pub record ShowsFront (i : IntervalValue) (f : ℕ → ℕ → ℕ → ℕ) : Type 0 where
  pub undecodable : HasNoDecoding i
  pub front : ℕ
  pub blocks : List (List ℤ)
  pub longest : LongestFront i front blocks
  pub within : (c x y : ℕ) → Holds i c x y → unit_number i.head (spot_of i.head c x y) < length blocks → f c x y ≡ decoded_sample i blocks c x y
  pub after : (c x y : ℕ) → Holds i c x y → length blocks ≤ unit_number i.head (spot_of i.head c x y) → f c x y ≡ 128

-- what an interval with this mark shows
abbrev pub Shows : Mark → IntervalValue → (ℕ → ℕ → ℕ → ℕ) → Type 0
Shows Sound i f = ShowsDecoding i f
Shows Damaged i f = ShowsFront i f
Shows Blank i f = (c x y : ℕ) → Holds i c x y → f c x y ≡ blank_of i.head.kind c

-- blank past the last
abbrev pub mark_in : List Mark → ℕ → Mark
mark_in marks i = slice_index_or marks i Blank

-- THE HEADLINE: there is a mark for each interval, and each interval shows what its mark says
pub record IsPicture (scan : ScanValue) (marks : List Mark) (f : ℕ → ℕ → ℕ → ℕ) : Type 0 where
  pub count : length marks ≡ length scan.intervals
  pub each : (i : ℕ) → Shows (mark_in marks i) (scans.interval_of scan i) f

abbrev pub is_sound : Mark → Bool
is_sound Sound = true
is_sound Damaged = false
is_sound Blank = false

abbrev pub is_damaged : Mark → Bool
is_damaged Sound = false
is_damaged Damaged = true
is_damaged Blank = false

-- the numbers of intervals that are sound, damaged and blank
pub record AreCounts (marks : List Mark) (s d b : ℕ) : Type 0 where
  pub sound : s ≡ count_by is_sound marks
  pub damaged : d ≡ count_by is_damaged marks
  pub blank : s + d + b ≡ length marks

-- the first n intervals are marked, and no other
pub record AreFirst (n : ℕ) (marks : List Mark) : Type 0 where
  pub marked : (i : ℕ) → i < n → mark_in marks i ≢ Blank
  pub blank : (i : ℕ) → n ≤ i → mark_in marks i ≡ Blank

-- an image of a scan, of which the first n intervals are marked, and no other
pub record ShowsFirst (scan : ScanValue) (n : ℕ) (marks : List Mark) (f : ℕ → ℕ → ℕ → ℕ) : Type 0 where
  pub valid : heads.IsValid scan.head
  pub picture : IsPicture scan marks f
  pub first : AreFirst n marks

-- all such images have equal marks and the same text
pub record HasOnePicture (scan : ScanValue) (n : ℕ) : Type 0 where
  pub marks : (k m : List Mark) (f g : ℕ → ℕ → ℕ → ℕ) → ShowsFirst scan n k f → ShowsFirst scan n m g → k ≡ m
  pub text : (k m : List Mark) (f g : ℕ → ℕ → ℕ → ℕ) → ShowsFirst scan n k f → ShowsFirst scan n m g → text_of scan.head f ≡ text_of scan.head g
