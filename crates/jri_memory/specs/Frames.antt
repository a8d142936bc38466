-- The size in the first frame header of a file, whether or not jri decodes such a file.
use Rattle.std.specs.Prelude.{◌≡◌, ◌≢◌, ◌<◌, ◌≤◌, ℕ, zero, suc, ◌+◌, Bool, true, false, ◌||◌, List, length, drop}
use Rattle.jr_base.specs.declared.marker.TheConstants.{PREFIX, SOI, SOS}
use Rattle.jr_base.specs.Fill.{fill_count}
use Rattle.jr_segments.specs.Bytes.{byte, word}
use Rattle.jr_segments.specs.Frames.{frame_component_count, height, width}
use Rattle.jr_segments.specs.Segments.{at_code, after_segment, is_frame, is_known, is_not_baseline, segment_at}

-- the bytes begin with a marker, of any code, and a whole segment
pub record HasSegment (bytes : List ℕ) : Type 0 where
  pub marker : 0 < fill_count bytes
  pub long : 2 ≤ word 1 (at_code bytes)
  pub whole : 1 + word 1 (at_code bytes) ≤ length (at_code bytes)

-- SOF0 to SOF15
abbrev pub is_any_frame : ℕ → Bool
is_any_frame code = is_frame code || is_not_baseline code

-- the bytes begin with a segment that may precede the frame header and the scan
pub record HasOther (bytes : List ℕ) : Type 0 where
  pub there : HasSegment bytes
  pub known : is_known (segment_at bytes).code ≡ true
  pub no_frame : is_any_frame (segment_at bytes).code ≡ false
  pub no_scan : (segment_at bytes).code ≢ SOS

-- the bytes begin with a frame header that has this size
pub record HasFrame (bytes : List ℕ) (across down count : ℕ) : Type 0 where
  pub there : HasSegment bytes
  pub is_frame : is_any_frame (segment_at bytes).code ≡ true
  pub long : 6 ≤ length (segment_at bytes).payload
  pub width : across ≡ width (segment_at bytes).payload
  pub height : down ≡ height (segment_at bytes).payload
  pub components : count ≡ frame_component_count (segment_at bytes).payload

-- the bytes after the first n segments
abbrev pub after_segments : ℕ → List ℕ → List ℕ
after_segments zero bytes = bytes
after_segments (suc n) bytes = after_segment (after_segments n bytes)

-- the file begins with SOI, segments that may precede the frame header, and a frame header that has this size
pub record HasSize (file : List ℕ) (across down count : ℕ) : Type 0 where
  pub prefix : byte 0 file ≡ PREFIX
  pub start : byte 1 file ≡ SOI
  pub before : ℕ
  pub others : (k : ℕ) → k < before → HasOther (after_segments k (drop 2 file))
  pub frame : HasFrame (after_segments before (drop 2 file)) across down count

-- the file has this size and no other one
pub record HasOneSize (file : List ℕ) (across down count : ℕ) : Type 0 where
  pub is : HasSize file across down count
  pub only : (w h c : ℕ) → HasSize file w h c → (w ≡ across) × (h ≡ down) × (c ≡ count)

-- it has none
abbrev pub LacksSize : List ℕ → Type 0
LacksSize file = (across down count : ℕ) → HasSize file across down count → ⊥
