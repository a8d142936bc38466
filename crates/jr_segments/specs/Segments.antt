-- Marker segments (T.81, B.1.1), and the tests of their framing.
use Rattle.std.specs.Prelude.{ℕ, suc, ◌+◌, ◌-◌, ◌==◌, Bool, not, ◌||◌, ◌&&◌, nat_lt, nat_le, List, [], ◌∷◌, ◌++◌, length, take, drop, replicate, Option, is_some}
use Rattle.std.specs.List.{list_any}
use Rattle.byteorder.specs.Endian.{big_bytes}
use Rattle.jr_base.specs.Fill.{fill_count}
use Rattle.jr_base.specs.declared.marker.TheConstants.{APP0, APP15, COM, DHT, DQT, DRI, PREFIX, SOF0, SOF1, SOF10, SOF11, SOF13, SOF14, SOF15, SOF2, SOF3, SOF5, SOF6, SOF7, SOF9, SOS}
use Rattle.jr_segments.specs.declared.refusal.Refusal.TheVariants.{EndsEarly, ExpectedMarker, UnexpectedMarker, NotBaseline, BadLength, SecondFrame, NoFrame}
use Rattle.jr_segments.specs.Bytes.{byte, word}
use Rattle.jr_segments.specs.Tables.{last_where}
use Rattle.jr_segments.specs.Tests.{Test, ◌when◌}

-- the number of extra FF bytes, a code, and a payload
pub record Segment : Type 0 where
  pub fill : ℕ
  pub code : ℕ
  pub payload : List ℕ

-- the length counts itself
unfoldable pub segment_bytes : Segment → List ℕ
segment_bytes i = replicate (suc i.fill) PREFIX ++ (i.code ∷ (big_bytes 2 (length i.payload + 2) ++ i.payload))

-- C2, C3, C5 to C7, C9 to CB, CD to CF
abbrev pub is_not_baseline : ℕ → Bool
is_not_baseline code = list_any (λ c. c == code) (SOF2 ∷ SOF3 ∷ SOF5 ∷ SOF6 ∷ SOF7 ∷ SOF9 ∷ SOF10 ∷ SOF11 ∷ SOF13 ∷ SOF14 ∷ SOF15 ∷ [])

-- SOF0 and SOF1
abbrev pub is_frame : ℕ → Bool
is_frame code = code == SOF0 || code == SOF1

-- APP0 to APP15, and COM
abbrev pub is_other : ℕ → Bool
is_other code = (nat_le APP0 code && nat_le code APP15) || code == COM

abbrev pub is_known : ℕ → Bool
is_known code = code == DQT || code == DHT || code == DRI || is_frame code || code == SOS || is_other code

-- the frame header, which is the only one
abbrev pub frame_in : List Segment → Option Segment
frame_in segments = last_where (λ i. is_frame i.code) segments

abbrev pub has_frame : List Segment → Bool
has_frame segments = is_some (frame_in segments)

-- the bytes starting at the code
abbrev pub at_code : List ℕ → List ℕ
at_code bytes = drop (fill_count bytes) bytes

unfoldable pub marker_tests : ℕ → List ℕ → List Test
marker_tests at bytes =
    (EndsEarly when (length bytes == 0))
    ∷ (ExpectedMarker at when (fill_count bytes == 0))
    ∷ (EndsEarly when (length (at_code bytes) == 0))
    ∷ (ExpectedMarker (at + fill_count bytes) when (byte 0 (at_code bytes) == 0))
    ∷ []

unfoldable pub code_tests : Bool → ℕ → List Test
code_tests framed code =
    (NotBaseline code when is_not_baseline code)
    ∷ (SecondFrame when (is_frame code && framed))
    ∷ (NoFrame when (code == SOS && not framed))
    ∷ (UnexpectedMarker code when not (is_known code))
    ∷ []

-- body is what follows the code
unfoldable pub length_tests : ℕ → List ℕ → List Test
length_tests code body =
    (EndsEarly when nat_lt (length body) 2)
    ∷ (BadLength code when nat_lt (word 0 body) 2)
    ∷ (EndsEarly when nat_lt (length body) (word 0 body))
    ∷ []

-- the segment at a marker's position, and what follows it
abbrev pub segment_at : List ℕ → Segment
segment_at bytes = record { fill = fill_count bytes - 1; code = byte 0 (at_code bytes); payload = take (word 1 (at_code bytes) - 2) (drop 3 (at_code bytes)) }

abbrev pub after_segment : List ℕ → List ℕ
after_segment bytes = drop (1 + word 1 (at_code bytes)) (at_code bytes)

unfoldable pub framing_tests : Bool → ℕ → List ℕ → List Test
framing_tests framed at bytes =
    marker_tests at bytes ++ (code_tests framed (byte 0 (at_code bytes)) ++ length_tests (byte 0 (at_code bytes)) (drop 1 (at_code bytes)))
