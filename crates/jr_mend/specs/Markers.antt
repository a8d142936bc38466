-- The markers of a scan, and what those that follow a marker say of its interval (T.81, B.1.1.2, E.1.4 and E.2.4).
use Rattle.std.specs.Prelude.{ℕ, zero, suc, ◌+◌, ◌-◌, ◌*◌, ◌/◌, ◌%◌, Bool, true, false, not, ◌&&◌, ◌||◌, ◌==◌, if◌then◌else◌, nat_le, nat_lt, max, List, [], ◌∷◌}
use Rattle.jr_base.specs.declared.marker.TheConstants.{EOI, PREFIX, RST0, RST7, SOI}
use Rattle.jr_mend.specs.declared.markers.ScanMarker.{ScanMarker}
use Rattle.jr_mend.specs.declared.markers.TheConstants.{MAX_STRAY, TEM}
use Rattle.jr_mend.specs.declared.outlook.TheConstants.{MAX_EARLY, SURE_BYTES}

-- the markers in bytes: FF and a byte other than 00 and FF, each with the number of bytes between the marker before it and its last FF
abbrev pub markers_in : (before : ℕ) → List ℕ → List ScanMarker
markers_in before [] = []
markers_in before (b ∷ []) = []
markers_in before (b ∷ c ∷ bytes) = if (b == PREFIX) && (not (c == 0) && not (c == PREFIX)) then (record { before = before; code = c }) ∷ markers_in 0 bytes else markers_in (suc before) (c ∷ bytes)

abbrev pub is_restart : ℕ → Bool
is_restart code = nat_le RST0 code && nat_le code RST7

-- the number of restart markers up to EOI
abbrev pub restarts : List ScanMarker → ℕ
restarts [] = 0
restarts (m ∷ ms) = if m.code == EOI then 0 else (if is_restart m.code then suc (restarts ms) else restarts ms)

-- restart markers, the second of which has the next number
abbrev pub is_next : (code next : ℕ) → Bool
is_next code next = is_restart code && (next == RST0 + (suc code - RST0) % 8)

-- the first three markers are restart markers that count up
unfoldable pub count_up : List ScanMarker → Bool
count_up [] = false
count_up (a ∷ []) = false
count_up (a ∷ (b ∷ [])) = false
count_up (a ∷ (b ∷ (c ∷ ms))) = is_next a.code b.code && is_next b.code c.code

-- the scan continues in them: such three come, after at most the given number of others, none of which is SOI or EOI
unfoldable pub continues : (others : ℕ) → List ScanMarker → Bool
continues others [] = false
continues zero (m ∷ ms) = count_up (m ∷ ms)
continues (suc others) (m ∷ ms) = count_up (m ∷ ms) || (not (m.code == SOI || m.code == EOI) && continues others ms)

-- after EOI a scan of n intervals continues in them, and they have no more restart markers than it has
abbrev pub goes_on : (n : ℕ) → List ScanMarker → Bool
goes_on n ms = continues MAX_STRAY ms && nat_lt (restarts ms) n

abbrev pub is_false_end : (n : ℕ) → ScanMarker → List ScanMarker → Bool
is_false_end n m ms = (m.code == EOI) && goes_on n ms

abbrev pub is_over : (n : ℕ) → List ScanMarker → Bool
is_over n [] = true
is_over n (m ∷ ms) = not (is_false_end n m ms)

-- the markers, with TEM for each EOI after which the scan continues
abbrev pub as_read : (n : ℕ) → List ScanMarker → List ScanMarker
as_read n [] = []
as_read n (m ∷ ms) = (if is_false_end n m ms then record { before = m.before; code = TEM } else m) ∷ as_read n ms

-- the markers of a scan of n intervals
abbrev pub scan_markers : (n : ℕ) → List ℕ → List ScanMarker
scan_markers n bytes = as_read n (markers_in 0 bytes)

-- up to EOI: the number of bytes, and whether there is EOI
abbrev pub scan_bytes : List ScanMarker → ℕ
scan_bytes [] = 0
scan_bytes (m ∷ ms) = m.before + 2 + (if m.code == EOI then 0 else scan_bytes ms)

abbrev pub has_end : List ScanMarker → Bool
has_end [] = false
has_end (m ∷ ms) = (m.code == EOI) || has_end ms

-- the code is that of the marker before the last `left` of n intervals
abbrev pub is_back : (n left code : ℕ) → Bool
is_back n left code = nat_le (suc left) n && (code == RST0 + (n - left - 1) % 8)

-- the number of restart markers before EOI, from the last one back, that are those before the last of n intervals
abbrev pub counted_back : ℕ → List ScanMarker → ℕ
counted_back n [] = 0
counted_back n (m ∷ ms) =
    let counted = counted_back n ms in
    if m.code == EOI then 0
    else (if is_restart m.code && ((counted == restarts ms) && is_back n (suc (restarts ms)) m.code) then suc counted else counted)

-- whether the restart markers, the first of which has this number modulo 8, are in step over this number of bytes
abbrev pub is_run : (number bytes : ℕ) → List ScanMarker → Bool
is_run number bytes [] = false
is_run number bytes (m ∷ ms) =
    if m.code == EOI then false
    else (if is_restart m.code then (m.code == RST0 + number % 8) && (nat_le bytes (m.before + 2) || is_run (suc number) (bytes - (m.before + 2)) ms)
    else is_run number (bytes - (m.before + 2)) ms)

-- the number of segments that the given number of a scan's bytes holds on average, to the nearest
abbrev pub held : (n size bytes : ℕ) → ℕ
held n size bytes = (2 * (bytes * n) / max size 1 + 1) / 2

-- The maximum number of segments missing before the first of these markers, after segment k, whose marker is `since` bytes before
-- it. It is 0 if the scan is too short for n markers. If EOI comes, and all restart markers before it are counted back, the
-- segments after these are the last ones. Otherwise it is the number of segments that the bytes hold, without segment k, and
-- MAX_EARLY more if the markers after the first are in step over SURE_BYTES.
abbrev pub most_missing : (n size since k : ℕ) → List ScanMarker → ℕ
most_missing n size since k [] = 0
most_missing n size since k (m ∷ ms) =
    if not (nat_le (2 * n) size) then 0
    else (if has_end (m ∷ ms) && (counted_back n (m ∷ ms) == restarts (m ∷ ms)) then n - restarts (m ∷ ms) - suc k
    else held n size since - 1 + (if is_run (suc m.code - RST0) SURE_BYTES ms then MAX_EARLY else 0))
