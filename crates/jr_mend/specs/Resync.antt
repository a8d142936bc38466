-- How the bytes of a scan fall into intervals if markers or data are lost: restart markers are counted modulo 8, so that a
-- decoder can find how many are missing before one (T.81, B.1.1.5, E.1.4 and E.2.4).
use Rattle.std.specs.Prelude.{◌≡◌, ◌≢◌, ℕ, zero, suc, ◌+◌, ◌%◌, ◌<◌, ◌≤◌, ◌⊎◌, List, [], ◌∷◌, ◌++◌, length, replicate, true, false, Option, Some, None}
use Rattle.std.specs.List.{flat_map}
use Rattle.jr_base.specs.declared.marker.TheConstants.{EOI, PREFIX, RST0}
use Rattle.jr_cut.specs.declared.scan_end.ScanEnd.{ScanEnd}
use Rattle.jr_cut.specs.declared.scan_end.ScanEnd.TheVariants.{EndOfImage, ExtraRestart, EndOfFile}
use Rattle.jr_cut.specs.Cut.{IsRaw, marker, IsEnding}
use Rattle.jr_cut.specs.declared.breaks.Break.{Break}
use Rattle.jr_mend.specs.Markers.{is_over, markers_in, most_missing, scan_bytes, scan_markers}

-- after segment k of n: the restart marker d ahead of the one that is due, and the segment that follows it is one of the
-- scan; of the numbers that equal this one modulo 8, the one that is due, otherwise the last up to the limit
abbrev pub IsAhead : (n k limit code d : ℕ) → Type 0
IsAhead n k limit code d = (k + d + 1 < n) × (code ≡ RST0 + (k + d) % 8) × ((d ≡ 0) ⊎ ((code ≢ RST0 + k % 8) × (d ≤ limit) × (limit < d + 8)))

-- what a marker after segment k means: d segments are missing before the one that follows it, or it is passed over
abbrev pub IsMeaning : (n k limit code : ℕ) → Option ℕ → Type 0
IsMeaning n k limit code (Some d) = IsAhead n k limit code d
IsMeaning n k limit code None = (0 < code) × (code < PREFIX) × (code ≢ EOI) × (k + 1 < n) × ((d : ℕ) → IsAhead n k limit code d → ⊥)

-- what ends the scan after segment k: the end of the file, an EOI after which it does not continue, or any marker if it was the
-- last segment
abbrev pub EndsResync : (n k at : ℕ) → List ℕ → ScanEnd → Type 0
EndsResync n k at tail end = IsEnding n k at tail end × ((end ≡ EndOfFile) ⊎ (((end ≡ EndOfImage) × (is_over n (markers_in 0 tail) ≡ true)) ⊎ (k + 1 ≡ n)))

-- a marker, its further FF and what it means, and the bytes up to the next marker, as coded, and what they spell
pub record Part : Type 0 where
  pub more : ℕ
  pub code : ℕ
  pub missing : Option ℕ
  pub raw : List ℕ
  pub bytes : List ℕ

-- the number of the last segment that has begun
abbrev pub number_after : ℕ → Option ℕ → ℕ
number_after k None = k
number_after k (Some d) = suc (k + d)

abbrev pub part_bytes : Part → List ℕ
part_bytes p = marker p.more p.code ++ p.raw

-- the number of bytes between the marker before the last segment that has begun and the next marker
abbrev pub since_after : (since : ℕ) → Option ℕ → (part : ℕ) → ℕ
since_after since None part = since + part
since_after since (Some d) part = part

-- what a marker means with which these bytes, after segment k, begin; an EOI after which the scan continues is passed over
abbrev pub MeansIn : (n size since k : ℕ) → List ℕ → ℕ → Option ℕ → Type 0
MeansIn n size since k bytes code missing =
    IsMeaning n k (most_missing n size since k (scan_markers n bytes)) code missing
    ⊎ ((k + 1 < n) × (code ≡ EOI) × (is_over n (markers_in 0 bytes) ≡ false) × (missing ≡ None))

-- parts of a scan of that size, after segment k, the first of which is at that offset; `tail` follows them, and its marker ends the scan
abbrev pub AreParts : (n size since k at : ℕ) → (tail : List ℕ) → ScanEnd → List Part → Type 0
AreParts n size since k at tail end [] = EndsResync n k at tail end
AreParts n size since k at tail end (p ∷ ps) =
    MeansIn n size since k (flat_map part_bytes (p ∷ ps) ++ tail) p.code p.missing × IsRaw p.raw p.bytes
    × AreParts n size (since_after since p.missing (length (part_bytes p))) (number_after k p.missing) (at + length (part_bytes p)) tail end ps

-- segments without bytes for those that are missing, and these bytes; bytes after a marker that is passed over are no segment's
abbrev pub new_segments : Option ℕ → List ℕ → List (List ℕ)
new_segments None bytes = []
new_segments (Some d) bytes = replicate d [] ++ bytes ∷ []

-- a marker at an offset that is not the one that is due after segment k
abbrev pub break_at : (at k code : ℕ) → Option ℕ → List Break
break_at at k code None = (record { at = at; code = code; due = k % 8; skipped = 0 }) ∷ []
break_at at k code (Some zero) = []
break_at at k code (Some (suc d)) = (record { at = at; code = code; due = k % 8; skipped = suc d }) ∷ []

abbrev pub breaks_of : (at k : ℕ) → List Part → List Break
breaks_of at k [] = []
breaks_of at k (p ∷ ps) = break_at at k p.code p.missing ++ breaks_of (at + length (part_bytes p)) (number_after k p.missing) ps

-- the segments of a scan, as coded, and what they spell, the markers that are not due, and what ends the scan
pub record Resync : Type 0 where
  pub raws : List (List ℕ)
  pub datas : List (List ℕ)
  pub breaks : List Break
  pub end : ScanEnd

-- the bytes at that offset, after those of segment k: markers with the bytes after them, and what ends the scan
pub record PartsFrom (n size since k at : ℕ) (bytes : List ℕ) (r : Resync) : Type 0 where
  pub parts : List Part
  pub tail : List ℕ
  pub are : AreParts n size since k at tail r.end parts
  pub spelled : bytes ≡ flat_map part_bytes parts ++ tail
  pub raws : r.raws ≡ flat_map (λ (p : Part). new_segments p.missing p.raw) parts
  pub datas : r.datas ≡ flat_map (λ (p : Part). new_segments p.missing p.bytes) parts
  pub breaks : r.breaks ≡ breaks_of at k parts

-- the scan's bytes, of which the first is at that offset of the file: segment 0, and what follows it
pub record IsResync (n at : ℕ) (bytes : List ℕ) (r : Resync) : Type 0 where
  pub some : 0 < n
  pub raw : List ℕ
  pub first : List ℕ
  pub rest : List ℕ
  pub after : Resync
  pub is_raw : IsRaw raw first
  pub spelled : bytes ≡ raw ++ rest
  pub parts : PartsFrom n (scan_bytes (scan_markers n bytes)) (length raw) 0 (at + length raw) rest after
  pub is : r ≡ record { raws = raw ∷ after.raws; datas = first ∷ after.datas; breaks = after.breaks; end = after.end }

-- a scan that ends so has the restart markers that are due, as far as it goes
abbrev pub IsInStep : ScanEnd → Type 0
IsInStep end = (end ≡ EndOfFile) ⊎ ((end ≡ EndOfImage) ⊎ ((at : ℕ) × (end ≡ ExtraRestart at)))
