-- A file that is read, and written anew as it is resynchronised.
use Rattle.std.specs.Prelude.{◌≡◌, ℕ, suc, ◌+◌, ◌<◌, ◌≤◌, min, List, ◌++◌, length, take, drop}
use Rattle.std.specs.List.{AllZip}
use Rattle.jr_base.specs.declared.limits.TheConstants.{MAX_FILE_BYTES}
use Rattle.jr_cut.specs.declared.scan_end.ScanEnd.TheVariants.{EndOfImage}
use Rattle.jr_cut.specs.declared.scan_end.ScanEnd.{ScanEnd}
use Rattle.jr_cut.specs.Cut.{IsCut, IsRaw, IsStop, marker}
use Rattle.jr_head.specs.HeadValue.{HeadValue}
use Rattle.jr_head.specs.Heads.{HeadOf}
use Rattle.jr_scan.specs.ScanValue.{IsScanOf, intervals_of, scan_of_segments}
use Rattle.jr_cut.specs.declared.breaks.Break.{Break}
use Rattle.jr_mend.specs.declared.following.FoundMarker.{FoundMarker}
use Rattle.jr_mend.specs.declared.reading.Reading.{Reading}
use Rattle.jr_mend.specs.declared.resync.ResyncFault.{ResyncFault}
use Rattle.jr_mend.specs.declared.resync.ResyncFault.TheVariants.{Memory, TooLong}
use Rattle.jr_mend.specs.declared.resync.Resynced.{Resynced}
use Rattle.jr_mend.specs.declared.markers.ScanMarker.{ScanMarker}
use Rattle.jr_mend.specs.declared.outlook.Outlook.{Outlook}
use Rattle.jr_mend.specs.Markers.{counted_back, has_end, restarts, scan_bytes, scan_markers}
use Rattle.jr_mend.specs.Resync.{IsResync, MeansIn, PartsFrom, Resync}
use Rattle.jr_mend.specs.Splice.{joined_intervals, spliced}

-- bytes after segment k of n begin with this marker
pub record Meets (n size since k : ℕ) (tail : List ℕ) (m : FoundMarker) : Type 0 where
  pub more : ℕ
  pub long : m.length ≡ more + 2
  pub spelled : tail ≡ marker more m.code ++ drop m.length tail
  pub means : MeansIn n size since k tail m.code m.missing

-- what is known of the markers ahead
pub record IsOutlook (n : ℕ) (ms : List ScanMarker) (o : Outlook) : Type 0 where
  pub left : o.left ≡ restarts ms
  pub back : counted_back n ms ≡ min o.back (restarts ms)
  pub ended : o.is_ended ≡ has_end ms

-- what is read so far, up to a marker or the end, is written: the segments up to the last that has begun
pub record HasResyncedTo (file : List ℕ) (h : HeadValue) (w : Reading) : Type 0 where
  pub raws : List (List ℕ)
  pub datas : List (List ℕ)
  pub count : length raws ≡ suc w.k
  pub few : w.k < intervals_of h
  pub each : AllZip IsRaw raws datas
  pub near : h.scan_at + w.since ≤ w.at
  pub size : w.outlook.size ≡ scan_bytes (scan_markers (intervals_of h) (drop h.scan_at file))
  pub outlook : IsOutlook (intervals_of h) (scan_markers (intervals_of h) (drop w.at file)) w.outlook
  pub within : w.at ≤ length file
  pub stop : IsStop (drop w.at file)
  pub written : w.bytes.items ≡ take h.scan_at file ++ joined_intervals 0 raws
  pub on : (r : Resync) → PartsFrom (intervals_of h) w.outlook.size w.since w.k w.at (drop w.at file) r → IsResync (intervals_of h) h.scan_at (drop h.scan_at file) (record { raws = raws ++ r.raws; datas = datas ++ r.datas; breaks = w.breaks.items ++ r.breaks; end = r.end })

-- the file becomes this one, with these breaks and this end of its scan: its scan's bytes fall into these segments, and the
-- segments that are lost at the end have no data
pub record Becomes (file : List ℕ) (h : HeadValue) (new : List ℕ) (found : List Break) (end : ScanEnd) : Type 0 where
  pub segments : Resync
  pub is : IsResync (intervals_of h) h.scan_at (drop h.scan_at file) segments
  pub bytes : new ≡ spliced file h segments.raws
  pub breaks : found ≡ segments.breaks
  pub ended : end ≡ segments.end
  pub head : HeadOf new h
  pub scan : IsScanOf new (scan_of_segments h segments.datas EndOfImage)

-- the file is resynchronised
abbrev pub IsResynced : (file : List ℕ) → HeadValue → Resynced → Type 0
IsResynced file h r = Becomes file h r.file.items r.breaks.items r.ended

-- the file has all its intervals, with the restart markers that are due, and EOI after them
abbrev pub IsFileInStep : (file : List ℕ) → HeadValue → Type 0
IsFileInStep file h = (datas : List (List ℕ)) × IsCut (intervals_of h) h.scan_at (drop h.scan_at file) datas EndOfImage × (length datas ≡ intervals_of h)

-- the file that it would become is too long
pub record IsTooLong (file : List ℕ) (h : HeadValue) : Type 0 where
  pub segments : Resync
  pub is : IsResync (intervals_of h) h.scan_at (drop h.scan_at file) segments
  pub long : MAX_FILE_BYTES < length (spliced file h segments.raws)

abbrev pub IsResyncFault : List ℕ → HeadValue → ResyncFault → Type 0
IsResyncFault file h Memory = Unit {0}
IsResyncFault file h TooLong = IsTooLong file h
