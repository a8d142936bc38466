-- A file whose restart markers are in step and whose scan ends with EOI becomes one with its own scan.
use Rattle.std.proofs.Common.{◌≡◌, ℕ, suc, ◌+◌, ◌-◌, ◌%◌, ◌≤◌, ◌⊎◌, true, inl, inr, List, [], ◌∷◌, ◌++◌, length, map, take, drop, replicate, refl, sym, ap, subst, ◌∙◌, length-append, arith}
use Rattle.std.specs.List.{AllByRecursion, AllZip, flat_map}
use Rattle.std.proofs.lemmas.List.{drop_at, length-take-le}
use Rattle.std.proofs.Math.ListN.{length-drop}
use Rattle.jr_base.specs.declared.limits.TheConstants.{MAX_FILE_BYTES}
use Rattle.jr_base.specs.declared.marker.TheConstants.{EOI, RST0}
use Rattle.jr_cut.specs.declared.scan_end.ScanEnd.{ScanEnd}
use Rattle.jr_cut.specs.declared.scan_end.ScanEnd.TheVariants.{EndOfImage}
use Rattle.jr_cut.specs.Cut.{CodedSegment, IsCut, IsRaw, marker, with_markers}
use Rattle.jr_cut.proofs.CutLaw.{one_cut}
use Rattle.jr_cut.proofs.Segments.{length_marker}
use Rattle.jr_head.specs.HeadValue.{HeadValue}
use Rattle.jr_head.specs.Heads.{HeadOf}
use Rattle.jr_head.proofs.HeadStays.{header_stays, scan_within}
use Rattle.jr_scan.specs.ScanValue.{IsScanOf, ScanValue, intervals_of}
use Rattle.jr_mend.specs.Markers.{is_over, markers_in}
use Rattle.jr_mend.specs.Reading.{Becomes, IsFileInStep}
use Rattle.jr_mend.specs.Resync.{Part, Resync, new_segments}
use Rattle.jr_mend.specs.Splice.{coded_intervals, joined_intervals, spliced}
use Rattle.jr_mend.proofs.InStep.{after, all_segments, parts_of, resync, whole}
use Rattle.jr_mend.proofs.Splices.{coded_cut, scan_is}

-- the segments that follow markers, as coded
abbrev raws_of : ℕ → List CodedSegment → List (List ℕ)
raws_of k ps = flat_map (λ (p : Part). new_segments p.missing p.raw) (parts_of k ps)

abbrev datas_of : List CodedSegment → List (List ℕ)
datas_of ps = map (λ (p : CodedSegment). p.bytes) ps

spell : (k : ℕ) (ps : List CodedSegment) → AllByRecursion (λ p. IsRaw p.raw p.bytes) ps → AllZip IsRaw (raws_of k ps) (datas_of ps)
unfolding parts_of
spell k [] each = tt
spell k (p ∷ ps) each = (each.0, spell (suc k) ps each.1)

as_many : (k : ℕ) (ps : List CodedSegment) → length (raws_of k ps) ≡ length ps
unfolding parts_of
as_many k [] = refl
as_many k (p ∷ ps) = ap suc (as_many (suc k) ps)

-- without fill bytes before markers they are at most as long
no_longer : (j k : ℕ) (ps : List CodedSegment) → length (joined_intervals (suc k) (raws_of j ps)) ≤ length (with_markers k ps)
unfolding parts_of
no_longer j k [] = omega arith
no_longer j k (p ∷ ps) =
    let old = marker p.more (RST0 + k % 8) in
    let new = marker 0 (RST0 + k % 8) in
    let rest = joined_intervals (suc (suc k)) (raws_of (suc j) ps) in
    omega (arith, no_longer (suc j) (suc k) ps, length-append old (p.raw ++ with_markers (suc k) ps), length-append p.raw (with_markers (suc k) ps), length-append new (p.raw ++ rest), length-append p.raw rest, length_marker p.more (RST0 + k % 8), length_marker 0 (RST0 + k % 8))

module _ (file : List ℕ) (s : ScanValue) (head : HeadOf file s.head) (is : IsScanOf file s) (in_step : IsFileInStep file s.head) where
  abbrev h : HeadValue
  h = s.head

  abbrev n : ℕ
  n = intervals_of h

  abbrev bytes : List ℕ
  bytes = drop h.scan_at file

  abbrev c : IsCut n h.scan_at bytes in_step.0 EndOfImage
  c = in_step.1

  abbrev over : (0 + length c.segments + 1 ≡ n) ⊎ (is_over n (markers_in 0 c.tail) ≡ true)
  over = inl (all_segments n h.scan_at bytes in_step.0 EndOfImage c in_step.2)

  abbrev segments : Resync
  segments = whole n h.scan_at bytes in_step.0 EndOfImage c (inr (inl refl)) over

  abbrev new : List ℕ
  new = spliced file h segments.raws

  all : AllZip IsRaw segments.raws segments.datas
  unfolding after
  all = (c.is_raw, spell 0 c.segments c.each)

  few : length segments.raws ≤ n
  unfolding after
  few = omega (arith, as_many 0 c.segments, c.few)

  small : length new ≤ MAX_FILE_BYTES
  unfolding after
  small =
      let tail = c.ends in
      let rest = joined_intervals 1 (raws_of 0 c.segments) in
      let eoi = marker 0 EOI in
      let end = ap length tail.2 ∙ length-append (marker tail.0 EOI) tail.1 in
      omega (
        arith,
        head.small,
        scan_within file [] h head,
        length-append (take h.scan_at file) (coded_intervals segments.raws),
        length-take-le h.scan_at file (scan_within file [] h head),
        length-drop h.scan_at file,
        length-append (c.raw ++ rest) eoi,
        length-append c.raw rest,
        length_marker 0 EOI,
        no_longer 0 0 c.segments,
        ap length c.spelled,
        length-append c.raw (with_markers 0 c.segments ++ c.tail),
        length-append (with_markers 0 c.segments) c.tail,
        end,
        length_marker tail.0 EOI,
      )

  become : Becomes file h new [] EndOfImage
  unfolding after
  become = record {
    segments = segments;
    is = resync n h.scan_at bytes in_step.0 EndOfImage c (inr (inl refl)) over;
    bytes = refl;
    breaks = refl;
    ended = refl;
    head = header_stays file (coded_intervals segments.raws) h head small;
    scan = scan_is file h segments.raws segments.datas head all (omega arith) few;
  }

  same_scan : IsScanOf new s
  unfolding after
  same_scan =
      let one = one_cut n h.scan_at bytes is.segments in_step.0 s.ended EndOfImage is.cut c in
      let long : length (take h.scan_at file) ≡ h.scan_at = length-take-le h.scan_at file (scan_within file [] h head) in
      let scan : drop h.scan_at new ≡ coded_intervals segments.raws = drop_at (take h.scan_at file) (coded_intervals segments.raws) h.scan_at long in
      let datas : is.segments ≡ segments.datas = one.0 ∙ c.means in
      let cut = coded_cut n h.scan_at segments.raws segments.datas all (omega arith) few in
      record {
        segments = segments.datas;
        cut = subst (λ (x : List ℕ). IsCut n h.scan_at x segments.datas s.ended) (sym scan) (subst (λ (e : ScanEnd). IsCut n h.scan_at (coded_intervals segments.raws) segments.datas e) (sym one.1) cut);
        intervals = is.intervals ∙ ap (λ (x : List (List ℕ)). x ++ replicate (n - length x) []) datas;
      }

  pub in_step_is_resynced : (new : List ℕ) × Becomes file s.head new [] EndOfImage × IsScanOf new s
  in_step_is_resynced = (new, become, same_scan)
