-- A file whose restart markers are in step keeps its scan.
use Rattle.std.proofs.Common.{◌≡◌, ℕ, ◌-◌, inr, List, [], ◌++◌, length, drop, replicate, sym, ap, subst, true, ◌∙◌}
use Rattle.jr_cut.specs.declared.scan_end.ScanEnd.TheVariants.{EndOfImage}
use Rattle.jr_cut.specs.Cut.{IsCut}
use Rattle.jr_cut.proofs.CutLaw.{one_cut}
use Rattle.jr_head.specs.HeadValue.{HeadValue}
use Rattle.jr_scan.specs.ScanValue.{IsSameScan, IsScanOf, ScanValue, intervals_of}
use Rattle.jr_mend.specs.declared.resync.Resynced.{Resynced}
use Rattle.jr_mend.specs.Reading.{IsResynced}
use Rattle.jr_mend.specs.Markers.{is_over, markers_in}
use Rattle.jr_mend.specs.Resync.{IsInStep}
use Rattle.jr_mend.proofs.InStep.{in_step_stays, over_by}

-- the intervals by their segments: interval i is segment i, and further ones have no data
abbrev filled : HeadValue → List (List ℕ) → List (List ℕ)
filled h segments = segments ++ replicate (intervals_of h - length segments) []

module _ (file : List ℕ) (h : HeadValue) (s : ScanValue) (same : s.head ≡ h) (is : IsScanOf file s) where
  cut_of : IsCut (intervals_of h) h.scan_at (drop h.scan_at file) is.segments s.ended
  cut_of = subst (λ (x : HeadValue). IsCut (intervals_of x) x.scan_at (drop x.scan_at file) is.segments s.ended) same is.cut

  intervals_are : s.intervals ≡ filled h is.segments
  intervals_are = is.intervals ∙ ap (λ (x : HeadValue). filled x is.segments) same

pub file_in_step_stays : (file : List ℕ) (h : HeadValue) (r : Resynced) (s t : ScanValue) → IsResynced file h r → s.head ≡ h → t.head ≡ h → IsScanOf file s → IsInStep s.ended → ((k : ℕ) → is_over (intervals_of h) (markers_in 0 (drop k (drop h.scan_at file))) ≡ true) → IsScanOf r.file.items t → IsSameScan s t
file_in_step_stays file h r s t is hs ht old in_step none new =
    let n = intervals_of h in
    let cut = cut_of file h s hs old in
    let kept = in_step_stays n h.scan_at (drop h.scan_at file) old.segments s.ended cut in_step (over_by n h.scan_at (drop h.scan_at file) old.segments s.ended cut (inr none)) is.segments is.is in
    let one = one_cut n h.scan_at (drop h.scan_at r.file.items) new.segments is.scan.segments t.ended EndOfImage (cut_of r.file.items h t ht new) is.scan.cut in
    let written : filled h is.segments.datas ≡ filled h is.scan.segments = is.scan.intervals in
    let segments = ap (filled h) (sym kept.0) ∙ written ∙ ap (filled h) (sym one.0) in
    (hs ∙ sym ht, intervals_are file h s hs old ∙ segments ∙ sym (intervals_are r.file.items h t ht new))
