-- A scan that is written from coded intervals is cut into them.
use Rattle.std.proofs.Common.{◌≡◌, ℕ, suc, ◌+◌, ◌-◌, ◌%◌, ◌<◌, ◌≤◌, List, [], ◌∷◌, ◌++◌, length, take, drop, replicate, refl, sym, ap, subst, ◌∙◌, append_assoc, arith}
use Rattle.std.specs.List.{AllZip}
use Rattle.std.proofs.lemmas.List.{append-nil, drop_at, length-take-le}
use Rattle.jr_base.specs.declared.marker.TheConstants.{EOI, RST0}
use Rattle.jr_cut.specs.declared.scan_end.ScanEnd.TheVariants.{EndOfImage}
use Rattle.jr_cut.specs.Cut.{CutFrom, IsCut, IsRaw, marker}
use Rattle.jr_cut.proofs.Cuts.{cut_last, cut_next}
use Rattle.jr_head.specs.HeadValue.{HeadValue}
use Rattle.jr_head.specs.Heads.{HeadOf}
use Rattle.jr_head.proofs.HeadStays.{scan_within}
use Rattle.jr_scan.specs.ScanValue.{IsScanOf, intervals_of, scan_of_segments}
use Rattle.jr_mend.specs.Splice.{coded_intervals, joined_intervals, marker_before, spliced}

-- ---- one more interval

pub joined_more : (k : ℕ) (raws : List (List ℕ)) (raw : List ℕ) → joined_intervals k (raws ++ raw ∷ []) ≡ joined_intervals k raws ++ (marker_before (k + length raws) ++ raw)
joined_more k [] raw =
    let here : k ≡ k + 0 = omega arith in
    ap (λ (i : ℕ). marker_before i ++ (raw ++ [])) here ∙ ap (λ (x : List ℕ). marker_before (k + 0) ++ x) (append-nil raw)
joined_more k (r ∷ rs) raw =
    let m = marker_before k in
    let last = λ (i : ℕ). marker_before i ++ raw in
    let number : suc k + length rs ≡ k + suc (length rs) = omega arith in
    ap (λ (x : List ℕ). m ++ (r ++ x)) (joined_more (suc k) rs raw ∙ ap (λ (i : ℕ). joined_intervals (suc k) rs ++ last i) number)
    ∙ ap (λ (x : List ℕ). m ++ x) (sym (append_assoc r (joined_intervals (suc k) rs) (last (k + suc (length rs)))))
    ∙ sym (append_assoc m (r ++ joined_intervals (suc k) rs) (last (k + suc (length rs))))

pub written_more : (k : ℕ) (old new raw front : List ℕ) (raws : List (List ℕ)) → new ≡ old ++ (marker_before k ++ raw) → length raws ≡ k → old ≡ front ++ joined_intervals 0 raws → new ≡ front ++ joined_intervals 0 (raws ++ raw ∷ [])
written_more k old new raw front raws is count e =
    let number : k ≡ 0 + length raws = omega (arith, count) in
    is ∙ ap (λ (x : List ℕ). x ++ (marker_before k ++ raw)) e ∙ append_assoc front (joined_intervals 0 raws) (marker_before k ++ raw)
    ∙ ap (λ (i : ℕ). front ++ (joined_intervals 0 raws ++ (marker_before i ++ raw))) number ∙ ap (λ (x : List ℕ). front ++ x) (sym (joined_more 0 raws raw))

-- ---- the cut

module _ (n : ℕ) where
  cut_from : (k at : ℕ) (raw data' : List ℕ) (raws datas : List (List ℕ)) → IsRaw raw data' → AllZip IsRaw raws datas → k + suc (length raws) ≤ n → CutFrom n k at (raw ++ (joined_intervals (suc k) raws ++ marker 0 EOI)) (data' ∷ datas) EndOfImage
  cut_from k at raw d [] [] is all few = cut_last n k at _ raw d (marker 0 EOI) EndOfImage (omega (arith, few)) is refl (0, [], refl)
  cut_from k at raw d [] (e ∷ es) is all few = absurd all
  cut_from k at raw d (r ∷ rs) [] is all few = absurd all
  cut_from k at raw d (r ∷ rs) (e ∷ es) is all few =
      let eoi = marker 0 EOI in
      let m = marker 0 (RST0 + k % 8) in
      cut_next n k at (at + length raw + 0 + 2) 0 _ raw d (r ++ (joined_intervals (suc (suc k)) rs ++ eoi)) (e ∷ es) EndOfImage is
      (ap (λ (x : List ℕ). raw ++ x) (append_assoc m (r ++ joined_intervals (suc (suc k)) rs) eoi ∙ ap (λ (x : List ℕ). m ++ x) (append_assoc r (joined_intervals (suc (suc k)) rs) eoi))) refl
      (cut_from (suc k) (at + length raw + 0 + 2) r e rs es all.0 all.1 (omega (arith, few)))

pub coded_cut : (n at : ℕ) (raws datas : List (List ℕ)) → AllZip IsRaw raws datas → 0 < length raws → length raws ≤ n → IsCut n at (coded_intervals raws) datas EndOfImage
coded_cut n at [] datas all some few = absurd (omega (arith, some))
coded_cut n at (r ∷ rs) [] all some few = absurd all
coded_cut n at (r ∷ rs) (d ∷ ds) all some few =
    subst (λ (x : List ℕ). IsCut n at x (d ∷ ds) EndOfImage) (sym (append_assoc r (joined_intervals 1 rs) (marker 0 EOI))) (cut_from n 0 at r d rs ds all.0 all.1 (omega (arith, few)))

-- ---- the scan

pub scan_is : (file : List ℕ) (h : HeadValue) (raws datas : List (List ℕ)) → HeadOf file h → AllZip IsRaw raws datas → 0 < length raws → length raws ≤ intervals_of h → IsScanOf (spliced file h raws) (scan_of_segments h datas EndOfImage)
scan_is file h raws datas head all some few =
    let long : length (take h.scan_at file) ≡ h.scan_at = length-take-le h.scan_at file (scan_within file [] h head) in
    let scan : drop h.scan_at (spliced file h raws) ≡ coded_intervals raws = drop_at (take h.scan_at file) (coded_intervals raws) h.scan_at long in
    record {
      segments = datas;
      cut = subst (λ (x : List ℕ). IsCut (intervals_of h) h.scan_at x datas EndOfImage) (sym scan) (coded_cut (intervals_of h) h.scan_at raws datas all some few);
      intervals = refl;
    }

as_many : (raws datas : List (List ℕ)) → AllZip IsRaw raws datas → length raws ≡ length datas
as_many [] [] all = refl
as_many [] (d ∷ ds) all = absurd all
as_many (r ∷ rs) [] all = absurd all
as_many (r ∷ rs) (d ∷ ds) all = ap suc (as_many rs ds all.1)

pub none_missing : (h : HeadValue) (raws datas : List (List ℕ)) → AllZip IsRaw raws datas → length raws ≡ intervals_of h → (scan_of_segments h datas EndOfImage).intervals ≡ datas
none_missing h raws datas all count =
    let none : intervals_of h - length datas ≡ 0 = omega (arith, as_many raws datas all, count) in
    ap (λ (i : ℕ). datas ++ replicate i []) none ∙ append-nil datas
