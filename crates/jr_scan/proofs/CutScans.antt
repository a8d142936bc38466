-- The end of the image of a scan that is cut from a file.
use Rattle.std.proofs.Common.{◌≡◌, ℕ, List, Option, drop, subst}
use Rattle.jr_cut.specs.ImageEnd.{IsImageEndOf}
use Rattle.jr_cut.specs.declared.scan_end.ScanEnd.{ScanEnd}
use Rattle.jr_head.specs.HeadValue.{HeadValue}
use Rattle.jr_scan.specs.ImageEnd.{IsImageEndIn}
use Rattle.jr_scan.specs.ScanValue.{intervals_of, scan_of_segments}

-- the image of a scan in a file ends at its end in the file's bytes after the scan header
pub is_image_end : (h : HeadValue) (file bytes : List ℕ) (segments : List (List ℕ)) (n at : ℕ) (end : ScanEnd) (place : Option ℕ) → n ≡ intervals_of h → at ≡ h.scan_at → bytes ≡ drop h.scan_at file
    → IsImageEndOf n at bytes end place → IsImageEndIn file (scan_of_segments h segments end) place
is_image_end h file bytes segments n at end place en ea eb e =
    let e1 = subst (λ (xs : List ℕ). IsImageEndOf n at xs end place) eb e in
    let e2 = subst (λ (k : ℕ). IsImageEndOf n k (drop h.scan_at file) end place) ea e1 in
    subst (λ (k : ℕ). IsImageEndOf k h.scan_at (drop h.scan_at file) end place) en e2
