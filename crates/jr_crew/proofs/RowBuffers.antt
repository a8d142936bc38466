-- A row buffer has space for the lines of each row.
use Rattle.std.proofs.Common.{◌≡◌, ℕ, ◌*◌, ◌≤◌, ◌++◌, List, length, take, drop, Option, Some, ap, sym, subst, arith, ◌∙◌}
use Rattle.std.proofs.lemmas.List.{length-take-le}
use Rattle.std.proofs.Math.Nat.{mul-le-mul_right}
use Rattle.std.proofs.Math.Seq.{take-append_seam}
use Rattle.jr_head.specs.HeadValue.{HeadValue}
use Rattle.jr_head.specs.Geometry.{vertical_max}
use Rattle.jr_scan.specs.ScanValue.{ScanValue}
use Rattle.jr_scan.specs.FirstIntervalsValue.{FirstIntervalsValue}
use Rattle.jr_paint.specs.Lines.{line_size}
use Rattle.jr_crew.specs.RowBuffer.{HasPixelSpace}
use Rattle.jr_rows.specs.Rows.{ShowsLines, line_count}

pub row_fits : (scan : ScanValue) (row : ℕ) (pixels : List ℕ) → 8 * vertical_max scan.head * line_size scan.head ≤ length pixels → line_count scan.head row * line_size scan.head ≤ length pixels
row_fits scan row pixels space =
    let few : line_count scan.head row ≤ 8 * vertical_max scan.head = omega arith in
    let fits = mul-le-mul_right (line_size scan.head) few in
    omega (arith, fits, space)

-- the size of a row's lines, by a header that is the scan's
pub lines_fit : (t : ScanValue) (h : HeadValue) (row count line : ℕ) (pixels : List ℕ) → h ≡ t.head → count ≡ line_count h row → line ≡ line_size h
    → 8 * vertical_max t.head * line_size t.head ≤ length pixels → (count * line ≡ line_count t.head row * line_size t.head) × (count * line ≤ length pixels)
lines_fit t h row count line pixels same counted long space =
    let is : count * line ≡ line_count t.head row * line_size t.head = ap (λ (n : ℕ). n * line) (counted ∙ ap (λ (x : HeadValue). line_count x row) same) ∙ ap (λ (n : ℕ). line_count t.head row * n) (long ∙ ap (λ (x : HeadValue). line_size x) same) in
    (is, omega (arith, row_fits t row pixels space, is))

-- a row's lines, after the bytes that were borrowed for them are written back
pub first_lines : (t : ScanValue) (n row size : ℕ) (new old : List ℕ) → size ≡ line_count t.head row * line_size t.head → size ≤ length old → length new ≡ length (take size old)
    → ShowsLines t n row new → ShowsLines t n row (take (line_count t.head row * line_size t.head) (new ++ drop size old))
first_lines t n row size new old is inside same lines b first =
    let long : length new ≡ size = same ∙ length-take-le size old inside in
    ap (λ (k : ℕ). take k (new ++ drop size old)) (sym is ∙ sym long) ∙ take-append_seam new (drop size old) ∙ lines b first

pub first_bytes : (known : Option FirstIntervalsValue) (part : FirstIntervalsValue) (row n : ℕ) (pixels : List ℕ) → known ≡ Some part → HasPixelSpace known pixels → n ≡ line_count part.scan.head row * line_size part.scan.head → n ≡ length (take n pixels)
first_bytes known part row n pixels is space e =
    let fits = row_fits part.scan row pixels (subst (λ (k : Option FirstIntervalsValue). HasPixelSpace k pixels) is space) in
    sym (length-take-le n pixels (omega (arith, fits, e)))
