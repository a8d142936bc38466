-- The lines of a row whose MCUs are the image's.
use Rattle.std.proofs.Common.{◌≡◌, ℕ, ◌+◌, ◌-◌, ◌*◌, ◌<◌, ◌≤◌, List, length, take, drop, sym, ap, subst, ◌∙◌, arith}
use Rattle.std.proofs.lemmas.List.{drop-drop}
use Rattle.jr_head.specs.HeadValue.{HeadValue}
use Rattle.jr_head.specs.Geometry.{mcus_down, vertical_max}
use Rattle.jr_paint.specs.Lines.{line_size, next_lines_of}
use Rattle.jr_paint.proofs.Places.{below_div_ceil}
use Rattle.jr_scan.specs.ScanValue.{ScanValue}
use Rattle.jr_picture.specs.declared.mark.Mark.{Mark}
use Rattle.jr_picture.specs.Headline.{ShowsFirst}
use Rattle.jr_rows.specs.Rows.{PaintsRowLines, first_line, line_count}
use Rattle.jr_arrival.proofs.LinesOfPictures.{of_picture, shows_mcus}
use Rattle.jr_arrival.specs.Shown.{ShowsRow}

pub row_lines : (t : ScanValue) (h : HeadValue) (marks : List Mark) (f : ℕ → ℕ → ℕ → ℕ) (row : ℕ) (groups : List (List ℕ)) (pixels : List ℕ) → t.head ≡ h → row < mcus_down h → ShowsRow t row groups → PaintsRowLines h row groups pixels → ShowsFirst t (length t.intervals) marks f
    → pixels ≡ next_lines_of h f (first_line h row) (line_count h row)
row_lines t h marks f row groups pixels e inside shown paints shows =
    let g = t.head in
    let here : row < mcus_down g = subst (λ (g : HeadValue). row < mcus_down g) (sym e) inside in
    let are = subst (λ (g : HeadValue). PaintsRowLines g row groups pixels) (sym e) paints in
    let high : first_line g row < g.height = below_div_ceil row g.height (8 * vertical_max g) (omega (arith, shows.valid.components.down)) here in
    let stated = of_picture t marks f (first_line g row) (line_count g row) pixels (omega (arith, high)) shows
    (λ b first. are b (ap (λ (u : ScanValue). u.head) first.scan_is) (shows_mcus t (length t.intervals) row groups shows.valid here shown b first)) in
    subst (λ (g : HeadValue). pixels ≡ next_lines_of g f (first_line g row) (line_count g row)) e stated

-- no lines
pub no_lines : (h : HeadValue) (f : ℕ → ℕ → ℕ → ℕ) (y n : ℕ) (pixels : List ℕ) → n ≡ 0 → take (n * line_size h) pixels ≡ next_lines_of h f y n
no_lines h f y n pixels none =
    let zero_is : n * line_size h ≡ 0 = ap (λ (k : ℕ). k * line_size h) none ∙ omega arith in
    ap (λ (k : ℕ). take k pixels) zero_is ∙ sym (ap (next_lines_of h f y) none)

-- two lists that are equal after a position are equal after each later one
pub kept_more : (xs ys : List ℕ) (a b : ℕ) → a ≤ b → drop a xs ≡ drop a ys → drop b xs ≡ drop b ys
kept_more xs ys a b le e =
    let there : a + (b - a) ≡ b = omega (arith, le) in
    ap (λ (k : ℕ). drop k xs) (sym there) ∙ sym (drop-drop (b - a) a xs) ∙ ap (drop (b - a)) e ∙ drop-drop (b - a) a ys ∙ ap (λ (k : ℕ). drop k ys) there
