-- The lines of a row of MCUs are those of the image.
use Rattle.std.proofs.Common.{◌≡◌, ℕ, ◌+◌, ◌*◌, ◌≤◌, List, ap, sym, subst, ◌∙◌}
use Rattle.jr_head.specs.HeadValue.{HeadValue}
use Rattle.jr_head.specs.Geometry.{IsValid, mcus_across, vertical_max}
use Rattle.jr_paint.specs.Lines.{next_lines_of}
use Rattle.jr_picture.specs.DecodedScan.{DecodedScan}
use Rattle.jr_picture.specs.Samples.{samples_of}
use Rattle.jr_scan.specs.ScanValue.{ScanValue}
use Rattle.jr_rows.specs.Bands.{ShowsMcus, samples_in}
use Rattle.jr_rows.specs.Groups.{units_in}
use Rattle.jr_rows.specs.Rows.{DecodesFirst, PaintsRowLines, ShowsLines, first_line, line_count}
use Rattle.jr_rows.proofs.PictureLines.{row_lines}

abbrev pub Painted : DecodedScan → HeadValue → Type 0
Painted b h = IsValid h → (groups : List (List ℕ)) → (r : ℕ) → ShowsMcus b (r * mcus_across h) (units_in h groups)
    → (y n from : ℕ) → y ≡ r * (8 * vertical_max h) + from → from + n ≤ 8 * vertical_max h → y + n ≤ h.height → next_lines_of h (samples_in (record { head = h; groups = groups })) y n ≡ next_lines_of h (samples_of b) y n

here : (b : DecodedScan) → Painted b b.scan.head
here b valid groups r shows y n from first most inside = row_lines b valid r groups shows y n from first most inside

pub row_painted : (b : DecodedScan) (h : HeadValue) → b.scan.head ≡ h → Painted b h
row_painted b h e = subst (Painted b) e (here b)

-- a row that is decoded and painted
pub shows : (t : ScanValue) (limit row : ℕ) (h : HeadValue) (groups : List (List ℕ)) (pixels : List ℕ) → h ≡ t.head
    → ((b : DecodedScan) → DecodesFirst t limit b → ShowsMcus b (row * mcus_across t.head) (units_in t.head groups)) → PaintsRowLines h row groups pixels → ShowsLines t limit row pixels
shows t limit row h groups pixels e units painted b first =
    let own : b.scan.head ≡ h = ap (λ (s : ScanValue). s.head) first.scan_is ∙ sym e in
    let there = subst (λ (k : HeadValue). ShowsMcus b (row * mcus_across k) (units_in k groups)) (sym e) (units b first) in
    painted b own there ∙ ap (λ (k : HeadValue). next_lines_of k (samples_of b) (first_line k row) (line_count k row)) e
