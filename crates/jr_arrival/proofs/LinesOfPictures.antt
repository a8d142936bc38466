-- The lines of each image of a scan.
use Rattle.std.proofs.Common.{◌≡◌, ℕ, ◌+◌, ◌-◌, ◌*◌, ◌/◌, ◌%◌, ◌<◌, ◌≤◌, List, [], length, get_or, sym, ap, subst, ◌∙◌, arith}
use Rattle.jr_head.specs.HeadValue.{HeadValue}
use Rattle.jr_head.specs.Geometry.{IsValid, blocks_of, mcus_across, mcus_down, vertical_max, vertical_of}
use Rattle.jr_scan.specs.ScanValue.{ScanValue}
use Rattle.jr_scan.proofs.ScanLaws.{one_decoding, one_front}
use Rattle.jr_paint.specs.Lines.{line_of, next_lines_of}
use Rattle.jr_paint.proofs.Factors.{sampled_at, scaled_below}
use Rattle.jr_paint.proofs.PixelLaws.{flat_map-moved}
use Rattle.jr_paint.proofs.Places.{below_div_ceil}
use Rattle.jr_piece.proofs.EachOutcome.{outcome}
use Rattle.jr_picture.specs.declared.mark.Mark.{Mark}
use Rattle.jr_picture.specs.DecodedScan.{DecodedScan, marks_of}
use Rattle.jr_picture.specs.Headline.{ShowsFirst}
use Rattle.jr_picture.specs.Samples.{samples_of}
use Rattle.jr_picture.proofs.Pictures.{line_same, same_samples}
use Rattle.jr_rows.specs.Bands.{ShowsMcus, samples_in, unit_shown}
use Rattle.jr_rows.specs.Groups.{units_in}
use Rattle.jr_rows.specs.Rows.{DecodesFirst, ShowsFirstUnits, first_line, line_count}
use Rattle.jr_rows.proofs.FirstDecoded.{first_decoded, shows_first}
use Rattle.jr_rows.proofs.GroupLists.{units_long}
use Rattle.jr_rows.proofs.PaintedRows.{row_painted}

-- two images of a scan have the same lines
pub one_lines : (t : ScanValue) (n : ℕ) (k m : List Mark) (f g : ℕ → ℕ → ℕ → ℕ) (first count : ℕ) → first + count ≤ t.head.height → ShowsFirst t n k f → ShowsFirst t n m g → next_lines_of t.head f first count ≡ next_lines_of t.head g first count
one_lines t n k m f g first count high a b =
    let h = t.head in
    let l = a.valid in
    flat_map-moved (line_of h f) (line_of h g) first first count
    (λ j lt. line_same h l f g (first + j)
    (λ c x p left.
    same_samples one_decoding one_front t n k m f g a.picture b.picture a.first b.first c x ((first + j) * vertical_of h c / vertical_max h) p left
    (scaled_below (first + j) h.height (vertical_of h c) (vertical_max h) (sampled_at h c l p).down l.components.down (omega (arith, lt, high)))))

-- so those that each board of the scan shows are those of each image
pub of_picture : (t : ScanValue) (marks : List Mark) (f : ℕ → ℕ → ℕ → ℕ) (first count : ℕ) (pixels : List ℕ) → first + count ≤ t.head.height → ShowsFirst t (length t.intervals) marks f
    → ((b : DecodedScan) → DecodesFirst t (length t.intervals) b → pixels ≡ next_lines_of t.head (samples_of b) first count) → pixels ≡ next_lines_of t.head f first count
of_picture t marks f first count pixels high shows are =
    let n = length t.intervals in
    let b = first_decoded outcome t n (omega arith) in
    are b.0 b.1 ∙ one_lines t n (marks_of b.0) marks (samples_of b.0) f first count high (shows_first t n b.0 b.1 shows.valid) shows

-- a row whose data units are the image's is painted as the image
module _ (t : ScanValue) (n row : ℕ) (groups : List (List ℕ)) (valid : IsValid t.head) (inside : row < mcus_down t.head)
    (shown : ShowsFirstUnits t n (row * mcus_across t.head) (mcus_across t.head) (units_in t.head groups)) (b : DecodedScan) (first : DecodesFirst t n b) where
  abbrev h : HeadValue
  h = t.head

  pub shows_mcus : ShowsMcus b (row * mcus_across h) (units_in h groups)
  shows_mcus =
      subst (λ (u : ScanValue). (k : ℕ) → k < length (units_in h groups) → get_or (units_in h groups) k [] ≡ unit_shown b (row * mcus_across h + k / blocks_of u.head) (k % blocks_of u.head)) (sym first.scan_is)
      (λ k lt. shown b first k (omega (arith, lt, units_long h groups)))

  pub row_of_board : (y count : ℕ) → first_line h row ≤ y → y + count ≤ first_line h row + line_count h row → next_lines_of h (samples_in (record { head = h; groups = groups })) y count ≡ next_lines_of h (samples_of b) y count
  row_of_board y count top few =
      let deep = 8 * vertical_max h in
      let positive : 0 < deep = omega (arith, valid.components.down) in
      let high : first_line h row < h.height = below_div_ceil row h.height deep positive inside in
      row_painted b h (ap (λ (u : ScanValue). u.head) first.scan_is) valid groups row shows_mcus y count (y - first_line h row) (omega (arith, top)) (omega (arith, few, top)) (omega (arith, few, high))
