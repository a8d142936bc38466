-- The lines of an image, one by one.
use Rattle.std.proofs.Common.{◌≡◌, ℕ, zero, suc, ◌+◌, ◌-◌, ◌*◌, ◌<◌, ◌≤◌, List, ◌++◌, length, take, drop, refl, sym, ap, ◌∙◌, arith, append-nil}
use Rattle.std.specs.List.{flat_map, range_with_len}
use Rattle.std.proofs.lemmas.List.{take_at, drop_at, length-append}
use Rattle.jr_head.specs.HeadValue.{HeadValue}
use Rattle.jr_head.specs.Geometry.{IsValid, mcus_across, vertical_max}
use Rattle.jr_segments.specs.declared.kind.Kind.{Kind}
use Rattle.jr_segments.specs.declared.kind.Kind.TheVariants.{Grey, Rgb, Ycc}
use Rattle.jr_paint.specs.Lines.{line_of, line_size}
use Rattle.jr_paint.specs.Text.{bytes_of, pixel_of, pixel_size, pixels_of}
use Rattle.jr_paint.proofs.PixelLaws.{flat_map-range-append}
use Rattle.jr_picture.specs.DecodedScan.{DecodedScan}
use Rattle.jr_picture.specs.Samples.{samples_of}
use Rattle.jr_rows.specs.Bands.{ShowsMcus, samples_in}
use Rattle.jr_rows.specs.Groups.{units_in}
use Rattle.jr_rows.proofs.PaintedRows.{row_painted}
use Rattle.jri_canvas.specs.Layouts.{line_in}

pieces_long : (g : ℕ → List ℕ) (size : ℕ) → ((x : ℕ) → length (g x) ≡ size) → (a n : ℕ) → length (flat_map g (range_with_len a n)) ≡ size * n
pieces_long g size long a zero = omega arith
pieces_long g size long a (suc n) = length-append (g a) (flat_map g (range_with_len (a + 1) n)) ∙ omega (arith, long a, pieces_long g size long (a + 1) n)

bytes_long : (k : Kind) (v : ℕ → ℕ) → length (bytes_of k v) ≡ pixel_size k
bytes_long Grey v = refl
bytes_long Rgb v = refl
bytes_long Ycc v = refl

module _ (h : HeadValue) (f : ℕ → ℕ → ℕ → ℕ) where
  pixel_long : (y x : ℕ) → length (pixel_of h f y x) ≡ pixel_size h.kind
  unfolding pixel_of
  pixel_long y x = bytes_long h.kind _

  pub line_long : (y : ℕ) → length (line_of h f y) ≡ line_size h
  unfolding pixels_of
  line_long y = pieces_long (pixel_of h f y) (pixel_size h.kind) (pixel_long y) 0 h.width

-- line k of n lines starting at line y
module _ (g : ℕ → List ℕ) (size : ℕ) (long : (x : ℕ) → length (g x) ≡ size) where
  one_piece : (a n : ℕ) → flat_map g (range_with_len a (1 + n)) ≡ g a ++ flat_map g (range_with_len (a + 1) n)
  one_piece a n = flat_map-range-append g a 1 n ∙ ap (λ z. z ++ flat_map g (range_with_len (a + 1) n)) (append-nil (g a))

  pub piece_at : (y n k : ℕ) → k < n → line_in size (flat_map g (range_with_len y n)) k ≡ g (y + k)
  piece_at y n k lt =
      let m = n - k - 1 in
      let split : n ≡ k + (1 + m) = omega (arith, lt) in
      let front = flat_map g (range_with_len y k) in
      let rest = flat_map g (range_with_len (y + k + 1) m) in
      let parts : flat_map g (range_with_len y n) ≡ front ++ (g (y + k) ++ rest) = ap (λ (z : ℕ). flat_map g (range_with_len y z)) split ∙ flat_map-range-append g y k (1 + m) ∙ ap (λ z. front ++ z) (one_piece (y + k) m) in
      let before : length front ≡ k * size = pieces_long g size long y k ∙ omega arith in
      ap (λ z. take size (drop (k * size) z)) parts ∙ ap (λ z. take size z) (drop_at front (g (y + k) ++ rest) (k * size) before) ∙ take_at (g (y + k)) rest size (long (y + k))

-- a line of the row of MCUs is that of the image
pub line_painted : (b : DecodedScan) (h : HeadValue) → b.scan.head ≡ h → IsValid h → (groups : List (List ℕ)) (r : ℕ) → ShowsMcus b (r * mcus_across h) (units_in h groups)
    → (k : ℕ) → r * (8 * vertical_max h) ≤ k → k < r * (8 * vertical_max h) + 8 * vertical_max h → k < h.height → line_of h (samples_in (record { head = h; groups = groups })) k ≡ line_of h (samples_of b) k
line_painted b h is valid groups r shows k from to inside =
    let deep = 8 * vertical_max h in
    let at : k ≡ r * deep + (k - r * deep) = omega (arith, from) in
    let few : k - r * deep + 1 ≤ deep = omega (arith, from, to) in
    let same = row_painted b h is valid groups r shows k 1 (k - r * deep) at few (omega (arith, inside)) in
    sym (append-nil (line_of h (samples_in (record { head = h; groups = groups })) k)) ∙ same ∙ append-nil (line_of h (samples_of b) k)
