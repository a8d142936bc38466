-- A scan's first intervals have one image.
use Rattle.std.proofs.Common.{◌≡◌, ℕ, ◌+◌, ◌*◌, ◌/◌, ◌<◌, ◌≤◌, inl, inr, List, [], ◌∷◌, ◌++◌, length, refl, sym, ap, subst, ◌∙◌, arith}
use Rattle.std.specs.Prelude.{ℤ}
use Rattle.std.proofs.lemmas.Bool.{cases_lt}
use Rattle.std.proofs.lemmas.List.{ext_get_or}
use Rattle.jr_segments.specs.declared.kind.Kind.{Kind}
use Rattle.jr_segments.specs.declared.kind.Kind.TheVariants.{Grey, Rgb, Ycc}
use Rattle.jr_head.specs.HeadValue.{HeadValue}
use Rattle.jr_head.specs.Geometry.{IsValid, component_count, components_of, horizontal_of, vertical_of, horizontal_max, vertical_max}
use Rattle.jr_scan.specs.IntervalValue.{IntervalValue}
use Rattle.jr_scan.specs.ScanValue.{ScanValue}
use Rattle.jr_scan.specs.ScanValue as scans
use Rattle.jr_scan.specs.Mcus.{Front}
use Rattle.jr_scan.proofs.ScanLaws.{OneDecoding, OneFront, one_decoding, one_front}
use Rattle.jr_paint.specs.Colours.{colour_of}
use Rattle.jr_paint.specs.Geometry.{samples_across, samples_down}
use Rattle.jr_paint.specs.Text.{value_at, bytes_of, pixel_of, pixels_of, lines_of, header_of, text_of}
use Rattle.jr_paint.proofs.Factors.{sampled_at, scaled_below}
use Rattle.jr_paint.proofs.PixelLaws.{flat_map-moved}
use Rattle.jr_picture.specs.declared.mark.Mark.{Mark}
use Rattle.jr_picture.specs.declared.mark.Mark.TheVariants.{Blank, Sound, Damaged}
use Rattle.jr_picture.specs.Headline.{interval_number, spot_of, unit_number, decoded_sample, Holds, Shows, IsPicture, AreFirst, HasOnePicture, mark_in}

-- the marks of an interval that is marked in both are one
pub same_mark : (i : IntervalValue) (f g : ℕ → ℕ → ℕ → ℕ) (m n : Mark) → (m ≡ Blank → n ≡ Blank) → (n ≡ Blank → m ≡ Blank) → Shows m i f → Shows n i g → m ≡ n
same_mark i f g Sound Sound a b p q = refl
same_mark i f g Sound Damaged a b p q = absurd (q.undecodable p.blocks p.decodes)
same_mark i f g Sound Blank a b p q = b refl
same_mark i f g Damaged Sound a b p q = absurd (p.undecodable q.blocks q.decodes)
same_mark i f g Damaged Damaged a b p q = refl
same_mark i f g Damaged Blank a b p q = b refl
same_mark i f g Blank Sound a b p q = sym (a refl)
same_mark i f g Blank Damaged a b p q = sym (a refl)
same_mark i f g Blank Blank a b p q = refl

-- the samples that an interval shows are determined by its mark
pub same_shown : OneDecoding → OneFront → (i : IntervalValue) (f g : ℕ → ℕ → ℕ → ℕ) (m : Mark) → Shows m i f → Shows m i g → (c x y : ℕ) → Holds i c x y → f c x y ≡ g c x y
same_shown one front i f g Sound p q c x y held =
    p.samples c x y held ∙ ap (λ (zs : List (List ℤ)). decoded_sample i zs c x y) (one i p.blocks q.blocks p.decodes q.decodes) ∙ sym (q.samples c x y held)
same_shown one front i f g Damaged p q c x y held =
    let count : p.front ≡ q.front = omega (arith, p.longest.longest q.front q.blocks q.longest.front, q.longest.longest p.front p.blocks p.longest.front) in
    let there : Front i q.front p.blocks = subst (λ (n : ℕ). Front i n p.blocks) count p.longest.front in
    let same : p.blocks ≡ q.blocks = front i q.front p.blocks q.blocks there q.longest.front in
    let unit = unit_number i.head (spot_of i.head c x y) in
    elim (cases_lt unit (length q.blocks)) [
      | inl l ↦ p.within c x y held (subst (λ (zs : List (List ℤ)). unit < length zs) (sym same) l) ∙ ap (λ (zs : List (List ℤ)). decoded_sample i zs c x y) same ∙ sym (q.within c x y held l)
      | inr r ↦ p.after c x y held (subst (λ (zs : List (List ℤ)). length zs ≤ unit) (sym same) r) ∙ sym (q.after c x y held r)
    ]
same_shown one front i f g Blank p q c x y held = p c x y held ∙ sym (q c x y held)

module _ (one : OneDecoding) (front : OneFront) (scan : ScanValue) (n : ℕ) (k m : List Mark) (f g : ℕ → ℕ → ℕ → ℕ) (a : IsPicture scan k f) (b : IsPicture scan m g) (p : AreFirst n k) (q : AreFirst n m) where
  same_at : (i : ℕ) → mark_in k i ≡ mark_in m i
  same_at i = elim (cases_lt i n) [
    | inl l ↦ same_mark (scans.interval_of scan i) f g (mark_in k i) (mark_in m i) (λ e. absurd (p.marked i l e)) (λ e. absurd (q.marked i l e)) (a.each i) (b.each i)
    | inr r ↦ p.blank i r ∙ sym (q.blank i r)
  ]

  pub same_marks : k ≡ m
  same_marks = ext_get_or Blank k m (a.count ∙ sym b.count) (λ i lt. same_at i)

  pub same_samples : (c x y : ℕ) → c < components_of scan.head → x < samples_across scan.head c → y < samples_down scan.head c → f c x y ≡ g c x y
  same_samples c x y lt left top =
      let i = interval_number scan.head (spot_of scan.head c x y).mcu in
      let shows = subst (λ (t : Mark). Shows t (scans.interval_of scan i) g) (sym (same_at i)) (b.each i) in
      same_shown one front (scans.interval_of scan i) f g (mark_in k i) (a.each i) shows c x y (record { component = lt; column = left; line = top; interval = refl })

-- a line of the text reads one line of samples of each component
module _ (h : HeadValue) (l : IsValid h) (f g : ℕ → ℕ → ℕ → ℕ) (y : ℕ)
    (same : (c x : ℕ) → c < components_of h → x < samples_across h c → f c x (y * vertical_of h c / vertical_max h) ≡ g c x (y * vertical_of h c / vertical_max h)) where
  value_same : (c x : ℕ) → c < components_of h → x < h.width → value_at h f c x y ≡ value_at h g c x y
  value_same c x lt left =
      same c (x * horizontal_of h c / horizontal_max h) lt
      (scaled_below x h.width (horizontal_of h c) (horizontal_max h) (sampled_at h c l lt).across l.components.across left)

  pixel_same : (x : ℕ) → x < h.width → pixel_of h f y x ≡ pixel_of h g y x
  unfolding pixel_of
  pixel_same x left = bytes_same h.kind (λ c lt. value_same c x (omega (arith, l.components.count, lt)) left)
    where
      coloured : (kind : Kind) → {u v w u' v' w' : ℕ} → u ≡ u' → v ≡ v' → w ≡ w' → colour_of kind u v w ≡ colour_of kind u' v' w'
      coloured kind {v} {w} {u'} {v'} p q r = ap (λ (s : ℕ). colour_of kind s v w) p ∙ ap (λ (s : ℕ). colour_of kind u' s w) q ∙ ap (λ (s : ℕ). colour_of kind u' v' s) r

      bytes_same : (kind : Kind) → ((c : ℕ) → c < component_count kind → value_at h f c x y ≡ value_at h g c x y) → bytes_of kind (λ c. value_at h f c x y) ≡ bytes_of kind (λ c. value_at h g c x y)
      bytes_same Grey e = ap (λ (v : ℕ). v ∷ []) (e 0 (omega arith))
      bytes_same Rgb e = coloured Rgb (e 0 (omega arith)) (e 1 (omega arith)) (e 2 (omega arith))
      bytes_same Ycc e = coloured Ycc (e 0 (omega arith)) (e 1 (omega arith)) (e 2 (omega arith))

  pub line_same : pixels_of h f y 0 h.width ≡ pixels_of h g y 0 h.width
  unfolding pixels_of
  line_same = flat_map-moved (pixel_of h f y) (pixel_of h g y) 0 0 h.width (λ x left. pixel_same (0 + x) (omega (arith, left)))

-- the text reads the image's samples alone
module _ (h : HeadValue) (l : IsValid h) (f g : ℕ → ℕ → ℕ → ℕ) (same : (c x y : ℕ) → c < components_of h → x < samples_across h c → y < samples_down h c → f c x y ≡ g c x y) where
  line_there : (y : ℕ) → y < h.height → pixels_of h f y 0 h.width ≡ pixels_of h g y 0 h.width
  line_there y top =
      line_same h l f g y
      (λ c x lt left. same c x (y * vertical_of h c / vertical_max h) lt left
      (scaled_below y h.height (vertical_of h c) (vertical_max h) (sampled_at h c l lt).down l.components.down top))

  lines_same : lines_of h f h.height ≡ lines_of h g h.height
  unfolding lines_of
  lines_same = flat_map-moved (λ y. pixels_of h f y 0 h.width) (λ y. pixels_of h g y 0 h.width) 0 0 h.height (λ y top. line_there (0 + y) (omega (arith, top)))

  pub text_same : text_of h f ≡ text_of h g
  unfolding text_of
  text_same = ap (λ (s : List ℕ). header_of h ++ s) lines_same

-- a scan's first n intervals have one image
pub one_picture : (scan : ScanValue) (n : ℕ) → HasOnePicture scan n
one_picture scan n = record {
  marks = λ k m f g a b. same_marks one_decoding one_front scan n k m f g a.picture b.picture a.first b.first;
  text = λ k m f g a b. text_same scan.head a.valid f g (same_samples one_decoding one_front scan n k m f g a.picture b.picture a.first b.first);
}
