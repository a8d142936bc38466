-- Pixels, one after the other.
use Rattle.std.proofs.Common.{◌≡◌, ℕ, zero, suc, ◌+◌, ◌-◌, ◌*◌, ◌<◌, ◌≤◌, List, [], ◌∷◌, ◌++◌, length, take, arith, refl, sym, ap, ◌∙◌, get_or, add-zero, zero-add, ap₂, append_assoc, append-nil, length-set}
use Rattle.std.specs.List.{flat_map, range_with_len}
use Rattle.std.proofs.lemmas.List.Concat.{flat_map-append}
use Rattle.std.proofs.Math.ListN.{set}
use Rattle.std.proofs.lemmas.Grind.{take-set_at}
use Rattle.jr_segments.specs.declared.kind.Kind.{Kind}
use Rattle.jr_segments.specs.declared.kind.Kind.TheVariants.{Grey, Rgb, Ycc}
use Rattle.jr_paint.specs.Colours.{colour_of}
use Rattle.jr_paint.specs.Shades.{IsShared}
use Rattle.jr_head.specs.HeadValue.{HeadValue}
use Rattle.jr_head.specs.Geometry.{component_count}
use Rattle.jr_paint.specs.Lines.{IsStretched, line_of, next_lines_of}
use Rattle.jr_paint.specs.Text.{header_of, value_at, bytes_of, pixel_of, pixels_of, lines_of, text_of}

-- the numbers starting at a, and then those starting at a + m
pub range-append : (a m n : ℕ) → range_with_len a (m + n) ≡ range_with_len a m ++ range_with_len (a + m) n
range-append a zero n = rw (zero-add, add-zero) refl
range-append a (suc m) n =
    let e : suc m + n ≡ suc (m + n) = omega arith in
    let f : a + suc m ≡ a + 1 + m = omega arith in
    rw (e, f) (ap (λ z. a ∷ z) (range-append (a + 1) m n))

pub flat_map-range-append : (f : ℕ → List ℕ) (a m n : ℕ) → flat_map f (range_with_len a (m + n)) ≡ flat_map f (range_with_len a m) ++ flat_map f (range_with_len (a + m) n)
flat_map-range-append f a m n = ap (flat_map f) (range-append a m n) ∙ flat_map-append f (range_with_len a m) (range_with_len (a + m) n)

-- the same lists, with other numbers
pub flat_map-moved : (f g : ℕ → List ℕ) (a b n : ℕ) → ((k : ℕ) → k < n → f (a + k) ≡ g (b + k)) → flat_map f (range_with_len a n) ≡ flat_map g (range_with_len b n)
flat_map-moved f g a b zero h = refl
flat_map-moved f g a b (suc n) h =
    let first : f a ≡ g b = rw (add-zero, add-zero) at (h 0 (omega arith)) in
    let others = flat_map-moved f g (a + 1) (b + 1) n (λ k p. let e : a + 1 + k ≡ a + suc k = omega arith in let e' : b + 1 + k ≡ b + suc k = omega arith in rw (e, e') (h (suc k) (omega arith))) in
    ap₂ (λ x y. x ++ y) first others

pub flat_map-range_more : (f : ℕ → List ℕ) (n : ℕ) → flat_map f (range_with_len 0 n) ++ f n ≡ flat_map f (range_with_len 0 (n + 1))
flat_map-range_more f n = let e : 0 + n ≡ n = omega arith in sym (flat_map-range-append f 0 n 1 ∙ rw (e, append-nil) refl)

joined_three : (xs : List ℕ) (p q r : ℕ) → ((xs ++ p ∷ []) ++ q ∷ []) ++ r ∷ [] ≡ xs ++ p ∷ q ∷ r ∷ []
joined_three xs p q r = simp append_assoc

-- one more pixel of three bytes is written
pub three_more : (f : ℕ → List ℕ) (i : ℕ) (out : List ℕ) (p q r : ℕ) → 3 * i + 3 ≤ length out → f i ≡ p ∷ q ∷ r ∷ [] → take (3 * i) out ≡ flat_map f (range_with_len 0 i) → take (3 * (i + 1)) (set (set (set out (3 * i) p) (3 * i + 1) q) (3 * i + 2) r) ≡ flat_map f (range_with_len 0 (i + 1))
three_more f i out p q r space is h =
    let one = set out (3 * i) p in
    let two = set one (3 * i + 1) q in
    let long : length one ≡ length out = length-set out (3 * i) p in
    let longer : length two ≡ length one = length-set one (3 * i + 1) q in
    let third : take (3 * (i + 1)) (set two (3 * i + 2) r) ≡ take (3 * i + 2) two ++ r ∷ [] = take-set_at two (3 * i + 2) (3 * (i + 1)) r (omega arith) (omega arith) in
    let second : take (3 * i + 2) two ≡ take (3 * i + 1) one ++ q ∷ [] = take-set_at one (3 * i + 1) (3 * i + 2) q (omega arith) (omega arith) in
    let first : take (3 * i + 1) one ≡ take (3 * i) out ++ p ∷ [] = take-set_at out (3 * i) (3 * i + 1) p (omega arith) (omega arith) in
    third ∙ ap (λ z. z ++ r ∷ []) (second ∙ ap (λ z. z ++ q ∷ []) first) ∙ joined_three (take (3 * i) out) p q r
    ∙ ap₂ (λ x y. x ++ y) h (sym is) ∙ flat_map-range_more f i

-- one element each
grey_bytes : (f : ℕ → ℕ) (x : ℕ) (out : List ℕ) → ((k : ℕ) → k < length out → get_or out k 0 ≡ f (x + k)) → out ≡ flat_map (λ k. f k ∷ []) (range_with_len x (length out))
grey_bytes f x [] h = refl
grey_bytes f x (b ∷ bs) h =
    let first : b ≡ f x = rw add-zero at (h 0 (omega arith)) in
    let others = grey_bytes f (x + 1) bs (λ k p. let e : x + 1 + k ≡ x + suc k = omega arith in rw e (h (suc k) (omega arith))) in
    ap₂ (λ y ys. y ∷ ys) first others

coloured : (kind : Kind) → component_count kind ≡ 3 → (v : ℕ → ℕ) → colour_of kind (v 0) (v 1) (v 2) ≡ bytes_of kind v
coloured Grey e v = absurd (omega arith)
coloured Rgb e v = refl
coloured Ycc e v = refl

module _ (h : HeadValue) (f : ℕ → ℕ → ℕ → ℕ) (y : ℕ) where
  pub line_grey : (out : List ℕ) → h.kind ≡ Grey → length out ≡ h.width → IsStretched h f 0 y out → out ≡ line_of h f y
  unfolding pixels_of pixel_of
  line_grey out grey long g =
      let v = λ (k : ℕ). value_at h f 0 k y in
      let at : (k : ℕ) → k < length out → get_or out k 0 ≡ v (0 + k) = λ k p. let e : 0 + k ≡ k = omega arith in rw e (g k (omega (arith, p, long))) in
      let one : (k : ℕ) → k < length out → v (0 + k) ∷ [] ≡ pixel_of h f y (0 + k) = λ k p. rw grey refl in
      let same = flat_map-moved (λ k. v k ∷ []) (pixel_of h f y) 0 0 (length out) one in
      grey_bytes v 0 out at ∙ same ∙ ap (pixels_of h f y 0) long

  pub line_coloured : (kind : Kind) (n : ℕ) (a b c : ℕ → ℕ) → kind ≡ h.kind → component_count kind ≡ 3 → n ≡ h.width → ((k : ℕ) → k < h.width → a k ≡ value_at h f 0 k y) → ((k : ℕ) → k < h.width → b k ≡ value_at h f 1 k y) → ((k : ℕ) → k < h.width → c k ≡ value_at h f 2 k y) → flat_map (λ k. colour_of kind (a k) (b k) (c k)) (range_with_len 0 n) ≡ line_of h f y
  unfolding pixels_of pixel_of
  line_coloured kind n a b c is three long p q r =
      let same : (k : ℕ) → k < n → colour_of kind (a (0 + k)) (b (0 + k)) (c (0 + k)) ≡ pixel_of h f y (0 + k) =
      λ k l. let e : 0 + k ≡ k = omega arith in let m : k < h.width = omega (arith, l, long) in rw (e, p k m, q k m, r k m, is) (coloured h.kind (rw is at three) (λ d. value_at h f d k y)) in
      flat_map-moved (λ k. colour_of kind (a k) (b k) (c k)) (pixel_of h f y) 0 0 n same ∙ ap (pixels_of h f y 0) long

-- a sample that the next line shares
pub shared_value : (h : HeadValue) (f : ℕ → ℕ → ℕ → ℕ) (c y k : ℕ) → IsShared h c y → value_at h f c k y ≡ value_at h f c k (y + 1)
shared_value h f c y k e = rw e refl

-- n lines starting at line y, and m more
pub next_lines_more : (h : HeadValue) (f : ℕ → ℕ → ℕ → ℕ) (y n m : ℕ) → next_lines_of h f y (n + m) ≡ next_lines_of h f y n ++ next_lines_of h f (y + n) m
next_lines_more h f y n m = flat_map-range-append (line_of h f) y n m

module _ (h : HeadValue) (f : ℕ → ℕ → ℕ → ℕ) where
  pub text_none : header_of h ++ lines_of h f 0 ≡ header_of h
  unfolding lines_of
  text_none = append-nil (header_of h)

  pub lines_append : (n m : ℕ) → lines_of h f (n + m) ≡ lines_of h f n ++ next_lines_of h f n m
  unfolding lines_of
  lines_append n m = let e : 0 + n ≡ n = omega arith in let both = flat_map-range-append (line_of h f) 0 n m in rw e at both

  -- m lines more
  pub text_more : (n m : ℕ) → header_of h ++ lines_of h f (n + m) ≡ (header_of h ++ lines_of h f n) ++ next_lines_of h f n m
  text_more n m = ap (λ z. header_of h ++ z) (lines_append n m) ∙ sym (append_assoc (header_of h) (lines_of h f n) (next_lines_of h f n m))

  -- the header and the first lines are a prefix of the text
  pub text_begins : (n : ℕ) → n ≤ h.height → (rest : List ℕ) × (text_of h f ≡ (header_of h ++ lines_of h f n) ++ rest)
  unfolding text_of
  text_begins n p =
      let e : h.height ≡ n + (h.height - n) = omega arith in
      (next_lines_of h f n (h.height - n), ap (λ m. header_of h ++ lines_of h f m) e ∙ text_more n (h.height - n))

  pub text_is : text_of h f ≡ header_of h ++ lines_of h f h.height
  unfolding text_of
  text_is = refl
