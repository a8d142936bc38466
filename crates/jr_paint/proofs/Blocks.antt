-- Blocks of pixels written one after another.
use Rattle.std.proofs.Common.{◌≡◌, ℕ, zero, suc, ◌+◌, ◌-◌, ◌*◌, ◌/◌, ◌<◌, ◌≤◌, min, ℤ, pos, negsuc, ◌+ℤ◌, List, [], ◌∷◌, ◌++◌, length, take, inl, inr, arith, refl, sym, subst, slice_index, ap, ◌∙◌, length-append}
use Rattle.std.proofs.Math.Seq.{take-append_seam}
use Rattle.std.proofs.lemmas.List.{take-take}
use Rattle.std.proofs.lemmas.Bool.{cases_lt}
use Rattle.std.proofs.lemmas.Int.{ints}
use Rattle.std.proofs.lemmas.Simd.{take_more_put_chunk}
use Rattle.std.specs.List.{flat_map, range_with_len}
use Rattle.std.specs.Simd.Lanes.{put_chunk}
use Rattle.jr_segments.specs.declared.kind.Kind.TheVariants.{Ycc}
use Rattle.jr_paint.specs.Colours.{byte_of, colour_of}
use Rattle.jr_paint.specs.Shades.{IsRaised, lowered, red_over_of, green_over_of, blue_over_of}
use Rattle.jr_paint.specs.Lines.{colour_over, turn_of}
use Rattle.jr_paint.proofs.Turns.{by_turns}
use Rattle.jr_paint.proofs.PixelLaws.{flat_map-range-append, flat_map-moved}

-- a raised value is added to luminance
pub lowered_is : (y v : ℕ) (z : ℤ) → IsRaised v z → lowered y v ≡ byte_of (pos y +ℤ z)
lowered_is y v (pos a) r =
    let e : pos y +ℤ pos a ≡ pos (y + a) = omega (arith, ints) in
    let f : y + v - 1628 ≡ y + a = omega (arith, ints, r.value) in
    ap (λ n. min n 255) f ∙ sym (ap byte_of e)
lowered_is y v (negsuc a) r =
    let f : v + (a + 1) ≡ 1628 = omega (arith, ints, r.value) in
    elim (cases_lt a y) [
      | inl above ↦
          let e : pos y +ℤ negsuc a ≡ pos (y - (a + 1)) = omega (arith, ints, above) in
          let g : y + v - 1628 ≡ y - (a + 1) = omega (arith, f) in
          ap (λ n. min n 255) g ∙ sym (ap byte_of e)
      | inr below ↦
          let e : pos y +ℤ negsuc a ≡ negsuc (a - y) = omega (arith, ints, below) in
          let g : y + v - 1628 ≡ 0 = omega (arith, f, below) in
          ap (λ n. min n 255) g ∙ sym (ap byte_of e)
    ]

pub same_pixels : (f g : ℕ → List ℕ) (n : ℕ) → ((k : ℕ) → k < n → f k ≡ g k) → flat_map f (range_with_len 0 n) ≡ flat_map g (range_with_len 0 n)
same_pixels f g n h = flat_map-moved f g 0 0 n (λ k l. let e : 0 + k ≡ k = omega arith in rw e (h k l))

pub three_same : {a b c x y z : ℕ} → a ≡ x → b ≡ y → c ≡ z → a ∷ b ∷ c ∷ [] ≡ x ∷ y ∷ z ∷ []
three_same p q r = rw (p, q, r) refl

-- a pixel of luminance y, from lanes with the differences of its colours from it
pub pixel_is : {y r g b a cb cr cb' cr' : ℕ} → y ≡ a → cb ≡ cb' → cr ≡ cr' → IsRaised r (red_over_of cr) → IsRaised g (green_over_of cb cr) → IsRaised b (blue_over_of cb) → lowered y r ∷ lowered y g ∷ lowered y b ∷ [] ≡ colour_of Ycc a cb' cr'
pixel_is {y} {r} {g} {b} {a} {cb} {cr} {cb'} {cr'} e f h red green blue =
    let same : colour_of Ycc y cb cr ≡ colour_of Ycc a cb' cr' = rw (e, f, h) refl in
    three_same (lowered_is y r (red_over_of cr) red) (lowered_is y g (green_over_of cb cr) green) (lowered_is y b (blue_over_of cb) blue) ∙ same

-- the same of equal samples
pub raised_same : {v x y : ℕ} (f : ℕ → ℤ) → x ≡ y → IsRaised v (f x) → IsRaised v (f y)
raised_same {v} f e h = subst (λ x. IsRaised v (f x)) e h

pub green_same : {v b r b' r' : ℕ} → b ≡ b' → r ≡ r' → IsRaised v (green_over_of b r) → IsRaised v (green_over_of b' r')
green_same {v} {b} {r} {b'} {r'} e f h = subst (λ x. IsRaised v (green_over_of b' x)) f (subst (λ x. IsRaised v (green_over_of x r)) e h)

-- pixels of three bytes
pub length_pixels : (f : ℕ → List ℕ) → ((k : ℕ) → length (f k) ≡ 3) → (m n : ℕ) → length (flat_map f (range_with_len m n)) ≡ 3 * n
length_pixels f three m zero = refl
length_pixels f three m (suc n) =
    let more = length-append (f m) (flat_map f (range_with_len (m + 1) n)) in
    omega (arith, more, three m, length_pixels f three (m + 1) n)

-- n pixels more, after m of them
pub pixels_more : (f : ℕ → List ℕ) → ((k : ℕ) → length (f k) ≡ 3) → (m n : ℕ) (out : List ℕ) → 3 * (m + n) ≤ length out → take (3 * m) out ≡ flat_map f (range_with_len 0 m) → take (3 * (m + n)) (put_chunk (3 * m) out (flat_map f (range_with_len m n))) ≡ flat_map f (range_with_len 0 (m + n))
pixels_more f three m n out space before =
    let new = flat_map f (range_with_len m n) in
    let long = length_pixels f three m n in
    let e : 0 + m ≡ m = omega arith in
    let whole : flat_map f (range_with_len 0 (m + n)) ≡ flat_map f (range_with_len 0 m) ++ flat_map f (range_with_len m n) =
    rw e at (flat_map-range-append f 0 m n) in
    take_more_put_chunk (3 * m) out new (3 * (m + n)) (omega (arith, long)) space
    ∙ ap (λ z. z ++ new) before ∙ sym whole

-- a prefix of the pixels is also written
pub pixels_fewer : (f : ℕ → List ℕ) → ((k : ℕ) → length (f k) ≡ 3) → (m n : ℕ) (out : List ℕ) → m ≤ n → take (3 * n) out ≡ flat_map f (range_with_len 0 n) → take (3 * m) out ≡ flat_map f (range_with_len 0 m)
pixels_fewer f three m n out p all =
    let front = flat_map f (range_with_len 0 m) in
    let rest = flat_map f (range_with_len (0 + m) (n - m)) in
    let long : length front ≡ 3 * m = length_pixels f three 0 m in
    let e : n ≡ m + (n - m) = omega (arith, p) in
    let split : flat_map f (range_with_len 0 n) ≡ front ++ rest = ap (λ k. flat_map f (range_with_len 0 k)) e ∙ flat_map-range-append f 0 m (n - m) in
    let seam : take (3 * m) (front ++ rest) ≡ front = rw (← long) (take-append_seam front rest) in
    sym (take-take (3 * m) (3 * n) out (omega (arith, p))) ∙ ap (take (3 * m)) (all ∙ split) ∙ seam

-- the last 32 pixels, some of which may already be written
pub last_pixels : (f : ℕ → List ℕ) → ((k : ℕ) → length (f k) ≡ 3) → (m n : ℕ) (out : List ℕ) → m ≤ n → 3 * (m + 32) ≤ length out → take (3 * n) out ≡ flat_map f (range_with_len 0 n) → take (3 * (m + 32)) (put_chunk (3 * m) out (flat_map f (range_with_len m 32))) ≡ flat_map f (range_with_len 0 (m + 32))
last_pixels f three m n out p space all = pixels_more f three m 32 out space (pixels_fewer f three m n out p all)

-- 32 pixels starting at number m, from lanes by turns with the differences of the colours from luminance, by chrominance b and c
pub raised_pixels : (m : ℕ) (y b c : ℕ → ℕ) (red green blue : List (List ℕ)) → ((k : ℕ) → k < 32 → IsRaised (turn_of red k) (red_over_of (c (m + k)))) → ((k : ℕ) → k < 32 → IsRaised (turn_of green k) (green_over_of (b (m + k)) (c (m + k)))) → ((k : ℕ) → k < 32 → IsRaised (turn_of blue k) (blue_over_of (b (m + k))))
    → flat_map (λ k. colour_over (y (m + k)) (turn_of red k) (turn_of green k) (turn_of blue k)) (range_with_len 0 32) ≡ flat_map (λ k. colour_of Ycc (y k) (b k) (c k)) (range_with_len m 32)
raised_pixels m y b c red green blue is_red is_green is_blue =
    flat_map-moved (λ k. colour_over (y (m + k)) (turn_of red k) (turn_of green k) (turn_of blue k)) (λ k. colour_of Ycc (y k) (b k) (c k)) 0 m 32
    (λ k l.
    let e : 0 + k ≡ k = omega arith in
    rw e (pixel_is {cb = b (m + k)} {cr = c (m + k)} refl refl refl (is_red k l) (is_green k l) (is_blue k l)))

-- a lane is of two pixels: of 2 k and of the next
half : (i k : ℕ) → (2 * i + 2 * k) / 2 ≡ i + k
half i k = omega arith

half_more : (i k : ℕ) → (2 * i + (2 * k + 1)) / 2 ≡ i + k
half_more i k = omega arith

pub halved_lanes : (i : ℕ) (v : List ℕ) (z : ℕ → ℤ) → ((k : ℕ) → k < 16 → IsRaised (slice_index v k) (z (i + k))) → (k : ℕ) → k < 32 → IsRaised (turn_of (v ∷ v ∷ []) k) (z ((2 * i + k) / 2))
halved_lanes i v z h =
    by_turns (λ k a. IsRaised a (z ((2 * i + k) / 2))) v v
    (λ k l. subst (λ j. IsRaised (slice_index v k) (z j)) (sym (half i k)) (h k l))
    (λ k l. subst (λ j. IsRaised (slice_index v k) (z j)) (sym (half_more i k)) (h k l))

-- 32 pixels, from lanes that have the differences of the colours from luminance for two pixels each
pub halved_pixels : (i : ℕ) (out : List ℕ) (y b c : ℕ → ℕ) (red green blue : List ℕ) → ((k : ℕ) → k < 16 → IsRaised (slice_index red k) (red_over_of (c (i + k)))) → ((k : ℕ) → k < 16 → IsRaised (slice_index green k) (green_over_of (b (i + k)) (c (i + k)))) → ((k : ℕ) → k < 16 → IsRaised (slice_index blue k) (blue_over_of (b (i + k))))
    → put_chunk (3 * (2 * i)) out (flat_map (λ k. colour_over (y (2 * i + k)) (turn_of (red ∷ red ∷ []) k) (turn_of (green ∷ green ∷ []) k) (turn_of (blue ∷ blue ∷ []) k)) (range_with_len 0 32))
    ≡ put_chunk (6 * i) out (flat_map (λ k. colour_of Ycc (y k) (b (k / 2)) (c (k / 2))) (range_with_len (2 * i) 32))
halved_pixels i out y b c red green blue is_red is_green is_blue =
    let e : 3 * (2 * i) ≡ 6 * i = omega arith in
    let same = raised_pixels (2 * i) y (λ k. b (k / 2)) (λ k. c (k / 2)) (red ∷ red ∷ []) (green ∷ green ∷ []) (blue ∷ blue ∷ [])
    (halved_lanes i red (λ k. red_over_of (c k)) is_red) (halved_lanes i green (λ k. green_over_of (b k) (c k)) is_green) (halved_lanes i blue (λ k. blue_over_of (b k)) is_blue) in
    λ t. put_chunk (e t) out (same t)

-- 32 pixels more
pub halved_more : (f : ℕ → List ℕ) → ((k : ℕ) → length (f k) ≡ 3) → (n : ℕ) (out : List ℕ) → 3 * (32 * (n + 1)) ≤ length out → take (3 * (32 * n)) out ≡ flat_map f (range_with_len 0 (32 * n)) → take (3 * (32 * (n + 1))) (put_chunk (6 * (16 * n)) out (flat_map f (range_with_len (2 * (16 * n)) 32))) ≡ flat_map f (range_with_len 0 (32 * (n + 1)))
halved_more f three n out space before =
    let e : 6 * (16 * n) ≡ 3 * (32 * n) = omega arith in
    let m : 2 * (16 * n) ≡ 32 * n = omega arith in
    let s : 32 * (n + 1) ≡ 32 * n + 32 = omega arith in
    rw (e, m, s) (pixels_more f three (32 * n) 32 out (omega (arith, space)) before)

-- the same in the last block of a line
pub last_halved : (f : ℕ → List ℕ) → ((k : ℕ) → length (f k) ≡ 3) → (i n : ℕ) (out : List ℕ) → 2 * i ≤ n → 3 * (2 * i + 32) ≤ length out → take (3 * n) out ≡ flat_map f (range_with_len 0 n) → take (3 * (2 * i + 32)) (put_chunk (6 * i) out (flat_map f (range_with_len (2 * i) 32))) ≡ flat_map f (range_with_len 0 (2 * i + 32))
last_halved f three i n out p space all =
    let e : 6 * i ≡ 3 * (2 * i) = omega arith in
    rw e (last_pixels f three (2 * i) n out p space all)
