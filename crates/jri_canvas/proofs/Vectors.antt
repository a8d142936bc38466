-- Pixels that a vector of sixteen bytes adds.
use Rattle.std.proofs.Common.{◌≡◌, ℕ, zero, suc, ◌+◌, ◌*◌, ◌<◌, ◌≤◌, List, [], ◌∷◌, ◌++◌, length, take, get_or, arith, refl, sym, ap, ap₂, ◌∙◌, length-take-le, take_all, take-take}
use Rattle.std.specs.List.{flat_map, range_with_len}
use Rattle.std.specs.Simd.Lanes.{chunk, put_chunk}
use Rattle.std.proofs.lemmas.List.Concat.{flat_map-append}
use Rattle.std.proofs.lemmas.Simd.{get_or-chunk, take_more_put_chunk}
use Rattle.jri_canvas.specs.Layouts.{coloured, laid, laid_pixel}
use Rattle.jri_canvas.specs.declared.layout.Order.{Order}
use Rattle.jri_canvas.specs.declared.layout.Order.TheVariants.{Rgb}
use Rattle.jri_canvas.specs.declared.layout.Pixels.TheVariants.{Grey, Colour}
use Rattle.jri_canvas.proofs.MorePixels.{range-append}

-- the same lists, with other numbers
flat_map-moved : (f g : ℕ → List ℕ) (a b n : ℕ) → ((k : ℕ) → k < n → f (a + k) ≡ g (b + k)) → flat_map f (range_with_len a n) ≡ flat_map g (range_with_len b n)
flat_map-moved f g a b zero h = refl
flat_map-moved f g a b (suc n) h =
    let from : a ≡ a + 0 = omega arith in
    let to : b + 0 ≡ b = omega arith in
    let first : f a ≡ g b = ap f from ∙ h 0 (omega arith) ∙ ap g to in
    let others = flat_map-moved f g (a + 1) (b + 1) n (λ k p. let e : a + 1 + k ≡ a + suc k = omega arith in let e' : b + 1 + k ≡ b + suc k = omega arith in rw (e, e') (h (suc k) (omega arith))) in
    ap₂ (λ x y. x ++ y) first others

-- the first n pixels of a line, starting at its pixel m
colours_in : (o : Order) (line : List ℕ) (m size n : ℕ) → 3 * n ≤ size → coloured o Colour (chunk (3 * m) size line) n ≡ flat_map (laid_pixel o Colour line) (range_with_len m n)
colours_in o line m size n le =
    let part = chunk (3 * m) size line in
    flat_map-moved (laid_pixel o Colour part) (laid_pixel o Colour line) 0 m n (λ k lt.
    let none : 0 + k ≡ k = omega arith in
    let e : 3 * m + 3 * k ≡ 3 * (m + k) = omega arith in
    let f : 3 * m + (3 * k + 1) ≡ 3 * (m + k) + 1 = omega arith in
    let g : 3 * m + (3 * k + 2) ≡ 3 * (m + k) + 2 = omega arith in
    let at = λ (i : ℕ). get_or line i 0 in
    let red : get_or part (3 * k) 0 ≡ at (3 * (m + k)) = get_or-chunk (3 * m) size line (3 * k) 0 (omega (arith, lt, le)) ∙ ap at e in
    let green : get_or part (3 * k + 1) 0 ≡ at (3 * (m + k) + 1) = get_or-chunk (3 * m) size line (3 * k + 1) 0 (omega (arith, lt, le)) ∙ ap at f in
    let blue : get_or part (3 * k + 2) 0 ≡ at (3 * (m + k) + 2) = get_or-chunk (3 * m) size line (3 * k + 2) 0 (omega (arith, lt, le)) ∙ ap at g in
    ap (laid_pixel o Colour part) none ∙ (λ t. laid o (red t) (green t) (blue t)))

greys_in : (o : Order) (line : List ℕ) (m size n : ℕ) → n ≤ size → coloured o Grey (chunk m size line) n ≡ flat_map (laid_pixel o Grey line) (range_with_len m n)
greys_in o line m size n le =
    let part = chunk m size line in
    flat_map-moved (laid_pixel o Grey part) (laid_pixel o Grey line) 0 m n (λ k lt.
    let none : 0 + k ≡ k = omega arith in
    let grey : get_or part k 0 ≡ get_or line (m + k) 0 = get_or-chunk m size line k 0 (omega (arith, lt, le)) in
    ap (laid_pixel o Grey part) none ∙ (λ t. laid o (grey t) (grey t) (grey t)))

-- a prefix that is longer than the first of two lists
take_past : (xs ys : List ℕ) (n l : ℕ) → n ≡ length xs + l → take n (xs ++ ys) ≡ xs ++ take l ys
take_past [] ys n l e = let f : n ≡ l = omega (arith, e) in ap (λ k. take k ys) f
take_past (x ∷ xs) ys n l e =
    let f : n ≡ suc (length xs + l) = omega (arith, e) in
    rw f (ap (λ z. x ∷ z) (take_past xs ys (length xs + l) l refl))

-- the first l of the bytes that are stored starting at byte i
stored : (i l n : ℕ) (out v : List ℕ) → n ≡ i + l → l ≤ length v → i + length v ≤ length out → take n (put_chunk i out v) ≡ take i out ++ take l v
stored i l n out v e few space =
    let whole : take (i + length v) (put_chunk i out v) ≡ take i out ++ v = take_more_put_chunk i out v (i + length v) refl space in
    let long : length (take i out) ≡ i = length-take-le i out (omega (arith, space)) in
    sym (take-take n (i + length v) (put_chunk i out v) (omega (arith, e, few))) ∙ ap (take n) whole ∙ take_past (take i out) v n l (omega (arith, e, long))

-- n pixels after m of them
pixels_more : (f : ℕ → List ℕ) (m n i l k : ℕ) (out v : List ℕ) → k ≡ i + l → l ≤ length v → i + length v ≤ length out → take i out ≡ flat_map f (range_with_len 0 m) → take l v ≡ flat_map f (range_with_len m n)
    → take k (put_chunk i out v) ≡ flat_map f (range_with_len 0 (m + n))
pixels_more f m n i l k out v e few space before new =
    let none : 0 + m ≡ m = omega arith in
    let split : flat_map f (range_with_len 0 (m + n)) ≡ flat_map f (range_with_len 0 m) ++ flat_map f (range_with_len m n) =
    ap (flat_map f) (range-append 0 m n) ∙ flat_map-append f (range_with_len 0 m) (range_with_len (0 + m) n) ∙ ap (λ (a : ℕ). flat_map f (range_with_len 0 m) ++ flat_map f (range_with_len a n)) none in
    stored i l k out v e few space ∙ ap₂ (λ x y. x ++ y) before new ∙ sym split

-- five pixels of three bytes
pub fives_more : (o : Order) (line out v : List ℕ) (n : ℕ) → length v ≡ 16 → 15 * n + 16 ≤ length out → take 15 v ≡ coloured o Colour (chunk (15 * n) 16 line) 5 → take (3 * (5 * n)) out ≡ coloured o Colour line (5 * n)
    → take (3 * (5 * (n + 1))) (put_chunk (15 * n) out v) ≡ coloured o Colour line (5 * (n + 1))
fives_more o line out v n long space is before =
    let from : 15 * n ≡ 3 * (5 * n) = omega arith in
    let next : 5 * n + 5 ≡ 5 * (n + 1) = omega arith in
    let new : take 15 v ≡ flat_map (laid_pixel o Colour line) (range_with_len (5 * n) 5) = is ∙ ap (λ (i : ℕ). coloured o Colour (chunk i 16 line) 5) from ∙ colours_in o line (5 * n) 16 5 (omega arith) in
    pixels_more (laid_pixel o Colour line) (5 * n) 5 (15 * n) 15 (3 * (5 * (n + 1))) out v (omega arith) (omega (arith, long)) (omega (arith, long, space)) (ap (λ (i : ℕ). take i out) from ∙ before) new
    ∙ ap (coloured o Colour line) next

-- four pixels of four bytes
pub fours_more : (o : Order) (line out v : List ℕ) (n : ℕ) → length v ≡ 16 → 16 * n + 16 ≤ length out → v ≡ coloured o Colour (chunk (12 * n) 16 line) 4 → take (4 * (4 * n)) out ≡ coloured o Colour line (4 * n)
    → take (4 * (4 * (n + 1))) (put_chunk (16 * n) out v) ≡ coloured o Colour line (4 * (n + 1))
fours_more o line out v n long space is before =
    let from : 12 * n ≡ 3 * (4 * n) = omega arith in
    let to : 16 * n ≡ 4 * (4 * n) = omega arith in
    let next : 4 * n + 4 ≡ 4 * (n + 1) = omega arith in
    let new : take 16 v ≡ flat_map (laid_pixel o Colour line) (range_with_len (4 * n) 4) = take_all 16 v (omega (arith, long)) ∙ is ∙ ap (λ (i : ℕ). coloured o Colour (chunk i 16 line) 4) from ∙ colours_in o line (4 * n) 16 4 (omega arith) in
    pixels_more (laid_pixel o Colour line) (4 * n) 4 (16 * n) 16 (4 * (4 * (n + 1))) out v (omega arith) (omega (arith, long)) (omega (arith, long, space)) (ap (λ (i : ℕ). take i out) to ∙ before) new
    ∙ ap (coloured o Colour line) next

-- sixteen grey pixels of four bytes
pub sixteens_more : (o : Order) (line out v : List ℕ) (n : ℕ) → length v ≡ 64 → 64 * n + 64 ≤ length out → v ≡ coloured o Grey (chunk (16 * n) 16 line) 16 → take (4 * (16 * n)) out ≡ coloured o Grey line (16 * n)
    → take (4 * (16 * (n + 1))) (put_chunk (64 * n) out v) ≡ coloured o Grey line (16 * (n + 1))
sixteens_more o line out v n long space is before =
    let to : 64 * n ≡ 4 * (16 * n) = omega arith in
    let next : 16 * n + 16 ≡ 16 * (n + 1) = omega arith in
    let new : take 64 v ≡ flat_map (laid_pixel o Grey line) (range_with_len (16 * n) 16) = take_all 64 v (omega (arith, long)) ∙ is ∙ greys_in o line (16 * n) 16 16 (omega arith) in
    pixels_more (laid_pixel o Grey line) (16 * n) 16 (64 * n) 64 (4 * (16 * (n + 1))) out v (omega arith) (omega (arith, long)) (omega (arith, long, space)) (ap (λ (i : ℕ). take i out) to ∙ before) new
    ∙ ap (coloured o Grey line) next

-- red, green and blue are unchanged
pub in_order : (line : List ℕ) (n : ℕ) → length line ≡ 3 * n → coloured Rgb Colour line n ≡ line
in_order [] zero e = refl
in_order [] (suc n) e = absurd (omega (arith, e))
in_order (r ∷ line) zero e = absurd (omega (arith, e))
in_order (r ∷ []) (suc n) e = absurd (omega (arith, e))
in_order (r ∷ g ∷ []) (suc n) e = absurd (omega (arith, e))
in_order (r ∷ g ∷ b ∷ line) (suc n) e =
    let all = r ∷ g ∷ b ∷ line in
    let others = flat_map-moved (laid_pixel Rgb Colour all) (laid_pixel Rgb Colour line) 1 0 n (λ k lt.
    let red : 3 * (1 + k) ≡ suc (suc (suc (3 * (0 + k)))) = omega arith in
    let green : 3 * (1 + k) + 1 ≡ suc (suc (suc (3 * (0 + k) + 1))) = omega arith in
    let blue : 3 * (1 + k) + 2 ≡ suc (suc (suc (3 * (0 + k) + 2))) = omega arith in
    λ t. laid Rgb (get_or all (red t) 0) (get_or all (green t) 0) (get_or all (blue t) 0)) in
    ap (λ (z : List ℕ). r ∷ g ∷ b ∷ z) (others ∙ in_order line n (omega (arith, e)))
