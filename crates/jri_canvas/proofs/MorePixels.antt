-- One more pixel written.
use Rattle.std.proofs.Common.{◌≡◌, ℕ, zero, suc, ◌+◌, ◌*◌, ◌≤◌, List, [], ◌∷◌, ◌++◌, length, take, arith, refl, sym, ap, ap₂, ◌∙◌, add-zero, zero-add, append_assoc, append-nil, length-set}
use Rattle.std.specs.List.{flat_map, range_with_len}
use Rattle.std.proofs.lemmas.List.Concat.{flat_map-append}
use Rattle.std.proofs.Math.ListN.{set}
use Rattle.std.proofs.lemmas.Grind.{take-set_at}

-- the numbers starting at a, and then those starting at a + m
pub range-append : (a m n : ℕ) → range_with_len a (m + n) ≡ range_with_len a m ++ range_with_len (a + m) n
range-append a zero n = rw (zero-add, add-zero) refl
range-append a (suc m) n =
    let e : suc m + n ≡ suc (m + n) = omega arith in
    let f : a + suc m ≡ a + 1 + m = omega arith in
    rw (e, f) (ap (λ z. a ∷ z) (range-append (a + 1) m n))

flat_map-more : (f : ℕ → List ℕ) (n : ℕ) → flat_map f (range_with_len 0 n) ++ f n ≡ flat_map f (range_with_len 0 (n + 1))
flat_map-more f n =
    let e : 0 + n ≡ n = omega arith in
    sym (ap (flat_map f) (range-append 0 n 1) ∙ flat_map-append f (range_with_len 0 n) (range_with_len (0 + n) 1) ∙ rw (e, append-nil) refl)

joined_three : (xs : List ℕ) (p q r : ℕ) → ((xs ++ p ∷ []) ++ q ∷ []) ++ r ∷ [] ≡ xs ++ p ∷ q ∷ r ∷ []
joined_three xs p q r = simp append_assoc

joined_four : (xs : List ℕ) (p q r s : ℕ) → (((xs ++ p ∷ []) ++ q ∷ []) ++ r ∷ []) ++ s ∷ [] ≡ xs ++ p ∷ q ∷ r ∷ s ∷ []
joined_four xs p q r s = simp append_assoc

-- the first bytes of a pixel, starting at byte m
three_stored : (m : ℕ) (out : List ℕ) (p q r : ℕ) → m + 3 ≤ length out → take (m + 3) (set (set (set out m p) (m + 1) q) (m + 2) r) ≡ ((take m out ++ p ∷ []) ++ q ∷ []) ++ r ∷ []
three_stored m out p q r space =
    let one = set out m p in
    let two = set one (m + 1) q in
    let long : length one ≡ length out = length-set out m p in
    let longer : length two ≡ length one = length-set one (m + 1) q in
    let third : take (m + 3) (set two (m + 2) r) ≡ take (m + 2) two ++ r ∷ [] = take-set_at two (m + 2) (m + 3) r (omega arith) (omega arith) in
    let second : take (m + 2) two ≡ take (m + 1) one ++ q ∷ [] = take-set_at one (m + 1) (m + 2) q (omega arith) (omega arith) in
    let first : take (m + 1) one ≡ take m out ++ p ∷ [] = take-set_at out m (m + 1) p (omega arith) (omega arith) in
    third ∙ ap (λ z. z ++ r ∷ []) (second ∙ ap (λ z. z ++ q ∷ []) first)

pub three_more : (f : ℕ → List ℕ) (i : ℕ) (out : List ℕ) (p q r : ℕ) → 3 * i + 3 ≤ length out → f i ≡ p ∷ q ∷ r ∷ [] → take (3 * i) out ≡ flat_map f (range_with_len 0 i)
    → take (3 * (i + 1)) (set (set (set out (3 * i) p) (3 * i + 1) q) (3 * i + 2) r) ≡ flat_map f (range_with_len 0 (i + 1))
three_more f i out p q r space is h =
    let next : 3 * (i + 1) ≡ 3 * i + 3 = omega arith in
    ap (λ (k : ℕ). take k (set (set (set out (3 * i) p) (3 * i + 1) q) (3 * i + 2) r)) next
    ∙ three_stored (3 * i) out p q r space ∙ joined_three (take (3 * i) out) p q r ∙ ap₂ (λ x y. x ++ y) h (sym is) ∙ flat_map-more f i

pub four_more : (f : ℕ → List ℕ) (i : ℕ) (out : List ℕ) (p q r s : ℕ) → 4 * i + 4 ≤ length out → f i ≡ p ∷ q ∷ r ∷ s ∷ [] → take (4 * i) out ≡ flat_map f (range_with_len 0 i)
    → take (4 * (i + 1)) (set (set (set (set out (4 * i) p) (4 * i + 1) q) (4 * i + 2) r) (4 * i + 3) s) ≡ flat_map f (range_with_len 0 (i + 1))
four_more f i out p q r s space is h =
    let one = set out (4 * i) p in
    let two = set one (4 * i + 1) q in
    let three = set two (4 * i + 2) r in
    let long : length one ≡ length out = length-set out (4 * i) p in
    let longer : length two ≡ length one = length-set one (4 * i + 1) q in
    let longest : length three ≡ length two = length-set two (4 * i + 2) r in
    let last : take (4 * (i + 1)) (set three (4 * i + 3) s) ≡ take (4 * i + 3) three ++ s ∷ [] = take-set_at three (4 * i + 3) (4 * (i + 1)) s (omega arith) (omega arith) in
    last ∙ ap (λ z. z ++ s ∷ []) (three_stored (4 * i) out p q r (omega arith)) ∙ joined_four (take (4 * i) out) p q r s ∙ ap₂ (λ x y. x ++ y) h (sym is) ∙ flat_map-more f i
