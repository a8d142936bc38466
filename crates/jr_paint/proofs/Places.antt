-- The position of a sample: it is there, and it is the only one.
use Rattle.std.proofs.Common.{◌≡◌, ℕ, ◌+◌, ◌*◌, ◌/◌, ◌%◌, ◌<◌, ◌≤◌, arith, refl, ◌∙◌, ap, take, get_or, [], ◌∷◌}
use Rattle.std.proofs.Math.Nat.{div-add-mod, div-mul-le_self, mul-le-mul_right, lt_of_mul-lt-mul_right}
use Rattle.std.specs.Prelude.{sum_by}
use Rattle.std.proofs.lemmas.List.{take_more}
use Rattle.std.proofs.lemmas.List.Sums.{sum_by-append, sum_by-cons, sum_by-take-drop}
use Rattle.std.proofs.lemmas.Grind.{div_ceil_times}
use Rattle.std.specs.Int.{div_ceil}
use Rattle.std.proofs.lemmas.Nat.{mod-mul-add, same_from_place, mod_below, div_below, mul-add-lt}
use Rattle.jr_head.specs.HeadValue.{HeadValue}
use Rattle.jr_head.specs.Geometry.{components_of, no_component, horizontal_of, vertical_of, units_of, blocks_before, blocks_of}
use Rattle.jr_paint.specs.Geometry.{Place, Where, place_of}

-- one direction of a position
along : (n x : ℕ) → 0 < n → (x ≡ 8 * (n * (x / (8 * n)) + x % (8 * n) / 8) + x % 8) × (x % (8 * n) / 8 < n) × (x % 8 < 8)
along n x h =
    let p : 0 < 8 * n = omega arith in
    let whole = div-add-mod x (8 * n) in
    let rest = div-add-mod (x % (8 * n)) 8 in
    let low : x % (8 * n) % 8 < 8 = mod_below (x % (8 * n)) 8 (omega arith) in
    let parts : x ≡ (n * (x / (8 * n)) + x % (8 * n) / 8) * 8 + x % (8 * n) % 8 = omega arith in
    let same : x % 8 ≡ x % (8 * n) % 8 = ap (λ k. k % 8) parts ∙ mod-mul-add (n * (x / (8 * n)) + x % (8 * n) / 8) 8 (x % (8 * n) % 8) low in
    let below : x % (8 * n) < 8 * n = mod_below x (8 * n) p in
    (omega arith, div_below (x % (8 * n)) 8 n (omega arith) (omega arith), omega arith)

pub place_of_lies : (across down x y : ℕ) → 0 < across → 0 < down → Where across down x y (place_of across down x y)
place_of_lies across down x y a d =
    let xs = along across x a in
    let ys = along down y d in
    record {
      column = xs.0;
      line = ys.0;
      block_across = xs.1;
      block_down = ys.1;
      row_in = ys.2;
      col_in = xs.2;
    }

-- one direction: the same number of parts in range has the same parts
only_along : (n x m b r m' b' r' : ℕ) → x ≡ 8 * (n * m + b) + r → x ≡ 8 * (n * m' + b') + r' → b < n → b' < n → r < 8 → r' < 8 → (m ≡ m') × (b ≡ b') × (r ≡ r')
only_along n x m b r m' b' r' e e' p p' q q' =
    let whole : (n * m + b) * 8 + r ≡ (n * m' + b') * 8 + r' = omega arith in
    let two = same_from_place (n * m + b) r (n * m' + b') r' 8 q q' whole in
    let above : m * n + b ≡ m' * n + b' = omega (arith, two.0) in
    let high = same_from_place m b m' b' n p p' above in
    (high.0, high.1, two.1)

abbrev made : ℕ → ℕ → ℕ → ℕ → ℕ → ℕ → Place
made a b c d e f = record { mcu_column = a; mcu_line = b; block_column = c; block_line = d; row = e; col = f }

same_made : (a b c d e f a' b' c' d' e' f' : ℕ) → a ≡ a' → b ≡ b' → c ≡ c' → d ≡ d' → e ≡ e' → f ≡ f' → made a b c d e f ≡ made a' b' c' d' e' f'
same_made a b c d e f a' b' c' d' e' f' p q r s t u = rw (p, q, r, s, t, u) refl

pub place_of_only : (across down x y : ℕ) → 0 < across → 0 < down → (p : Place) → Where across down x y p → p ≡ place_of across down x y
place_of_only across down x y a d p w =
    let o = place_of_lies across down x y a d in
    let q = place_of across down x y in
    let xs = only_along across x p.mcu_column p.block_column p.col q.mcu_column q.block_column q.col w.column o.column w.block_across o.block_across w.col_in o.col_in in
    let ys = only_along down y p.mcu_line p.block_line p.row q.mcu_line q.block_line q.row w.line o.line w.block_down o.block_down w.row_in o.row_in in
    same_made p.mcu_column p.mcu_line p.block_column p.block_line p.row p.col q.mcu_column q.mcu_line q.block_column q.block_line q.row q.col xs.0 ys.0 xs.1 ys.1 ys.2 xs.2

-- x below the quotient rounded up
pub below_div_ceil : (x a m : ℕ) → 0 < m → x < div_ceil a m → x * m < a
below_div_ceil x a m p h =
    let bound = div_ceil_times a m p in
    let less : (x + 1) * m ≤ div_ceil a m * m = mul-le-mul_right m (omega arith) in
    omega (arith, bound.1)

pub in_div_ceil : (x a m : ℕ) → 0 < m → x * m < a → x < div_ceil a m
in_div_ceil x a m p h =
    let bound = div_ceil_times a m p in
    let less : x * m < div_ceil a m * m = omega (arith, bound.0) in
    lt_of_mul-lt-mul_right m less

-- the MCU of a sample of the image is one of the image's
pub mcu_inside : (x size n m : ℕ) → 0 < n → 0 < m → x < div_ceil (size * n) m → x / (8 * n) < div_ceil size (8 * m)
mcu_inside x size n m p q h =
    let inside = below_div_ceil x (size * n) m q h in
    let low = div-mul-le_self x (8 * n) in
    let lower : x / (8 * n) * (8 * n) * m ≤ x * m = mul-le-mul_right m low in
    let turned : x / (8 * n) * (8 * n) * m ≡ x / (8 * n) * (8 * m) * n = grind arith in
    let scaled : x / (8 * n) * (8 * m) * n < size * n = omega arith in
    in_div_ceil (x / (8 * n)) size (8 * m) (omega arith) (lt_of_mul-lt-mul_right n scaled)

pub blocks_before_le : (h : HeadValue) (c : ℕ) → c < components_of h → blocks_before h c + horizontal_of h c * vertical_of h c ≤ blocks_of h
blocks_before_le h c p =
    let cs = h.components in
    let next : sum_by units_of (take (c + 1) cs) ≡ sum_by units_of (take c cs) + sum_by units_of (get_or cs c no_component ∷ []) =
    ap (sum_by units_of) (take_more cs c no_component p) ∙ sum_by-append units_of (take c cs) (get_or cs c no_component ∷ []) in
    let all = sum_by-take-drop units_of cs (c + 1) in
    omega (arith, next, all, sum_by-cons units_of (get_or cs c no_component) [])

pub block_inside : (h : HeadValue) (c v b : ℕ) → c < components_of h → v < vertical_of h c → b < horizontal_of h c → blocks_before h c + v * horizontal_of h c + b < blocks_of h
block_inside h c v b p q r =
    let inside = mul-add-lt v (horizontal_of h c) b (vertical_of h c) q r in
    let whole = blocks_before_le h c p in
    let turned : horizontal_of h c * vertical_of h c ≡ vertical_of h c * horizontal_of h c = grind arith in
    omega (arith, inside, whole, turned)
