-- The spots of samples, and those along a line.
use Rattle.std.proofs.Common.{◌≡◌, ℕ, ◌+◌, ◌*◌, ◌/◌, ◌%◌, ◌<◌, refl, sym, ap, ◌∙◌, arith}
use Rattle.std.proofs.Math.Nat.{div-div-eq-div-mul, zero-div, zero-mod}
use Rattle.std.proofs.Math.Arith.{mod-mul}
use Rattle.std.proofs.lemmas.Nat.{div-mul-add, mod-mul-add, mod_below, mul-add-lt}
use Rattle.jr_head.specs.HeadValue.{HeadValue}
use Rattle.jr_head.specs.Geometry.{IsValid, components_of, horizontal_of, vertical_of, mcus_across, mcus_of, blocks_before, blocks_of}
use Rattle.jr_paint.specs.Geometry.{spot_of, spot_in_line, place_in, samples_across, samples_down}
use Rattle.jr_paint.specs.Units.{sample_by_units}
use Rattle.jr_paint.specs.declared.geometry.Spot.{Spot}
use Rattle.jr_paint.proofs.Places.{mcu_inside, block_inside, place_of_lies}
use Rattle.jr_paint.proofs.Factors.{sampled_at}

-- an MCU of the image, and a data unit of it
pub record IsInside (h : HeadValue) (s : Spot) : Type 0 where
  pub mcu : s.mcu < mcus_of h
  pub block : s.block < blocks_of h

pub spot_inside : (h : HeadValue) (c x y : ℕ) → IsValid h → c < components_of h → x < samples_across h c → y < samples_down h c → IsInside h (spot_of h c x y)
spot_inside h c x y l p q r =
    let sampled = sampled_at h c l p in
    let there = place_of_lies (horizontal_of h c) (vertical_of h c) x y sampled.across sampled.down in
    let column = mcu_inside x h.width (horizontal_of h c) _ sampled.across l.components.across q in
    let line = mcu_inside y h.height (vertical_of h c) _ sampled.down l.components.down r in
    record {
      mcu = mul-add-lt _ _ _ _ line column;
      block = block_inside h c _ _ p there.block_down there.block_across;
    }

-- the data unit of a column within its MCU
unit_column : (x a : ℕ) → 0 < a → x % (8 * a) / 8 ≡ x / 8 % a
unit_column x a p =
    let turned : 8 * a ≡ a * 8 = omega arith in
    let whole : x % (a * 8) ≡ x / 8 % a * 8 + x % 8 = mod-mul x p (omega arith) in
    ap (λ k. x % k / 8) turned ∙ ap (λ k. k / 8) whole ∙ div-mul-add (x / 8 % a) 8 (x % 8) (mod_below x 8 (omega arith))

spot_is : (m b r m' b' r' c : ℕ) → m ≡ m' → b ≡ b' → r ≡ r' → (let s : Spot = record { mcu = m; block = b; row = r; col = c } in s) ≡ record { mcu = m'; block = b'; row = r'; col = c }
spot_is m b r m' b' r' c e f g = rw (e, f, g) refl

further : (k u v z : ℕ) → u ≡ v → z ≡ 0 → k + u ≡ k + z + v
further k u v z e f = omega (arith, e, f)

-- a position in a line is that of its start, moved by the data units before it
pub spot_along : (h : HeadValue) (c x y : ℕ) → 0 < horizontal_of h c → spot_of h c x y ≡ spot_in_line (spot_of h c 0 y) (horizontal_of h c) x
spot_along h c x y p =
    let a = horizontal_of h c in
    let v = vertical_of h c in
    let column : x / (8 * a) ≡ x / 8 / a = sym (div-div-eq-div-mul x 8 a) in
    let first : 0 / (8 * a) ≡ 0 = zero-div (8 * a) in
    let rest : 0 % (8 * a) / 8 ≡ 0 = ap (λ k. k / 8) (zero-mod (8 * a)) ∙ zero-div 8 in
    spot_is (y / (8 * v) * mcus_across h + x / (8 * a)) (blocks_before h c + y % (8 * v) / 8 * a + x % (8 * a) / 8) (y % 8)
    (y / (8 * v) * mcus_across h + 0 / (8 * a) + x / 8 / a) (blocks_before h c + y % (8 * v) / 8 * a + 0 % (8 * a) / 8 + x / 8 % a) (y % 8) (x % 8)
    (further (y / (8 * v) * mcus_across h) (x / (8 * a)) (x / 8 / a) (0 / (8 * a)) column first)
    (further (blocks_before h c + y % (8 * v) / 8 * a) (x % (8 * a) / 8) (x / 8 % a) (0 % (8 * a) / 8) (unit_column x a p) rest)
    refl

at_unit : (s : Spot) (a u v x k : ℕ) → u ≡ v → x ≡ k → (let t : Spot = record { mcu = s.mcu + u / a; block = s.block + u % a; row = s.row; col = x } in t) ≡ record { mcu = s.mcu + v / a; block = s.block + v % a; row = s.row; col = k }
at_unit s a u v x k e f = rw (e, f) refl

-- the sample in column k of data unit n of a line
unit_along : (h : HeadValue) (c y n k : ℕ) → 0 < horizontal_of h c → k < 8 → spot_of h c (8 * n + k) y ≡ record { mcu = (spot_of h c 0 y).mcu + n / horizontal_of h c; block = (spot_of h c 0 y).block + n % horizontal_of h c; row = (spot_of h c 0 y).row; col = k }
unit_along h c y n k some lt =
    let turned : 8 * n + k ≡ n * 8 + k = omega arith in
    let unit : (8 * n + k) / 8 ≡ n = ap (λ j. j / 8) turned ∙ div-mul-add n 8 k lt in
    let column : (8 * n + k) % 8 ≡ k = ap (λ j. j % 8) turned ∙ mod-mul-add n 8 k lt in
    spot_along h c (8 * n + k) y some ∙ at_unit (spot_of h c 0 y) (horizontal_of h c) ((8 * n + k) / 8) n ((8 * n + k) % 8) k unit column

-- data unit n of a line is one of the image's
pub unit_inside : (h : HeadValue) (c y n column part across : ℕ) (s : Spot) → IsValid h → c < components_of h → 8 * n < samples_across h c → y < samples_down h c → s ≡ spot_of h c 0 y → across ≡ horizontal_of h c → column ≡ n / across → part ≡ n % across
    → (s.mcu + column < mcus_of h) × (s.block + part < blocks_of h)
unit_inside h c y n column part across s l p q r start a e f =
    let there = spot_inside h c (8 * n + 0) y l p (omega (arith, q)) r in
    let along = unit_along h c y n 0 (sampled_at h c l p).across (omega arith) in
    let mcu : s.mcu + column ≡ (spot_of h c (8 * n + 0) y).mcu = omega (arith, ap (λ (t : Spot). t.mcu) start, e ∙ ap (λ j. n / j) a, ap (λ (t : Spot). t.mcu) along) in
    let block : s.block + part ≡ (spot_of h c (8 * n + 0) y).block = omega (arith, ap (λ (t : Spot). t.block) start, f ∙ ap (λ j. n % j) a, ap (λ (t : Spot). t.block) along) in
    (omega (arith, mcu, there.mcu), omega (arith, block, there.block))

same_at : (f : ℕ → ℕ → ℕ → ℕ → ℕ) (c m b p m' b' p' : ℕ) → m ≡ m' → b ≡ b' → p ≡ p' → f c m b p ≡ f c m' b' p'
same_at f c m b p m' b' p' d e g = rw (d, e, g) refl

-- what is shown in column k of data unit n of a line
pub shown_along : (f : ℕ → ℕ → ℕ → ℕ → ℕ) (h : HeadValue) (c y n k column part across : ℕ) (s : Spot) → 0 < across → k < 8 → s ≡ spot_of h c 0 y → across ≡ horizontal_of h c → column ≡ n / across → part ≡ n % across
    → f c (s.mcu + column) (s.block + part) (8 * s.row + k) ≡ sample_by_units h f c (8 * n + k) y
shown_along f h c y n k column part across s some lt start a d e =
    let along = unit_along h c y n k (omega (arith, some, a)) lt in
    let mcu : s.mcu + column ≡ (spot_of h c (8 * n + k) y).mcu = omega (arith, ap (λ (t : Spot). t.mcu) start, d ∙ ap (λ j. n / j) a, ap (λ (t : Spot). t.mcu) along) in
    let block : s.block + part ≡ (spot_of h c (8 * n + k) y).block = omega (arith, ap (λ (t : Spot). t.block) start, e ∙ ap (λ j. n % j) a, ap (λ (t : Spot). t.block) along) in
    let place : 8 * s.row + k ≡ place_in (spot_of h c (8 * n + k) y) = omega (arith, ap (λ (t : Spot). t.row) start, ap place_in along) in
    same_at f c (s.mcu + column) (s.block + part) (8 * s.row + k) (spot_of h c (8 * n + k) y).mcu (spot_of h c (8 * n + k) y).block (place_in (spot_of h c (8 * n + k) y)) mcu block place
