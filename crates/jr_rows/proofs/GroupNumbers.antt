-- Positions of the samples of the data units of a row of MCUs: each row of eight has a position of its own, within the
-- lines of the row.
use Rattle.std.proofs.Common.{◌≡◌, ℕ, suc, inl, inr, ◌+◌, ◌-◌, ◌*◌, ◌/◌, ◌%◌, ◌<◌, ◌≤◌, List, [], ◌∷◌, length, take, replicate, get_or, sym, ap, subst, ◌∙◌, arith}
use Rattle.std.specs.Prelude.{sum_by}
use Rattle.std.proofs.Math.Nat.{div-div-eq-div-mul, mod-eq_of_lt, mul-le-mul_right}
use Rattle.std.proofs.Math.Arith.{mod-mul}
use Rattle.std.proofs.lemmas.Bool.{cases_lt}
use Rattle.std.proofs.lemmas.List.{get_or-append-add, get_or-replicate, get_or_append_left, length-replicate, take-take}
use Rattle.std.proofs.lemmas.List.Sums.{sum_by-cons, sum_by_more, sum_by-take-le}
use Rattle.std.proofs.lemmas.Nat.{div-add-mod', div-mul-add, div_below, mod-mul-add, mod_below, mul-add-lt, same_from_place}
use Rattle.jr_head.specs.declared.component.Component.{Component}
use Rattle.jr_head.specs.HeadValue.{HeadValue}
use Rattle.jr_head.specs.Geometry.{IsValid, no_component, units_of, order_from, order_of, blocks_before, blocks_of, components_of, horizontal_of, vertical_of, horizontal_max, mcus_across}
use Rattle.jr_head.proofs.SamplingLaws.{length-order}
use Rattle.jr_paint.proofs.Factors.{sampled_at, subsampled_at}
use Rattle.jr_paint.proofs.Places.{place_of_lies}
use Rattle.jr_mcu.specs.Mcus.{component}
use Rattle.jr_picture.specs.Headline.{spot_of}
use Rattle.jr_rows.specs.Groups.{lines_before_component, all_lines, groups_across, group_in, group_of}
use Rattle.jr_rows.proofs.UnitComponents.{component_there}

-- data unit n is one of component c
abbrev IsOf : List Component → (c n : ℕ) → Type 0
IsOf cs c n = (c < length cs) × (sum_by units_of (take c cs) ≤ n) × (n < sum_by units_of (take c cs) + units_of (get_or cs c no_component))

owner : (i : ℕ) (cs : List Component) (n : ℕ) → n < sum_by units_of cs → (c : ℕ) × ((get_or (order_from i cs) n 0 ≡ i + c) × IsOf cs c n)
owner i [] n lt = absurd (omega (arith, lt))
owner i (x ∷ cs) n lt =
    let own = replicate (units_of x) i in
    let long = length-replicate (units_of x) i in
    let all = sum_by-cons units_of x cs in
    elim (cases_lt n (units_of x)) [
      | inl few ↦
          let here : n < length own = omega (arith, long, few) in
          let number : i ≡ i + 0 = omega arith in
          let is = get_or_append_left own (order_from (suc i) cs) 0 n here ∙ get_or-replicate (units_of x) n i 0 few ∙ number in
          (0, (is, (omega arith, omega arith, omega (arith, few))))
      | inr more ↦
          let rest = owner (suc i) cs (n - units_of x) (omega (arith, all, lt, more)) in
          let after : n ≡ length own + (n - units_of x) = omega (arith, long, more) in
          let number : suc i + rest.0 ≡ i + suc rest.0 = omega arith in
          let before = sum_by-cons units_of x (take rest.0 cs) in
          let there = rest.1.1 in
          let is = ap (λ (k : ℕ). get_or (order_from i (x ∷ cs)) k 0) after ∙ get_or-append-add own (order_from (suc i) cs) (n - units_of x) 0 ∙ rest.1.0 ∙ number in
          (suc rest.0, (is, (omega (arith, there.0), omega (arith, before, there.1, more), omega (arith, before, there.2, more))))
    ]

-- the component of a data unit of an MCU has it
pub whose : (h : HeadValue) (j : ℕ) → IsValid h → j < blocks_of h
    → (let c = component h j in (c < components_of h) × (blocks_before h c ≤ j) × (j < blocks_before h c + horizontal_of h c * vertical_of h c))
whose h j l lt =
    let found = owner 0 h.components j lt in
    let inside : j < length (order_of h) = omega (arith, lt, length-order 0 h.components) in
    let none : 0 + found.0 ≡ found.0 = omega arith in
    let is : component h j ≡ found.0 = ap (λ (n : ℕ). get_or (order_of h) n 0) (mod-eq_of_lt inside) ∙ found.1.0 ∙ none in
    subst (λ (c : ℕ). (c < components_of h) × (blocks_before h c ≤ j) × (j < blocks_before h c + horizontal_of h c * vertical_of h c)) (sym is) found.1.1

below : (line r w place : ℕ) → (line + r) * w + place ≡ (line + 0) * w + place + r * w
below line r w place = grind arith

-- row r of a data unit is r lines after its first
pub last_row : (h : HeadValue) (m j r : ℕ) → group_of h m j r ≡ group_of h m j 0 + r * groups_across h
last_row h m j r =
    let c = component h j in
    let i = j - blocks_before h c in
    let line = lines_before_component h c + 8 * (i / horizontal_of h c) in
    below line r (groups_across h) (m * horizontal_of h c + i % horizontal_of h c)

lines_next : (h : HeadValue) (c : ℕ) → c < components_of h → lines_before_component h (c + 1) ≡ lines_before_component h c + 8 * vertical_of h c
lines_next h c p = omega (arith, sum_by_more (λ (k : Component). k.vertical) h.components c no_component p)

lines_grow : (h : HeadValue) (c d : ℕ) → c ≤ d → lines_before_component h c ≤ lines_before_component h d
lines_grow h c d le =
    let f = λ (k : Component). k.vertical in
    omega (arith, sum_by-take-le f (take d h.components) c, ap (sum_by f) (take-take c d h.components le))

-- component c's lines end before those of a later one
lines_apart : (h : HeadValue) (c d : ℕ) → c < components_of h → c < d → lines_before_component h c + 8 * vertical_of h c ≤ lines_before_component h d
lines_apart h c d p lt = omega (arith, lines_next h c p, lines_grow h (c + 1) d (omega (arith, lt)))

lines_within : (h : HeadValue) (c : ℕ) → c < components_of h → lines_before_component h c + 8 * vertical_of h c ≤ all_lines h
lines_within h c p = lines_apart h c (components_of h) p p

-- data unit i of component c
module _ (h : HeadValue) (l : IsValid h) (c m i r : ℕ) (p : c < components_of h) (few : i < horizontal_of h c * vertical_of h c) (column : m < mcus_across h) (row : r < 8) where
  in_lines : lines_before_component h c + 8 * (i / horizontal_of h c) + r < lines_before_component h c + 8 * vertical_of h c
  in_lines =
      let turned : horizontal_of h c * vertical_of h c ≡ vertical_of h c * horizontal_of h c = grind arith in
      let down : i / horizontal_of h c < vertical_of h c = div_below i (horizontal_of h c) (vertical_of h c) (sampled_at h c l p).across (omega (arith, few, turned)) in
      omega (arith, down, row)

  in_line : m * horizontal_of h c + i % horizontal_of h c < groups_across h
  in_line =
      let across = horizontal_of h c in
      let rest = mod_below i across (sampled_at h c l p).across in
      let place = mul-add-lt m across (i % across) (mcus_across h) column rest in
      let most : across * mcus_across h ≤ horizontal_max h * mcus_across h = mul-le-mul_right (mcus_across h) (subsampled_at h c l p).narrower in
      let turned : horizontal_max h * mcus_across h ≡ groups_across h = grind arith in
      omega (arith, place, most, turned)

  group_inside : group_in h c i m r < all_lines h * groups_across h
  group_inside =
      let line = lines_before_component h c + 8 * (i / horizontal_of h c) + r in
      let group = m * horizontal_of h c + i % horizontal_of h c in
      let place = mul-add-lt line (groups_across h) group (all_lines h) (omega (arith, in_lines, lines_within h c p)) in_line in
      let turned : groups_across h * all_lines h ≡ all_lines h * groups_across h = grind arith in
      omega (arith, place, turned)

-- the number of a data unit among those of its component
own_number : (h : HeadValue) (j : ℕ) → IsValid h → j < blocks_of h → (let c = component h j in j - blocks_before h c < horizontal_of h c * vertical_of h c)
own_number h j l lt = let w = whose h j l lt in omega (arith, w.1, w.2)

-- all rows of all data units lie within the lines of the row of MCUs
pub inside : (h : HeadValue) (m j r : ℕ) → IsValid h → m < mcus_across h → j < blocks_of h → r < 8 → group_of h m j r < all_lines h * groups_across h
inside h m j r l column lt row =
    let c = component h j in
    group_inside h l c m (j - blocks_before h c) r (whose h j l lt).0 (own_number h j l lt) column row

-- a line and a position in it determine the component, by the lines of each
one_component : (h : HeadValue) (c n d k : ℕ) → c < components_of h → d < components_of h → n < 8 * vertical_of h c → k < 8 * vertical_of h d → lines_before_component h c + n ≡ lines_before_component h d + k → c ≡ d
one_component h c n d k p q few less e =
    elim (cases_lt c d) [
      | inl before ↦ absurd (omega (arith, lines_apart h c d p before, few, e))
      | inr not_before ↦ elim (cases_lt d c) [
        | inl after ↦ absurd (omega (arith, lines_apart h d c q after, less, e))
        | inr not_after ↦ omega (arith, not_before, not_after)
      ]
    ]

-- in one component the line determines the row of data units, and the position in it the column
one_unit : (a m i r m' i' r' : ℕ) → 0 < a → r < 8 → r' < 8 → 8 * (i / a) + r ≡ 8 * (i' / a) + r' → m * a + i % a ≡ m' * a + i' % a → (m ≡ m') × (i ≡ i') × (r ≡ r')
one_unit a m i r m' i' r' some row row' line place =
    let rows = same_from_place (i / a) r (i' / a) r' 8 row row' (omega (arith, line)) in
    let columns = same_from_place m (i % a) m' (i' % a) a (mod_below i a some) (mod_below i' a some) place in
    let whole : i / a * a ≡ i' / a * a = ap (λ (n : ℕ). n * a) rows.0 in
    (columns.0, omega (arith, div-add-mod' i a, div-add-mod' i' a, whole, columns.1), rows.1)

module _ (h : HeadValue) (l : IsValid h) (c m i r c' m' i' r' : ℕ) (p : c < components_of h) (p' : c' < components_of h) (few : i < horizontal_of h c * vertical_of h c) (few' : i' < horizontal_of h c' * vertical_of h c')
    (column : m < mcus_across h) (column' : m' < mcus_across h) (row : r < 8) (row' : r' < 8) where
  groups_apart : group_in h c i m r ≡ group_in h c' i' m' r' → (c ≡ c') × (m ≡ m') × (i ≡ i') × (r ≡ r')
  groups_apart e =
      let n = 8 * (i / horizontal_of h c) + r in
      let k = 8 * (i' / horizontal_of h c') + r' in
      let place = m * horizontal_of h c + i % horizontal_of h c in
      let place' = m' * horizontal_of h c' + i' % horizontal_of h c' in
      let lies = in_line h l c m i r p few column row in
      let lies' = in_line h l c' m' i' r' p' few' column' row' in
      let two = same_from_place (lines_before_component h c + 8 * (i / horizontal_of h c) + r) place (lines_before_component h c' + 8 * (i' / horizontal_of h c') + r') place' (groups_across h) lies lies' e in
      let low : n < 8 * vertical_of h c = omega (arith, in_lines h l c m i r p few column row) in
      let low' : k < 8 * vertical_of h c' = omega (arith, in_lines h l c' m' i' r' p' few' column' row') in
      let one : c ≡ c' = one_component h c n c' k p p' low low' (omega (arith, two.0)) in
      let line = two.0 ∙ ap (λ (d : ℕ). lines_before_component h d + 8 * (i' / horizontal_of h d) + r') (sym one) in
      let across = two.1 ∙ ap (λ (d : ℕ). m' * horizontal_of h d + i' % horizontal_of h d) (sym one) in
      let rest = one_unit (horizontal_of h c) m i r m' i' r' (sampled_at h c l p).across row row' (omega (arith, line)) across in
      (one, rest.0, rest.1, rest.2)

-- no two rows of data units have the same position
pub apart : (h : HeadValue) (m j r m' j' r' : ℕ) → IsValid h → m < mcus_across h → m' < mcus_across h → j < blocks_of h → j' < blocks_of h → r < 8 → r' < 8 → group_of h m j r ≡ group_of h m' j' r'
    → (m ≡ m') × ((j ≡ j') × (r ≡ r'))
apart h m j r m' j' r' l column column' lt lt' row row' e =
    let c = component h j in
    let c' = component h j' in
    let w = whose h j l lt in
    let w' = whose h j' l lt' in
    let same = groups_apart h l c m (j - blocks_before h c) r c' m' (j' - blocks_before h c') r' w.0 w'.0 (own_number h j l lt) (own_number h j' l lt') column column' row row' e in
    let before : blocks_before h c ≡ blocks_before h c' = ap (blocks_before h) same.0 in
    (same.1, (omega (arith, w.1, w'.1, before, same.2), same.3))

-- eight columns or lines of samples are one of data units, a or v of them in an MCU
unit_column : (x a : ℕ) → 0 < a → x / (8 * a) * a + x % (8 * a) / 8 ≡ x / 8
unit_column x a some =
    let turned : 8 * a ≡ a * 8 = omega arith in
    let whole : x % (a * 8) ≡ x / 8 % a * 8 + x % 8 = mod-mul x some (omega arith) in
    let rest : x % (8 * a) / 8 ≡ x / 8 % a = ap (λ (k : ℕ). x % k / 8) turned ∙ ap (λ (k : ℕ). k / 8) whole ∙ div-mul-add (x / 8 % a) 8 (x % 8) (mod_below x 8 (omega arith)) in
    let first : x / (8 * a) * a ≡ x / 8 / a * a = ap (λ (k : ℕ). k * a) (sym (div-div-eq-div-mul x 8 a)) in
    omega (arith, first, rest, div-add-mod' (x / 8) a)

unit_line : (y v : ℕ) → 0 < v → 8 * (y % (8 * v) / 8) + y % 8 ≡ y % (8 * v)
unit_line y v some =
    let turned : 8 * v ≡ v * 8 = omega arith in
    let whole : y % (v * 8) ≡ y / 8 % v * 8 + y % 8 = mod-mul y some (omega arith) in
    let parts : y % (8 * v) ≡ y / 8 % v * 8 + y % 8 = ap (λ (k : ℕ). y % k) turned ∙ whole in
    let first : y % (8 * v) / 8 ≡ y / 8 % v = ap (λ (k : ℕ). k / 8) parts ∙ div-mul-add (y / 8 % v) 8 (y % 8) (mod_below y 8 (omega arith)) in
    omega (arith, first, parts)

group_at : (line place line' place' w : ℕ) → line ≡ line' → place ≡ place' → line * w + place ≡ line' * w + place'
group_at line place line' place' w e f = ap (λ (n : ℕ). n * w + place) e ∙ ap (λ (n : ℕ). line' * w + n) f

-- a sample lies in its line, in the group of eight of its column
pub on_line : (h : HeadValue) (c x y : ℕ) → IsValid h → c < components_of h
    → (let s = spot_of h c x y in group_of h (x / (8 * horizontal_of h c)) s.block (y % 8) ≡ (lines_before_component h c + y % (8 * vertical_of h c)) * groups_across h + x / 8)
on_line h c x y l p =
    let a = horizontal_of h c in
    let v = vertical_of h c in
    let s = sampled_at h c l p in
    let there = place_of_lies a v x y s.across s.down in
    let block = (spot_of h c x y).block in
    let m = x / (8 * a) in
    let down = y % (8 * v) / 8 in
    let along = x % (8 * a) / 8 in
    let own : group_of h m block (y % 8) ≡ group_in h c (block - blocks_before h c) m (y % 8) = ap (λ (d : ℕ). group_in h d (block - blocks_before h d) m (y % 8)) (component_there h c x y l p) in
    let number : block - blocks_before h c ≡ down * a + along = omega arith in
    let line : lines_before_component h c + 8 * ((down * a + along) / a) + y % 8 ≡ lines_before_component h c + y % (8 * v) = omega (arith, div-mul-add down a along there.block_across, unit_line y v s.down) in
    let place : m * a + (down * a + along) % a ≡ x / 8 = omega (arith, mod-mul-add down a along there.block_across, unit_column x a s.across) in
    own ∙ ap (λ (i : ℕ). group_in h c i m (y % 8)) number
    ∙ group_at (lines_before_component h c + 8 * ((down * a + along) / a) + y % 8) (m * a + (down * a + along) % a) (lines_before_component h c + y % (8 * v)) (x / 8) (groups_across h) line place
