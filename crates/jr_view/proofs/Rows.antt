-- The number of rows of MCUs that were seen whole, after one more MCU is seen.
use Rattle.std.proofs.Common.{◌≡◌, ℕ, zero, suc, inl, inr, ◌⊎◌, ◌+◌, ◌-◌, ◌*◌, ◌/◌, ◌%◌, ◌<◌, ◌≤◌, Bool, true, false, List, length, take, drop, get_or, set, cond, refl, sym, ap, ◌∙◌, arith}
use mir.Val.{bool_byte}
use Rattle.std.specs.List.{count_by, list_all, range_with_len, slice_range}
use Rattle.std.proofs.lemmas.Bool.{cases_order}
use Rattle.std.proofs.lemmas.List.{drop-set-lt, length-set, take-set-le}
use Rattle.std.proofs.lemmas.List.FromFn.{length-range_with_len}
use Rattle.std.proofs.lemmas.List.Edits.{get_or-between, length-between}
use Rattle.std.proofs.lemmas.List.Folds.{list_all_at}
use Rattle.std.proofs.lemmas.List.Sums.{count_by-le-length, sum_by-cons}
use Rattle.std.proofs.lemmas.Nat.{div-add-mod', div-mul-add, div_below, mod_below}
use Rattle.std.proofs.lemmas.Slice.{between_is}
use Rattle.std.proofs.Math.Nat.{add-mul, mul-le-mul_right}
use Rattle.jr_head.specs.HeadValue.{HeadValue}
use Rattle.jr_head.specs.Geometry.{mcus_across, mcus_down, mcus_of}
use Rattle.jr_scan.specs.ScanValue.{ScanValue}
use Rattle.jr_view.specs.ViewValue.{ViewValue}
use Rattle.jr_view.specs.Views.{IsView, has_seen, has_seen_row, whole_rows}
use Rattle.jr_view.specs.Parts.{HasSeenAll}
use Rattle.jr_view.proofs.Showing.{reports}

abbrev weight : Bool → ℕ
weight b = cond b 1 0

-- the count is the same if each test is
same_count : (p q : ℕ → Bool) (a n : ℕ) → ((r : ℕ) → a ≤ r → q r ≡ p r) → count_by q (range_with_len a n) ≡ count_by p (range_with_len a n)
same_count p q a zero same = refl
same_count p q a (suc n) same =
    let here : weight (q a) ≡ weight (p a) = ap weight (same a (omega arith)) in
    let rest : count_by q (range_with_len (a + 1) n) ≡ count_by p (range_with_len (a + 1) n) = same_count p q (a + 1) n (λ r le. same r (omega arith)) in
    omega (arith, here, rest, sum_by-cons (λ r. weight (q r)) a (range_with_len (a + 1) n), sum_by-cons (λ r. weight (p r)) a (range_with_len (a + 1) n))

-- the count is one more at most if one test that failed changes
more_count : (p q : ℕ → Bool) (row a n : ℕ) → ((r : ℕ) → (r < row) ⊎ (row < r) → q r ≡ p r) → p row ≡ false → a ≤ row → row < a + n
    → count_by q (range_with_len a n) ≡ count_by p (range_with_len a n) + weight (q row)
more_count p q row a zero others none from before = absurd (omega arith)
more_count p q row a (suc n) others none from before =
    let all = sum_by-cons (λ r. weight (q r)) a (range_with_len (a + 1) n) in
    let old = sum_by-cons (λ r. weight (p r)) a (range_with_len (a + 1) n) in
    elim (cases_order a row) [
      | inl e ↦
          let here : weight (q a) ≡ weight (q row) = ap (λ k. weight (q k)) e in
          let was : weight (p a) ≡ 0 = ap (λ k. weight (p k)) e ∙ ap weight none in
          let rest : count_by q (range_with_len (a + 1) n) ≡ count_by p (range_with_len (a + 1) n) = same_count p q (a + 1) n (λ r le. others r (inr (omega arith))) in
          omega (arith, here, was, rest, all, old)
      | inr s ↦ elim s [
        | inl lt ↦
            let here : weight (q a) ≡ weight (p a) = ap weight (others a (inl lt)) in
            let rest : count_by q (range_with_len (a + 1) n) ≡ count_by p (range_with_len (a + 1) n) + weight (q row) = more_count p q row (a + 1) n others none (omega arith) (omega arith) in
            omega (arith, here, rest, all, old)
        | inr gt ↦ absurd (omega arith)
      ]
    ]

-- a part of a list is unchanged if another index is written
apart : (seen : List Bool) (m i j : ℕ) → (m < i) ⊎ (j ≤ m) → slice_range (set seen m true) i j ≡ slice_range seen i j
apart seen m i j s = elim s [
  | inl lt ↦ ap (take (j - i)) (drop-set-lt i seen m true lt)
  | inr le ↦ between_is (set seen m true) i j ∙ ap (drop i) (take-set-le j seen m true le) ∙ sym (between_is seen i j)
]

-- an MCU is in none but its own row
other_row : (across m r : ℕ) → 0 < across → (r < m / across) ⊎ (m / across < r) → (m < r * across) ⊎ ((r + 1) * across ≤ m)
other_row across m r some s =
    let split = div-add-mod' m across in
    let low = mod_below m across some in
    elim s [
      | inl lt ↦
          let most : (r + 1) * across ≤ m / across * across = mul-le-mul_right across (omega arith) in
          inr (omega (arith, most, split))
      | inr gt ↦
          let least : (m / across + 1) * across ≤ r * across = mul-le-mul_right across (omega arith) in
          let one : (m / across + 1) * across ≡ m / across * across + 1 * across = add-mul (m / across) 1 across in
          inl (omega (arith, least, one, split, low))
    ]

-- a row is not whole before its MCU is seen
not_whole : (h : HeadValue) (seen : List Bool) (m : ℕ) → 0 < mcus_across h → length seen ≡ mcus_of h → m < mcus_of h → get_or seen m false ≡ false → has_seen_row h seen (m / mcus_across h) ≡ false
not_whole h seen m some long lt none =
    let a = mcus_across h in
    let row = m / a in
    let split = div-add-mod' m a in
    let low = mod_below m a some in
    let one : (row + 1) * a ≡ row * a + 1 * a = add-mul row 1 a in
    let turned : mcus_of h ≡ mcus_down h * a = omega arith in
    let below : row < mcus_down h = div_below m a (mcus_down h) some (omega (arith, lt, turned)) in
    let most : (row + 1) * a ≤ mcus_down h * a = mul-le-mul_right a (omega (arith, below)) in
    let size : length (slice_range seen (row * a) ((row + 1) * a)) ≡ (row + 1) * a - row * a = length-between seen (row * a) ((row + 1) * a) (omega (arith, most, turned, long)) in
    let there : row * a + m % a ≡ m = omega (arith, split) in
    list_all_at (λ (b : Bool). b) (slice_range seen (row * a) ((row + 1) * a)) (m % a) false (omega (arith, size, one, low))
    (get_or-between seen (row * a) ((row + 1) * a) (m % a) false (omega (arith, one, low)) ∙ ap (λ k. get_or seen k false) there ∙ none)

-- the rows that are whole after an MCU is seen: those that were, and maybe its own
pub rows_more : (h : HeadValue) (seen : List Bool) (m : ℕ) → 0 < mcus_across h → length seen ≡ mcus_of h → m < mcus_of h → get_or seen m false ≡ false
    → count_by (has_seen_row h (set seen m true)) (range_with_len 0 (mcus_down h)) ≡ count_by (has_seen_row h seen) (range_with_len 0 (mcus_down h)) + cond (has_seen_row h (set seen m true) (m / mcus_across h)) 1 0
rows_more h seen m some long lt none =
    let a = mcus_across h in
    let turned : mcus_of h ≡ mcus_down h * a = omega arith in
    let below : m / a < mcus_down h = div_below m a (mcus_down h) some (omega (arith, lt, turned)) in
    more_count (has_seen_row h seen) (has_seen_row h (set seen m true)) (m / a) 0 (mcus_down h)
    (λ r s. ap (list_all (λ (b : Bool). b)) (apart seen m (r * a) ((r + 1) * a) (other_row a m r some s)))
    (not_whole h seen m some long lt none) (omega arith) (omega (arith, below))

-- the count is 0 if each test fails
no_count : (p : ℕ → Bool) (a n : ℕ) → ((r : ℕ) → a ≤ r → r < a + n → p r ≡ false) → count_by p (range_with_len a n) ≡ 0
no_count p a zero none = refl
no_count p a (suc n) none =
    let here : weight (p a) ≡ 0 = ap weight (none a (omega arith) (omega arith)) in
    let rest : count_by p (range_with_len (a + 1) n) ≡ 0 = no_count p (a + 1) n (λ r le lt. none r (omega arith) (omega arith)) in
    omega (arith, here, rest, sum_by-cons (λ r. weight (p r)) a (range_with_len (a + 1) n))

some_of : (a b : ℕ) → 0 < a * b → 0 < a
some_of zero b p = absurd (omega (arith, p))
some_of (suc a) b p = omega arith

-- no row is whole if no MCU was seen
pub no_rows : (h : HeadValue) (seen : List Bool) → 0 < mcus_of h → length seen ≡ mcus_of h → ((m : ℕ) → get_or seen m false ≡ false) → count_by (has_seen_row h seen) (range_with_len 0 (mcus_down h)) ≡ 0
no_rows h seen some long none =
    let a = mcus_across h in
    let wide : 0 < a = some_of a (mcus_down h) some in
    no_count (has_seen_row h seen) 0 (mcus_down h) (λ r le lt.
    let turned : mcus_of h ≡ mcus_down h * a = omega arith in
    let one : (r + 1) * a ≡ r * a + 1 * a = add-mul r 1 a in
    let most : (r + 1) * a ≤ mcus_down h * a = mul-le-mul_right a (omega (arith, lt)) in
    let zero_in : r * a + 0 ≡ r * a = omega arith in
    let row : r * a / a ≡ r = ap (λ k. k / a) (sym zero_in) ∙ div-mul-add r a 0 wide in
    sym (ap (λ k. has_seen_row h seen k) row) ∙ not_whole h seen (r * a) wide long (omega (arith, turned, one, most, wide)) (none (r * a)))

-- the row of an MCU ends within the image
pub row_within : (h : HeadValue) (m : ℕ) → 0 < mcus_across h → m < mcus_of h → (m / mcus_across h + 1) * mcus_across h ≤ mcus_of h
row_within h m some lt =
    let a = mcus_across h in
    let turned : mcus_of h ≡ mcus_down h * a = omega arith in
    let below : m / a < mcus_down h = div_below m a (mcus_down h) some (omega (arith, lt, turned)) in
    let most : (m / a + 1) * a ≤ mcus_down h * a = mul-le-mul_right a (omega (arith, below)) in
    omega (arith, most, turned)

-- a test as a number
pub byte_is : (b : Bool) → bool_byte b ≡ cond b 1 0
byte_is true = refl
byte_is false = refl

-- the number of whole rows is at most that of all rows
pub few_rows : (v : ViewValue) → whole_rows v ≤ mcus_down v.scan.head
unfolding whole_rows
few_rows v =
    let n = mcus_down v.scan.head in
    omega (arith, count_by-le-length (has_seen_row v.scan.head v.seen) (range_with_len 0 n), length-range_with_len 0 n)

-- what a view keeps after one more MCU is seen
pub kept_view : (of : ScanValue) (us vs : List (List ℕ)) (seen : List Bool) (m rows more : ℕ) → IsView (record { scan = of; units = us; seen = seen }) rows → length vs ≡ length us → 0 < mcus_across of.head → m < mcus_of of.head
    → get_or seen m false ≡ false → more ≡ cond (has_seen_row of.head (set seen m true) (m / mcus_across of.head)) 1 0 → IsView (record { scan = of; units = vs; seen = set seen m true }) (rows + more)
unfolding whole_rows
kept_view of us vs seen m rows more is long wide lt none one = record {
  units = long ∙ is.units;
  seen = length-set seen m true ∙ is.seen;
  rows = omega (arith, is.rows, one, rows_more of.head seen m wide is.seen lt none);
}

-- each test passes if the count is that of all
each_passes : (p : ℕ → Bool) (a n r : ℕ) → count_by p (range_with_len a n) ≡ n → a ≤ r → r < a + n → p r ≡ true
each_passes p a zero r all le lt = absurd (omega arith)
each_passes p a (suc n) r all le lt =
    let sum : count_by p (range_with_len a (suc n)) ≡ weight (p a) + count_by p (range_with_len (a + 1) n) = sum_by-cons (λ k. weight (p k)) a (range_with_len (a + 1) n) in
    let most : count_by p (range_with_len (a + 1) n) ≤ n = omega (arith, count_by-le-length p (range_with_len (a + 1) n), length-range_with_len (a + 1) n) in
    elim (reports (p a)) [
      | inl t ↦
          let one : weight (p a) ≡ 1 = ap weight t in
          elim (cases_order a r) [
            | inl e ↦ ap p (sym e) ∙ t
            | inr s ↦ elim s [
              | inl before ↦ each_passes p (a + 1) n r (omega (arith, sum, one, all)) (omega arith) (omega arith)
              | inr after ↦ absurd (omega arith)
            ]
          ]
      | inr f ↦
          let none : weight (p a) ≡ 0 = ap weight f in
          absurd (omega (arith, none, sum, most, all))
    ]

-- if each row was seen whole, each MCU was seen
pub whole_is_all : (v : ViewValue) → length v.seen ≡ mcus_of v.scan.head → whole_rows v ≡ mcus_down v.scan.head → HasSeenAll v
unfolding whole_rows
whole_is_all v long all m lt =
    let h = v.scan.head in
    let a = mcus_across h in
    let wide : 0 < a = some_of a (mcus_down h) (omega (arith, lt)) in
    let turned : mcus_of h ≡ mcus_down h * a = omega arith in
    let below : m / a < mcus_down h = div_below m a (mcus_down h) wide (omega (arith, lt, turned)) in
    elim (reports (has_seen v m)) [
      | inl t ↦ t
      | inr f ↦
          let no : true ≡ false = sym (each_passes (has_seen_row h v.seen) 0 (mcus_down h) (m / a) all (omega arith) (omega (arith, below))) ∙ not_whole h v.seen m wide long lt f in
          absurd (cc no)
    ]
