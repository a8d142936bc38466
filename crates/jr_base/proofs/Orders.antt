-- Lists of 64 numbers in zigzag order and in natural order.
use Rattle.std.proofs.Common.{◌≡◌, ℕ, ◌<◌, ℤ, pos, List, length, get_or, map, set, nat_lt, Bool, true, false, refl, arith, ◌∙◌, ap, sym, inl, inr, replicate}
use Rattle.std.specs.Prelude.{slice_index, nat_eq, ◌≢◌}
use Rattle.std.specs.List.{list_all, range_with_len}
use Rattle.std.proofs.lemmas.Bool.{cases_Bool, cases_eq}
use Rattle.std.proofs.lemmas.Bool.Decides.{nat_tests}
use Rattle.std.proofs.lemmas.List.{get_or-map, ext_get_or, length-set, get_or-set_same, get_or-set_other, length-map}
use Rattle.std.proofs.lemmas.List.Folds.{list_all_at}
use Rattle.std.proofs.lemmas.List.FromFn.{get_or-range_with_len}
use Rattle.jr_base.specs.Blocks.{at, in_zigzag_order, in_natural_order}
use Rattle.jr_base.specs.Zigzag.{natural_indexes, places, natural_index, zigzag_place}

-- the result of a test of each of 64 numbers
at_each : (test : ℕ → Bool) → list_all test (range_with_len 0 64) ≡ true → (k : ℕ) → k < 64 → test k ≡ true
at_each test all k h =
    elim (cases_Bool (test k)) [
      | inl t ↦ t
      | inr f ↦
          let r : get_or (range_with_len 0 64) k 0 ≡ k = get_or-range_with_len 0 64 k 0 h ∙ omega arith in
          let g : test (get_or (range_with_len 0 64) k 0) ≡ false = rw r f in
          absurd (cc (list_all_at test (range_with_len 0 64) k 0 h g, all))
    ]

-- the tables undo each other
pub place_of_natural : (k : ℕ) → k < 64 → zigzag_place (natural_index k) ≡ k
unfolding zigzag_place natural_index
place_of_natural k h =
    let e = at_each (λ j. nat_eq (slice_index places (slice_index natural_indexes j)) j) refl k h in
    grind (arith, nat_tests)

pub natural_of_place : (n : ℕ) → n < 64 → natural_index (zigzag_place n) ≡ n
unfolding zigzag_place natural_index
natural_of_place n h =
    let e = at_each (λ j. nat_eq (slice_index natural_indexes (slice_index places j)) j) refl n h in
    grind (arith, nat_tests)

pub natural_below : (k : ℕ) → k < 64 → natural_index k < 64
unfolding natural_index
natural_below k h =
    let e = at_each (λ j. nat_lt (slice_index natural_indexes j) 64) refl k h in
    grind (arith, nat_tests)

pub place_below : (n : ℕ) → n < 64 → zigzag_place n < 64
unfolding zigzag_place
place_below n h =
    let e = at_each (λ j. nat_lt (slice_index places j) 64) refl n h in
    grind (arith, nat_tests)

pub count_in_zigzag : (xs : List ℤ) → length (in_zigzag_order xs) ≡ 64
unfolding in_zigzag_order
count_in_zigzag xs = refl

-- the number at an index of the other order
pub at_zigzag : (xs : List ℤ) (k : ℕ) → k < 64 → at (in_zigzag_order xs) k ≡ at xs (natural_index k)
unfolding in_zigzag_order natural_index
at_zigzag xs k h = get_or-map (at xs) natural_indexes k 0 (pos 0) h

pub at_natural : (xs : List ℤ) (n : ℕ) → n < 64 → at (in_natural_order xs) n ≡ at xs (zigzag_place n)
unfolding in_natural_order zigzag_place
at_natural xs n h = get_or-map (at xs) places n 0 (pos 0) h

-- a number in natural order is at its zigzag position in zigzag order
pub at_place : (xs : List ℤ) (n : ℕ) → n < 64 → at xs n ≡ at (in_zigzag_order xs) (zigzag_place n)
at_place xs n h = sym (at_zigzag xs (zigzag_place n) (place_below n h) ∙ ap (at xs) (natural_of_place n h))

natural_count : (ys : List ℤ) → length (in_natural_order ys) ≡ 64
unfolding in_natural_order
natural_count ys = refl

-- numbers in natural order, rearranged in zigzag order and back
pub natural_again : (xs : List ℤ) → length xs ≡ 64 → in_natural_order (in_zigzag_order xs) ≡ xs
natural_again xs long =
    let count : length (in_natural_order (in_zigzag_order xs)) ≡ 64 = natural_count (in_zigzag_order xs) in
    ext_get_or (pos 0) (in_natural_order (in_zigzag_order xs)) xs (count ∙ sym long)
    (λ n h.
    let b : n < 64 = omega (arith, count, h) in
    at_natural (in_zigzag_order xs) n b ∙ sym (at_place xs n b))

-- two indexes with one natural index are one
one_index : (j k : ℕ) → j < 64 → k < 64 → natural_index j ≡ natural_index k → j ≡ k
one_index j k h c e = sym (place_of_natural j h) ∙ ap zigzag_place e ∙ place_of_natural k c

set_at : (xs : List ℤ) (k : ℕ) (v : ℤ) (j : ℕ) → length xs ≡ 64 → k < 64 → j < 64 → at (set xs (natural_index k) v) (natural_index j) ≡ at (set (in_zigzag_order xs) k v) j
set_at xs k v j long h c =
    elim (cases_eq j k) [
      | inl e ↦ rw e (get_or-set_same xs (natural_index k) v (pos 0) (omega (arith, long, natural_below k h)) ∙ sym (get_or-set_same (in_zigzag_order xs) k v (pos 0) (omega (arith, count_in_zigzag xs, h))))
      | inr n ↦ get_or-set_other xs (natural_index k) (natural_index j) v (pos 0) (λ e. n (one_index j k c h e)) ∙ sym (at_zigzag xs j c) ∙ sym (get_or-set_other (in_zigzag_order xs) k j v (pos 0) n)
    ]

-- a number is written at its index of either order
pub set_zigzag : (xs : List ℤ) (k : ℕ) (v : ℤ) → length xs ≡ 64 → k < 64 → in_zigzag_order (set xs (natural_index k) v) ≡ set (in_zigzag_order xs) k v
set_zigzag xs k v long h =
    ext_get_or (pos 0) (in_zigzag_order (set xs (natural_index k) v)) (set (in_zigzag_order xs) k v)
    (count_in_zigzag (set xs (natural_index k) v) ∙ sym (length-set (in_zigzag_order xs) k v ∙ count_in_zigzag xs))
    (λ j b.
    let c : j < 64 = omega (arith, count_in_zigzag (set xs (natural_index k) v), b) in
    at_zigzag (set xs (natural_index k) v) j c ∙ set_at xs k v j long h c)

pub zeros_in_zigzag : in_zigzag_order (replicate 64 (pos 0)) ≡ replicate 64 (pos 0)
unfolding in_zigzag_order
zeros_in_zigzag = refl
