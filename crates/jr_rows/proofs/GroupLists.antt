-- The data units of a row of MCUs, as lists, by the groups of their rows.
use Rattle.std.proofs.Common.{◌≡◌, ◌≢◌, ℕ, ◌+◌, ◌*◌, ◌/◌, ◌%◌, ◌<◌, ◌∙◌, List, [], ◌++◌, inl, inr, length, take, drop, set, sym, ap, subst, arith}
use Rattle.std.specs.Prelude.{slice_index, slice_index_or}
use Rattle.std.proofs.lemmas.Bool.Decides.{eqb_tells}
use Rattle.std.proofs.lemmas.Grind.{same_number_lists}
use Rattle.std.proofs.lemmas.List.{ext_get_or, get_or-set_other, get_or-set_same, length-set}
use Rattle.std.proofs.lemmas.List.FromFn.{get_or-map-range_with_len, length-map-range_with_len}
use Rattle.std.proofs.lemmas.Nat.{div-add-mod', div-mul-add, mod-mul-add, mod_below}
use Rattle.std.proofs.Math.Nat.{div-lt_iff_lt-mul}
use Rattle.std.proofs.Math.Seq.{take-append_seam}
use Rattle.jr_head.specs.HeadValue.{HeadValue}
use Rattle.jr_head.specs.Geometry.{blocks_of, horizontal_of, mcus_across}
use Rattle.jr_mcu.specs.Mcus.{component}
use Rattle.jr_rows.specs.Groups.{group_of, unit_in, units_in}

module _ (h : HeadValue) (groups : List (List ℕ)) (m j : ℕ) where
  -- a data unit has 64 samples
  pub unit_long : length (unit_in h groups m j) ≡ 64
  unit_long = length-map-range_with_len (λ n. slice_index (slice_index_or groups (group_of h m j (n / 8)) []) (n % 8)) 0 64

  -- sample n
  pub unit_sample : (n : ℕ) → n < 64 → slice_index (unit_in h groups m j) n ≡ slice_index (slice_index_or groups (group_of h m j (n / 8)) []) (n % 8)
  unit_sample n lt = get_or-map-range_with_len (λ n. slice_index (slice_index_or groups (group_of h m j (n / 8)) []) (n % 8)) 0 64 n n 0 lt (omega arith)

  -- a data unit with these rows of samples
  pub unit_stored : (unit : List ℕ) → length unit ≡ 64 → ((r k : ℕ) → r < 8 → k < 8 → slice_index (slice_index_or groups (group_of h m j r) []) k ≡ slice_index unit (8 * r + k)) → unit_in h groups m j ≡ unit
  unit_stored unit long rows = same_number_lists (unit_in h groups m j) unit (unit_long ∙ sym long) (λ n lt.
      let small : n < 64 = omega (arith, lt, unit_long) in
      let whole = div-add-mod' n 8 in
      let at : 8 * (n / 8) + n % 8 ≡ n = omega (arith, whole) in
      let low : n % 8 < 8 = mod_below n 8 (omega arith) in
      let row : n / 8 < 8 = omega (arith, whole, small) in
      unit_sample n small ∙ rows (n / 8) (n % 8) row low ∙ ap (λ k. slice_index unit k) at)

  -- a data unit whose rows are unchanged
  pub unit_kept : (old : List (List ℕ)) → ((r : ℕ) → r < 8 → slice_index_or groups (group_of h m j r) [] ≡ slice_index_or old (group_of h m j r) []) → unit_in h groups m j ≡ unit_in h old m j
  unit_kept old same = same_number_lists (unit_in h groups m j) (unit_in h old m j) (unit_long ∙ sym (length-map-range_with_len (λ n. slice_index (slice_index_or old (group_of h m j (n / 8)) []) (n % 8)) 0 64)) (λ n lt.
      let small : n < 64 = omega (arith, lt, unit_long) in
      let row : n / 8 < 8 = omega (arith, div-add-mod' n 8, small) in
      unit_sample n small ∙ ap (λ u. slice_index u (n % 8)) (same (n / 8) row) ∙ sym (get_or-map-range_with_len (λ n. slice_index (slice_index_or old (group_of h m j (n / 8)) []) (n % 8)) 0 64 n n 0 small (omega arith)))

-- the data units of all MCUs
pub units_long : (h : HeadValue) (groups : List (List ℕ)) → length (units_in h groups) ≡ mcus_across h * blocks_of h
units_long h groups = length-map-range_with_len (λ k. unit_in h groups (k / blocks_of h) (k % blocks_of h)) 0 (mcus_across h * blocks_of h)

pub units_at : (h : HeadValue) (groups : List (List ℕ)) (k : ℕ) → k < mcus_across h * blocks_of h → slice_index_or (units_in h groups) k [] ≡ unit_in h groups (k / blocks_of h) (k % blocks_of h)
units_at h groups k lt = get_or-map-range_with_len (λ k. unit_in h groups (k / blocks_of h) (k % blocks_of h)) 0 (mcus_across h * blocks_of h) k k [] lt (omega arith)

-- the same data unit of another MCU
pub further : (h : HeadValue) (m j r : ℕ) → group_of h m j r ≡ group_of h 0 j r + m * horizontal_of h (component h j)
further h m j r = omega arith

-- a list to which a slice of it is written back
pub written_back : (len : ℕ) (new old : List (List ℕ)) → len ≡ length new → take len (new ++ drop (length new) old) ≡ new
written_back len new old e = ap (λ k. take k (new ++ drop (length new) old)) e ∙ take-append_seam new (drop (length new) old)

-- the data units of the MCUs before one are kept where their rows are
module _ (h : HeadValue) (first : ℕ) (new old : List (List ℕ)) (some : 0 < blocks_of h)
    (kept : (m j : ℕ) → m < first → m < mcus_across h → j < blocks_of h → unit_in h new m j ≡ unit_in h old m j) where
  pub kept_before : (k : ℕ) → k < first * blocks_of h → k < mcus_across h * blocks_of h → slice_index_or (units_in h new) k [] ≡ slice_index_or (units_in h old) k []
  kept_before k lt inside =
      units_at h new k inside
      ∙ kept (k / blocks_of h) (k % blocks_of h) ((div-lt_iff_lt-mul some).1 lt) ((div-lt_iff_lt-mul some).1 inside) (mod_below k (blocks_of h) some)
      ∙ sym (units_at h old k inside)

-- a data unit whose number is within the length of the list is one of an MCU of the row
pub mcu_inside : (h : HeadValue) (groups : List (List ℕ)) (m j : ℕ) → j < blocks_of h → m * blocks_of h + j < length (units_in h groups) → m < mcus_across h
mcu_inside h groups m j low lt =
    let some : 0 < blocks_of h = omega (arith, low) in
    let all : m * blocks_of h + j < mcus_across h * blocks_of h = omega (arith, lt, units_long h groups) in
    subst (λ n. n < mcus_across h) (div-mul-add m (blocks_of h) j low) ((div-lt_iff_lt-mul some).1 all)

-- the data units of all MCUs, after one is written
module _ (h : HeadValue) (m j : ℕ) (new old : List (List ℕ)) (unit : List ℕ) (inside : m * blocks_of h + j < mcus_across h * blocks_of h) (low : j < blocks_of h) (here : unit_in h new m j ≡ unit)
    (others : (n i : ℕ) → n < mcus_across h → i < blocks_of h → (n ≡ m → i ≡ j → ⊥) → unit_in h new n i ≡ unit_in h old n i) where
  some : 0 < blocks_of h
  some = omega (arith, low)

  store_here : (k : ℕ) → k ≡ m * blocks_of h + j → k < mcus_across h * blocks_of h → slice_index_or (units_in h new) k [] ≡ slice_index_or (set (units_in h old) (m * blocks_of h + j) unit) k []
  store_here k e lt =
      let mcu : k / blocks_of h ≡ m = ap (λ n. n / blocks_of h) e ∙ div-mul-add m (blocks_of h) j low in
      let rest : k % blocks_of h ≡ j = ap (λ n. n % blocks_of h) e ∙ mod-mul-add m (blocks_of h) j low in
      units_at h new k lt ∙ ap (λ n. unit_in h new n (k % blocks_of h)) mcu ∙ ap (λ n. unit_in h new m n) rest ∙ here
      ∙ sym (ap (λ n. slice_index_or (set (units_in h old) (m * blocks_of h + j) unit) n []) e ∙ get_or-set_same (units_in h old) (m * blocks_of h + j) unit [] (omega (arith, inside, units_long h old)))

  store_there : (k : ℕ) → k ≢ m * blocks_of h + j → k < mcus_across h * blocks_of h → slice_index_or (units_in h new) k [] ≡ slice_index_or (set (units_in h old) (m * blocks_of h + j) unit) k []
  store_there k away lt =
      units_at h new k lt
      ∙ others (k / blocks_of h) (k % blocks_of h) ((div-lt_iff_lt-mul some).1 lt) (mod_below k (blocks_of h) some) (λ e d. away (sym (div-add-mod' k (blocks_of h)) ∙ ap (λ n. n * blocks_of h + k % blocks_of h) e ∙ ap (λ n. m * blocks_of h + n) d))
      ∙ sym (units_at h old k lt) ∙ sym (get_or-set_other (units_in h old) (m * blocks_of h + j) k unit [] away)

  pub one_stored : units_in h new ≡ set (units_in h old) (m * blocks_of h + j) unit
  one_stored = ext_get_or [] (units_in h new) (set (units_in h old) (m * blocks_of h + j) unit) (units_long h new ∙ sym (length-set (units_in h old) (m * blocks_of h + j) unit ∙ units_long h old)) (λ k lt.
      let all : k < mcus_across h * blocks_of h = omega (arith, lt, units_long h new) in
      elim (eqb_tells k (m * blocks_of h + j)) [
        | inl t ↦ store_here k t.1 all
        | inr f ↦ store_there k f.1 all
      ])
