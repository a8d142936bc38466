-- Data units that are written into a list, those of an MCU and of the next one side by side.
use Rattle.std.proofs.Common.{◌≡◌, ◌≢◌, ℕ, ◌+◌, ◌-◌, ◌*◌, ◌<◌, ◌≤◌, List, [], inl, inr, length, get_or, set, sym, ap, subst, ◌∙◌, arith}
use Rattle.std.proofs.lemmas.Bool.{cases_lt}
use Rattle.std.proofs.lemmas.List.{get_or-set_same, get_or-set_other, length-set}

-- of `all` data units f, starting at position `at`, the first j are written, and the first j starting at number `count`
pub record Lie (f : ℕ → List ℕ) (at count all j : ℕ) (old us : List (List ℕ)) : Type 0 where
  pub long : length us ≡ length old
  pub kept : (k : ℕ) → k < at → get_or us k [] ≡ get_or old k []
  pub first : (k : ℕ) → k < j → get_or us (at + k) [] ≡ f k
  pub second : (k : ℕ) → k < j → count + k < all → get_or us (at + (count + k)) [] ≡ f (count + k)

-- the length is unchanged
pub as_long : (us mid : List (List ℕ)) (n : ℕ) (x : List ℕ) → mid ≡ set us n x → length mid ≡ length us
as_long us mid n x e = ap (λ (l : List (List ℕ)). length l) e ∙ length-set us n x

module _ (f : ℕ → List ℕ) (at count all j : ℕ) (old us : List (List ℕ)) (s : Lie f at count all j old us) where
  -- one more is written, and none of the others
  pub store_one : (new : List (List ℕ)) → new ≡ set us (at + j) (f j) → j < count → at + j < length us → all ≤ count + j → Lie f at count all (j + 1) old new
  store_one new e low inside none = subst (Lie f at count all (j + 1) old) (sym e) (record {
    long = length-set us (at + j) (f j) ∙ s.long;
    kept = λ k lt. other k (λ g. omega (arith, g, lt)) ∙ s.kept k lt;
    first = λ k lt. elim (cases_lt k j) [
      | inl l ↦ other (at + k) (λ g. omega (arith, g, l)) ∙ s.first k l
      | inr g ↦
          let same : k ≡ j = omega (arith, lt, g) in
          ap (λ n. get_or (set us (at + j) (f j)) (at + n) []) same ∙ get_or-set_same us (at + j) (f j) [] inside ∙ ap f (sym same)
    ];
    second = λ k lt more. other (at + (count + k)) (λ g. omega (arith, g, low)) ∙ s.second k (omega (arith, more, none)) more;
  })
    where
      other : (k : ℕ) → k ≢ at + j → get_or (set us (at + j) (f j)) k [] ≡ get_or us k []
      other k away = get_or-set_other us (at + j) k (f j) [] away

  -- one more of both is written
  pub store_two : (mid new : List (List ℕ)) (next : ℕ) → mid ≡ set us (at + j) (f j) → new ≡ set mid next (f (count + j)) → next ≡ at + (count + j) → j < count → next < length us → Lie f at count all (j + 1) old new
  store_two mid new next e d place low inside = subst (Lie f at count all (j + 1) old) (sym (d ∙ ap (λ n. set mid n (f (count + j))) place)) (record {
    long = length-set mid (at + (count + j)) (f (count + j)) ∙ long ∙ s.long;
    kept = λ k lt. after k (λ g. omega (arith, g, lt)) ∙ before k (λ g. omega (arith, g, lt)) ∙ s.kept k lt;
    first = λ k lt. elim (cases_lt k j) [
      | inl l ↦ after (at + k) (λ g. omega (arith, g, l, low)) ∙ before (at + k) (λ g. omega (arith, g, l)) ∙ s.first k l
      | inr g ↦
          let same : k ≡ j = omega (arith, lt, g) in
          ap (λ n. get_or (set mid (at + (count + j)) (f (count + j))) (at + n) []) same
          ∙ after (at + j) (λ g. omega (arith, g, low)) ∙ ap (λ l. get_or l (at + j) []) e
          ∙ get_or-set_same us (at + j) (f j) [] (omega (arith, inside, place, low)) ∙ ap f (sym same)
    ];
    second = λ k lt more. elim (cases_lt k j) [
      | inl l ↦ after (at + (count + k)) (λ g. omega (arith, g, l)) ∙ before (at + (count + k)) (λ g. omega (arith, g, low)) ∙ s.second k l more
      | inr g ↦
          let same : k ≡ j = omega (arith, lt, g) in
          ap (λ n. get_or (set mid (at + (count + j)) (f (count + j))) (at + (count + n)) []) same
          ∙ get_or-set_same mid (at + (count + j)) (f (count + j)) [] (omega (arith, inside, place, long)) ∙ ap (λ n. f (count + n)) (sym same)
    ];
  })
    where
      long : length mid ≡ length us
      long = as_long us mid (at + j) (f j) e

      before : (k : ℕ) → k ≢ at + j → get_or mid k [] ≡ get_or us k []
      before k away = ap (λ l. get_or l k []) e ∙ get_or-set_other us (at + j) k (f j) [] away

      after : (k : ℕ) → k ≢ at + (count + j) → get_or (set mid (at + (count + j)) (f (count + j))) k [] ≡ get_or mid k []
      after k away = get_or-set_other mid (at + (count + j)) k (f (count + j)) [] away

-- all of them are written
pub all_stored : (f : ℕ → List ℕ) (at count all j : ℕ) (old us : List (List ℕ)) → Lie f at count all j old us → count ≤ j → all ≤ 2 * count → (k : ℕ) → k < all → get_or us (at + k) [] ≡ f k
all_stored f at count all j old us s done few k lt = elim (cases_lt k count) [
  | inl l ↦ s.first k (omega (arith, l, done))
  | inr g ↦
      let whole : count + (k - count) ≡ k = omega (arith, g) in
      ap (λ n. get_or us (at + n) []) (sym whole) ∙ s.second (k - count) (omega (arith, few, lt, g, done)) (omega (arith, whole, lt)) ∙ ap f whole
]
