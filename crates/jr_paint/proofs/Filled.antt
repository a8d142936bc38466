-- What is known about a list that is filled part by part.
use Rattle.std.proofs.Common.{◌≡◌, ℕ, inl, inr, ◌+◌, ◌-◌, ◌<◌, ◌≤◌, List, length, take, get_or, refl, sym, ap, ◌∙◌, arith}
use borrow.Rule.Slice.PartMut.{put_mid}
use Rattle.std.proofs.lemmas.Slice.{take-put_mid}
use Rattle.std.proofs.lemmas.List.{length-take-le, get_or-take, get_or_append_left, get_or-append_right}
use Rattle.std.proofs.lemmas.Bool.{cases_lt}

-- after a part is written after the first a elements, these and its first m are known
pub filled_more : (f : ℕ → ℕ) (a m k : ℕ) (xs ys : List ℕ) → a ≤ length xs → m ≤ length ys → ((i : ℕ) → i < a → get_or xs i 0 ≡ f i) → ((j : ℕ) → j < m → get_or ys j 0 ≡ f (a + j))
    → (i : ℕ) → i < a + m → get_or (put_mid a k xs ys) i 0 ≡ f i
filled_more f a m k xs ys h fits before here i lt =
    let n = a + length ys in
    let front = sym (get_or-take n (put_mid a k xs ys) i 0 (omega (arith, lt, fits))) ∙ ap (λ (l : List ℕ). get_or l i 0) (take-put_mid a k xs ys n refl h) in
    let long = length-take-le a xs h in
    elim (cases_lt i a) [
      | inl below ↦ front ∙ get_or_append_left (take a xs) ys 0 i (omega (arith, long, below)) ∙ get_or-take a xs i 0 below ∙ before i below
      | inr beyond ↦
          let there : a + (i - a) ≡ i = omega (arith, beyond) in
          front ∙ get_or-append_right (take a xs) ys a i 0 long beyond ∙ here (i - a) (omega (arith, lt, beyond)) ∙ ap f there
    ]
