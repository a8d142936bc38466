-- A part of a list is what was written into it, after what is kept before it.
use Rattle.std.proofs.Common.{◌≡◌, ℕ, ◌+◌, ◌-◌, ◌<◌, ◌≤◌, List, ◌++◌, length, get_or, take, refl, sym, ap, ◌∙◌, arith}
use Rattle.std.proofs.lemmas.Slice.{take-put_mid}
use Rattle.std.proofs.lemmas.List.{get_or-take, get_or_append_left, get_or-append_right, length-take-le}
use borrow.Rule.Slice.PartMut.{put_mid}

module _ {X : Type 0} (d : X) (a k : ℕ) (xs ys : List X) (inside : a ≤ length xs) where
  front : (i : ℕ) → i < a + length ys → get_or (put_mid a k xs ys) i d ≡ get_or (take a xs ++ ys) i d
  front i lt = sym (get_or-take (a + length ys) (put_mid a k xs ys) i d lt) ∙ ap (λ (l : List X). get_or l i d) (take-put_mid a k xs ys (a + length ys) refl inside)

  pub kept_before : (i : ℕ) → i < a → get_or (put_mid a k xs ys) i d ≡ get_or xs i d
  kept_before i lt = front i (omega (arith, lt)) ∙ get_or_append_left (take a xs) ys d i (omega (arith, lt, length-take-le a xs inside)) ∙ get_or-take a xs i d lt

  pub store_there : (j : ℕ) → j < length ys → get_or (put_mid a k xs ys) (a + j) d ≡ get_or ys j d
  store_there j lt =
      let back : a + j - a ≡ j = omega arith in
      front (a + j) (omega (arith, lt)) ∙ get_or-append_right (take a xs) ys a (a + j) d (length-take-le a xs inside) (omega arith) ∙ ap (λ i. get_or ys i d) back
