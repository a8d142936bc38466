-- One more line on a canvas.
use Rattle.std.proofs.Common.{◌≡◌, ℕ, ◌+◌, ◌*◌, ◌<◌, ◌≤◌, ◌-◌, inl, inr, List, length, get_or, drop, refl, sym, ap, ◌∙◌, arith}
use Rattle.std.proofs.Math.Nat.{add-mul}
use Rattle.std.proofs.lemmas.Bool.{cases_lt}
use Rattle.std.proofs.lemmas.List.{get_or-take, get_or-drop, get_or_append_left, get_or-append_right, length-drop, length-take-le}
use Rattle.std.proofs.lemmas.Slice.{take-put_mid, drop-put_mid}
use Rattle.std.proofs.lemmas.Nat.{mul-le}
use borrow.Rule.Slice.PartMut.{put_mid, same_len_mid}
use Rattle.std.proofs.Common.{◌++◌, take}
use Rattle.jri_canvas.specs.Layouts.{LieOn, laid_line_size}
use Rattle.jri_canvas.specs.declared.lines.CanvasLines.{CanvasLines}

module _ (a k : ℕ) (xs ys : List ℕ) (inside : a ≤ length xs) where
  front : (i : ℕ) → i < a + length ys → get_or (put_mid a k xs ys) i 0 ≡ get_or (take a xs ++ ys) i 0
  front i lt = sym (get_or-take (a + length ys) (put_mid a k xs ys) i 0 lt) ∙ ap (λ (l : List ℕ). get_or l i 0) (take-put_mid a k xs ys (a + length ys) refl inside)

  before : (i : ℕ) → i < a → get_or (put_mid a k xs ys) i 0 ≡ get_or xs i 0
  before i lt = front i (omega (arith, lt)) ∙ get_or_append_left (take a xs) ys 0 i (omega (arith, lt, length-take-le a xs inside)) ∙ get_or-take a xs i 0 lt

  there : (j : ℕ) → j < length ys → get_or (put_mid a k xs ys) (a + j) 0 ≡ get_or ys j 0
  there j lt =
      let back : a + j - a ≡ j = omega arith in
      front (a + j) (omega (arith, lt)) ∙ get_or-append_right (take a xs) ys a (a + j) 0 (length-take-le a xs inside) (omega arith) ∙ ap (λ i. get_or ys i 0) back

  after : length ys ≡ k → (i : ℕ) → a + k ≤ i → get_or (put_mid a k xs ys) i 0 ≡ get_or xs i 0
  after long i le =
      let none : i + 0 ≡ i = omega arith in
      ap (λ (n : ℕ). get_or (put_mid a k xs ys) n 0) (sym none) ∙ sym (get_or-drop i (put_mid a k xs ys) 0 0)
      ∙ ap (λ (l : List ℕ). get_or l 0 0) (drop-put_mid a k xs ys i le inside long) ∙ get_or-drop i xs 0 0 ∙ ap (λ (n : ℕ). get_or xs n 0) none

module _ (c : CanvasLines) (line : ℕ → List ℕ) where
  pub lie_none : (first : ℕ) (old : List ℕ) → LieOn c first first line old old
  lie_none first old = record {
    long = refl;
    lines = λ k j from to _. let none : ⊥ = omega (arith, from, to) in elim none [ ];
    kept = λ i out. refl;
  }

  -- the lines before line `mid`, and those starting at it
  pub lie_both : laid_line_size c ≤ c.stride → (first mid end : ℕ) (old some all : List ℕ) → first ≤ mid → mid ≤ end → LieOn c first mid line old some → LieOn c mid end line some all → LieOn c first end line old all
  lie_both narrow first mid end old some all le le' start rest = record {
    long = rest.long ∙ start.long;
    lines = λ k j from to lt. elim (cases_lt k mid) [
      | inl early ↦
          rest.kept (k * c.stride + j) (λ n late stop. inl (
          let next = mul-le (k + 1) c.stride n c.stride (omega (arith, early, late)) (omega arith) in
          omega (arith, next, add-mul k 1 c.stride, lt, narrow)))
          ∙ start.lines k j from early lt
      | inr late ↦ rest.lines k j late to lt
    ];
    kept = λ i out. rest.kept i (λ k from to. out k (omega (arith, le, from)) to) ∙ start.kept i (λ k from to. out k from (omega (arith, to, le')));
  }

  -- one line
  pub lie_one : (first k : ℕ) (old ys : List ℕ) → k ≡ laid_line_size c → length ys ≡ laid_line_size c → first * c.stride + laid_line_size c ≤ length old → ys ≡ line first
      → LieOn c first (first + 1) line old (put_mid (first * c.stride) k old ys)
  lie_one first k old ys size long space is =
      let at = first * c.stride in
      let inside : at ≤ length old = omega (arith, space) in record {
        long = same_len_mid at k old ys (omega (arith, length-take-le k (drop at old) (omega (arith, length-drop at old, size, space)), size, long));
        lines = λ n j from to lt.
            let here : n ≡ first = omega (arith, from, to) in
            ap (λ (m : ℕ). get_or (put_mid at k old ys) (m * c.stride + j) 0) here ∙ there at k old ys inside j (omega (arith, lt, long)) ∙ ap (λ (l : List ℕ). get_or l j 0) is ∙ ap (λ (m : ℕ). get_or (line m) j 0) (sym here);
        kept = λ i out. elim (out first (omega arith) (omega arith)) [
          | inl lt ↦ before at k old ys inside i lt
          | inr le ↦ after at k old ys inside (long ∙ sym size) i (omega (arith, le, size))
        ];
      }

-- lines that are equal
pub lie_as : (c : CanvasLines) (line other : ℕ → List ℕ) (first end : ℕ) (old new : List ℕ) → ((k : ℕ) → first ≤ k → k < end → line k ≡ other k) → LieOn c first end line old new → LieOn c first end other old new
lie_as c line other first end old new same s = record {
  long = s.long;
  lines = λ k j from to lt. s.lines k j from to lt ∙ ap (λ (l : List ℕ). get_or l j 0) (same k from to);
  kept = s.kept;
}
