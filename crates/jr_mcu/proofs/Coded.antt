-- A whole block: its difference and the others; no block begins another.
use Rattle.std.proofs.Common.{◌≡◌, ℕ, ◌+◌, ◌-◌, Bool, List, [], ◌∷◌, ◌++◌, length, replicate, refl, sym, ap, subst, ◌∙◌, inl, inr, append_assoc, length-append, arith}
use Rattle.std.specs.List.{flat_map, AllByRecursion}
use Rattle.std.specs.Prelude.{ℤ, pos, ◌+ℤ◌}
use Rattle.std.proofs.lemmas.List.{append_cancel_left}
use Rattle.jr_code.specs.Bits.{value}
use Rattle.jr_code.specs.Code.{Table}
use Rattle.jr_mcu.specs.Block.{AcCode, IsAcCode, code_bits, entries, IsEnd, DifferenceAt, OthersAt, CodedAt, BlockAt}
use Rattle.jr_mcu.proofs.Words.{IsPrefixFree}
use Rattle.jr_mcu.proofs.AcCodes.{split_same, same_code, not_end}
use Rattle.jr_mcu.proofs.Rest.{end_within, entries_some}

-- no DC coefficient's bits begin another's, and they have one difference
pub same_difference : (dc : Table) → IsPrefixFree dc → (a b : ℤ) (u v x y : List Bool) → DifferenceAt dc a u → DifferenceAt dc b v → u ++ x ≡ v ++ y → (u ≡ v) × (a ≡ b)
same_difference dc free a b u v x y f g e =
    let whole : f.word ++ (f.extra ++ x) ≡ g.word ++ (g.extra ++ y) = sym (append_assoc f.word f.extra x) ∙ ap (λ (q : List Bool). q ++ x) (sym f.spelled) ∙ e ∙ ap (λ (q : List Bool). q ++ y) g.spelled ∙ append_assoc g.word g.extra y in
    let w = free f.word g.word (f.extra ++ x) (g.extra ++ y) f.size g.size f.is_word g.is_word whole in
    let left : f.extra ++ x ≡ g.extra ++ y = append_cancel_left g.word _ _ (subst (λ (q : List Bool). q ++ (f.extra ++ x) ≡ g.word ++ (g.extra ++ y)) w.0 whole) in
    let s = split_same f.extra g.extra x y (f.count ∙ w.1 ∙ sym g.count) left in (
      f.spelled ∙ ap (λ (q : List Bool). q ++ f.extra) w.0 ∙ ap (λ (q : List Bool). g.word ++ q) s.0 ∙ sym g.spelled,
      f.is ∙ ap value s.0 ∙ sym g.is,
    )

same_codes : (ac : Table) → IsPrefixFree ac → (n : ℕ) (is js : List AcCode) (s t x y : List Bool) → AllByRecursion (IsAcCode ac) is → AllByRecursion (IsAcCode ac) js
    → IsEnd ac (n + length (flat_map entries is)) s → IsEnd ac (n + length (flat_map entries js)) t
    → flat_map code_bits is ++ (s ++ x) ≡ flat_map code_bits js ++ (t ++ y) → (is ≡ js) × (s ≡ t)
same_codes ac free n [] [] s t x y hi hj (inl f) (inl g) e = (refl, f.1 ∙ sym g.1)
same_codes ac free n [] [] s t x y hi hj (inl f) (inr g) e = absurd (omega (arith, f.0, g.0))
same_codes ac free n [] [] s t x y hi hj (inr f) (inl g) e = absurd (omega (arith, f.0, g.0))
same_codes ac free n [] [] s t x y hi hj (inr f) (inr g) e = (refl, (free s t x y 0 0 f.1 g.1 e).0)
same_codes ac free n [] (j ∷ js) s t x y hi hj (inl f) g e = absurd (omega (arith, f.0, end_within ac _ t g, entries_some ac j hj.0, length-append (entries j) (flat_map entries js)))
same_codes ac free n [] (j ∷ js) s t x y hi hj (inr f) g e = absurd (not_end ac free j s (flat_map code_bits js ++ (t ++ y)) x hj.0 f.1 (sym (e ∙ append_assoc (code_bits j) (flat_map code_bits js) (t ++ y))))
same_codes ac free n (i ∷ is) [] s t x y hi hj f (inl g) e = absurd (omega (arith, g.0, end_within ac _ s f, entries_some ac i hi.0, length-append (entries i) (flat_map entries is)))
same_codes ac free n (i ∷ is) [] s t x y hi hj f (inr g) e = absurd (not_end ac free i t (flat_map code_bits is ++ (s ++ x)) y hi.0 g.1 (sym (append_assoc (code_bits i) (flat_map code_bits is) (s ++ x)) ∙ e))
same_codes ac free n (i ∷ is) (j ∷ js) s t x y hi hj f g e =
    let first = same_code ac free i j (flat_map code_bits is ++ (s ++ x)) (flat_map code_bits js ++ (t ++ y)) hi.0 hj.0 (sym (append_assoc (code_bits i) (flat_map code_bits is) (s ++ x)) ∙ e ∙ append_assoc (code_bits j) (flat_map code_bits js) (t ++ y)) in
    let m = n + length (entries i) in
    let fi : n + length (entries i ++ flat_map entries is) ≡ m + length (flat_map entries is) = omega (arith, length-append (entries i) (flat_map entries is)) in
    let gj : n + length (entries j ++ flat_map entries js) ≡ m + length (flat_map entries js) = omega (arith, length-append (entries j) (flat_map entries js), ap (λ (k : AcCode). length (entries k)) first.0) in
    let others = same_codes ac free m is js s t x y hi.1 hj.1 (subst (λ (k : ℕ). IsEnd ac k s) fi f) (subst (λ (k : ℕ). IsEnd ac k t) gj g) first.1 in
    let here : i ≡ j = first.0 in
    let rest : is ≡ js = others.0 in
    (cc, others.1)

same_others : (ac : Table) → IsPrefixFree ac → (a b : List ℤ) (u v x y : List Bool) → OthersAt ac a u → OthersAt ac b v → u ++ x ≡ v ++ y → (u ≡ v) × (a ≡ b)
same_others ac free a b u v x y f g e =
    let z = λ (n : ℕ). n in
    let fz : length (flat_map entries f.items) ≡ 0 + length (flat_map entries f.items) = omega arith in
    let gz : length (flat_map entries g.items) ≡ 0 + length (flat_map entries g.items) = omega arith in
    let whole = sym (append_assoc (flat_map code_bits f.items) f.tail x) ∙ ap (λ (q : List Bool). q ++ x) (sym f.spelled) ∙ e ∙ ap (λ (q : List Bool). q ++ y) g.spelled ∙ append_assoc (flat_map code_bits g.items) g.tail y in
    let s = same_codes ac free 0 f.items g.items f.tail g.tail x y f.each g.each (subst (λ (k : ℕ). IsEnd ac k f.tail) fz f.end) (subst (λ (k : ℕ). IsEnd ac k g.tail) gz g.end) whole in (
      f.spelled ∙ ap (λ (is : List AcCode). flat_map code_bits is ++ f.tail) s.0 ∙ ap (λ (q : List Bool). flat_map code_bits g.items ++ q) s.1 ∙ sym g.spelled,
      f.values ∙ ap (λ (is : List AcCode). flat_map entries is ++ replicate (63 - length (flat_map entries is)) (pos 0)) s.0 ∙ sym g.values,
    )

same_coded : (dc ac : Table) → IsPrefixFree dc → IsPrefixFree ac → (a b : ℤ) (us vs : List ℤ) (u v x y : List Bool) → CodedAt dc ac a us u → CodedAt dc ac b vs v → u ++ x ≡ v ++ y → (u ≡ v) × (a ≡ b) × (us ≡ vs)
same_coded dc ac dfree afree a b us vs u v x y f g e =
    let whole : f.first_bits ++ (f.others_bits ++ x) ≡ g.first_bits ++ (g.others_bits ++ y) = sym (append_assoc f.first_bits f.others_bits x) ∙ ap (λ (q : List Bool). q ++ x) (sym f.spelled) ∙ e ∙ ap (λ (q : List Bool). q ++ y) g.spelled ∙ append_assoc g.first_bits g.others_bits y in
    let s = same_difference dc dfree a b f.first_bits g.first_bits _ _ f.is_first g.is_first whole in
    let left : f.others_bits ++ x ≡ g.others_bits ++ y = append_cancel_left g.first_bits _ _ (subst (λ (q : List Bool). q ++ (f.others_bits ++ x) ≡ g.first_bits ++ (g.others_bits ++ y)) s.0 whole) in
    let t = same_others ac afree us vs f.others_bits g.others_bits x y f.are_others g.are_others left in (
      f.spelled ∙ ap (λ (q : List Bool). q ++ f.others_bits) s.0 ∙ ap (λ (q : List Bool). g.first_bits ++ q) t.0 ∙ sym g.spelled,
      s.1,
      t.1,
    )

-- no block begins another
pub same_block : (dc ac : Table) → IsPrefixFree dc → IsPrefixFree ac → (p : ℤ) (a b : List ℤ) (u v x y : List Bool) → BlockAt dc ac p a u → BlockAt dc ac p b v → u ++ x ≡ v ++ y → (u ≡ v) × (a ≡ b)
same_block dc ac dfree afree p a b u v x y f g e =
    let s = same_coded dc ac dfree afree _ _ _ _ u v x y f.coded g.coded e in
    (s.0, f.values ∙ ap (λ (q : ℤ). (p +ℤ q) ∷ f.others) s.1 ∙ ap (λ (q : List ℤ). (p +ℤ g.difference) ∷ q) s.2 ∙ sym g.values)
