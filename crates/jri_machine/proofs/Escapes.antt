-- How names are escaped, and that they are restored.
use Rattle.std.proofs.Common.{◌≡◌, ℕ, zero, suc, ◌+◌, ◌-◌, ◌*◌, ◌/◌, ◌%◌, ◌<◌, ◌≤◌, List, [], ◌∷◌, ◌++◌, length, map, take, drop, get_or, refl, sym, ap, subst, ◌∙◌, inl, inr, Bool, true, false, append_assoc, length-drop, add-one, arith}
use Rattle.std.specs.Prelude.{nat_lt, if◌then◌else◌}
use Rattle.std.specs.List.{flat_map, AllByRecursion}
use Rattle.std.proofs.Math.Seq.{take-add}
use Rattle.std.proofs.lemmas.List.{append-nil, take_more, take_all, take-take, map_push, length-take-le}
use Rattle.std.proofs.lemmas.Bool.{cases_lt}
use Rattle.std.proofs.lemmas.Nat.{div-add-mod'}
use Rattle.std.proofs.lemmas.List.Concat.{flat_map-append}
use Rattle.jri_machine.specs.Escapes.{NamePart, IsNamePart, IsPlainByte, spelt, byte_spelt, digit_of, IsEscaped}
use Rattle.jri_machine.specs.Escapes.NamePart.{Plain, Number}

all_push : (parts : List NamePart) (p : NamePart) → AllByRecursion IsNamePart parts → IsNamePart p → AllByRecursion IsNamePart (parts ++ p ∷ [])
all_push [] p each is = (is, tt)
all_push (q ∷ parts) p each is = (each.0, all_push parts p each.1 is)

pub escaped_none : IsEscaped [] []
escaped_none = record { parts = []; each = tt; spelled = refl; means = refl }

-- one more part is appended
pub escaped_more : (text name : List ℕ) (p : NamePart) → IsEscaped text name → IsNamePart p → IsEscaped (text ++ spelt p) (name ++ byte_spelt p ∷ [])
escaped_more text name p r is = record {
  parts = r.parts ++ p ∷ [];
  each = all_push r.parts p r.each is;
  spelled = ap (λ (x : List ℕ). x ++ spelt p) r.spelled ∙ ap (λ (x : List ℕ). flat_map spelt r.parts ++ x) (sym (append-nil (spelt p))) ∙ sym (flat_map-append spelt r.parts (p ∷ []));
  means = ap (λ (x : List ℕ). x ++ byte_spelt p ∷ []) r.means ∙ sym (map_push byte_spelt r.parts p);
}

-- the first n of some bytes, none of which is a backslash
pub escaped_run : (text name more : List ℕ) (n : ℕ) → n ≤ length more → ((k : ℕ) → k < n → IsPlainByte (get_or more k 0)) → IsEscaped text name → IsEscaped (text ++ take n more) (name ++ take n more)
escaped_run text name more zero space plain r = subst (λ (x : List ℕ). IsEscaped x (name ++ [])) (sym (append-nil text)) (subst (IsEscaped text) (sym (append-nil name)) r)
escaped_run text name more (suc n) space plain r =
    let before = escaped_run text name more n (omega arith) (λ k lt. plain k (omega arith)) r in
    let b = get_or more n 0 in
    let one = escaped_more (text ++ take n more) (name ++ take n more) (Plain b) before (plain n (omega arith)) in
    let grown : take n more ++ b ∷ [] ≡ take (suc n) more = sym (take_more more n 0 (omega arith)) ∙ ap (λ (k : ℕ). take k more) (add-one n) in
    subst (λ (x : List ℕ). IsEscaped x (name ++ take (suc n) more)) (append_assoc text (take n more) (b ∷ []) ∙ ap (λ (x : List ℕ). text ++ x) grown)
    (subst (IsEscaped ((text ++ take n more) ++ b ∷ [])) (append_assoc name (take n more) (b ∷ []) ∙ ap (λ (x : List ℕ). name ++ x) grown) one)

-- ---- a name is written run by run

-- the first `at` bytes of the name are written after the line
abbrev pub Stores : (line new name : List ℕ) → (at : ℕ) → Type 0
Stores line new name at = (at ≤ length name) × ((text : List ℕ) × (new ≡ line ++ text) × IsEscaped text (take at name))

pub write_run : (line new newer name run rest : List ℕ) (at count : ℕ) → rest ≡ take (length name - at) (drop at name) → count ≤ length rest → ((k : ℕ) → k < count → IsPlainByte (get_or rest k 0))
    → length run ≤ length (take count rest) → run ≡ take (length run) (take count rest) → newer ≡ new ++ run → Stores line new name at → Stores line newer name (at + length run)
write_run line new newer name run rest at count cut space plain few is wrote p =
    let n = length run in
    let whole : rest ≡ drop at name = cut ∙ take_all (length name - at) (drop at name) (omega (arith, length-drop at name)) in
    let le : n ≤ count = omega (arith, few, length-take-le count rest space) in
    let left : at + n ≤ length name = omega (arith, p.0, le, space, ap length whole, length-drop at name) in
    let front : run ≡ take n (drop at name) = is ∙ take-take n count rest le ∙ ap (take n) whole in
    let e = escaped_run p.1.0 (take at name) rest n (omega (arith, le, space)) (λ k lt. plain k (omega (arith, lt, le))) p.1.2 in
    let named : take at name ++ take n rest ≡ take (at + n) name = ap (λ (x : List ℕ). take at name ++ take n x) whole ∙ sym (take-add at n name) in
    let joined : newer ≡ line ++ (p.1.0 ++ take n rest) = wrote ∙ ap (λ (x : List ℕ). x ++ run) p.1.1 ∙ append_assoc line p.1.0 run ∙ ap (λ (x : List ℕ). line ++ (p.1.0 ++ x)) (front ∙ ap (take n) (sym whole)) in
    (left, (_, joined, subst (IsEscaped (p.1.0 ++ take n rest)) named e))

pub write_byte : (line new newer name : List ℕ) (at : ℕ) → at < length name → get_or name at 0 < 256 → newer ≡ new ++ spelt (Number (get_or name at 0)) → Stores line new name at → Stores line newer name (at + 1)
write_byte line new newer name at lt small wrote p =
    let b = get_or name at 0 in
    let e = escaped_more p.1.0 (take at name) (Number b) p.1.2 small in
    let joined : newer ≡ line ++ (p.1.0 ++ spelt (Number b)) = wrote ∙ ap (λ (x : List ℕ). x ++ spelt (Number b)) p.1.1 ∙ append_assoc line p.1.0 (spelt (Number b)) in
    (omega arith, (_, joined, subst (IsEscaped (p.1.0 ++ spelt (Number b))) (sym (take_more name at 0 lt)) e))

-- ---- names are restored

digit_below : (m : ℕ) → m < 10 → digit_of m ≡ 48 + m
digit_below m lt = let t : nat_lt m 10 ≡ true = grind (arith) in ap (λ (b : Bool). if b then 48 + m else 87 + m) t

digit_above : (m : ℕ) → 10 ≤ m → digit_of m ≡ 87 + m
digit_above m le = let t : nat_lt m 10 ≡ false = grind (arith) in ap (λ (b : Bool). if b then 48 + m else 87 + m) t

same_digit : (m n : ℕ) → digit_of m ≡ digit_of n → m ≡ n
same_digit m n e = elim (cases_lt m 10) [
  | inl a ↦ elim (cases_lt n 10) [
    | inl b ↦ omega (arith, digit_below m a, digit_below n b, e)
    | inr b ↦ absurd (omega (arith, a, b, digit_below m a, digit_above n b, e))
  ]
  | inr a ↦ elim (cases_lt n 10) [
    | inl b ↦ absurd (omega (arith, a, b, digit_above m a, digit_below n b, e))
    | inr b ↦ omega (arith, digit_above m a, digit_above n b, e)
  ]
]

same_byte : (b c : ℕ) → b / 16 ≡ c / 16 → b % 16 ≡ c % 16 → b ≡ c
same_byte b c d m = omega (arith, div-add-mod' b 16, div-add-mod' c 16, ap (λ (x : ℕ). x * 16) d, m)

same_part : (p q : NamePart) (x y : List ℕ) → IsNamePart p → IsNamePart q → spelt p ++ x ≡ spelt q ++ y → (p ≡ q) × (x ≡ y)
same_part (Plain a) (Plain b) x y hp hq e = let h : a ≡ b = cc in (ap Plain h, cc)
same_part (Plain a) (Number b) x y hp hq e = let h : a ≡ 92 = cc in absurd (hp.no_backslash h)
same_part (Number a) (Plain b) x y hp hq e = let h : b ≡ 92 = cc in absurd (hq.no_backslash h)
same_part (Number a) (Number b) x y hp hq e =
    let high : digit_of (a / 16) ≡ digit_of (b / 16) = cc in
    let low : digit_of (a % 16) ≡ digit_of (b % 16) = cc in
    let rest : x ≡ y = cc in
    (ap Number (same_byte a b (same_digit (a / 16) (b / 16) high) (same_digit (a % 16) (b % 16) low)), rest)

no_part : (p : NamePart) (x : List ℕ) → [] ≡ spelt p ++ x → ⊥
no_part (Plain b) x e = cc
no_part (Number b) x e = cc

same_parts : (ps qs : List NamePart) → AllByRecursion IsNamePart ps → AllByRecursion IsNamePart qs → flat_map spelt ps ≡ flat_map spelt qs → ps ≡ qs
same_parts [] [] hp hq e = refl
same_parts [] (q ∷ qs) hp hq e = absurd (no_part q (flat_map spelt qs) e)
same_parts (p ∷ ps) [] hp hq e = absurd (no_part p (flat_map spelt ps) (sym e))
same_parts (p ∷ ps) (q ∷ qs) hp hq e =
    let first = same_part p q (flat_map spelt ps) (flat_map spelt qs) hp.0 hq.0 e in
    let a : p ≡ q = first.0 in
    let b : ps ≡ qs = same_parts ps qs hp.1 hq.1 first.1 in
    cc

pub names_come_back : (text a b : List ℕ) → IsEscaped text a → IsEscaped text b → a ≡ b
names_come_back text a b f g = f.means ∙ ap (map byte_spelt) (same_parts f.parts g.parts f.each g.each (sym f.spelled ∙ g.spelled)) ∙ sym g.means
