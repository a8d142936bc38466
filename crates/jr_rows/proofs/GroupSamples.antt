-- Samples of groups of eight, one group after the other.
use Rattle.std.proofs.Common.{◌≡◌, ℕ, zero, suc, ◌+◌, ◌-◌, ◌*◌, ◌/◌, ◌%◌, ◌<◌, ◌≤◌, ◌∙◌, List, [], ◌∷◌, ◌++◌, length, get_or, ap, arith}
use Rattle.std.specs.List.{flat_map}
use Rattle.std.proofs.lemmas.List.{get_or_append_left, get_or-append_right}
use Rattle.std.proofs.lemmas.Nat.{div-add-mod', mod_below}

abbrev Eights : List (List ℕ) → Type 0
Eights gs = (i : ℕ) → i < length gs → length (get_or gs i []) ≡ 8

pub flat_at : (gs : List (List ℕ)) → Eights gs → (i k : ℕ) → i < length gs → k < 8 → get_or (flat_map (λ x. x) gs) (8 * i + k) 0 ≡ get_or (get_or gs i []) k 0
flat_at [] each i k lt low = absurd (omega (arith, lt))
flat_at (g ∷ gs) each zero k lt low =
    let long : length g ≡ 8 = each 0 (omega arith) in
    let at : 8 * 0 + k ≡ k = omega arith in
    ap (λ n. get_or (g ++ flat_map (λ x. x) gs) n 0) at ∙ get_or_append_left g (flat_map (λ x. x) gs) 0 k (omega (arith, long, low))
flat_at (g ∷ gs) each (suc i) k lt low =
    let long : length g ≡ 8 = each 0 (omega arith) in
    let far : 8 ≤ 8 * suc i + k = omega arith in
    let back : 8 * suc i + k - 8 ≡ 8 * i + k = omega arith in
    get_or-append_right g (flat_map (λ x. x) gs) 8 (8 * suc i + k) 0 long far ∙ ap (λ n. get_or (flat_map (λ x. x) gs) n 0) back ∙ flat_at gs (λ j less. each (suc j) (omega (arith, less))) i k (omega (arith, lt)) low

pub flat_sample : (gs : List (List ℕ)) → Eights gs → (n : ℕ) → n < 8 * length gs → get_or (flat_map (λ x. x) gs) n 0 ≡ get_or (get_or gs (n / 8) []) (n % 8) 0
flat_sample gs each n lt =
    let whole = div-add-mod' n 8 in
    let low = mod_below n 8 (omega arith) in
    let at : n ≡ 8 * (n / 8) + n % 8 = omega (arith, whole) in
    ap (λ m. get_or (flat_map (λ x. x) gs) m 0) at ∙ flat_at gs each (n / 8) (n % 8) (omega (arith, whole, low, lt)) low
