-- The entries of a frame header, one after the other.
use Rattle.std.proofs.Common.{◌≡◌, ◌⊎◌, inl, inr, ℕ, zero, suc, ◌+◌, ◌-◌, ◌*◌, ◌/◌, ◌%◌, ◌<◌, ◌≤◌, Bool, false, ◌||◌, List, [], ◌∷◌, ◌++◌, length, get_or, take, drop, refl, sym, ap, ◌∙◌, append_assoc, arith}
use Rattle.std.specs.Prelude.{◌==◌}
use Rattle.std.specs.List.{list_any}
use Rattle.std.proofs.lemmas.List.{take_all, append-nil, drop_more, drop_all, length-drop}
use Rattle.jr_segments.specs.declared.frame.FrameComponent.{FrameComponent}
use Rattle.jr_segments.specs.Frames.{components, components_in, has_repeats}

-- three bytes are a component
abbrev pub component_of : List ℕ → FrameComponent
component_of s = record { id = get_or s 0 0; horizontal = get_or s 1 0 / 16; vertical = get_or s 1 0 % 16; quantiser = get_or s 2 0 }

pub components_first : (s : List ℕ) → 3 ≤ length s → components_in s ≡ component_of s ∷ components_in (take (length s - 3) (drop 3 s))
unfolding components_in
components_first [] h = absurd (omega (arith, h))
components_first (a ∷ []) h = absurd (omega (arith, h))
components_first (a ∷ b ∷ []) h = absurd (omega (arith, h))
components_first (a ∷ b ∷ c ∷ rest) h =
    let e : take (length (a ∷ b ∷ c ∷ rest) - 3) rest ≡ rest = take_all (length (a ∷ b ∷ c ∷ rest) - 3) rest (omega arith) in
    rw e refl

pub components_none : (s : List ℕ) → length s < 3 → components_in s ≡ []
unfolding components_in
components_none [] h = refl
components_none (a ∷ []) h = refl
components_none (a ∷ b ∷ []) h = refl
components_none (a ∷ b ∷ c ∷ rest) h = absurd (omega (arith, h))

pub components_more : (segments more all : List FrameComponent) (s : List ℕ) → 3 ≤ length s → more ≡ segments ++ component_of s ∷ [] → segments ++ components_in s ≡ all
    → more ++ components_in (take (length s - 3) (drop 3 s)) ≡ all
components_more segments more all s h e k =
    ap (λ (t : List FrameComponent). t ++ components_in (take (length s - 3) (drop 3 s))) e ∙ append_assoc segments (component_of s ∷ []) (components_in (take (length s - 3) (drop 3 s)))
    ∙ ap (λ (t : List FrameComponent). segments ++ t) (sym (components_first s h)) ∙ k

pub components_all : (segments all : List FrameComponent) (s : List ℕ) → length s < 3 → segments ++ components_in s ≡ all → segments ≡ all
components_all segments all s h k = sym (append-nil segments) ∙ ap (λ (t : List FrameComponent). segments ++ t) (sym (components_none s h)) ∙ k

repeats_more : (cs : List FrameComponent) (i : ℕ) (d : FrameComponent) → i < length cs
    → has_repeats (drop i cs) ≡ (list_any (λ c. c.id == (get_or cs i d).id) (drop (i + 1) cs) || has_repeats (drop (i + 1) cs))
unfolding has_repeats
repeats_more cs i d h = ap has_repeats (drop_more cs i d h)

-- the rest as the slice that the code reads
pub repeats_slice : (cs : List FrameComponent) (i : ℕ) (d : FrameComponent) (b : Bool) → i < length cs
    → b ≡ list_any (λ c. c.id == (get_or cs i d).id) (take (length cs - (i + 1)) (drop (i + 1) cs)) → has_repeats (drop i cs) ≡ (b || has_repeats (drop (i + 1) cs))
repeats_slice cs i d b h e =
    let t : take (length cs - (i + 1)) (drop (i + 1) cs) ≡ drop (i + 1) cs = take_all (length cs - (i + 1)) (drop (i + 1) cs) (omega (arith, length-drop (i + 1) cs)) in
    let f : b ≡ list_any (λ c. c.id == (get_or cs i d).id) (drop (i + 1) cs) = rw t at e in
    rw f (repeats_more cs i d h)

pub repeats_end : (cs : List FrameComponent) → has_repeats (drop (length cs) cs) ≡ false
unfolding has_repeats
repeats_end cs = ap has_repeats (drop_all (length cs) cs (omega arith))

-- the number of entries of a frame header
components_count : (n : ℕ) (s : List ℕ) → length s ≡ 3 * n → length (components_in s) ≡ n
unfolding components_in
components_count zero [] h = refl
components_count zero (a ∷ s) h = absurd (omega (arith, h))
components_count (suc n) [] h = absurd (omega (arith, h))
components_count (suc n) (a ∷ []) h = absurd (omega (arith, h))
components_count (suc n) (a ∷ b ∷ []) h = absurd (omega (arith, h))
components_count (suc n) (a ∷ b ∷ c ∷ s) h = ap suc (components_count n s (omega (arith, h)))

pub frame_count : (p : List ℕ) → (length p ≡ 9) ⊎ (length p ≡ 15) → (length (components p) ≡ 1) ⊎ (length (components p) ≡ 3)
frame_count p (inl h) = inl (components_count 1 (drop 6 p) (omega (arith, h, length-drop 6 p)))
frame_count p (inr h) = inr (components_count 3 (drop 6 p) (omega (arith, h, length-drop 6 p)))
