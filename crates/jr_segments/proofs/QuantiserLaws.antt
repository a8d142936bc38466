-- Quantisation tables: what a payload defines.
use Rattle.std.proofs.Common.{◌≡◌, ◌≢◌, ℕ, zero, suc, ◌+◌, ◌*◌, ◌<◌, ◌≤◌, Bool, true, false, eqb, List, [], ◌∷◌, ◌++◌, length, get_or, set, take, drop, Option, Some, None, refl, sym, ap, ◌∙◌, append_assoc, arith, get_or-set_other}
use Rattle.std.specs.Prelude.{map, if◌then◌else◌}
use Rattle.std.specs.Option.{option_map}
use Rattle.std.proofs.lemmas.List.{append-nil, length-take, get_or-take}
use Rattle.std.proofs.lemmas.Grind.{same_number_lists, get_or-set_at}
use Rattle.std.proofs.lemmas.Bool.{eqb-true, eqb-false}
use Rattle.jr_segments.specs.declared.quantiser.Quantiser.{Quantiser}
use Rattle.jr_segments.specs.Tables.{last_where}
use Rattle.jr_segments.specs.Quantisers.{Quantisation, quantisation, quantisations, elements_len, quantiser_for, AreQuantisers, words}
use Rattle.jr_segments.proofs.TableLaws.{hd, tl, map_split, tables_none, last_push}

store_case : (now : List Quantisation) (places : List (Option Quantiser)) (d : Quantisation) (tq : ℕ) (b : Bool) → eqb d.destination tq ≡ b → length places ≡ 4 → d.destination < 4
    → get_or places tq None ≡ quantiser_for now tq
    → get_or (set places d.destination (Some d.quantiser)) tq None ≡ option_map (λ (x : Quantisation). x.quantiser) (if b then Some d else last_where (λ (x : Quantisation). eqb x.destination tq) now)
unfolding quantiser_for
store_case now places d tq true e four fits h =
    let k : tq ≡ d.destination = sym (eqb-true d.destination tq e) in
    get_or-set_at places d.destination tq (Some d.quantiser) None k (omega arith)
store_case now places d tq false e four fits h =
    let k : tq ≢ d.destination = λ q. eqb-false d.destination tq e (sym q) in
    get_or-set_other places d.destination tq (Some d.quantiser) None k ∙ h

store : (now : List Quantisation) (places : List (Option Quantiser)) (d : Quantisation) → length places ≡ 4 → d.destination < 4 → AreQuantisers now places
    → AreQuantisers (now ++ d ∷ []) (set places d.destination (Some d.quantiser))
unfolding quantiser_for
store now places d four fits h tq =
    store_case now places d tq (eqb d.destination tq) refl four fits (h tq)
    ∙ ap (option_map (λ (x : Quantisation). x.quantiser)) (sym (last_push (λ (x : Quantisation). eqb x.destination tq) now d))

-- what was defined, and what is still to be defined, are all
abbrev pub Defined : List Quantisation → List (Option Quantiser) → List ℕ → Type 0
Defined all places s = (now : List Quantisation) × AreQuantisers now places × (now ++ quantisations s ≡ all)

pub defined_more : (s after : List ℕ) (places : List (Option Quantiser)) (i : ℕ) (x : Quantisation) (all : List Quantisation) → 1 ≤ length s → length places ≡ 4
    → i ≡ x.destination → x.destination < 4 → x ≡ quantisation (hd s, tl s) → after ≡ drop (elements_len (hd s)) (tl s) → Defined all places s → Defined all (set places i (Some x.quantiser)) after
unfolding quantisations
defined_more s after places i x all h four at fits is e d =
    let split : quantisations s ≡ x ∷ quantisations after = rw is (map_split (λ b _. elements_len b) quantisation s after h e) in
    let moved : (d.0 ++ x ∷ []) ++ quantisations after ≡ d.0 ++ quantisations s = append_assoc d.0 (x ∷ []) (quantisations after) ∙ ap (λ (t : List Quantisation). d.0 ++ t) (sym split) in
    (d.0 ++ x ∷ [], rw at (store d.0 places x four fits d.1), moved ∙ d.2)

pub defined_all : (s : List ℕ) (places : List (Option Quantiser)) (all : List Quantisation) → length s < 1 → Defined all places s → AreQuantisers all places
unfolding quantisations
defined_all s places all h d =
    let none : quantisations s ≡ [] = ap (map quantisation) (tables_none (λ b _. elements_len b) s h) in
    let e : all ≡ d.0 = sym d.2 ∙ ap (λ (t : List Quantisation). d.0 ++ t) none ∙ append-nil d.0 in
    rw e d.1

-- ---- elements

length-words : (n : ℕ) (s : List ℕ) → 2 * n ≤ length s → length (words (take (2 * n) s)) ≡ n
unfolding words
length-words zero s h = refl
length-words (suc n) [] h = absurd (omega (arith, h))
length-words (suc n) (a ∷ []) h = absurd (omega (arith, h))
length-words (suc n) (a ∷ b ∷ rest) h =
    let e : 2 * suc n ≡ suc (suc (2 * n)) = omega arith in
    rw e (ap suc (length-words n rest (omega (arith, h))))

word_at : (n k : ℕ) (s : List ℕ) → 2 * n ≤ length s → k < n → get_or (words (take (2 * n) s)) k 0 ≡ 256 * get_or s (2 * k) 0 + get_or s (2 * k + 1) 0
unfolding words
word_at zero k s h lt = absurd (omega (arith, lt))
word_at (suc n) k [] h lt = absurd (omega (arith, h))
word_at (suc n) k (a ∷ []) h lt = absurd (omega (arith, h))
word_at (suc n) zero (a ∷ b ∷ rest) h lt =
    let e : 2 * suc n ≡ suc (suc (2 * n)) = omega arith in
    rw e refl
word_at (suc n) (suc k) (a ∷ b ∷ rest) h lt =
    let e : 2 * suc n ≡ suc (suc (2 * n)) = omega arith in
    let f : 2 * suc k ≡ suc (suc (2 * k)) = omega arith in
    let g : suc (suc (2 * k)) + 1 ≡ suc (suc (2 * k + 1)) = omega arith in
    rw (e, f, g) (word_at n k rest (omega (arith, h)) (omega (arith, lt)))

pub long_all : (elements s : List ℕ) → length elements ≡ 64 → 128 ≤ length s → ((k : ℕ) → k < 64 → get_or elements k 0 ≡ 256 * get_or s (2 * k) 0 + get_or s (2 * k + 1) 0) → elements ≡ words (take 128 s)
long_all elements s len long each =
    same_number_lists elements (words (take (2 * 64) s)) (len ∙ sym (length-words 64 s long)) (λ k lt. each k (omega (arith, lt, len)) ∙ sym (word_at 64 k s long (omega (arith, lt, len))))

pub short_all : (elements s : List ℕ) → length elements ≡ 64 → 64 ≤ length s → ((k : ℕ) → k < 64 → get_or elements k 0 ≡ get_or s k 0) → elements ≡ take 64 s
short_all elements s len long each =
    same_number_lists elements (take 64 s) (omega (arith, length-take 64 s)) (λ k lt. let m : k < 64 = omega (arith, lt, len) in rw (get_or-take 64 s k 0 m) (each k m))
