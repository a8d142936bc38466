-- The effect of a code of a coefficient, or of the end of a block, on a block that is read up to a position.
use Rattle.std.proofs.Common.{◌≡◌, ℕ, ◌+◌, ◌-◌, ◌*◌, ◌/◌, ◌%◌, ◌<◌, ◌≤◌, Bool, List, [], ◌∷◌, ◌++◌, replicate, set, refl, sym, ap, subst, ◌∙◌, inl, inr, append_assoc, length-append, arith}
use Rattle.std.specs.Prelude.{ℤ, pos, ◌⊎◌, Option, Some, None, IsSome, IfSome, IfNone}
use Rattle.std.proofs.Math.ListN.{length-replicate}
use Rattle.std.proofs.lemmas.Bool.{cases_lt}
use Rattle.jr_code.specs.Code.{Table, GoesOn, HasNoPlaces, TakesExtended, TakesPlaces, places_in, symbol_of, unpacked}
use Rattle.jr_code.specs.declared.packed.Packed.{Packed}
use Rattle.jr_mcu.specs.Block.{AcCode, IsAcCode, code_bits}
use Rattle.jr_mcu.specs.Block.AcCode.{ZeroRun, RunAndSize}
use Rattle.jr_mcu.specs.Step.{TakesAcCode, TakesEnd, HasNoStep, TakesOthers, HasNoOthers}
use Rattle.jr_mcu.proofs.Words.{IsPrefixFree}
use Rattle.jr_mcu.proofs.Steps.{word_of, extra_of, word_alone, takes_coef, takes_end, takes_sixteen}
use Rattle.jr_mcu.proofs.Rest.{IsPartialCut, partial_all, partial_coef, partial_end, partial_over}

-- the symbol is a byte
symbol_small : (n size : ℕ) → size < 16 → symbol_of n size < 256
symbol_small n size small = grind (arith)

-- the number of positions that such a code advances
pub places_are : (s n : ℕ) → s < 256 → GoesOn s n → ((1 ≤ n) × (n ≤ 16)) ⊎ (n ≡ 128)
places_are s n byte (inl end) = inr end.1
places_are s n byte (inr (inl zeros)) = inl (omega (arith, zeros.1), omega (arith, zeros.1))
places_are s n byte (inr (inr some)) = inl (omega (arith, some.2), omega (arith, some.2, byte))

pub some_places : (ac : Table) (old new : List Bool) (p : Packed) → TakesPlaces ac p old new → 1 ≤ places_in p
some_places ac old new p t =
    let byte = symbol_small (places_in p) (p.number / 65536 % 16) (omega arith) in
    elim (places_are (unpacked p).symbol (places_in p) byte t.1) [ inl near ↦ near.0 | inr far ↦ omega (arith, far) ]

-- a code that advances to a position is a run of zeros and a coefficient
takes_places : (ac : Table) (s n : ℕ) (v : ℤ) (old new : List Bool) → s < 256 → TakesExtended ac s v old new → GoesOn s n → n < 128 → TakesAcCode ac (replicate (n - 1) (pos 0) ++ v ∷ []) old new
takes_places ac s n v old new byte x (inl end) near = absurd (omega (arith, end.1, near))
takes_places ac s n v old new byte x (inr (inl zeros)) near =
    let run : s / 16 ≡ n - 1 = omega (arith, zeros.0, zeros.1) in
    subst (λ r. TakesAcCode ac (replicate r (pos 0) ++ v ∷ []) old new) run (takes_sixteen ac s v old new x zeros.0)
takes_places ac s n v old new byte x (inr (inr some)) near =
    let run : s / 16 ≡ n - 1 = omega (arith, some.2) in
    subst (λ r. TakesAcCode ac (replicate r (pos 0) ++ v ∷ []) old new) run
    (takes_coef ac s (s % 16) v old (x.extra ++ new) new (word_of ac s v old new x) byte refl (λ e. omega (arith, e, some.0)) some.1 (extra_of ac s v old new x))

-- and one that advances to the end is a code of 00
takes_to_end : (ac : Table) (s n : ℕ) (v : ℤ) (old new : List Bool) → s < 256 → TakesExtended ac s v old new → GoesOn s n → 128 ≤ n → TakesEnd ac old new
takes_to_end ac s n v old new byte x (inl end) far = takes_end ac s old new (word_alone ac s v old new x (omega (arith, end.0))) end.0
takes_to_end ac s n v old new byte x (inr (inl zeros)) far = absurd (omega (arith, zeros.1, far))
takes_to_end ac s n v old new byte x (inr (inr some)) far = absurd (omega (arith, some.2, byte, far))

-- if there is no such code no step begins the bits
pub no_step_places : (ac : Table) (old : List Bool) → HasNoPlaces ac old → HasNoStep ac old
no_step_places ac old none =
    let code : (i : AcCode) (rest : List Bool) → IsAcCode ac i → old ≡ code_bits i ++ rest → ⊥ = λ i rest. go i rest in
    record { no_end = λ word rest h e. none word [] rest 0 128 h (inl (refl, refl)) refl e; no_code = code }
  where
    go : (i : AcCode) (rest : List Bool) → IsAcCode ac i → old ≡ code_bits i ++ rest → ⊥
    go (ZeroRun u) rest h e = none u [] rest 240 16 h (inr (inl (refl, refl))) refl e
    go (RunAndSize r s u extra) rest h e =
        none u extra rest (16 * r + s) ((16 * r + s) / 16 + 1) h.3 (inr (inr (omega (arith, h.1, h.2), omega (arith, h.1, h.2), refl))) (omega (arith, h.2, h.4)) (e ∙ append_assoc u extra rest)

-- after a coefficient
pub partial_places : (ac : Table) → IsPrefixFree ac → (first : ℤ) (old bits new : List Bool) (block block' : List ℤ) (place place' : ℕ) (p : Packed)
    → IsPartialCut ac first old bits block (place + 1) → place ≤ 62 → TakesPlaces ac p bits new → place' ≡ place + places_in p → place' ≤ 63 → block' ≡ set block place' (unpacked p).value
    → IsPartialCut ac first old new block' (place' + 1)
partial_places ac free first old bits new block block' place place' p s space t is fits wrote =
    let byte = symbol_small (places_in p) (p.number / 65536 % 16) (omega arith) in
    let code = takes_places ac (unpacked p).symbol (places_in p) (unpacked p).value bits new byte t.0 t.1 (omega (arith, is, fits)) in
    let some = some_places ac bits new p t in
    partial_coef ac free first (unpacked p).value old bits new block block' (place + 1) (places_in p - 1) place' (place' + 1) s (omega (arith, space)) code (omega (arith, is, some)) fits wrote refl

-- at the end of the block
pub partial_ended : (ac : Table) → IsPrefixFree ac → (first : ℤ) (old bits new : List Bool) (block block' : List ℤ) (place place' : ℕ) (p : Packed)
    → IsPartialCut ac first old bits block (place + 1) → place ≤ 62 → TakesPlaces ac p bits new → place' ≡ place + places_in p
    → (place' ≡ 63) ⊎ (128 ≤ place') → (place' ≡ 63 → block' ≡ set block 63 (unpacked p).value) → (128 ≤ place' → block' ≡ block)
    → (others : List ℤ) × (block' ≡ first ∷ others) × TakesOthers ac others old new
partial_ended ac free first old bits new block block' place place' p s space t is (inl last) wrote kept =
    let all = partial_places ac free first old bits new block block' place place' p s space t is (omega (arith, last)) (wrote last ∙ ap (λ k. set block k (unpacked p).value) (sym last)) in
    partial_all ac first old new block' (place' + 1) all (omega (arith, last))
partial_ended ac free first old bits new block block' place place' p s space t is (inr far) wrote kept =
    let byte = symbol_small (places_in p) (p.number / 65536 % 16) (omega arith) in
    let end : 128 ≤ places_in p = elim (places_are (unpacked p).symbol (places_in p) byte t.1) [ inl near ↦ omega (arith, near.1, is, far, space) | inr e ↦ omega (arith, e) ] in
    let word = takes_to_end ac (unpacked p).symbol (places_in p) (unpacked p).value bits new byte t.0 t.1 end in
    subst (λ (b : List ℤ). (others : List ℤ) × (b ≡ first ∷ others) × TakesOthers ac others old new) (sym (kept far)) (partial_end ac first old bits new block (place + 1) s (omega (arith, space)) word)

-- and past the last position
pub partial_past : (ac : Table) → IsPrefixFree ac → (first : ℤ) (old bits new : List Bool) (block : List ℤ) (place place' : ℕ) (p : Packed)
    → IsPartialCut ac first old bits block (place + 1) → place ≤ 62 → TakesPlaces ac p bits new → place' ≡ place + places_in p → 63 < place' → place' < 128
    → HasNoOthers ac old
partial_past ac free first old bits new block place place' p s space t is past near =
    let byte = symbol_small (places_in p) (p.number / 65536 % 16) (omega arith) in
    let v = (unpacked p).value in
    let code = takes_places ac (unpacked p).symbol (places_in p) v bits new byte t.0 t.1 (omega (arith, is, near)) in
    let some = some_places ac bits new p t in
    partial_over ac free first old bits new block (replicate (places_in p - 1) (pos 0) ++ v ∷ []) (place + 1) s (omega (arith, space)) code
    (omega (arith, length-append (replicate (places_in p - 1) (pos 0)) (v ∷ []), length-replicate {A = ℤ} (places_in p - 1) (pos 0), is, past, some))

-- the result at the end of a block
module _ (ac : Table) (free : IsPrefixFree ac) (first v : ℤ) (old bits new : List Bool) (block block' : List ℤ) (place place' : ℕ) (p : Packed)
    (s : IsPartialCut ac first old bits block (place + 1)) (space : place ≤ 62) (t : TakesPlaces ac p bits new) (is : place' ≡ place + places_in p) where
  pub ended_some : {X : Type 0} (r : Option X) → (IsSome r → (place' ≡ 63) ⊎ (128 ≤ place')) → v ≡ (unpacked p).value
      → (place' ≡ 63 → block' ≡ set block 63 v) → (128 ≤ place' → block' ≡ block)
      → IfSome r (λ _. (others : List ℤ) × (block' ≡ first ∷ others) × TakesOthers ac others old new)
  ended_some None found same wrote kept = tt
  ended_some (Some x) found same wrote kept =
      partial_ended ac free first old bits new block block' place place' p s space t is (found refl) (λ last. wrote last ∙ ap (λ q. set block 63 q) same) kept

  pub ended_none : {X : Type 0} (r : Option X) → ((place' ≡ 63) ⊎ (128 ≤ place') → IsSome r) → 62 < place' → IfNone r (HasNoOthers ac old)
  ended_none (Some x) found far = tt
  ended_none None found far =
      elim (cases_lt place' 64) [
        | inl last ↦ let h = found (inl (omega (arith, last, far))) in absurd cc
        | inr past ↦ elim (cases_lt place' 128) [
          | inl near ↦ partial_past ac free first old bits new block place place' p s space t is (omega (arith, past)) near
          | inr end ↦ let h = found (inr end) in absurd cc
        ]
      ]

-- the same if no coefficient is kept
pub skipped_some : (ac : Table) → IsPrefixFree ac → (old bits new : List Bool) (place place' : ℕ) (p : Packed)
    → (block : List ℤ) × IsPartialCut ac (pos 0) old bits block (place + 1) → place ≤ 62 → TakesPlaces ac p bits new → place' ≡ place + places_in p
    → {X : Type 0} (r : Option X) → (IsSome r → (place' ≡ 63) ⊎ (128 ≤ place')) → IfSome r (λ _. (others : List ℤ) × TakesOthers ac others old new)
skipped_some ac free old bits new place place' p s space t is None found = tt
skipped_some ac free old bits new place place' p s space t is (Some x) found =
    elim (found refl) [
      | inl last ↦
          let a = partial_ended ac free (pos 0) old bits new s.0 (set s.0 63 (unpacked p).value) place place' p s.1 space t is (inl last) (λ _. refl) (λ far. absurd (omega (arith, far, last))) in
          (a.0, a.2)
      | inr far ↦
          let a = partial_ended ac free (pos 0) old bits new s.0 s.0 place place' p s.1 space t is (inr far) (λ last. absurd (omega (arith, far, last))) (λ _. refl) in
          (a.0, a.2)
    ]

pub skipped_on : (ac : Table) → IsPrefixFree ac → (old bits new : List Bool) (place place' : ℕ) (p : Packed)
    → (block : List ℤ) × IsPartialCut ac (pos 0) old bits block (place + 1) → place ≤ 62 → TakesPlaces ac p bits new → place' ≡ place + places_in p → place' ≤ 63
    → (block : List ℤ) × IsPartialCut ac (pos 0) old new block (place' + 1)
skipped_on ac free old bits new place place' p s space t is fits =
    (set s.0 place' (unpacked p).value, partial_places ac free (pos 0) old bits new s.0 (set s.0 place' (unpacked p).value) place place' p s.1 space t is fits refl)
