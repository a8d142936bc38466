-- What the readers of a DC coefficient and of an AC code read.
use Rattle.std.proofs.Common.{◌≡◌, ℕ, ◌+◌, ◌*◌, ◌/◌, ◌%◌, ◌<◌, ◌≤◌, Bool, List, [], ◌∷◌, ◌++◌, length, replicate, refl, sym, ap, subst, ◌∙◌, append_assoc, arith}
use Rattle.std.specs.Prelude.{ℤ, pos}
use Rattle.std.proofs.lemmas.List.{append_cancel_left}
use Rattle.jr_code.specs.Bits.{value}
use Rattle.jr_code.specs.Code.{Table, IsWord, TakesExtended, HasNoExtended}
use Rattle.jr_mcu.specs.Block.{AcCode, IsAcCode, code_bits, DifferenceAt}
use Rattle.jr_mcu.specs.Block.AcCode.{ZeroRun, RunAndSize}
use Rattle.jr_mcu.specs.Step.{TakesExtra, TakesAcCode, TakesEnd, TakesDifference, HasNoDifference, HasNoStep}
use Rattle.jr_mcu.proofs.Words.{IsPrefixFree, TakesWord}

pub takes_difference : (dc : Table) (size : ℕ) (d : ℤ) (old mid new : List Bool) → TakesWord dc old mid size → size ≤ 11 → TakesExtra size d mid new → TakesDifference dc d old new
takes_difference dc size d old mid new w small x = record {
  bits = w.0 ++ x.bits;
  is = record { size = size; word = w.0; extra = x.bits; is_word = w.1; small = small; count = x.count; spelled = refl; is = x.is };
  split = w.2 ∙ ap (λ (b : List Bool). w.0 ++ b) x.split ∙ sym (append_assoc w.0 x.bits new);
}

-- the difference that begins the bits has the code that was read
difference_only : (dc : Table) → IsPrefixFree dc → (d : ℤ) (size : ℕ) (old mid bits rest : List Bool) → TakesWord dc old mid size → (f : DifferenceAt dc d bits) → old ≡ bits ++ rest → (size ≡ f.size) × (mid ≡ f.extra ++ rest)
difference_only dc free d size old mid bits rest w f e =
    let whole : w.0 ++ mid ≡ f.word ++ (f.extra ++ rest) = sym w.2 ∙ e ∙ ap (λ (b : List Bool). b ++ rest) f.spelled ∙ append_assoc f.word f.extra rest in
    let same = free w.0 f.word mid (f.extra ++ rest) size f.size w.1 f.is_word whole in
    (same.1, append_cancel_left f.word mid (f.extra ++ rest) (subst (λ (u : List Bool). u ++ mid ≡ f.word ++ (f.extra ++ rest)) same.0 whole))

pub no_difference_far : (dc : Table) → IsPrefixFree dc → (size : ℕ) (old mid : List Bool) → TakesWord dc old mid size → 11 < size → HasNoDifference dc old
no_difference_far dc free size old mid w far d bits rest f e =
    let o = difference_only dc free d size old mid bits rest w f e in
    omega (arith, o.0, f.small)

pub takes_end : (ac : Table) (s : ℕ) (old new : List Bool) → TakesWord ac old new s → s ≡ 0 → TakesEnd ac old new
takes_end ac s old new w e = record { word = w.0; is = subst (IsWord ac w.0) e w.1; split = w.2 }

pub takes_zeros : (ac : Table) (s : ℕ) (old new : List Bool) → TakesWord ac old new s → s ≡ 240 → TakesAcCode ac (replicate 16 (pos 0)) old new
takes_zeros ac s old new w e = record { code = ZeroRun w.0; is = subst (IsWord ac w.0) e w.1; returned = refl; split = w.2 }

pub takes_coef : (ac : Table) (symbol size : ℕ) (v : ℤ) (old mid new : List Bool) → TakesWord ac old mid symbol → symbol < 256 → size ≡ symbol % 16 → (size ≡ 0 → ⊥) → size ≤ 10 → TakesExtra size v mid new
    → TakesAcCode ac (replicate (symbol / 16) (pos 0) ++ v ∷ []) old new
takes_coef ac symbol size v old mid new w byte is some small x =
    let e : symbol ≡ 16 * (symbol / 16) + size = omega arith in
    record {
      code = RunAndSize (symbol / 16) size w.0 x.bits;
      is = (omega arith, omega arith, small, subst (IsWord ac w.0) e w.1, x.count);
      returned = ap (λ (q : ℤ). replicate (symbol / 16) (pos 0) ++ q ∷ []) (sym x.is);
      split = w.2 ∙ ap (λ (b : List Bool). w.0 ++ b) x.split ∙ sym (append_assoc w.0 x.bits new);
    }

pub no_step_at : (ac : Table) → IsPrefixFree ac → (symbol : ℕ) (old mid : List Bool) → TakesWord ac old mid symbol → (symbol ≡ 0 → ⊥) → (symbol ≡ 240 → ⊥)
    → ((r s : ℕ) → symbol ≡ 16 * r + s → r < 16 → 1 ≤ s → s ≤ 10 → ⊥) → HasNoStep ac old
no_step_at ac free symbol old mid w not_0 not_240 none =
    let code : (i : AcCode) (rest : List Bool) → IsAcCode ac i → old ≡ code_bits i ++ rest → ⊥ = λ i rest. go i rest in
    record {
      no_end = λ word rest h e. not_0 (free w.0 word mid rest symbol 0 w.1 h (sym w.2 ∙ e)).1;
      no_code = code;
    }
  where
    go : (i : AcCode) (rest : List Bool) → IsAcCode ac i → old ≡ code_bits i ++ rest → ⊥
    go (ZeroRun u) rest h e = not_240 (free w.0 u mid rest symbol 240 w.1 h (sym w.2 ∙ e)).1
    go (RunAndSize r s u extra) rest h e =
        let whole : w.0 ++ mid ≡ u ++ (extra ++ rest) = sym w.2 ∙ e ∙ append_assoc u extra rest in
        let same = free w.0 u mid (extra ++ rest) symbol (16 * r + s) w.1 h.3 whole in
        none r s same.1 h.0 h.1 h.2

pub no_step_size : (ac : Table) → IsPrefixFree ac → (symbol size : ℕ) (old mid : List Bool) → TakesWord ac old mid symbol → size ≡ symbol % 16 → (symbol ≡ 0 → ⊥) → (symbol ≡ 240 → ⊥) → (1 ≤ size → size ≤ 10 → ⊥) → HasNoStep ac old
no_step_size ac free symbol size old mid w is not_0 not_240 bad =
    no_step_at ac free symbol old mid w not_0 not_240 (λ r s e low some small. let same : size ≡ s = omega (arith, e, small, is) in bad (omega (arith, same, some)) (omega (arith, same, small)))

-- a symbol of more than eight bits is that of no AC code
pub no_step_past : (ac : Table) → IsPrefixFree ac → (symbol : ℕ) (old mid : List Bool) → TakesWord ac old mid symbol → 255 < symbol → HasNoStep ac old
no_step_past ac free symbol old mid w past = no_step_at ac free symbol old mid w (λ e. omega (arith, e, past)) (λ e. omega (arith, e, past)) (λ r s e low some small. omega (arith, e, low, small, past))

-- ---- a code and its additional bits, read together

pub word_of : (t : Table) (s : ℕ) (v : ℤ) (old new : List Bool) (x : TakesExtended t s v old new) → TakesWord t old (x.extra ++ new) s
word_of t s v old new x = (x.word, x.is, x.split)

pub extra_of : (t : Table) (s : ℕ) (v : ℤ) (old new : List Bool) (x : TakesExtended t s v old new) → TakesExtra (s % 16) v (x.extra ++ new) new
extra_of t s v old new x = record { bits = x.extra; split = refl; count = x.count; is = x.value_is }

no_bits : (bs : List Bool) → length bs ≡ 0 → bs ≡ []
no_bits [] e = refl
no_bits (b ∷ bs) e = absurd (omega (arith, e))

pub word_alone : (t : Table) (s : ℕ) (v : ℤ) (old new : List Bool) → TakesExtended t s v old new → s % 16 ≡ 0 → TakesWord t old new s
word_alone t s v old new x e = (x.word, x.is, x.split ∙ ap (λ (b : List Bool). x.word ++ (b ++ new)) (no_bits x.extra (x.count ∙ e)))

-- sixteen zeros are one after fifteen
pub takes_sixteen : (ac : Table) (s : ℕ) (v : ℤ) (old new : List Bool) → TakesExtended ac s v old new → s ≡ 240 → TakesAcCode ac (replicate (s / 16) (pos 0) ++ v ∷ []) old new
takes_sixteen ac s v old new x e =
    let zero : v ≡ pos 0 = x.value_is ∙ ap value (no_bits x.extra (x.count ∙ omega (arith, e))) in
    let fifteen : s / 16 ≡ 15 = omega (arith, e) in
    let made : replicate 16 (pos 0) ≡ replicate (s / 16) (pos 0) ++ v ∷ [] =
    ap (λ (n : ℕ). replicate n (pos 0) ++ pos 0 ∷ []) (sym fifteen) ∙ ap (λ (q : ℤ). replicate (s / 16) (pos 0) ++ q ∷ []) (sym zero) in
    subst (λ (made : List ℤ). TakesAcCode ac made old new) made (takes_zeros ac s old new (word_alone ac s v old new x (omega (arith, e))) e)

pub takes_difference_of : (dc : Table) (size : ℕ) (d : ℤ) (old new : List Bool) → TakesExtended dc size d old new → size ≤ 11 → TakesDifference dc d old new
takes_difference_of dc size d old new x small =
    let same : size % 16 ≡ size = omega (arith, small) in
    takes_difference dc size d old (x.extra ++ new) new (word_of dc size d old new x) small (subst (λ n. TakesExtra n d (x.extra ++ new) new) same (extra_of dc size d old new x))

-- if no code and additional bits begin the bits, no difference does
pub no_difference_extended : (dc : Table) (old : List Bool) → HasNoExtended dc old → HasNoDifference dc old
no_difference_extended dc old none d bits rest f e =
    none f.word f.extra rest f.size f.is_word (omega (arith, f.count, f.small)) (e ∙ ap (λ (b : List Bool). b ++ rest) f.spelled ∙ append_assoc f.word f.extra rest)

pub no_step_extended : (ac : Table) (old : List Bool) → HasNoExtended ac old → HasNoStep ac old
no_step_extended ac old none =
    let code : (i : AcCode) (rest : List Bool) → IsAcCode ac i → old ≡ code_bits i ++ rest → ⊥ = λ i rest. go i rest in
    record { no_end = λ word rest h e. none word [] rest 0 h refl e; no_code = code }
  where
    go : (i : AcCode) (rest : List Bool) → IsAcCode ac i → old ≡ code_bits i ++ rest → ⊥
    go (ZeroRun u) rest h e = none u [] rest 240 h refl e
    go (RunAndSize r s u extra) rest h e = none u extra rest (16 * r + s) h.3 (omega (arith, h.2, h.4)) (e ∙ append_assoc u extra rest)
