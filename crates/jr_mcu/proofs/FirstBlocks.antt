-- Whether bits begin with a block is decided, part by part.
use Rattle.std.proofs.Common.{◌≡◌, ℕ, zero, suc, ◌+◌, ◌-◌, ◌/◌, ◌%◌, ◌<◌, ◌≤◌, Bool, List, [], ◌∷◌, ◌++◌, length, replicate, refl, sym, ap, inl, inr, arith}
use Rattle.std.specs.Prelude.{◌⊎◌, ℤ, pos, neg_ℤ, ◌+ℤ◌}
use Rattle.std.proofs.lemmas.Bool.{cases_lt, cases_eq}
use Rattle.std.proofs.lemmas.Int.{ints, by_lt_z}
use Rattle.jr_code.specs.Code.{Table, HasNoExtended}
use Rattle.jr_mcu.specs.Block.{IsInDcRange}
use Rattle.jr_mcu.specs.Step.{TakesAcCode, TakesEnd, HasNoStep, TakesDifference, HasNoDifference, TakesOthers, HasNoOthers, TakesBlock, HasNoBlock}
use Rattle.jr_mcu.proofs.Words.{IsPrefixFree}
use Rattle.jr_mcu.proofs.FirstWords.{FirstExtended, first_extended}
use Rattle.jr_mcu.proofs.Steps.{word_of, word_alone, extra_of, takes_end, takes_zeros, takes_coef, takes_difference_of, no_difference_far, no_difference_extended, no_step_past, no_step_size, no_step_extended}
use Rattle.jr_mcu.proofs.Rest.{IsPartialCut, entries_some, partial_none, partial_more, partial_all, partial_end, partial_stuck, partial_over}
use Rattle.jr_mcu.proofs.Predicted.{takes_block, no_block_first, no_block_far, no_block_others}

-- ---- the DC coefficient's difference

pub record FirstDifference (dc : Table) (old : List Bool) : Type 0 where
  pub difference : ℤ
  pub left : List Bool
  pub takes : TakesDifference dc difference old left

pub first_difference : (dc : Table) → IsPrefixFree dc → (old : List Bool) → FirstDifference dc old ⊎ HasNoDifference dc old
first_difference dc free old = of_size (first_extended dc free old)
  where
    of_size : FirstExtended dc old ⊎ HasNoExtended dc old → FirstDifference dc old ⊎ HasNoDifference dc old
    of_size (inr none) = inr (no_difference_extended dc old none)
    of_size (inl x) = elim (cases_lt 11 x.symbol) [
      | inl far ↦ inr (no_difference_far dc free x.symbol old (x.takes.extra ++ x.left) (word_of dc x.symbol x.returned old x.left x.takes) far)
      | inr small ↦ inl (record { difference = x.returned; left = x.left; takes = takes_difference_of dc x.symbol x.returned old x.left x.takes small })
    ]

-- ---- one step after it: the end of the block, or a code and its coefficients

pub record FirstEnd (ac : Table) (old : List Bool) : Type 0 where
  pub left : List Bool
  pub takes : TakesEnd ac old left

pub record FirstCode (ac : Table) (old : List Bool) : Type 0 where
  pub made : List ℤ
  pub left : List Bool
  pub takes : TakesAcCode ac made old left

abbrev pub FirstStep : Table → List Bool → Type 0
FirstStep ac old = FirstEnd ac old ⊎ (FirstCode ac old ⊎ HasNoStep ac old)

-- a symbol without additional bits
bare_step : (ac : Table) → IsPrefixFree ac → (old : List Bool) → (x : FirstExtended ac old) → x.symbol % 16 ≡ 0 → FirstStep ac old
bare_step ac free old x bare =
    let w = word_alone ac x.symbol x.returned old x.left x.takes bare in
    elim (cases_eq x.symbol 0) [
      | inl end ↦ inl (record { left = x.left; takes = takes_end ac x.symbol old x.left w end })
      | inr not_0 ↦ elim (cases_eq x.symbol 240) [
        | inl zeros ↦ inr (inl (record { made = replicate 16 (pos 0); left = x.left; takes = takes_zeros ac x.symbol old x.left w zeros }))
        | inr not_240 ↦ inr (inr (no_step_size ac free x.symbol 0 old x.left w (sym bare) not_0 not_240 (λ some small. omega (arith, some))))
      ]
    ]

-- a symbol with additional bits
sized_step : (ac : Table) → IsPrefixFree ac → (old : List Bool) → (x : FirstExtended ac old) → (x.symbol % 16 ≡ 0 → ⊥) → FirstStep ac old
sized_step ac free old x some =
    let w = word_of ac x.symbol x.returned old x.left x.takes in
    elim (cases_lt 255 x.symbol) [
      | inl past ↦ inr (inr (no_step_past ac free x.symbol old (x.takes.extra ++ x.left) w past))
      | inr byte ↦ elim (cases_lt 10 (x.symbol % 16)) [
        | inl far ↦
            inr (inr (no_step_size ac free x.symbol (x.symbol % 16) old (x.takes.extra ++ x.left) w refl (λ e. some (omega (arith, e))) (λ e. some (omega (arith, e))) (λ one few. omega (arith, far, few))))
        | inr small ↦
            inr (inl (record {
              made = replicate (x.symbol / 16) (pos 0) ++ x.returned ∷ [];
              left = x.left;
              takes = takes_coef ac x.symbol (x.symbol % 16) x.returned old (x.takes.extra ++ x.left) x.left w (omega (arith, byte)) refl some small (extra_of ac x.symbol x.returned old x.left x.takes);
            }))
      ]
    ]

pub first_step : (ac : Table) → IsPrefixFree ac → (old : List Bool) → FirstStep ac old
first_step ac free old = elim (first_extended ac free old) [
  | inr none ↦ inr (inr (no_step_extended ac old none))
  | inl x ↦ elim (cases_eq (x.symbol % 16) 0) [ inl bare ↦ bare_step ac free old x bare | inr some ↦ sized_step ac free old x some ]
]

-- ---- the others

pub record FirstOthers (ac : Table) (old : List Bool) : Type 0 where
  pub others : List ℤ
  pub left : List Bool
  pub takes : TakesOthers ac others old left

-- after one code: too many coefficients, all of them, or fewer
record Further (ac : Table) (old : List Bool) : Type 0 where
  pub left : List Bool
  pub block : List ℤ
  pub index : ℕ
  pub so_far : IsPartialCut ac (pos 0) old left block index
  pub space : index < 64

after_code : (ac : Table) → IsPrefixFree ac → (old left : List Bool) (block : List ℤ) (index : ℕ) (s : IsPartialCut ac (pos 0) old left block index) → index < 64 → (x : FirstCode ac left)
    → (FirstOthers ac old ⊎ HasNoOthers ac old) ⊎ ((f : Further ac old) × (index < f.index))
after_code ac free old left block index s space x =
    let next = index + length x.made in
    let some : 0 < length x.made = omega (arith, entries_some ac x.takes.code x.takes.is, ap length x.takes.returned) in
    elim (cases_lt 64 (index + length x.made)) [
      | inl over ↦ inl (inr (partial_over ac free (pos 0) old left x.left block x.made index s space x.takes over))
      | inr fits ↦
          let more : IsPartialCut ac (pos 0) old x.left (pos 0 ∷ ((s.done ++ x.made) ++ replicate (64 - (index + length x.made)) (pos 0))) (index + length x.made)
          = partial_more ac free (pos 0) old left x.left block (pos 0 ∷ ((s.done ++ x.made) ++ replicate (64 - (index + length x.made)) (pos 0))) x.made index (index + length x.made) s space x.takes refl fits refl in
          elim (cases_lt (index + length x.made) 64) [
            | inr all ↦
                let made = partial_all ac (pos 0) old x.left (pos 0 ∷ ((s.done ++ x.made) ++ replicate (64 - (index + length x.made)) (pos 0))) (index + length x.made) more all in
                inl (inl (record { others = made.0; left = x.left; takes = made.2 }))
            | inl short ↦ inr (record { left = x.left; block = pos 0 ∷ ((s.done ++ x.made) ++ replicate (64 - (index + length x.made)) (pos 0)); index = index + length x.made; so_far = more; space = short }, omega (arith, some))
          ]
    ]

-- at most `steps` steps more
others_after : (ac : Table) → IsPrefixFree ac → (old left : List Bool) (block : List ℤ) (index steps : ℕ) → IsPartialCut ac (pos 0) old left block index → index < 64 → 64 ≤ index + steps → FirstOthers ac old ⊎ HasNoOthers ac old
others_after ac free old left block index zero s space enough = absurd (omega (arith, space, enough))
others_after ac free old left block index (suc steps) s space enough = elim (first_step ac free left) [
  | inl end ↦
      let made = partial_end ac (pos 0) old left end.left block index s space end.takes in
      inl (record { others = made.0; left = end.left; takes = made.2 })
  | inr (inr none) ↦ inr (partial_stuck ac (pos 0) old left block index s space none)
  | inr (inl code) ↦ elim (after_code ac free old left block index s space code) [
    | inl settled ↦ settled
    | inr more ↦ others_after ac free old more.0.left more.0.block more.0.index steps more.0.so_far more.0.space (omega (arith, more.1, enough))
  ]
]

pub first_others : (ac : Table) → IsPrefixFree ac → (old : List Bool) → FirstOthers ac old ⊎ HasNoOthers ac old
first_others ac free old = others_after ac free old old (pos 0 ∷ replicate 63 (pos 0)) 1 63 (partial_none ac (pos 0) old) (omega arith) (omega arith)

-- ---- the block, with its prediction

in_dc_range : (z : ℤ) → IsInDcRange z ⊎ (IsInDcRange z → ⊥)
in_dc_range z = by_lt_z z (neg_ℤ (pos 32768)) (λ below. inr (λ h. let low = h.0 in omega (arith, ints))) (λ low. by_lt_z (pos 32767) z (λ above. inr (λ h. let high = h.1 in omega (arith, ints))) (λ high. inl (low, high)))

pub record FirstBlock (dc ac : Table) (p : ℤ) (old : List Bool) : Type 0 where
  pub block : List ℤ
  pub left : List Bool
  pub takes : TakesBlock dc ac p block old left

pub first_block : (dc ac : Table) → IsPrefixFree dc → IsPrefixFree ac → (p : ℤ) (old : List Bool) → FirstBlock dc ac p old ⊎ HasNoBlock dc ac p old
first_block dc ac dfree afree p old = elim (first_difference dc dfree old) [
  | inr none ↦ inr (no_block_first dc p old none ac)
  | inl d ↦ elim (in_dc_range (p +ℤ d.difference)) [
    | inr far ↦ inr (no_block_far dc dfree p d.difference old d.left d.takes far ac)
    | inl within ↦ elim (first_others ac afree d.left) [
      | inr none ↦ inr (no_block_others dc ac dfree p d.difference old d.left d.takes none)
      | inl o ↦ inl (record { block = (p +ℤ d.difference) ∷ o.others; left = o.left; takes = takes_block dc ac p d.difference (p +ℤ d.difference) o.others old d.left o.left d.takes refl within o.takes })
    ]
  ]
]
