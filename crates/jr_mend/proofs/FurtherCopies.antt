-- A version that is sound comes before a further one.
use Rattle.std.proofs.Common.{◌≡◌, ◌∙◌, ℕ, ◌<◌, ◌≤◌, inl, inr, Option, Some, None, List, [], ◌∷◌, ◌++◌, length, take, ap, subst, length-append, arith}
use Rattle.std.specs.List.{All, Contains}
use Rattle.std.proofs.lemmas.Bool.{cases_lt}
use Rattle.std.proofs.lemmas.List.Elements.{All-contains, Contains-append_left}
use Rattle.std.proofs.lemmas.Option.{slice_get_within}
use Rattle.std.proofs.Math.Seq.{take-append_seam}
use Rattle.jr_scan.specs.IntervalValue.{IntervalValue}
use Rattle.jr_scan.specs.Mcus.{HasDecoding, HasNoDecoding}
use Rattle.jr_mend.specs.declared.choice.Choice.{Choice}
use Rattle.jr_mend.specs.Choice.{IsBest, IsChoiceOf}

module _ (vs : List IntervalValue) (further chosen v : IntervalValue) (b : Choice) (is : IsChoiceOf (vs ++ further ∷ []) chosen b) (has : Contains vs v) (sound : HasDecoding v) where
  -- if the further one is chosen, all others are before it
  all_before : length vs ≤ b.copy → take b.copy (vs ++ further ∷ []) ≡ vs
  all_before le =
      let within = slice_get_within (vs ++ further ∷ []) b.copy chosen is.is in
      let long : b.copy ≡ length vs = omega (arith, le, within, length-append vs (further ∷ [])) in
      ap (λ (n : ℕ). take n (vs ++ further ∷ [])) long ∙ take-append_seam vs (further ∷ [])

  not_further : (front : Option ℕ) → length vs ≤ b.copy → IsBest (vs ++ further ∷ []) b.copy chosen front → ⊥
  not_further None le best = All-contains HasNoDecoding vs v (subst (All HasNoDecoding) (all_before le) best.0) has sound.0 sound.1
  not_further (Some mcus) le best = All-contains HasNoDecoding (vs ++ further ∷ []) v best.0 (Contains-append_left vs (further ∷ []) v has) sound.0 sound.1

  pub comes_first : b.copy < length vs
  comes_first = elim (cases_lt b.copy (length vs)) [
    | inl less ↦ less
    | inr not_less ↦ absurd (not_further b.front (omega (arith, not_less)) is.best)
  ]
