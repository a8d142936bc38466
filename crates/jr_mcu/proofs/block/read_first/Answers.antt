use Rattle.std.proofs.Common.{◌≡◌, ◌∙◌, ℤ, ap, arith, w16, w32}
use Rattle.std.specs.Prelude.{◌+ℤ◌}
use mir.Val.{SFits, to_z, of_z}
use Rattle.std.proofs.lemmas.Int.{ints, to_z-of_z}
use Rattle.jr_code.proofs.CodeLemmas.{one_word}
use Rattle.jr_mcu.specs.Block.{IsInDcRange}
use Rattle.jr_mcu.proofs.Predicted.{kept_fits, no_block_far, no_block_first}
use Rattle.jr_mcu.proofs.Ranges.{cast_is, extended_fits}
use Rattle.jr_mcu.proofs.Steps.{no_difference_extended, no_difference_far, takes_difference_of, word_of}
use Rattle.jr_mcu.proofs.block.read_first.Goals as goal
use Rattle.jr_mcu.proofs.block.read_first.Goals.{then-first-ltminus32768-via-then-first-ltminus32768, then-first-ltminus32768-via-else-first-ltminus32768+then-first-gt32767}

-- a sum of two numbers, after its casts
sum_is : (p d : ℤ) → IsInDcRange p → SFits w16 d → to_z w32 (of_z w32 p) +ℤ to_z w32 (of_z w32 d) ≡ p +ℤ d
sum_is p d within small =
    let wide : SFits w32 d = omega (arith, ints, small) in
    ap (λ (x : ℤ). x +ℤ to_z w32 (of_z w32 d)) (to_z-of_z w32 p (kept_fits p within)) ∙ ap (λ (x : ℤ). p +ℤ x) (to_z-of_z w32 d wide)

sum_fits : (p d : ℤ) → IsInDcRange p → SFits w16 d → SFits w32 (p +ℤ d)
sum_fits p d within small = let low = within.0 in let high = within.1 in omega (arith, ints, small)

kept_is : (p d : ℤ) → IsInDcRange p → SFits w16 d → to_z w32 (of_z w32 (to_z w32 (of_z w32 p) +ℤ to_z w32 (of_z w32 d))) ≡ p +ℤ d
kept_is p d within small = ap (λ (x : ℤ). to_z w32 (of_z w32 x)) (sum_is p d within small) ∙ to_z-of_z w32 (p +ℤ d) (sum_fits p d within small)

pub returns-in_err-size-clause-none : goal.returns-in_err-size-clause-none
returns-in_err-size-clause-none c = rw c.from_residual.ensures (no_block_first _ _ _ (no_difference_extended _ _ c.in_err-size.ensures.none))

pub returns-then-size-gt11-clause-none : goal.returns-then-size-gt11-clause-none
returns-then-size-gt11-clause-none c =
    no_block_first _ _ _ (no_difference_far _ (one_word _) c.in_ok-size.size _ _ (word_of _ _ _ _ _ c.in_ok-size.ensures.found) (omega (arith, c.if-size-gt11.true)))

pub overflow_add-first : goal.overflow_add-first
overflow_add-first c =
    let p = c.args.prediction in
    let d = c.in_ok-size.difference in
    let small = extended_fits _ _ _ _ _ c.in_ok-size.ensures.found in
    let is = sum_is p d c.requires small in
    let fits = sum_fits p d c.requires small in
    omega (arith, ints, is, fits)

pub returns-then-first-ltminus32768-clause-none : goal.returns-then-first-ltminus32768-clause-none
returns-then-first-ltminus32768-clause-none c =
    let p = c.args.prediction in
    let d = c.in_ok-size.difference in
    let is = kept_is p d c.requires (extended_fits _ _ _ _ _ c.in_ok-size.ensures.found) in
    let t = takes_difference_of _ c.in_ok-size.size d _ _ c.in_ok-size.ensures.found (omega (arith, c.if-size-gt11.false)) in
    no_block_far _ (one_word _) p d _ _ t (λ within.
    let low = within.0 in
    let high = within.1 in
    elim c.then-first-ltminus32768.branch [
      | then-first-ltminus32768-via-then-first-ltminus32768 w ↦ let far = w.if-first-ltminus32768.true in omega (arith, ints, is)
      | then-first-ltminus32768-via-else-first-ltminus32768+then-first-gt32767 w ↦ let far = w.if-first-gt32767.true in omega (arith, ints, is)
    ])

pub returns-clause-some : goal.returns-clause-some
returns-clause-some c =
    let p = c.args.prediction in
    let d = c.in_ok-size.difference in
    let small = extended_fits _ _ _ _ _ c.in_ok-size.ensures.found in
    let is = kept_is p d c.requires small in
    let low = c.if-first-ltminus32768.false in
    let high = c.if-first-gt32767.false in
    let fits : SFits w16 (p +ℤ d) = omega (arith, ints, is) in (
      d,
      takes_difference_of _ c.in_ok-size.size d _ _ c.in_ok-size.ensures.found (omega (arith, c.if-size-gt11.false)),
      ap (λ (x : ℤ). to_z w16 (of_z w16 (to_z w32 (of_z w32 x)))) (sum_is p d c.requires small) ∙ cast_is (p +ℤ d) fits,
    )
