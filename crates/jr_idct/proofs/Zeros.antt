-- A block of zeros: its samples are grey.
use Rattle.std.proofs.Common.{arith, ◌≡◌, ℕ, ◌+◌, ◌*◌, ◌<◌, pos, ◌+ℤ◌, ℤ, List, replicate, ap, ◌∙◌, sym}
use Rattle.std.proofs.Math.IntN.{◌*ℤ◌}
use Rattle.std.proofs.lemmas.List.{get_or-replicate}
use Rattle.std.specs.Prelude.{slice_index}
use Rattle.jr_idct.specs.Matrix.{at, floor_div}
use Rattle.jr_idct.specs.Transform.{byte_of, samples}
use Rattle.jr_idct.proofs.Flat.{flat_is, nothing}
use Rattle.jr_idct.proofs.Whole.{whole_from}

pub grey : (q : List ℕ) → samples (replicate 64 (pos 0)) q ≡ replicate 64 128
grey q =
    let z : List ℤ = replicate 64 (pos 0) in
    let zero : (k : ℕ) → k < 64 → at z k ≡ pos 0 = λ k lt. get_or-replicate 64 k (pos 0) (pos 0) lt in
    let product : at z 0 *ℤ pos (slice_index q 0) ≡ pos 0 = ap (λ x. x *ℤ pos (slice_index q 0)) (zero 0 (omega arith)) ∙ nothing (slice_index q 0) in
    sym (whole_from z q (replicate 64 128) (omega arith)
    (λ r c h g.
    get_or-replicate 64 (8 * r + c) 128 0 (omega arith)
    ∙ ap (λ x. byte_of (floor_div (x +ℤ pos 4) 8 +ℤ pos 128)) (sym product)
    ∙ flat_is z q (λ k p b. zero k b) r c h g))
