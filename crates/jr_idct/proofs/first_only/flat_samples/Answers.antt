use Rattle.std.proofs.Common.{arith, rules, ap, ◌≡◌, ◌∙◌, pos, ◌+ℤ◌, w32, w64, FitsSigned, to_z, of_z}
use Rattle.std.proofs.lemmas.Int.{ints, to_z-of_z}
use Rattle.std.proofs.lemmas.Simd.{get_or-replicate}
use Rattle.std.specs.Int.Signed.{shr_z}
use Rattle.jr_idct.specs.Transform.{byte_of}
use Rattle.jr_idct.proofs.Passes.{shr_fits}
use Rattle.jr_idct.proofs.first_only.flat_samples.Goals as goal

pub returns : goal.returns
returns c = λ n h.
    let p = c.args.product in
    let f : FitsSigned w32 (p +ℤ pos 4) = omega (arith, ints) in
    let narrow = shr_fits (p +ℤ pos 4) 8 f in
    let g : FitsSigned w64 (shr_z (p +ℤ pos 4) 8) = omega (arith, ints, narrow) in
    let k : FitsSigned w64 (p +ℤ pos 4) = omega (arith, ints, f) in
    let e : to_z w64 (of_z w64 (shr_z (to_z w64 (of_z w64 (to_z w64 (of_z w64 p) +ℤ pos 4))) 8)) ≡ shr_z (p +ℤ pos 4) 8 = let s = c.ranges.product in simp to_z-of_z in
    let raw : c.clamped.result ≡ byte_of (to_z w64 (of_z w64 (shr_z (to_z w64 (of_z w64 (to_z w64 (of_z w64 p) +ℤ pos 4))) 8)) +ℤ pos 128) = search (rules, c.clamped.ensures) in
    get_or-replicate 64 n c.clamped.result 0 h ∙ raw ∙ ap (λ x. byte_of (x +ℤ pos 128)) e
