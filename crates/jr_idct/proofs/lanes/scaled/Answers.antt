use Rattle.std.proofs.Common.{◌∙◌, ap, pos, arith, w16, w32}
use Rattle.std.proofs.Math.IntN.{◌*ℤ◌}
use Rattle.std.proofs.lemmas.Int.{ints}
use Rattle.jr_idct.specs.Lanes.{half_lane}
use Rattle.jr_idct.specs.Matrix.{at}
use Rattle.jr_idct.proofs.Holds.{holds_given, holds_wide, holds_mul}
use Rattle.jr_idct.proofs.Vectors.{lanes_fit, lanes_given, lanes_splat, lanes_map, lanes_zip, lanes_read, unchanged}
use Rattle.jr_idct.proofs.lanes.scaled.Goals as goal

pub returns : goal.returns
returns c j l =
    let h = c.half_of-half.result in
    let g = lanes_given w16 8 h _ c.half_of-half.type_inv in
    let wide = lanes_map w16 w32 8 _ (at h) (at h) _ g (λ m k b p. holds_wide m (at h k) p) in
    let factor = lanes_splat w32 8 8192 (pos 8192) (holds_given w32 (pos 8192) (omega (arith, ints))) in
    let product = lanes_zip w32 w32 w32 8 _ _ (at h) (λ _. pos 8192) (λ k. at h k *ℤ pos 8192) _ wide factor
    (λ m n k b p q. let f = lanes_fit w16 8 h _ c.half_of-half.type_inv k b in holds_mul m n (at h k) (pos 8192) p q (omega (arith, ints, f))) in
    lanes_read w32 8 _ _ product j l ∙ omega (arith, ints) ∙ ap (λ x. pos 8192 *ℤ x) (c.half_of-half.ensures j l ∙ ap (λ v. at v (half_lane c.args.upper j)) (unchanged w16 16 c.args.a _ c.well_formed.0))
