use Rattle.std.proofs.Common.{◌≡◌, ◌+◌, ◌-◌, ◌*◌, ◌∙◌, ap, length, map, take, drop, pos, arith, w16, to_z, of_z, FitsSigned}
use Rattle.std.proofs.lemmas.Int.{to_z-of_z}
use Rattle.std.proofs.lemmas.List.{get_or-map, length-map, get_or-take, get_or-drop, length-take-le, length-drop}
use Rattle.std.proofs.lemmas.Simd.{get_or-chunk, length-chunk}
use Rattle.std.specs.Simd.Lanes.{chunk}
use Rattle.jr_idct.specs.Matrix.{at}
use Rattle.jr_idct.proofs.Vectors.{lanes_fit}
use Rattle.jr_idct.proofs.nonzero.two_rows.Goals as goal

pub returns : goal.returns
returns c j l =
    let xs = c.args.block in
    let i = 16 * c.args.k in
    let rest = take (64 - i) (drop i xs) in
    let part = chunk 0 16 rest in
    let f : FitsSigned w16 (at xs (i + j)) = lanes_fit w16 64 xs _ c.well_formed.0 (i + j) (omega (arith, l, c.requires)) in
    let total : length rest ≡ 64 - i = length-take-le (64 - i) (drop i xs) (omega (arith, length-drop i xs, c.well_formed.0.1.0.1)) in
    let long : length part ≡ 16 = length-chunk 0 16 rest (omega (arith, total, c.requires)) in
    let there : at rest (0 + j) ≡ at xs (i + j) = ap (at rest) (omega arith) ∙ get_or-take (64 - i) (drop i xs) j (pos 0) (omega (arith, l, c.requires)) ∙ get_or-drop i xs j (pos 0) in
    get_or-map (to_z w16) (map (of_z w16) part) j 0 (pos 0) (omega (arith, l, long, length-map part (of_z w16)))
    ∙ ap (to_z w16) (get_or-map (of_z w16) part j (pos 0) 0 (omega (arith, l, long)) ∙ ap (of_z w16) (get_or-chunk 0 16 rest j (pos 0) l ∙ there))
    ∙ to_z-of_z w16 (at xs (i + j)) f
