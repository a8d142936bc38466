use Rattle.std.proofs.Common.{◌≡◌, ◌+◌, ◌-◌, ◌*◌, ◌∙◌, ap, length, map, take, drop, pos, arith, w16, to_z, of_z, FitsSigned}
use Rattle.std.proofs.lemmas.Int.{ints, to_z-of_z}
use Rattle.std.proofs.lemmas.List.{get_or-map, length-map, get_or-take, get_or-drop, length-take-le, length-drop}
use Rattle.std.proofs.lemmas.Simd.{get_or-chunk, length-chunk}
use Rattle.std.specs.Simd.Lanes.{chunk}
use Rattle.jr_idct.specs.Matrix.{at}
use Rattle.jr_idct.proofs.pair.load.Goals as goal

pub returns : goal.returns
returns c k l =
    let xs = c.args.block.now in
    let i = 8 * c.args.r in
    let rest = take (64 - i) (drop i xs) in
    let part = chunk 0 8 rest in
    let s = c.requires.small (i + k) (omega (arith, l, c.requires.row)) in
    let f : FitsSigned w16 (at xs (i + k)) = omega (arith, ints, s) in
    let total : length rest ≡ 64 - i = length-take-le (64 - i) (drop i xs) (omega (arith, length-drop i xs, c.told-block)) in
    let long : length part ≡ 8 = length-chunk 0 8 rest (omega (arith, total, c.requires.row)) in
    let there : at rest (0 + k) ≡ at xs (i + k) = ap (at rest) (omega arith) ∙ get_or-take (64 - i) (drop i xs) k (pos 0) (omega (arith, l, c.requires.row)) ∙ get_or-drop i xs k (pos 0) in
    get_or-map (to_z w16) (map (of_z w16) part) k 0 (pos 0) (omega (arith, l, long, length-map part (of_z w16)))
    ∙ ap (to_z w16) (get_or-map (of_z w16) part k (pos 0) 0 (omega (arith, l, long)) ∙ ap (of_z w16) (get_or-chunk 0 8 rest k (pos 0) l ∙ there))
    ∙ to_z-of_z w16 (at xs (i + k)) f
