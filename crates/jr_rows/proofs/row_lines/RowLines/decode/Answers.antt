use Rattle.std.proofs.Common.{◌≡◌, ◌+◌, ◌*◌, ◌<◌, ◌≤◌, ◌∙◌, [], length, take, ap, sym, arith, slice_index_or}
use Rattle.std.proofs.lemmas.List.{get_or-take, length-take-le}
use Rattle.std.proofs.Math.Nat.{mul-le-mul_right}
use Rattle.jr_head.specs.Geometry.{blocks_of, mcus_across, quantiser_of}
use Rattle.jr_idct.specs.Transform.{samples}
use Rattle.jr_mcu.specs.Mcus.{component}
use Rattle.jr_rows.specs.Groups.{units_in}
use Rattle.jr_rows.proofs.GroupLists.{units_long}
use Rattle.jr_rows.proofs.row_lines.RowLines.decode.Goals as goal

pub transform_blocks-requires-clause-inside : goal.transform_blocks-requires-clause-inside
transform_blocks-requires-clause-inside c =
    let h = c.args.head.now in
    let n = c.args.coded * length c.order.result.now in
    let count : n ≡ c.args.coded * blocks_of h = ap (λ k. c.args.coded * k) c.order.ensures.count in
    let long : length (take n c.args.blocks.now) ≡ n = length-take-le n c.args.blocks.now (omega (arith, count, c.requires.blocks)) in
    let all : c.args.coded * blocks_of h ≤ mcus_across h * blocks_of h = mul-le-mul_right {m = c.args.coded} {n = mcus_across h} (blocks_of h) c.requires.few in
    omega (arith, long, count, all, units_long h c.args.self.now.groups)

pub returns-clause-decoded : goal.returns-clause-decoded
returns-clause-decoded c k lt =
    let h = c.args.head.now in
    let n = c.args.coded * length c.order.result.now in
    let zs = c.args.blocks.now in
    let count : n ≡ c.args.coded * blocks_of h = ap (λ i. c.args.coded * i) c.order.ensures.count in
    let long : length (take n zs) ≡ n = length-take-le n zs (omega (arith, count, c.requires.blocks)) in
    let all : c.args.coded * blocks_of h ≤ mcus_across h * blocks_of h = mul-le-mul_right {m = c.args.coded} {n = mcus_across h} (blocks_of h) c.requires.few in
    let none : 0 * blocks_of h + k ≡ k = omega arith in
    let inside : k < n = omega (arith, lt, count) in
    c.fill_blank.ensures.kept k lt (omega (arith, lt, all))
    ∙ ap (λ i. slice_index_or (units_in h c.transform_blocks.new.units.groups) i []) (sym none)
    ∙ c.transform_blocks.ensures.here k (omega (arith, inside, long))
    ∙ ap (λ z. samples z (quantiser_of h (component h k))) (get_or-take n zs k [] inside)
