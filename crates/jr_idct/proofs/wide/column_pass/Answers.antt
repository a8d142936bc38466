use Rattle.std.proofs.Common.{◌+◌, arith, rules, w64, ◌∙◌}
use Rattle.std.proofs.lemmas.Int.{to_z-of_z}
use Rattle.jr_idct.specs.Matrix.{at, wide_reach}
use Rattle.jr_idct.proofs.Columns.{joined, passed_within}
use Rattle.jr_idct.proofs.Passes.{below_eight, entry_from}
use Rattle.jr_idct.proofs.wide.column_pass.Goals as goal

pub even_part-e0-requires-clause-x0_small : goal.even_part-e0-requires-clause-x0_small
even_part-e0-requires-clause-x0_small c = passed_within wide_reach (at c.args.table.now c.args.c) (omega arith) (c.requires.small c.args.c (omega (arith, c.requires.column)))

pub even_part-e0-requires-clause-x2_small : goal.even_part-e0-requires-clause-x2_small
even_part-e0-requires-clause-x2_small c = passed_within wide_reach (at c.args.table.now (c.args.c + 16)) (omega arith) (c.requires.small (c.args.c + 16) (omega (arith, c.requires.column)))

pub even_part-e0-requires-clause-x4_small : goal.even_part-e0-requires-clause-x4_small
even_part-e0-requires-clause-x4_small c = passed_within wide_reach (at c.args.table.now (c.args.c + 32)) (omega arith) (c.requires.small (c.args.c + 32) (omega (arith, c.requires.column)))

pub even_part-e0-requires-clause-x6_small : goal.even_part-e0-requires-clause-x6_small
even_part-e0-requires-clause-x6_small c = passed_within wide_reach (at c.args.table.now (c.args.c + 48)) (omega arith) (c.requires.small (c.args.c + 48) (omega (arith, c.requires.column)))

pub odd_part-o0-requires-clause-x1_small : goal.odd_part-o0-requires-clause-x1_small
odd_part-o0-requires-clause-x1_small c = passed_within wide_reach (at c.args.table.now (c.args.c + 8)) (omega arith) (c.requires.small (c.args.c + 8) (omega (arith, c.requires.column)))

pub odd_part-o0-requires-clause-x3_small : goal.odd_part-o0-requires-clause-x3_small
odd_part-o0-requires-clause-x3_small c = passed_within wide_reach (at c.args.table.now (c.args.c + 24)) (omega arith) (c.requires.small (c.args.c + 24) (omega (arith, c.requires.column)))

pub odd_part-o0-requires-clause-x5_small : goal.odd_part-o0-requires-clause-x5_small
odd_part-o0-requires-clause-x5_small c = passed_within wide_reach (at c.args.table.now (c.args.c + 40)) (omega arith) (c.requires.small (c.args.c + 40) (omega (arith, c.requires.column)))

pub odd_part-o0-requires-clause-x7_small : goal.odd_part-o0-requires-clause-x7_small
odd_part-o0-requires-clause-x7_small c = passed_within wide_reach (at c.args.table.now (c.args.c + 56)) (omega arith) (c.requires.small (c.args.c + 56) (omega (arith, c.requires.column)))

pub both_descaled-y0-requires : goal.both_descaled-y0-requires
both_descaled-y0-requires c =
    let j = joined c.args.table.now c.requires.small c.args.c c.requires.column 0 (omega arith) _ _ (search rules) (search rules) c.even_part-e0.ensures.entry_0 c.odd_part-o0.ensures.entry_0 in
    record { positive = c.requires.positive; few = c.requires.few; small_sum = j.small_sum; small_difference = j.small_difference }

pub both_descaled-y1-requires : goal.both_descaled-y1-requires
both_descaled-y1-requires c =
    let j = joined c.args.table.now c.requires.small c.args.c c.requires.column 1 (omega arith) _ _ (search rules) (search rules) c.even_part-e0.ensures.entry_1 c.odd_part-o0.ensures.entry_1 in
    record { positive = c.requires.positive; few = c.requires.few; small_sum = j.small_sum; small_difference = j.small_difference }

pub both_descaled-y2-requires : goal.both_descaled-y2-requires
both_descaled-y2-requires c =
    let j = joined c.args.table.now c.requires.small c.args.c c.requires.column 2 (omega arith) _ _ (search rules) (search rules) c.even_part-e0.ensures.entry_2 c.odd_part-o0.ensures.entry_2 in
    record { positive = c.requires.positive; few = c.requires.few; small_sum = j.small_sum; small_difference = j.small_difference }

pub both_descaled-y3-requires : goal.both_descaled-y3-requires
both_descaled-y3-requires c =
    let j = joined c.args.table.now c.requires.small c.args.c c.requires.column 3 (omega arith) _ _ (search rules) (search rules) c.even_part-e0.ensures.entry_3 c.odd_part-o0.ensures.entry_3 in
    record { positive = c.requires.positive; few = c.requires.few; small_sum = j.small_sum; small_difference = j.small_difference }

pub returns : goal.returns
returns c =
    let j0 = joined c.args.table.now c.requires.small c.args.c c.requires.column 0 (omega arith) _ _ (search rules) (search rules) c.even_part-e0.ensures.entry_0 c.odd_part-o0.ensures.entry_0 in
    let j1 = joined c.args.table.now c.requires.small c.args.c c.requires.column 1 (omega arith) _ _ (search rules) (search rules) c.even_part-e0.ensures.entry_1 c.odd_part-o0.ensures.entry_1 in
    let j2 = joined c.args.table.now c.requires.small c.args.c c.requires.column 2 (omega arith) _ _ (search rules) (search rules) c.even_part-e0.ensures.entry_2 c.odd_part-o0.ensures.entry_2 in
    let j3 = joined c.args.table.now c.requires.small c.args.c c.requires.column 3 (omega arith) _ _ (search rules) (search rules) c.even_part-e0.ensures.entry_3 c.odd_part-o0.ensures.entry_3 in
    let entry = entry_from c.args.bits c.args.table.now c.args.c in
    below_eight _
    (entry 0 _ _ (omega arith) (to_z-of_z w64 _ (search rules) ∙ c.both_descaled-y0.ensures.sum) j0.sum)
    (entry 1 _ _ (omega arith) (to_z-of_z w64 _ (search rules) ∙ c.both_descaled-y1.ensures.sum) j1.sum)
    (entry 2 _ _ (omega arith) (to_z-of_z w64 _ (search rules) ∙ c.both_descaled-y2.ensures.sum) j2.sum)
    (entry 3 _ _ (omega arith) (to_z-of_z w64 _ (search rules) ∙ c.both_descaled-y3.ensures.sum) j3.sum)
    (entry 4 _ _ (omega arith) (to_z-of_z w64 _ (search rules) ∙ c.both_descaled-y3.ensures.difference) j3.difference)
    (entry 5 _ _ (omega arith) (to_z-of_z w64 _ (search rules) ∙ c.both_descaled-y2.ensures.difference) j2.difference)
    (entry 6 _ _ (omega arith) (to_z-of_z w64 _ (search rules) ∙ c.both_descaled-y1.ensures.difference) j1.difference)
    (entry 7 _ _ (omega arith) (to_z-of_z w64 _ (search rules) ∙ c.both_descaled-y0.ensures.difference) j0.difference)
