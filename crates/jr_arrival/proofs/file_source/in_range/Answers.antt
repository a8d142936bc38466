use Rattle.std.proofs.Common.{◌≡◌, ◌∙◌, get_or, length, arith, rules}
use Rattle.std.specs.Prelude.{pos}
use Rattle.jr_mcu.specs.Block.{IsInDcRange}
use Rattle.jr_mcu.proofs.Greater.{three_all}
use Rattle.jr_arrival.proofs.Threes.{in_range_written, same_three, written}
use Rattle.jr_arrival.proofs.file_source.in_range.Goals as goal

pub returns-clause-in_range : goal.returns-clause-in_range
returns-clause-in_range c =
    three_all IsInDcRange _ _ _ (in_range_written c.in_sixteen_bits.result c.in_sixteen_bits.ensures.in_range) (in_range_written c.in_sixteen_bits-2.result c.in_sixteen_bits-2.ensures.in_range) (in_range_written c.in_sixteen_bits-3.result c.in_sixteen_bits-3.ensures.in_range)

pub returns-clause-kept : goal.returns-clause-kept
returns-clause-kept c all =
    let ps = c.args.predictions in
    let three : length ps ≡ 3 = search rules in
    let in_0 = all 0 (pos 0) (omega (arith, three)) in
    let in_1 = all 1 (pos 0) (omega (arith, three)) in
    let in_2 = all 2 (pos 0) (omega (arith, three)) in
    same_three ps _ _ _ three
    (written c.in_sixteen_bits.result c.in_sixteen_bits.ensures.in_range ∙ c.in_sixteen_bits.ensures.kept (in_range_written (get_or ps 0 (pos 0)) in_0) ∙ written (get_or ps 0 (pos 0)) in_0)
    (written c.in_sixteen_bits-2.result c.in_sixteen_bits-2.ensures.in_range ∙ c.in_sixteen_bits-2.ensures.kept (in_range_written (get_or ps 1 (pos 0)) in_1) ∙ written (get_or ps 1 (pos 0)) in_1)
    (written c.in_sixteen_bits-3.result c.in_sixteen_bits-3.ensures.in_range ∙ c.in_sixteen_bits-3.ensures.kept (in_range_written (get_or ps 2 (pos 0)) in_2) ∙ written (get_or ps 2 (pos 0)) in_2)
