use Rattle.std.proofs.Common.{rules, ◌/◌, ◌%◌, ◌≤◌, length, drop, ap, ◌∙◌, length-drop, arith}
use Rattle.jr_code.specs.Bits.{bits}
use Rattle.jr_code.proofs.BitLemmas.{length-bits}
use Rattle.jr_cut.proofs.Cuts.{rest_is}
use Rattle.jr_scan.proofs.Options.{taken_any}
use Rattle.jr_scan.proofs.Runs.{bits_on}
use Rattle.jr_scan.proofs.mcu_reader.bits_from.Goals as goal

pub returns : goal.returns
returns c =
    let bytes = c.args.bytes.now in
    let at = c.args.bit / 8 in
    let n = c.args.bit % 8 in
    let is = c.over-bits.ensures ∙ ap bits (rest_is bytes at) in
    let long = length-bits (drop at bytes) in
    let enough : n ≤ length c.over-bits.result = omega (arith, ap length is, long, length-drop at bytes, c.requires.within) in
    taken_any n c.over-bits.result c.take.new.self c.take.result (search (rules, c.take.ensures.found.1)) (search (rules, c.take.ensures.taken)) enough ∙ ap (drop n) is ∙ bits_on bytes c.args.bit
