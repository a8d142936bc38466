use Rattle.std.proofs.Common.{◌<◌, arith}
use Rattle.std.proofs.lemmas.List.Elements.{All-from_get_or}
use Rattle.jr_damage.proofs.EachFile.{cutting_is}
use Rattle.jr_scan.specs.ScanValue.{intervals_of}
use Rattle.jr_mend.proofs.file_copy.FileCopy.of.Goals as goal

pub invariant_of-result : goal.invariant_of-result
invariant_of-result c =
    let file = c.args.file.now in
    let h = c.in_ok-head.head in
    let some : 0 < intervals_of h = omega (arith, c.intervals-some.ensures.some, c.intervals-some.ensures.value) in
    let small = All-from_get_or (λ b. b < 256) file 0 (λ i lt. let byte = c.type_inv.file i in omega (arith, byte)) in
    cutting_is file h c.in_ok-head.ensures.head some small

pub returns-clause-scan : goal.returns-clause-scan
returns-clause-scan c =
    let file = c.args.file.now in
    let h = c.in_ok-head.head in
    let some : 0 < intervals_of h = omega (arith, c.intervals-some.ensures.some, c.intervals-some.ensures.value) in
    let small = All-from_get_or (λ b. b < 256) file 0 (λ i lt. let byte = c.type_inv.file i in omega (arith, byte)) in
    cutting_is file h c.in_ok-head.ensures.head some small
