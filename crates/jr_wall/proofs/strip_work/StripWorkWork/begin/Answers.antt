use Rattle.std.proofs.Common.{rules, sym, subst}
use Rattle.jr_scan.specs.Speculations.{AreSpeculationsOf}
use Rattle.jr_scan.specs.IntervalValue.{IntervalValue}
use Rattle.jr_wall.specs.Sharing.{IsOneOf}
use Rattle.jr_wall.proofs.Gathering.{its_interval}
use Rattle.jr_wall.proofs.strip_work.StripWorkWork.begin.Goals as goal

pub guide-requires : goal.guide-requires
guide-requires g c =
    let own : IsOneOf g.S.OneScan.part c.args.reader = search rules in
    let it = its_interval g.S.OneScan.part c.args.part.now c.args.reader c.number.result c.requires own c.number.ensures in
    subst (λ (i : IntervalValue). AreSpeculationsOf i c.for_next-speculations.result) (sym it.1) c.for_next-speculations.ensures

pub guide-requires-else-skips : goal.guide-requires-else-skips
guide-requires-else-skips g c = c.none.ensures c.args.reader
