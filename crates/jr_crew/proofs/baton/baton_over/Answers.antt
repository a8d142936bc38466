use Rattle.std.proofs.Common.{rules, arith, sym, subst, ap, ◌<◌, ◌∙◌, Option}
use Rattle.jr_head.specs.Geometry.{mcus_down}
use Rattle.jr_scan.specs.ScanValue.{ScanValue}
use Rattle.jr_scan.specs.FirstIntervalsValue.{FirstIntervalsValue}
use Rattle.jr_crew.specs.Crew.{HaveNext}
use Rattle.jr_crew.proofs.baton.baton_over.Goals as goal

pub invariant_of-result : goal.invariant_of-result
invariant_of-result g c =
    let part = c.args.part.now in
    let down = c.shape_of.ensures.down ∙ ap mcus_down (c.head.ensures.value ∙ ap (λ (s : ScanValue). s.head) c.scan.ensures) in
    let row : c.args.rows.row < mcus_down part.scan.head = search (rules, arith, down, c.row.ensures) in
    subst (λ (k : Option FirstIntervalsValue). HaveNext k c.args.rows c.none.result) (sym c.requires.part) (record { rows = c.requires.rows; row = row; speculations = c.none.ensures part.scan })
