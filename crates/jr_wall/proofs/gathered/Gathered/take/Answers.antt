use Rattle.std.proofs.Common.{rules, subst}
use Rattle.std.specs.List.{All}
use Rattle.std.specs.Arc.{arc_value}
use Rattle.jr_scan.specs.IntervalValue.{IntervalValue}
use Rattle.jr_wall.specs.Sharing.{IsEmptyOrOf}
use Rattle.jr_piece.specs.Strips.{AreOf, shared_strips}
use Rattle.jr_wall.proofs.gathered.Gathered.take.Goals as goal

pub returns-clause-strips : goal.returns-clause-strips
returns-clause-strips g c =
    let kept : All (IsEmptyOrOf (arc_value c.self.inside.interval)) c.as_slice.result.now = search (rules, c.self.invariant.1) in
    subst (λ (i : IntervalValue). AreOf i (shared_strips c.in_ok-strips.strips.items)) c.self.view_is (c.in_ok-strips.ensures (arc_value c.self.inside.interval) kept)
