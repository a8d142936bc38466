use Rattle.std.proofs.Common.{rules}
use Rattle.jr_cut.proofs.PartialSegments.{has_cut_is_cut}
use Rattle.jr_cut.proofs.coded_segments.cut.Goals as goal

pub returns-clause-cut : goal.returns-clause-cut
returns-clause-cut c = search (rules, has_cut_is_cut _ _ _ c.in_ok-of.ensures.cut, c.in_ok-of.ensures.intervals, c.into_segments.ensures.segments, c.into_segments.ensures.ended)
