use Rattle.std.proofs.Common.{rules}
use Rattle.jr_cut.proofs.PartialSegments.{has_cut_is_cut}
use Rattle.jr_cut.proofs.coded_segments.cut_to_end.Goals as goal

pub returns-clause-cut : goal.returns-clause-cut
returns-clause-cut c = search (rules, has_cut_is_cut _ _ _ c.in_ok-cut.ensures.cut, c.in_ok-cut.ensures.intervals, c.in_ok-segments.ensures.segments, c.in_ok-segments.ensures.ended)
