use Rattle.std.proofs.Common.{rules, arith}
use Rattle.std.proofs.lemmas.Grind.{common_steps}
use Rattle.jr_segments.specs.Segments.{marker_tests}
use Rattle.jr_segments.proofs.segment.read_marker.Goals as goal

pub returns-in-len1-up-clause-obeys : goal.returns-in-len1-up-clause-obeys
unfolding marker_tests
returns-in-len1-up-clause-obeys c = search rules

pub returns-in-len1-up-clause-read : goal.returns-in-len1-up-clause-read
unfolding marker_tests
returns-in-len1-up-clause-read c = grind (arith, common_steps)
