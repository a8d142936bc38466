use Rattle.std.proofs.Common.{rules, arith}
use Rattle.std.proofs.lemmas.Grind.{common_steps}
use Rattle.jr_segments.specs.Segments.{length_tests}
use Rattle.jr_segments.proofs.segment.read_payload.Goals as goal

pub returns-clause-payload : goal.returns-clause-payload
unfolding length_tests
returns-clause-payload c = search rules

pub returns-clause-rest : goal.returns-clause-rest
unfolding length_tests
returns-clause-rest c = grind (arith, common_steps)
