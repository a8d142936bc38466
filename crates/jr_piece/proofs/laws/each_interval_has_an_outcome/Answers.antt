use Rattle.jr_piece.proofs.EachOutcome.{outcome}
use Rattle.jr_piece.proofs.laws.each_interval_has_an_outcome.Goals as goal

pub returns : goal.returns
returns c = outcome
