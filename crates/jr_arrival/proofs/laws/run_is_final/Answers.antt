use Rattle.std.proofs.Common.{rules}
use Rattle.jr_arrival.proofs.MoreData as laws
use Rattle.jr_arrival.proofs.laws.run_is_final.Goals as goal

pub returns : goal.returns
returns c = λ r more blocks to within run. search (rules, laws.run_is_final r more blocks to within run)
