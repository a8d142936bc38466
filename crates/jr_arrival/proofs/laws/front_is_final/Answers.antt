use Rattle.std.proofs.Common.{rules}
use Rattle.jr_arrival.proofs.MoreData as laws
use Rattle.jr_arrival.proofs.laws.front_is_final.Goals as goal

pub returns : goal.returns
returns c = λ i more k blocks front. search (rules, laws.front_is_final i more k blocks front)
