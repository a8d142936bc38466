use Rattle.std.proofs.Common.{rules}
use Rattle.jr_arrival.proofs.CutsGoOn as laws
use Rattle.jr_arrival.proofs.laws.cut_is_final.Goals as goal

pub returns : goal.returns
returns c = λ n at bytes more a b. search (rules, laws.cut_is_final n at bytes more a b)
