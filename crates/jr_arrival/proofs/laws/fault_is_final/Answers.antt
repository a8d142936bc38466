use Rattle.std.proofs.Common.{rules}
use Rattle.jr_arrival.proofs.HeadsStay as laws
use Rattle.jr_arrival.proofs.laws.fault_is_final.Goals as goal

pub returns : goal.returns
returns c = λ bytes file f can final refusal. search (rules, laws.fault_is_final bytes file f can final refusal)
