use Rattle.std.proofs.Common.{rules}
use Rattle.jr_arrival.proofs.HeadsStay as laws
use Rattle.jr_arrival.proofs.laws.head_is_final.Goals as goal

pub returns : goal.returns
returns c = λ bytes file h can head. search (rules, laws.head_is_final bytes file h can head)
