use Rattle.std.proofs.Common.{rules}
use Rattle.jr_arrival.proofs.HeadsStay as laws
use Rattle.jr_arrival.proofs.laws.too_long_is_final.Goals as goal

pub returns : goal.returns
returns c = λ bytes more refusal. search (rules, laws.too_long_is_final bytes more refusal)
