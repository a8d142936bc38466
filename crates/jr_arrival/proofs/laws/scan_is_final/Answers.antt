use Rattle.std.proofs.Common.{rules}
use Rattle.jr_arrival.proofs.ScansGoOn as laws
use Rattle.jr_arrival.proofs.laws.scan_is_final.Goals as goal

pub returns : goal.returns
returns c = λ bytes file s t can a b. search (rules, laws.scan_is_final bytes file s t can a b)
