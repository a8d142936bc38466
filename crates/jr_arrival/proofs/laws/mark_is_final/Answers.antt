use Rattle.std.proofs.Common.{rules}
use Rattle.jr_arrival.proofs.LinesStay as laws
use Rattle.jr_arrival.proofs.laws.mark_is_final.Goals as goal

pub returns : goal.returns
returns c = λ bytes file s t i n k m f g can a b ended x y. search (rules, laws.mark_is_final bytes file s t i n k m f g can a b ended x y)
