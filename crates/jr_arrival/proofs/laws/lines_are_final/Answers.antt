use Rattle.std.proofs.Common.{rules}
use Rattle.jr_arrival.proofs.LinesStay as laws
use Rattle.jr_arrival.proofs.laws.lines_are_final.Goals as goal

pub returns : goal.returns
returns c = λ bytes file s t row n k m f g can a b settled x y. search (rules, laws.lines_are_final bytes file s t row n k m f g can a b settled x y)
