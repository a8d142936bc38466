use Rattle.std.proofs.Common.{rules}
use Rattle.jr_arrival.proofs.LinesOfPictures.{one_lines}
use Rattle.jr_arrival.proofs.same_lines.lines_are_one.Goals as goal

pub returns : goal.returns
returns c = λ scan n k m f g first count high a b. search (rules, one_lines scan n k m f g first count high a b)
