use Rattle.jr_base.specs.Blocks.{in_zigzag_order}
use Rattle.jr_base.proofs.Orders.{zeros_in_zigzag}
use Rattle.jr_base.proofs.coefficients.Coefficients.zeros.Goals as goal

pub returns : goal.returns
returns c = zeros_in_zigzag
