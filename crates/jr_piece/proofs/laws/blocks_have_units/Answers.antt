use Rattle.jr_piece.proofs.CodedUnits.{read_codes}
use Rattle.jr_piece.proofs.laws.blocks_have_units.Goals as goal

pub returns : goal.returns
returns c = λ i first blocks p are outcome same. read_codes i first blocks are p outcome same
