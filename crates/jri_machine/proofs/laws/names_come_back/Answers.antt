use Rattle.jri_machine.proofs.Escapes.{names_come_back}
use Rattle.jri_machine.proofs.laws.names_come_back.Goals as goal

pub returns : goal.returns
returns c = names_come_back
