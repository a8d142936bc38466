use Rattle.std.proofs.Common.{refl}
use Rattle.jr_code.proofs.register.Register.over.Goals as goal

pub returns : goal.returns
returns c = refl
