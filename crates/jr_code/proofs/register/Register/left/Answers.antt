use Rattle.std.proofs.Common.{arith}
use Rattle.jr_code.proofs.RegisterLemmas.{length-held}
use Rattle.jr_code.proofs.register.Register.left.Goals as goal

pub returns : goal.returns
returns c = omega (arith, length-held c.args.self.count c.args.self.held c.args.self.rest.now (omega arith))
