use Rattle.std.proofs.Common.{arith}
use Rattle.jr_code.proofs.RegisterLemmas.{clean_after, front_after}
use Rattle.jr_code.proofs.register.Register.after.Goals as goal

pub invariant_of-result-clause-clean : goal.invariant_of-result-clause-clean
invariant_of-result-clause-clean c = clean_after c.args.n c.args.self.count c.args.self.held c.requires (omega arith) c.args.self.clean

pub returns : goal.returns
returns c = front_after c.args.n c.args.self.count c.args.self.held c.args.self.rest.now c.requires (omega arith)
