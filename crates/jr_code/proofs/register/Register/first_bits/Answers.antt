use Rattle.std.proofs.Common.{◌∙◌, arith}
use Rattle.jr_code.proofs.RegisterLemmas.{number_front}
use Rattle.jr_code.proofs.register.Register.first_bits.Goals as goal

pub returns-clause-number : goal.returns-clause-number
returns-clause-number c =
    c.upper.ensures.number ∙ number_front c.args.n c.args.self.count c.args.self.held c.args.self.rest.now c.requires.held (omega arith) (omega arith)
