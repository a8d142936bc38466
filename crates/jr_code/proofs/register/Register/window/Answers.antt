use Rattle.std.proofs.Common.{◌∙◌, ap, arith}
use Rattle.jr_code.specs.Bits.{bits_of}
use Rattle.jr_code.proofs.RegisterLemmas.{window_is}
use Rattle.jr_code.proofs.register.Register.window.Goals as goal

pub returns-clause-front : goal.returns-clause-front
returns-clause-front c =
    ap (λ v. bits_of c.args.n v) c.upper.ensures.number
    ∙ window_is c.args.n c.args.self.count c.args.self.held c.args.self.rest.now c.requires.short (omega arith) c.args.self.clean c.requires.all
