use Rattle.std.proofs.Common.{arith, refl}
use Rattle.jr_code.proofs.RegisterLemmas.{refilled_bits, refilled_clean}
use Rattle.jr_code.proofs.register.Register.refilled.Goals as goal

pub invariant_of-result-clause-clean : goal.invariant_of-result-clause-clean
invariant_of-result-clause-clean c =
    refilled_clean c.args.self.count c.args.self.held c.in-Some.word c.with_bytes.result (omega arith) c.args.self.clean c.with_bytes.ensures

pub returns-clause-same : goal.returns-clause-same
returns-clause-same c =
    refilled_bits c.args.self.count c.args.self.held c.in-Some.word c.with_bytes.result c.args.self.rest.now _ (omega arith) c.args.self.clean (omega arith)
    (c.in-Some.ensures.long.0 refl) c.in-Some.ensures.some refl c.with_bytes.ensures
