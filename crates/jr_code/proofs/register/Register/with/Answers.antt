use Rattle.std.proofs.Common.{arith, ⊎_elim, ap, length, refl}
use Rattle.std.proofs.lemmas.Bool.{false≢true}
use Rattle.jr_code.proofs.RegisterLemmas.{length-held}
use Rattle.jr_code.proofs.register.Register.with.Goals as goal

pub returns-then-n-self-clause-found : goal.returns-then-n-self-clause-found
returns-then-n-self-clause-found c = (λ _. omega (arith, length-held c.args.self.count c.args.self.held c.args.self.rest.now (omega arith)), λ _. refl)

pub returns-then-n-register-clause-found : goal.returns-then-n-register-clause-found
returns-then-n-register-clause-found c =
    let r = c.refilled-register.result in
    (λ _. omega (arith, length-held r.count r.held r.rest.now (omega arith), ap length c.refilled-register.ensures.same), λ _. refl)

pub returns-else-n-register-clause-found : goal.returns-else-n-register-clause-found
returns-else-n-register-clause-found c =
    let r = c.refilled-register.result in (
      λ e. absurd (false≢true e),
      λ few. absurd (⊎_elim
          (λ many. omega arith)
          (λ none. omega (arith, length-held r.count r.held r.rest.now (omega arith), ap length c.refilled-register.ensures.same, ap length none))
          c.refilled-register.ensures.full),
    )
