use Rattle.std.proofs.Common.{◌+◌, ◌-◌, ◌/◌, ◌^◌, ◌≡◌, ◌∙◌, ap, arith}
use Rattle.std.proofs.lemmas.Nat.{shr-shr, shr_below}
use Rattle.jr_code.proofs.register.Register.upper.Goals as goal

pub returns-clause-number : goal.returns-clause-number
returns-clause-number c =
    let all : 32 + (32 - c.args.n) ≡ 64 - c.args.n = omega arith in
    shr-shr c.args.self.held 32 (32 - c.args.n) ∙ ap (λ k. c.args.self.held / 2 ^ k) all

pub returns-clause-small : goal.returns-clause-small
returns-clause-small c =
    let all : c.args.n + (32 - c.args.n) ≡ 32 = omega arith in
    shr_below (c.args.self.held / 4294967296) c.args.n (32 - c.args.n) (omega (arith, ap (λ k. 2 ^ k) all))
