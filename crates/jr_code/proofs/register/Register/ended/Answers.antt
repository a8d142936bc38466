use Rattle.std.proofs.Common.{◌≡◌, ◌*◌, ◌+◌, ◌++◌, ◌∙◌, ap, arith, inl, inr, ⊎_elim, length, take}
use Rattle.std.proofs.lemmas.Bool.{cases_lt}
use Rattle.std.proofs.lemmas.List.{drop_all, take-append-drop}
use Rattle.jr_code.specs.Bits.{bits, upper_bits}
use Rattle.jr_code.proofs.RegisterLemmas.{last_clean, push_last}
use Rattle.jr_code.proofs.register.Register.ended.Goals as goal

pub invariant_of-result-clause-clean : goal.invariant_of-result-clause-clean
invariant_of-result-clause-clean c = last_clean _ c.followed-number.result (omega arith)

pub returns-clause-full : goal.returns-clause-full
returns-clause-full c =
    ⊎_elim (λ few. inr (c.split_at.ensures.back ∙ drop_all c.min-bytes.result c.args.self.rest.now (omega (arith, c.min-bytes.ensures, few)))) inl (cases_lt (c.args.self.count + 8 * c.min-bytes.result) 56)

pub returns-clause-same : goal.returns-clause-same
returns-clause-same c =
    let first = c.split_at.result.0.now in
    let rest = c.split_at.result.1.now in
    let all = c.args.self.count + 8 * c.min-bytes.result in
    let size : length first ≡ c.min-bytes.result = c.split_at.ensures.front_len in
    let parts : first ++ rest ≡ c.args.self.rest.now =
    ap (λ t. t ++ rest) c.split_at.ensures.front ∙ ap (λ t. take c.min-bytes.result c.args.self.rest.now ++ t) c.split_at.ensures.back ∙ take-append-drop c.min-bytes.result c.args.self.rest.now in
    push_last c.args.self.count all c.args.self.held c.followed-number.result first rest (omega arith) (omega (arith, size)) (omega arith) c.followed-number.ensures
    ∙ ap (λ t. upper_bits c.args.self.count c.args.self.held ++ bits t) parts
