use Rattle.std.proofs.Common.{◌≡◌, ℕ, ◌++◌, List, length, take, drop, length-append, length-drop, ap, ◌∙◌, arith, rules}
use Rattle.std.proofs.lemmas.List.{take-append-le, drop-append-le}
use Rattle.jr_cut.specs.UnstuffingValue.{UnstuffingValue}
use Rattle.jr_cut.proofs.unstuff.Unstuffing.extend.Goals as goal

pub invariant_of-self-2 : goal.invariant_of-self-2
invariant_of-self-2 c =
    let u = c.self.inside in
    let old = u.bytes.items in
    let more = c.args.more.now in
    let items = c.in_ok-extend_from_slice.ensures.items in
    let kept = ap (λ (l : List ℕ). take u.fill (drop u.at l)) items ∙ ap (take u.fill) (drop-append-le u.at old more (omega (arith, c.self.invariant.1))) in
    (c.self.invariant.0, omega (arith, c.self.invariant.1, ap length items, length-append old more), kept ∙ take-append-le u.fill (drop u.at old) more (omega (arith, c.self.invariant.1, length-drop u.at old)) ∙ c.self.invariant.2)

pub returns-clause-data : goal.returns-clause-data
returns-clause-data c =
    let old = c.self.inside.bytes.items in
    ap (take c.self.inside.found) c.in_ok-extend_from_slice.ensures.items ∙ take-append-le c.self.inside.found old c.args.more.now (omega (arith, c.self.invariant.0, c.self.invariant.1)) ∙ ap (λ (u : UnstuffingValue). u.unstuffed) c.self.view_is

pub returns-clause-rest : goal.returns-clause-rest
returns-clause-rest c =
    let old = c.self.inside.bytes.items in
    let items : c.extend_from_slice.new.self.items ≡ old ++ c.args.more.now = search (rules, c.in_ok-extend_from_slice.ensures.items) in
    ap (drop c.self.inside.at) items ∙ drop-append-le c.self.inside.at old c.args.more.now (omega (arith, c.self.invariant.1)) ∙ ap (λ (u : UnstuffingValue). u.rest ++ c.args.more.now) c.self.view_is
