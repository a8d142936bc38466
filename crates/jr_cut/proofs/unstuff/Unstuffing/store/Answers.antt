use Rattle.std.proofs.Common.{◌≡◌, ◌+◌, ◌++◌, ◌∷◌, ◌≤◌, ℕ, List, [], length, length-drop, drop, refl, ap, sym, ◌∙◌, arith}
use Rattle.std.proofs.lemmas.List.{length-set, take_more_set, drop-set-lt, drop-drop}
use Rattle.jr_cut.specs.UnstuffingValue.{UnstuffingValue}
use Rattle.jr_cut.proofs.unstuff.Unstuffing.store.Goals as goal

-- the bytes that are read are there
inside : (old rest : List ℕ) (at fill count : ℕ) → at + fill ≤ length old → drop at old ≡ rest → count ≤ length rest → at + count ≤ length old
inside old rest at fill count within is few = omega (arith, within, ap length is, few, length-drop at old)

pub index_mut-requires : goal.index_mut-requires
index_mut-requires c =
    let le = inside c.self.inside.bytes.items c.args.self.now.rest c.self.inside.at c.self.inside.fill c.args.count c.self.invariant.1 (ap (λ (u : UnstuffingValue). u.rest) c.self.view_is) c.requires.within in
    omega (arith, le, c.requires.some, c.self.invariant.0, c.self.inside.bytes.ok)

pub overflow_add-self-2 : goal.overflow_add-self-2
overflow_add-self-2 c =
    let le = inside c.self.inside.bytes.items c.args.self.now.rest c.self.inside.at c.self.inside.fill c.args.count c.self.invariant.1 (ap (λ (u : UnstuffingValue). u.rest) c.self.view_is) c.requires.within in
    omega (arith, le, c.self.inside.bytes.small)

pub invariant_of-self : goal.invariant_of-self
invariant_of-self c =
    let old = c.self.inside.bytes.items in
    let le = inside old c.args.self.now.rest c.self.inside.at c.self.inside.fill c.args.count c.self.invariant.1 (ap (λ (u : UnstuffingValue). u.rest) c.self.view_is) c.requires.within in
    (omega (arith, c.self.invariant.0, c.requires.some), omega (arith, le, length-set old c.self.inside.found c.args.byte), refl)

pub returns-clause-data : goal.returns-clause-data
returns-clause-data c =
    let old = c.self.inside.bytes.items in
    let le = inside old c.args.self.now.rest c.self.inside.at c.self.inside.fill c.args.count c.self.invariant.1 (ap (λ (u : UnstuffingValue). u.rest) c.self.view_is) c.requires.within in
    take_more_set old c.self.inside.found c.args.byte (omega (arith, le, c.requires.some, c.self.invariant.0)) ∙ ap (λ (u : UnstuffingValue). u.unstuffed ++ c.args.byte ∷ []) c.self.view_is

pub returns-clause-rest : goal.returns-clause-rest
returns-clause-rest c =
    let old = c.self.inside.bytes.items in
    let at = c.self.inside.at in
    drop-set-lt (at + c.args.count) old c.self.inside.found c.args.byte (omega (arith, c.requires.some, c.self.invariant.0)) ∙ sym (drop-drop c.args.count at old) ∙ ap (λ (u : UnstuffingValue). drop c.args.count u.rest) c.self.view_is
