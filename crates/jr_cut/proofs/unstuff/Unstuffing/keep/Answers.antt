use Rattle.std.proofs.Common.{◌≡◌, ◌+◌, ◌-◌, ◌++◌, ◌≤◌, ℕ, List, length, length-drop, take, drop, refl, ap, ◌∙◌, arith, rules}
use Rattle.std.proofs.Math.Seq.{paste}
use Rattle.std.proofs.lemmas.List.Edits.{length-paste, take-paste}
use Rattle.jr_cut.specs.UnstuffingValue.{UnstuffingValue}
use Rattle.jr_cut.proofs.Unstuffed.{moved_rest}
use Rattle.jr_cut.proofs.unstuff.Unstuffing.keep.Goals as goal

-- the bytes to keep are there
inside : (old rest : List ℕ) (at fill count : ℕ) → at + fill ≤ length old → drop at old ≡ rest → count ≤ length rest → at + count ≤ length old
inside old rest at fill count within is few = omega (arith, within, ap length is, few, length-drop at old)

pub overflow_add-end : goal.overflow_add-end
overflow_add-end c =
    let le = inside c.self.inside.bytes.items c.args.self.now.rest c.self.inside.at c.self.inside.fill c.args.count c.self.invariant.1 (ap (λ (u : UnstuffingValue). u.rest) c.self.view_is) c.requires in
    omega (arith, le, c.self.inside.bytes.small)

pub copy_within-requires-clause-in_bounds : goal.copy_within-requires-clause-in_bounds
copy_within-requires-clause-in_bounds c =
    let le = inside c.self.inside.bytes.items c.args.self.now.rest c.self.inside.at c.self.inside.fill c.args.count c.self.invariant.1 (ap (λ (u : UnstuffingValue). u.rest) c.self.view_is) c.requires in
    omega (arith, le, c.self.inside.bytes.ok)

pub copy_within-requires-clause-dest_in_bounds : goal.copy_within-requires-clause-dest_in_bounds
copy_within-requires-clause-dest_in_bounds c =
    let le = inside c.self.inside.bytes.items c.args.self.now.rest c.self.inside.at c.self.inside.fill c.args.count c.self.invariant.1 (ap (λ (u : UnstuffingValue). u.rest) c.self.view_is) c.requires in
    omega (arith, le, c.self.inside.bytes.ok, c.self.invariant.0)

pub overflow_add-self : goal.overflow_add-self
overflow_add-self c =
    let le = inside c.self.inside.bytes.items c.args.self.now.rest c.self.inside.at c.self.inside.fill c.args.count c.self.invariant.1 (ap (λ (u : UnstuffingValue). u.rest) c.self.view_is) c.requires in
    omega (arith, le, c.self.inside.bytes.small, c.self.invariant.0)

pub invariant_of-self : goal.invariant_of-self
invariant_of-self c =
    let old = c.self.inside.bytes.items in
    let at = c.self.inside.at in
    let le = inside old c.args.self.now.rest at c.self.inside.fill c.args.count c.self.invariant.1 (ap (λ (u : UnstuffingValue). u.rest) c.self.view_is) c.requires in
    let long = ap length c.copy_within.ensures.items ∙ length-paste old c.self.inside.found (drop at old) (at + c.args.count - at) (omega (arith, le, c.self.invariant.0)) (omega (arith, le, length-drop at old)) in
    (omega (arith, c.self.invariant.0), omega (arith, le, long), refl)

pub returns-clause-data : goal.returns-clause-data
returns-clause-data c =
    let old = c.self.inside.bytes.items in
    let at = c.self.inside.at in
    let n : at + c.args.count - at ≡ c.args.count = omega arith in
    let le = inside old c.args.self.now.rest at c.self.inside.fill c.args.count c.self.invariant.1 (ap (λ (u : UnstuffingValue). u.rest) c.self.view_is) c.requires in
    let moved : c.copy_within.new.self.items ≡ paste old c.self.inside.found (drop at old) c.args.count = search (rules, c.copy_within.ensures.items, n) in
    ap (take (c.self.inside.found + c.args.count)) moved ∙ take-paste old c.self.inside.found (drop at old) c.args.count (omega (arith, c.self.invariant.0, c.self.invariant.1)) (omega (arith, le, length-drop at old)) ∙ ap (λ (u : UnstuffingValue). u.unstuffed ++ take c.args.count u.rest) c.self.view_is

pub returns-clause-rest : goal.returns-clause-rest
returns-clause-rest c =
    let old = c.self.inside.bytes.items in
    let at = c.self.inside.at in
    let rest : drop at old ≡ c.args.self.now.rest = search (rules, c.self.view_is) in
    let few : c.args.count ≤ length (drop at old) = omega (arith, ap length rest, c.requires) in
    let n : at + c.args.count - at ≡ c.args.count = omega arith in
    ap (drop (at + c.args.count)) c.copy_within.ensures.items ∙ moved_rest old c.self.inside.found at c.args.count (at + c.args.count - at) c.self.invariant.0 (omega (arith, c.self.invariant.1)) few n ∙ ap (drop c.args.count) rest
