use Rattle.std.proofs.Common.{◌≡◌, ◌∙◌, ◌++◌, ◌<◌, ◌≤◌, ◌%◌, [], drop, take, subst, sym, ap, arith, rules, refl, length, inl, inr, ⊎_elim, w16, w32}
use mir.Val.{SFits}
use Rattle.std.proofs.lemmas.Int.{to_z-of_z, ints}
use Rattle.std.proofs.lemmas.List.{take-append-drop}
use Rattle.std.specs.Prelude.{◌⊎◌, None}
use Rattle.jr_code.specs.Bits.{bits, upper_bits}
use Rattle.jr_code.specs.Code.{HasNoExtended, TakesExtended}
use Rattle.jr_code.specs.Register.{bits_in}
use Rattle.jr_code.proofs.CodeLemmas.{one_word}
use Rattle.jr_code.proofs.PairLemmas.{held_none, short_none, taken_more, too_few, word_apart}
use Rattle.jr_code.proofs.ReadLemmas.{if_none}
use Rattle.jr_code.proofs.RegisterLemmas.{length-first}
use Rattle.jr_code.proofs.word_book.WordBook.read_extended.Goals as goal

pub returns-in_err-value-clause-none : goal.returns-in_err-value-clause-none
returns-in_err-value-clause-none c =
    let bs = bits_in c.refilled-register.result in
    let mid = bits_in c.after.result in
    let s = c.in-Some.symbol in
    let n = c.in-Some.long in
    let same : bits_in c.refilled-register.result ≡ c.args.bits.now = c.refilled-register.ensures.same ∙ c.bits.view_is in
    let left : bits_in c.after.result ≡ drop n (bits_in c.refilled-register.result) = c.after.ensures ∙ ap (λ k. drop k (bits_in c.refilled-register.result)) c.from.ensures in
    let few : length (bits_in c.after.result) < c.from-2.result = too_few c.from-2.result (bits_in c.after.result) None refl c.in_err-value.ensures.found.1 in
    let none : HasNoExtended c.args.self.now (bits_in c.refilled-register.result) =
    short_none c.args.self.now (one_word c.args.self.now) bs mid (take n bs) s c.in-Some.ensures.1
    (sym (take-append-drop n bs) ∙ ap (λ b. take c.in-Some.long (bits_in c.refilled-register.result) ++ b) (sym left)) (omega (arith, few, c.from-2.ensures)) in
    if_none (HasNoExtended c.args.self.now c.args.bits.now) c.from_residual.result (subst (λ b. HasNoExtended c.args.self.now b) same none)

pub returns-clause-found : goal.returns-clause-found
returns-clause-found c =
    let bs = bits_in c.refilled-register.result in
    let mid = bits_in c.after.result in
    let new = bits_in c.rest.inside.register in
    let s = c.in-Some.symbol in
    let n = c.in-Some.long in
    let v = c.in_ok-value.value in
    let f32 : SFits w32 v = omega (arith, ints, c.in_ok-value.ensures.small) in
    let same : bits_in c.refilled-register.result ≡ c.args.bits.now = c.refilled-register.ensures.same ∙ c.bits.view_is in
    let left : bits_in c.after.result ≡ drop n (bits_in c.refilled-register.result) = c.after.ensures ∙ ap (λ k. drop k (bits_in c.refilled-register.result)) c.from.ensures in
    let size : c.from-2.result ≡ s % 16 = omega (arith, c.from-2.ensures) in
    let after : bits_in c.rest.inside.register ≡ drop c.from-2.result (bits_in c.after.result) = c.rest.view_is ∙ c.in_ok-value.ensures.taken.1 in
    let all = word_apart c.args.self.now bs mid new s n c.from-2.result v c.in-Some.ensures.1 left size (c.in_ok-value.ensures.found.0 refl) c.in_ok-value.ensures.taken.0 after in
    rw (to_z-of_z w32 v f32) (subst (λ b. TakesExtended c.args.self.now c.in-Some.symbol c.in_ok-value.value b (bits_in c.rest.inside.register)) same all)

pub returns-in_err-both-clause-none : goal.returns-in_err-both-clause-none
returns-in_err-both-clause-none c =
    let r = c.refilled-register.result in
    let held = upper_bits c.refilled-register.result.count c.refilled-register.result.held in
    let many : (32 ≤ length held) ⊎ (bits r.rest.now ≡ []) = ⊎_elim
    (λ enough. inl (omega (arith, length-first r.count r.held (omega arith))))
    (λ none. inr (ap bits none))
    c.refilled-register.ensures.full in
    let all : HasNoExtended c.args.self.now (bits_in c.refilled-register.result) = held_none c.args.self.now held (bits r.rest.now) many c.in_err-both.ensures.none in
    if_none (HasNoExtended c.args.self.now c.args.bits.now) c.from_residual-in_err-both.result
    (subst (λ b. HasNoExtended c.args.self.now b) (c.refilled-register.ensures.same ∙ c.bits.view_is) all)

pub returns-2-clause-found : goal.returns-2-clause-found
returns-2-clause-found c =
    let r = c.refilled-register.result in
    let x = c.in_ok-both.both in
    let held = upper_bits c.refilled-register.result.count c.refilled-register.result.held in
    let fits : c.in_ok-both.both.long ≤ length (upper_bits c.refilled-register.result.count c.refilled-register.result.held) = omega (arith, c.in_ok-both.ensures.found.0, length-first r.count r.held (omega arith)) in
    let same : bits_in c.refilled-register.result ≡ c.args.bits.now = c.refilled-register.ensures.same ∙ c.bits.view_is in
    let rest : drop x.long (bits_in c.refilled-register.result) ≡ bits_in c.after-bits-inside.result = ap (λ n. drop n (bits_in c.refilled-register.result)) (sym c.from-count.ensures) ∙ sym c.after-bits-inside.ensures in
    let all = taken_more c.args.self.now held (bits r.rest.now) x.symbol x.long x.value fits c.in_ok-both.ensures.found.1 in
    let fv : SFits w32 x.value = search rules in
    let f16 : SFits w16 x.value = search rules in
    let is : c.from-value.result ≡ x.value = c.from-value.ensures ∙ to_z-of_z w16 x.value f16 in
    rw (is, to_z-of_z w32 x.value fv, ← rest, ← same) all
