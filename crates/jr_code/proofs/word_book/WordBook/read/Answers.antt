use Rattle.std.proofs.Common.{◌≡◌, ◌≤◌, ◌++◌, ◌∙◌, [], ap, sym, take, drop, subst, length, arith, ⊎_elim, inl, inr}
use Rattle.std.proofs.lemmas.Grind.{common_steps}
use Rattle.std.specs.Prelude.{◌⊎◌}
use Rattle.std.proofs.lemmas.List.{take-append-drop, take-append-le}
use Rattle.jr_code.specs.Bits.{bits, upper_bits}
use Rattle.jr_code.specs.Code.{HasNoFirstWord, IsWord}
use Rattle.jr_code.specs.Register.{bits_in}
use Rattle.jr_code.proofs.CodeLemmas.{one_word}
use Rattle.jr_code.proofs.ReadLemmas.{if_none, held_none}
use Rattle.jr_code.proofs.RegisterLemmas.{length-first}
use Rattle.jr_code.proofs.word_book.WordBook.read.Goals as goal

pub returns-clause-one_word : goal.returns-clause-one_word
returns-clause-one_word c = one_word c.args.self.now

pub returns-in_err-symbol-clause-none : goal.returns-in_err-symbol-clause-none
returns-in_err-symbol-clause-none c =
    let r = c.refilled-register.result in
    let held = upper_bits c.refilled-register.result.count c.refilled-register.result.held in
    let many : (16 ≤ length held) ⊎ (bits r.rest.now ≡ []) = ⊎_elim
    (λ enough. inl (omega (arith, length-first r.count r.held (omega arith))))
    (λ none. inr (ap bits none))
    c.refilled-register.ensures.full in
    let all : HasNoFirstWord c.args.self.now (bits_in c.refilled-register.result) = held_none c.args.self.now held (bits r.rest.now) many c.in_err-symbol.ensures.none in
    if_none (HasNoFirstWord c.args.self.now c.args.bits.now) c.from_residual.result
    (subst (λ b. HasNoFirstWord c.args.self.now b) (c.refilled-register.ensures.same ∙ c.bits.view_is) all)

pub returns-in_err-symbol-clause-one_word : goal.returns-in_err-symbol-clause-one_word
returns-in_err-symbol-clause-one_word c = one_word c.args.self.now

pub returns-2-clause-found : goal.returns-2-clause-found
returns-2-clause-found c =
    let r = c.refilled-register.result in
    let long = c.in_ok-symbol.long in
    let held = upper_bits c.refilled-register.result.count c.refilled-register.result.held in
    let bs = bits_in c.refilled-register.result in
    let same : bits_in c.refilled-register.result ≡ c.args.bits.now = c.refilled-register.ensures.same ∙ c.bits.view_is in
    let front : take long bs ≡ take long held = take-append-le long held (bits r.rest.now) (omega (arith, c.in_ok-symbol.ensures.found.0, length-first r.count r.held (omega arith))) in
    let rest : drop long bs ≡ bits_in c.after-bits-inside-2.result = ap (λ n. drop n (bits_in c.refilled-register.result)) (sym c.from-count.ensures) ∙ sym c.after-bits-inside-2.ensures in
    let word : IsWord c.args.self.now (take long bs) c.in_ok-symbol.symbol = subst (λ b. IsWord c.args.self.now b c.in_ok-symbol.symbol) (sym front) c.in_ok-symbol.ensures.found.1 in
    (take long bs, word, sym same ∙ sym (take-append-drop long bs) ∙ ap (λ t. take c.in_ok-symbol.long (bits_in c.refilled-register.result) ++ t) rest)

pub returns-2-clause-one_word : goal.returns-2-clause-one_word
returns-2-clause-one_word c = one_word c.args.self.now

pub returns-clause-found : goal.returns-clause-found
returns-clause-found c = grind (arith, common_steps)
