use Rattle.std.proofs.Common.{◌≡◌, ◌∙◌, ◌≤◌, [], drop, subst, sym, ap, arith, length, inl, inr, ⊎_elim}
use Rattle.std.specs.Prelude.{◌⊎◌}
use Rattle.jr_code.specs.Bits.{bits, upper_bits}
use Rattle.jr_code.specs.Code.{HasNoPlaces, unpacked}
use Rattle.jr_code.specs.Register.{bits_in}
use Rattle.jr_code.proofs.PairLemmas.{held_no_places, taken_more}
use Rattle.jr_code.proofs.ReadLemmas.{if_none}
use Rattle.jr_code.proofs.RegisterLemmas.{length-first}
use Rattle.jr_code.proofs.book.CodeBook.read_places_and_refill.Goals as goal

pub returns-in_err-next-clause-none : goal.returns-in_err-next-clause-none
returns-in_err-next-clause-none c =
    let r = c.refilled-register.result in
    let held = upper_bits c.refilled-register.result.count c.refilled-register.result.held in
    let many : (32 ≤ length held) ⊎ (bits r.rest.now ≡ []) = ⊎_elim
    (λ enough. inl (omega (arith, length-first r.count r.held (omega arith))))
    (λ none. inr (ap bits none))
    c.refilled-register.ensures.full in
    let all : HasNoPlaces c.args.self.now (bits_in c.refilled-register.result) = held_no_places c.args.self.now held (bits r.rest.now) many c.in_err-next.ensures.none in
    if_none (HasNoPlaces c.args.self.now c.args.bits.now) c.from_residual.result
    (subst (λ b. HasNoPlaces c.args.self.now b) (c.refilled-register.ensures.same ∙ c.bits.view_is) all)

pub returns-clause-found : goal.returns-clause-found
returns-clause-found c =
    let r = c.refilled-register.result in
    let x = unpacked c.in_ok-next.next in
    let held = upper_bits c.refilled-register.result.count c.refilled-register.result.held in
    let fits : x.long ≤ length held = omega (arith, c.in_ok-next.ensures.found.0, length-first r.count r.held (omega arith)) in
    let same : bits_in c.refilled-register.result ≡ c.args.bits.now = c.refilled-register.ensures.same ∙ c.bits.view_is in
    let rest : drop x.long (bits_in c.refilled-register.result) ≡ bits_in c.after-bits-inside-2.result = ap (λ n. drop n (bits_in c.refilled-register.result)) (sym c.long-2.ensures) ∙ sym c.after-bits-inside-2.ensures in
    let all = taken_more c.args.self.now held (bits r.rest.now) x.symbol x.long x.value fits c.in_ok-next.ensures.found.1 in
    (rw (← rest, ← same) all, c.in_ok-next.ensures.goes)
