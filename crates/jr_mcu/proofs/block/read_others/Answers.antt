use Rattle.std.proofs.Common.{rules, ◌≡◌, ◌+◌, subst, arith, set, ap, sym, ◌∙◌, ℤ, List, w16}
use mir.Val.{SFits, to_z, of_z}
use Rattle.std.proofs.lemmas.Int.{to_z-of_z}
use Rattle.jr_code.proofs.CodeLemmas.{one_word}
use Rattle.jr_code.specs.Code.{places_in, unpacked}
use Rattle.jr_mcu.proofs.Rest.{IsPartialCut, partial_none, partial_stuck}
use Rattle.jr_mcu.proofs.Places.{ended_none, ended_some, no_step_places, partial_places, some_places}
use Rattle.jr_mcu.proofs.block.read_others.Goals as goal

pub codes-init : goal.codes-init
codes-init c =
    let first = to_z w16 (of_z w16 c.args.first) in
    let e = c.set.ensures ∙ ap (λ (z : List ℤ). set z 0 first) c.zeros.ensures in
    (omega arith, subst (λ (b : List ℤ). IsPartialCut c.args.ac.now first c.args.bits.now c.args.bits.now b 1) (sym e) (partial_none _ _ _))

pub held-init : goal.held-init
held-init c = ((omega arith, c.codes.invariant.0), c.codes.invariant.1)

pub returns-in_err-code-clause-none : goal.returns-in_err-code-clause-none
returns-in_err-code-clause-none c =
    rw c.from_residual.ensures (partial_stuck _ _ _ _ _ _ c.held.invariant.1 (omega (arith, c.held.invariant.0.1)) (no_step_places _ _ c.in_err-code.ensures.none))

pub returns-then-place-gt62-clause-some : goal.returns-then-place-gt62-clause-some
returns-then-place-gt62-clause-some c =
    let s : IsPartialCut c.args.ac.now c.args.first c.args.bits.now c.held.bits c.held.block (c.held.place + 1) = subst (λ q. IsPartialCut c.args.ac.now q c.args.bits.now c.held.bits c.held.block (c.held.place + 1)) (to_z-of_z w16 c.args.first c.ranges.first) c.held.invariant.1 in
    let f : SFits w16 c.value.result = search rules in
    ended_some c.args.ac.now (one_word _) c.args.first c.value.result c.args.bits.now c.held.bits c.read_places.new.bits c.held.block c.end_block.new.block c.held.place (c.held.place + c.places.result) c.in_ok-code.code
    s c.held.invariant.0.1 c.in_ok-code.ensures.found (ap (λ n. c.held.place + n) c.places.ensures.value)
    c.end_block.result c.end_block.ensures.some.0 c.value.ensures (λ last. c.end_block.ensures.last last ∙ ap (set c.held.block 63) (to_z-of_z w16 c.value.result f)) c.end_block.ensures.end

pub returns-then-place-gt62-clause-none : goal.returns-then-place-gt62-clause-none
returns-then-place-gt62-clause-none c =
    ended_none c.args.ac.now (one_word _) _ c.value.result c.args.bits.now c.held.bits c.read_places.new.bits c.held.block c.end_block.new.block c.held.place (c.held.place + c.places.result) c.in_ok-code.code
    c.held.invariant.1 c.held.invariant.0.1 c.in_ok-code.ensures.found (ap (λ n. c.held.place + n) c.places.ensures.value)
    c.end_block.result c.end_block.ensures.some.1 (omega (arith, c.if-place-gt62.true))

pub held-preserved : goal.held-preserved
held-preserved c =
    let place : c.held.place + c.places.result ≡ c.held.place + places_in c.in_ok-code.code = ap (λ n. c.held.place + n) c.places.ensures.value in
    let f : SFits w16 c.value-in-held.result = search rules in
    let wrote : c.set-in-held.new.self ≡ set c.held.block (c.held.place + c.places.result) (unpacked c.in_ok-code.code).value = search (rules, c.set-in-held.ensures, to_z-of_z w16 c.value-in-held.result f, c.value-in-held.ensures) in (
      (omega (arith, c.held.invariant.0.0), omega (arith, c.if-place-gt62.false)),
      partial_places c.args.ac.now (one_word _) _ c.args.bits.now c.held.bits c.read_places.new.bits c.held.block c.set-in-held.new.self c.held.place (c.held.place + c.places.result) c.in_ok-code.code
          c.held.invariant.1 c.held.invariant.0.1 c.in_ok-code.ensures.found place (omega (arith, c.if-place-gt62.false)) wrote,
    )

pub returns-in_err-next-clause-none : goal.returns-in_err-next-clause-none
returns-in_err-next-clause-none c =
    rw c.from_residual-in_err-next.ensures (partial_stuck _ _ _ _ _ _ c.held.invariant.1 (omega (arith, c.held.invariant.0.1)) (no_step_places _ _ c.in_err-next.ensures.none))

pub returns-then-place-gt62-2-clause-some : goal.returns-then-place-gt62-2-clause-some
returns-then-place-gt62-2-clause-some c =
    let s : IsPartialCut c.args.ac.now c.args.first c.args.bits.now c.held.bits c.held.block (c.held.place + 1) = subst (λ q. IsPartialCut c.args.ac.now q c.args.bits.now c.held.bits c.held.block (c.held.place + 1)) (to_z-of_z w16 c.args.first c.ranges.first) c.held.invariant.1 in
    let f : SFits w16 c.value-then-place-gt62-2.result = search rules in
    ended_some c.args.ac.now (one_word _) c.args.first c.value-then-place-gt62-2.result c.args.bits.now c.held.bits c.read_places_and_refill.new.bits c.held.block c.end_block-then-place-gt62-2.new.block c.held.place (c.held.place + c.places-in-codes.result) c.in_ok-next.next
    s c.held.invariant.0.1 c.in_ok-next.ensures.found (ap (λ n. c.held.place + n) c.places-in-codes.ensures.value)
    c.end_block-then-place-gt62-2.result c.end_block-then-place-gt62-2.ensures.some.0 c.value-then-place-gt62-2.ensures
    (λ last. c.end_block-then-place-gt62-2.ensures.last last ∙ ap (set c.held.block 63) (to_z-of_z w16 c.value-then-place-gt62-2.result f)) c.end_block-then-place-gt62-2.ensures.end

pub returns-then-place-gt62-2-clause-none : goal.returns-then-place-gt62-2-clause-none
returns-then-place-gt62-2-clause-none c =
    ended_none c.args.ac.now (one_word _) _ c.value-then-place-gt62-2.result c.args.bits.now c.held.bits c.read_places_and_refill.new.bits c.held.block c.end_block-then-place-gt62-2.new.block c.held.place (c.held.place + c.places-in-codes.result) c.in_ok-next.next
    c.held.invariant.1 c.held.invariant.0.1 c.in_ok-next.ensures.found (ap (λ n. c.held.place + n) c.places-in-codes.ensures.value)
    c.end_block-then-place-gt62-2.result c.end_block-then-place-gt62-2.ensures.some.1 (omega (arith, c.if-place-gt62-2.true))

pub codes-preserved : goal.codes-preserved
codes-preserved c =
    let place : c.held.place + c.places-in-codes.result ≡ c.held.place + places_in c.in_ok-next.next = ap (λ n. c.held.place + n) c.places-in-codes.ensures.value in
    let f : SFits w16 c.value-in-codes.result = search rules in
    let wrote : c.set-in-codes.new.self ≡ set c.held.block (c.held.place + c.places-in-codes.result) (unpacked c.in_ok-next.next).value = search (rules, c.set-in-codes.ensures, to_z-of_z w16 c.value-in-codes.result f, c.value-in-codes.ensures) in (
      omega (arith, c.if-place-gt62-2.false),
      partial_places c.args.ac.now (one_word _) _ c.args.bits.now c.held.bits c.read_places_and_refill.new.bits c.held.block c.set-in-codes.new.self c.held.place (c.held.place + c.places-in-codes.result) c.in_ok-next.next
          c.held.invariant.1 c.held.invariant.0.1 c.in_ok-next.ensures.found place (omega (arith, c.if-place-gt62-2.false)) wrote,
    )

pub codes-smaller : goal.codes-smaller
codes-smaller c = omega (arith, c.held.invariant.0.0, c.places-in-codes.ensures.value, some_places c.args.ac.now _ _ c.in_ok-next.next c.in_ok-next.ensures.found, c.if-place-gt62-2.false)
