use Rattle.std.proofs.Common.{◌+◌, ◌∷◌, pos, replicate, arith, ap}
use Rattle.jr_code.proofs.CodeLemmas.{one_word}
use Rattle.jr_mcu.proofs.Rest.{partial_none, partial_stuck}
use Rattle.jr_mcu.proofs.Places.{ended_none, no_step_places, skipped_on, skipped_some, some_places}
use Rattle.jr_mcu.proofs.block.skip_others.Goals as goal

pub codes-init : goal.codes-init
codes-init c = (omega arith, (pos 0 ∷ replicate 63 (pos 0), partial_none _ _ _))

pub held-init : goal.held-init
held-init c = ((omega arith, c.codes.invariant.0), c.codes.invariant.1)

pub returns-in_err-code-clause-none : goal.returns-in_err-code-clause-none
returns-in_err-code-clause-none c =
    rw c.from_residual.ensures (partial_stuck _ _ _ _ _ _ c.held.invariant.1.1 (omega (arith, c.held.invariant.0.1)) (no_step_places _ _ c.in_err-code.ensures.none))

pub returns-then-place-gt62-clause-some : goal.returns-then-place-gt62-clause-some
returns-then-place-gt62-clause-some c =
    skipped_some c.args.ac.now (one_word _) c.args.bits.now c.held.bits c.read_places.new.bits c.held.place (c.held.place + c.places.result) c.in_ok-code.code
    c.held.invariant.1 c.held.invariant.0.1 c.in_ok-code.ensures.found (ap (λ n. c.held.place + n) c.places.ensures.value) c.end_at.result c.end_at.ensures.0

pub returns-then-place-gt62-clause-none : goal.returns-then-place-gt62-clause-none
returns-then-place-gt62-clause-none c =
    ended_none c.args.ac.now (one_word _) (pos 0) (pos 0) c.args.bits.now c.held.bits c.read_places.new.bits c.held.invariant.1.0 c.held.invariant.1.0 c.held.place (c.held.place + c.places.result) c.in_ok-code.code
    c.held.invariant.1.1 c.held.invariant.0.1 c.in_ok-code.ensures.found (ap (λ n. c.held.place + n) c.places.ensures.value)
    c.end_at.result c.end_at.ensures.1 (omega (arith, c.if-place-gt62.true))

pub held-preserved : goal.held-preserved
held-preserved c =
    let at = c.held.place + c.places.result in
    let place = ap (λ n. c.held.place + n) c.places.ensures.value in (
      (omega (arith, c.held.invariant.0.0), omega (arith, c.if-place-gt62.false)),
      skipped_on c.args.ac.now (one_word _) c.args.bits.now c.held.bits c.read_places.new.bits c.held.place at c.in_ok-code.code c.held.invariant.1 c.held.invariant.0.1 c.in_ok-code.ensures.found place (omega (arith, c.if-place-gt62.false)),
    )

pub returns-in_err-next-clause-none : goal.returns-in_err-next-clause-none
returns-in_err-next-clause-none c =
    rw c.from_residual-in_err-next.ensures (partial_stuck _ _ _ _ _ _ c.held.invariant.1.1 (omega (arith, c.held.invariant.0.1)) (no_step_places _ _ c.in_err-next.ensures.none))

pub returns-then-place-gt62-2-clause-some : goal.returns-then-place-gt62-2-clause-some
returns-then-place-gt62-2-clause-some c =
    skipped_some c.args.ac.now (one_word _) c.args.bits.now c.held.bits c.read_places_and_refill.new.bits c.held.place (c.held.place + c.places-in-codes.result) c.in_ok-next.next
    c.held.invariant.1 c.held.invariant.0.1 c.in_ok-next.ensures.found (ap (λ n. c.held.place + n) c.places-in-codes.ensures.value) c.end_at-then-place-gt62-2.result c.end_at-then-place-gt62-2.ensures.0

pub returns-then-place-gt62-2-clause-none : goal.returns-then-place-gt62-2-clause-none
returns-then-place-gt62-2-clause-none c =
    ended_none c.args.ac.now (one_word _) (pos 0) (pos 0) c.args.bits.now c.held.bits c.read_places_and_refill.new.bits c.held.invariant.1.0 c.held.invariant.1.0 c.held.place (c.held.place + c.places-in-codes.result) c.in_ok-next.next
    c.held.invariant.1.1 c.held.invariant.0.1 c.in_ok-next.ensures.found (ap (λ n. c.held.place + n) c.places-in-codes.ensures.value)
    c.end_at-then-place-gt62-2.result c.end_at-then-place-gt62-2.ensures.1 (omega (arith, c.if-place-gt62-2.true))

pub codes-preserved : goal.codes-preserved
codes-preserved c = (
  omega (arith, c.if-place-gt62-2.false),
  skipped_on c.args.ac.now (one_word _) c.args.bits.now c.held.bits c.read_places_and_refill.new.bits c.held.place (c.held.place + c.places-in-codes.result) c.in_ok-next.next
      c.held.invariant.1 c.held.invariant.0.1 c.in_ok-next.ensures.found (ap (λ n. c.held.place + n) c.places-in-codes.ensures.value) (omega (arith, c.if-place-gt62-2.false)),
)

pub codes-smaller : goal.codes-smaller
codes-smaller c = omega (arith, c.held.invariant.0.0, c.places-in-codes.ensures.value, some_places c.args.ac.now _ _ c.in_ok-next.next c.in_ok-next.ensures.found, c.if-place-gt62-2.false)
