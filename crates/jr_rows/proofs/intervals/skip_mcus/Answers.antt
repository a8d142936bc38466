use Rattle.std.proofs.Common.{arith, sym, subst, min, ◌≡◌, ℕ, ◌+◌, ◌-◌, ◌<◌, ◌≤◌}
use Rattle.std.specs.Option.{IfSome}
use Rattle.jr_scan.specs.Speculations.{AreSpeculationsOf}
use Rattle.jr_scan.specs.IntervalValue.{IntervalValue}
use Rattle.jr_scan.specs.Cursors.{IsPlaceAfter}
use Rattle.jr_rows.specs.Cursors.{mcus_to}
use Rattle.jr_rows.proofs.intervals.skip_mcus.Goals as goal

pub skip-requires-clause-same : goal.skip-requires-clause-same
skip-requires-clause-same c =
    subst (λ (i : IntervalValue). IfSome c.of_interval-own.result (λ g. AreSpeculationsOf i g.now)) (sym c.interval_ref-interval.ensures) (c.of_interval-own.ensures c.args.scan.now c.requires.same)

-- the MCUs that an interval has left, at most those that are still to be skipped
some_of : (some left rest : ℕ) → some ≡ min left rest → some ≤ rest
some_of some left rest e = omega (arith, e)

some_left : (at some left rest all : ℕ) → some ≡ min left rest → at + left ≡ all → at + some ≤ all
some_left at some left rest all e is = omega (arith, e, is)

falls : (some left rest : ℕ) → some ≡ min left rest → 0 < left → 0 < rest → rest - some < rest
falls some left rest e more lt = omega (arith, e, more, lt)

still_there : (from at mcus left all : ℕ) → at ≡ from + (mcus - left) → left ≤ mcus → from + mcus ≤ all → 0 < left → at < all
still_there from at mcus left all moved within few more = omega (arith, moved, within, few, more)

pub ready-requires-clause-lies : goal.ready-requires-clause-lies
ready-requires-clause-lies c = c.mcus.invariant.lies

pub ready-requires-clause-more : goal.ready-requires-clause-more
ready-requires-clause-more c = still_there (mcus_to c.args.scan.now.head c.args.cursor.now) _ c.args.mcus c.mcus.left _ c.mcus.invariant.moved c.mcus.invariant.within c.requires.few c.mcus-test.true

pub overflow_sub-left : goal.overflow_sub-left
overflow_sub-left c = some_of c.min-some.result c.ready.result c.mcus.left c.min-some.ensures

pub mcus-smaller : goal.mcus-smaller
mcus-smaller c = falls c.min-some.result c.ready.result c.mcus.left c.min-some.ensures c.ready.ensures.some c.mcus-test.true

pub skip-requires-clause-at : goal.skip-requires-clause-at
skip-requires-clause-at c =
    let r = c.ready.new.cursor in
    subst (λ (i : IntervalValue). IsPlaceAfter i r.mcu r.place) (sym c.interval_ref-interval.ensures) c.ready.ensures.lies.at

pub skip-requires-clause-few : goal.skip-requires-clause-few
skip-requires-clause-few c =
    let r = c.ready.new.cursor in
    let few = some_left r.mcu c.min-some.result c.ready.result c.mcus.left _ c.min-some.ensures c.ready.ensures.left in
    subst (λ (i : IntervalValue). r.mcu + c.min-some.result ≤ i.mcus) (sym c.interval_ref-interval.ensures) few

pub returns-clause-lies : goal.returns-clause-lies
returns-clause-lies c = c.mcus.invariant.lies
