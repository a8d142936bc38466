use Rattle.std.proofs.Common.{◌≡◌, ℕ, ◌<◌, List, IsTrue, inl, inr, length, slice_index_or, ap, sym, subst, [], arith, rules}
use Rattle.std.specs.Prelude.{ℤ}
use Rattle.std.proofs.lemmas.Bool.{cases_lt}
use Rattle.std.proofs.lemmas.List.{get_or_read_under}
use Rattle.jr_head.specs.Geometry.{quantiser_of}
use Rattle.jr_mcu.specs.Mcus.{block_of}
use Rattle.jr_damage.specs.Doubtful.{HasDoubtful}
use Rattle.jr_damage.proofs.doubtful.is_doubtful_mcu.Goals as goal

pub loop-u-preserved : goal.loop-u-preserved
loop-u-preserved c = λ j lt is. elim (cases_lt j c.loop-u.u) [
  | inl less ↦ c.loop-u.invariant j less is
  | inr not_less ↦
      let here : j ≡ c.loop-u.u = omega (arith, lt, not_less) in
      let unit = subst (λ (k : ℕ). HasDoubtful (quantiser_of c.args.head.now (slice_index_or c.order-order.result.now k 0)) (block_of c.args.units.now k)) here is in
      let steps = subst (λ (q : List ℕ). HasDoubtful q (block_of c.args.units.now c.loop-u.u)) (sym c.quantisers.ensures) unit in
      let count : length c.order-order.result.now ≡ length c.args.units.now = omega (arith, c.requires, ap (λ (l : List ℕ). length l) c.order-order.ensures.value) in
      let block : block_of c.args.units.now c.loop-u.u ≡ c.index-units-u.result = sym (get_or_read_under c.args.units.now c.loop-u.u (length c.order-order.result.now) c.index-units-u.result [] c.index-units-u.is c.loop-u-test.true count) in
      let known = subst (λ (z : List ℤ). HasDoubtful c.quantisers.result.now z) block steps in
      let stated : IsTrue c.has_doubtful.result = c.has_doubtful.ensures.1 known in
      absurd (search (rules, stated, c.if-has_doubtful.false))
]

pub returns : goal.returns
returns c = (
  λ t. absurd (search (rules, t)),
  λ d.
      let within : d.0 < c.loop-u.u = omega (arith, d.1, c.loop-u-test.false, ap (λ (l : List ℕ). length l) c.order-order.ensures.value) in
      let unit = subst (λ (l : List ℕ). HasDoubtful (quantiser_of c.args.head.now (slice_index_or l d.0 0)) (block_of c.args.units.now d.0)) (sym c.order-order.ensures.value) d.2 in
      absurd (c.loop-u.invariant d.0 within unit),
)
