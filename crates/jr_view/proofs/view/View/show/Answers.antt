use Rattle.std.proofs.Common.{rules, inl, inr, ◌≡◌, ◌+◌, ◌*◌, ◌≤◌, length, refl, sym, ap, subst, arith}
use Rattle.std.proofs.lemmas.Nat.{mul-le}
use Rattle.jr_head.specs.Geometry.{blocks_of, mcus_of}
use Rattle.jr_view.specs.Views.{AddsMcu, AddsMcus, has_seen, units_shown}
use Rattle.jr_view.proofs.Showing.{show_all, show_more, show_seen, reports}
use Rattle.jr_view.proofs.view.View.show.Goals as goal

pub loop-j-preserved : goal.loop-j-preserved
loop-j-preserved c =
    let old = c.args.self.now in
    let cur = c.loop-j.self in
    let j = c.loop-j.j in
    let m = c.args.first + j in
    let units = units_shown c.args.shown.now in
    let per : length c.order-per_mcu.result.now ≡ blocks_of old.scan.head = search rules in
    elim (reports (has_seen cur m)) [
      | inl t ↦ subst (AddsMcus old c.args.first (j + 1) units) (sym (c.show_mcu.ensures.kept t)) (show_seen old cur c.args.first j m units refl c.loop-j.invariant t)
      | inr f ↦
          let one : AddsMcu cur m units (j * length c.order-per_mcu.result.now) c.show_mcu.new.self = search (rules, c.show_mcu.ensures.shown f) in
          show_more old cur c.args.first j m units c.show_mcu.new.self (j * length c.order-per_mcu.result.now) refl (ap (λ n. j * n) per) c.loop-j.invariant f one
    ]

pub returns : goal.returns
returns c =
    let old = c.args.self.now in
    let mcus : c.mcus.result ≡ mcus_of old.scan.head = search rules in
    let le : c.loop-j.j ≤ c.args.count = omega (arith, c.loop-j.auto.j-end, c.min-j-end.ensures) in
    show_all old c.loop-j.self c.args.first c.args.count c.loop-j.j (units_shown c.args.shown.now) le (λ lt. omega (arith, lt, mcus, c.loop-j-test.false, c.min-j-end.ensures, c.saturating_sub-left.ensures)) c.loop-j.invariant

pub show_mcu-requires-clause-from : goal.show_mcu-requires-clause-from
show_mcu-requires-clause-from c =
    let below : c.loop-j.j ≤ c.mcus.result = omega (arith, c.loop-j-test.true, c.min-j-end.ensures, c.saturating_sub-left.ensures) in
    omega (arith, mul-le c.loop-j.j (length c.order-per_mcu.result.now) c.mcus.result 10 below c.order-per_mcu.ensures.few, c.mcus.ensures.few)
