use Rattle.std.proofs.Common.{rules, ◌≡◌, ◌+◌, ◌-◌, ◌*◌, ◌%◌, ◌<◌, ◌≤◌, ℕ, List, [], inl, inr, length, get_or, sym, ap, ◌∙◌, arith}
use Rattle.std.proofs.lemmas.Bool.{cases_lt}
use Rattle.std.proofs.Math.Nat.{add-mul, add-mul-mod_self_right}
use Rattle.jr_head.specs.Geometry.{blocks_of, order_of}
use Rattle.jr_piece.specs.Outcome.{unit_of}
use Rattle.jr_piece.proofs.Transformed.{unit_of_part}
use Rattle.jr_piece.proofs.transforming.transform_blocks.Goals as goal

pub mcus-preserved : goal.mcus-preserved
mcus-preserved g c =
    let h = c.args.head.now in
    let zs = c.args.blocks.now in
    let per = blocks_of h in
    let done = c.mcus.done in
    let end = c.min-end.result in
    let mcu = c.mcus.mcu in
    let at = c.args.first * per in
    let new = g.U.UnitSink.units h c.transform_mcus.new.units in
    let lt : done < length zs = c.mcus-test.true in
    let count : length c.order.result.now ≡ per = c.order.ensures.count in
    let order : length (order_of h) ≡ per = ap (λ (o : List ℕ). length o) (sym c.order.ensures.value) ∙ count in
    let some : 0 < per = omega (arith, count, c.order.ensures.some) in
    let place : mcu * per ≡ at + done = c.mcus.invariant.place lt in
    let next : (mcu + 2) * per ≡ mcu * per + 2 * per = add-mul mcu 2 per in
    let first : done % length (order_of h) ≡ 0 = c.mcus.invariant.whole lt in
    record {
      space = c.transform_mcus.ensures.space;
      long = c.transform_mcus.ensures.count ∙ c.mcus.invariant.long;
      within = omega (arith, c.min-end.ensures);
      few = λ more. omega (arith, c.mcus.invariant.few lt, c.min-end.ensures, count, some, more);
      place = λ more. omega (arith, next, place, c.min-end.ensures, count, more);
      whole = λ more.
          let two : end ≡ done + 2 * length (order_of h) = omega (arith, c.min-end.ensures, count, order, more) in
          ap (λ (n : ℕ). n % length (order_of h)) two ∙ add-mul-mod_self_right done 2 (length (order_of h)) ∙ first;
      kept = λ k low. c.transform_mcus.ensures.kept k (omega (arith, low, place)) ∙ c.mcus.invariant.kept k low;
      here = λ k low. elim (cases_lt k done) [
        | inl l ↦ c.transform_mcus.ensures.kept (at + k) (omega (arith, l, place)) ∙ c.mcus.invariant.here k l
        | inr far ↦
            let i = k - done in
            let is : done + i ≡ k = omega (arith, far) in
            let there : mcu * per + i ≡ at + k = omega (arith, place, is) in
            let inside : i < end - done = omega (arith, low, is) in
            let within : end ≤ length zs = omega (arith, c.min-end.ensures) in
            ap (λ n. get_or new n []) (sym there) ∙ c.transform_mcus.ensures.here i (search (rules, arith, inside, within)) ∙ unit_of_part h zs done end i first inside within ∙ ap (λ n. unit_of h zs n) is
      ];
    }
