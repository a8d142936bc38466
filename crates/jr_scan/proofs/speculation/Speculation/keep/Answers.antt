use Rattle.std.proofs.Common.{rules, ◌≡◌, ◌-◌, ◌*◌, ◌≤◌, ◌++◌, ◌∷◌, [], ℕ, ℤ, List, length, sym, ap, subst, ◌∙◌, arith}
use Rattle.jr_head.specs.Geometry.{order_of}
use Rattle.jr_scan.specs.declared.speculated.Speculated.{Speculated}
use Rattle.jr_scan.specs.Speculation.{SpeculationValue, IsSpeculationOf, TakesNext}
use Rattle.jr_scan.proofs.KeptMcus.{either, speculation_of, speculated, kept_more, last_few, last_after}
use Rattle.jr_scan.proofs.speculation.Speculation.keep.Goals as goal

pub overflow_sub-from : goal.overflow_sub-from
overflow_sub-from c =
    let few = last_few c.args.interval.now c.args.bits.now c.requires.bits in
    omega (arith, few, c.left.ensures, ap (λ (b : List ℕ). length b) c.bytes.ensures.bytes)

pub overflow_sub-to : goal.overflow_sub-to
overflow_sub-to c =
    let i = c.args.interval.now in
    let t = c.in_ok-predictions.ensures.taken in
    let few = last_few i c.take_mcu.new.bits (last_after i t.zs c.args.bits.now c.take_mcu.new.bits c.requires.bits t.taken) in
    omega (arith, few, c.left-2.ensures, ap (λ (b : List ℕ). length b) c.bytes.ensures.bytes)

pub returns-clause-bits : goal.returns-clause-bits
returns-clause-bits c =
    let t = c.in_ok-predictions.ensures.taken in
    last_after c.args.interval.now t.zs c.args.bits.now c.take_mcu.new.bits c.requires.bits t.taken

pub returns-clause-of : goal.returns-clause-of
returns-clause-of c =
    let i = c.args.interval.now in
    let number = c.self.inside.number in
    let mcus = c.self.inside.mcus.items in
    let blocks = c.self.inside.blocks.items in
    let old = c.args.bits.now in
    let left = c.take_mcu.new.bits in
    let ps = c.in_ok-predictions.predictions in
    let bytes = ap (λ (b : List ℕ). length b) c.bytes.ensures.bytes in
    let few : length (order_of i.head) ≤ 10 = omega (arith, c.order-few.ensures.few, ap (λ (o : List ℕ). length o) (c.order-few.ensures.value ∙ ap order_of c.head.ensures.value)) in
    let of = subst (IsSpeculationOf i) (sym c.self.view_is) c.in_ok-predictions.ensures.of in
    let t = subst (λ (v : SpeculationValue). TakesNext i v ps old left) (sym c.self.view_is) c.in_ok-predictions.ensures.taken in
    let mcu : Speculated = record { from = 8 * length c.bytes.result.now - c.left.result; to = record { bit = 8 * length c.bytes.result.now - c.left-2.result; predictions = ps } } in
    let next = speculated i mcu t.zs old left c.requires.bits (omega (arith, bytes, c.left.ensures)) (omega (arith, bytes, c.left-2.ensures)) few t.taken t.predicted_are in
    let more = kept_more i (speculation_of number mcus blocks) mcu ps old left of t next in
    let one = either (λ (ms : List Speculated). IsSpeculationOf i (speculation_of number ms blocks)) _ (mcus ++ mcu ∷ []) mcus more of in
    subst (λ (ms : List Speculated). IsSpeculationOf i (speculation_of number ms blocks)) (sym c.push.ensures.items) one
