use Rattle.std.proofs.Common.{◌≡◌, ◌≤◌, ◌*◌, ℕ, List, length, drop, ap, ◌∙◌, arith, rules}
use Rattle.jr_code.specs.Bits.{bits}
use Rattle.jr_scan.proofs.KeptMcus.{last_few, last_from}
use Rattle.jr_scan.proofs.speculation.Speculation.read_from.Goals as goal

pub overflow_sub-next : goal.overflow_sub-next
overflow_sub-next c =
    let few = last_few c.args.interval.now c.loop.left c.loop.invariant.bits in
    let bytes = ap (λ (b : List ℕ). length b) c.bytes-bytes.ensures.bytes in
    search (rules, arith, few, bytes)

pub loop-init : goal.loop-init
loop-init c =
    let i = c.args.interval.now in
    let same : c.bytes-bytes.result.now ≡ i.bytes = c.bytes-bytes.ensures.bytes in
    let is : c.bits_from-left.result ≡ drop c.args.from (bits i.bytes) = c.bits_from-left.ensures ∙ ap (λ (b : List ℕ). drop c.args.from (bits b)) same in
    let within : c.args.from ≤ 8 * length i.bytes = search (rules, arith, ap (λ (b : List ℕ). length b) same, c.if-from-all.false) in
    record { of = c.requires; bits = last_from i c.args.from c.bits_from-left.result within is }
