use Rattle.std.proofs.Common.{◌≡◌, ◌<◌, ◌≤◌, ◌-◌, ◌*◌, ◌/◌, ℕ, List, length, sym, ap, subst, ◌∙◌, arith, rules}
use Rattle.jr_head.specs.Geometry.{order_of}
use Rattle.jr_scan.proofs.McuReaders.{run_few}
use Rattle.jr_piece.proofs.strip_reader.most_mcus.Goals as goal

pub returns-clause-enough : goal.returns-clause-enough
returns-clause-enough c = λ k zs to r few.
    let i = c.args.interval.now in
    let per : length c.order.result.now ≡ length (order_of i.head) = ap (λ (o : List ℕ). length o) (c.order.ensures.value ∙ ap order_of c.head.ensures.value) in
    let some : 0 < length (order_of i.head) = subst (λ (n : ℕ). 0 < n) per c.order.ensures.some in
    let bits : c.saturating_sub-bits.result ≡ 8 * length i.bytes - c.args.from.bit = c.saturating_sub-bits.ensures ∙ ap (λ (b : List ℕ). 8 * length b - c.args.from.bit) c.bytes.ensures.bytes in
    let coded : k ≤ c.saturating_sub-bits.result / (2 * length c.order.result.now) = subst (λ (n : ℕ). k ≤ c.saturating_sub-bits.result / (2 * n)) (sym per) (subst (λ (b : ℕ). k ≤ b / (2 * length (order_of i.head))) (sym bits) (run_few i c.args.from to k zs some r)) in
    search (rules, arith, coded, few)
