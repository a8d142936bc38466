use Rattle.std.proofs.Common.{◌≡◌, ◌*◌, ◌++◌, ℕ, List, length, take, ap, sym, subst, ◌∙◌, rules, arith}
use Rattle.std.proofs.lemmas.List.{append-nil}
use Rattle.jr_head.specs.Geometry.{order_of}
use Rattle.jr_scan.specs.Run.{RunOf}
use Rattle.jr_scan.specs.McuReader.{HasRead, per_mcu}
use Rattle.jr_scan.proofs.interval.Interval.read_blocks.Goals as goal

pub returns-then-count-eq0-clause-read : goal.returns-then-count-eq0-clause-read
returns-then-count-eq0-clause-read c =
    let zs = c.mcus.blocks.items in
    let none : c.read-count.result * per_mcu c.mcus.reader ≡ 0 = ap (λ (k : ℕ). k * per_mcu c.mcus.reader) c.if-count-eq0.true ∙ omega arith in
    let read = c.read-count.ensures.read zs c.mcus.invariant.read in
    subst (HasRead c.read-count.new.self) (append-nil zs) (subst (λ (k : ℕ). HasRead c.read-count.new.self (zs ++ take k c.read-count.new.blocks)) none read)

pub mcus-preserved : goal.mcus-preserved
mcus-preserved c =
    let zs = c.mcus.blocks.items in
    let per : per_mcu c.mcus.reader ≡ length c.order-per_mcu.result.now = ap (λ (r : RunOf). length (order_of r.interval.head)) c.mcus.invariant.run ∙ ap (λ (o : List ℕ). length o) (sym (c.order-per_mcu.ensures.value ∙ ap order_of c.head.ensures.value)) in
    let read = c.read-count.ensures.read zs c.mcus.invariant.read in
    let here = subst (λ (k : ℕ). HasRead c.read-count.new.self (zs ++ take (c.read-count.result * k) c.read-count.new.blocks)) per read in
    let added : c.push_zigzag.new.blocks.items ≡ zs ++ take (c.read-count.result * length c.order-per_mcu.result.now) c.read-count.new.blocks = search (rules, c.in_ok-push_zigzag.ensures) in
    record {
      run = c.read-count.ensures.run ∙ c.mcus.invariant.run;
      space = search (rules, c.mcus.invariant.space);
      read = subst (HasRead c.read-count.new.self) (sym added) here;
    }
