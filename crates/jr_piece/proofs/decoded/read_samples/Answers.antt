use Rattle.std.proofs.Common.{◌≡◌, ◌≢◌, ◌≤◌, Result, Ok, Err, OnOk, ◌+◌, ◌*◌, ◌++◌, ℕ, List, [], length, get_or, take, replicate, refl, sym, ap, subst, ◌∙◌, arith, rules}
use Rattle.std.proofs.Math.Nat.{le-mul_of_pos_right, zero-mul}
use Rattle.std.proofs.lemmas.List.{append-nil, get_or_append_left, length-take}
use Rattle.jr_head.specs.HeadValue.{HeadValue}
use Rattle.jr_head.specs.Geometry.{blocks_of, order_of}
use Rattle.jr_scan.specs.IntervalValue.{IntervalValue}
use Rattle.jr_scan.specs.Run.{RunOf}
use Rattle.jr_scan.specs.McuReader.{HasRead, per_mcu}
use Rattle.jr_piece.specs.Outcome.{AreSamples, unit_of}
use Rattle.jr_piece.proofs.Strips.{placed}
use Rattle.jr_piece.proofs.decoded.read_samples.Goals as goal

pub returns-then-count-eq0-clause-read : goal.returns-then-count-eq0-clause-read
returns-then-count-eq0-clause-read c =
    let before = c.mcus.invariant.read in
    let zs = before.0 in
    let order : length c.order-per_mcu.result.now ≡ per_mcu c.mcus.reader = ap (λ (o : List ℕ). length o) (c.order-per_mcu.ensures.value ∙ ap order_of (c.head-head.ensures.value ∙ ap (λ (v : IntervalValue). v.head) c.interval.ensures)) ∙ sym (ap (λ (r : RunOf). length (order_of r.interval.head)) c.mcus.invariant.run) in
    let none : c.read_by.result * per_mcu c.mcus.reader ≡ 0 = ap (λ (k : ℕ). c.read_by.result * k) (sym order) ∙ c.if-count-eq0.true in
    let read = c.read_by.ensures.read zs before.1 in
    (zs, subst (HasRead c.read_by.new.self) (append-nil zs) (subst (λ (k : ℕ). HasRead c.read_by.new.self (zs ++ take k c.read_by.new.blocks)) none read), subst (λ (o : RunOf). AreSamples o.interval.head zs c.mcus.samples.items) (sym (c.read_by.ensures.run ∙ c.mcus.invariant.run)) before.2)

pub transform_blocks-requires-clause-inside : goal.transform_blocks-requires-clause-inside
transform_blocks-requires-clause-inside c =
    let h = c.args.reader.now.run.interval.head in
    let before = c.mcus.invariant.read in
    let per = length c.order-per_mcu.result.now in
    let order : per ≡ length (order_of h) = ap (λ (o : List ℕ). length o) (c.order-per_mcu.ensures.value ∙ ap order_of (c.head-head.ensures.value ∙ ap (λ (v : IntervalValue). v.head) c.interval.ensures)) in
    let whole : length before.0 ≡ c.mcus.reader.mcu * length (order_of h) = before.1.run.mcus.0 ∙ ap (λ (k : ℕ). k * per_mcu c.mcus.reader) before.1.run.ends ∙ ap (λ (r : RunOf). c.mcus.reader.mcu * length (order_of r.interval.head)) c.mcus.invariant.run in
    let place : c.mcus-first.result * blocks_of c.head-head.result.now ≡ c.mcus.reader.mcu * length (order_of h) = ap (λ n. n * blocks_of c.head-head.result.now) c.mcus-first.ensures.value ∙ ap (λ n. c.mcus.reader.mcu * n) (sym c.order-per_mcu.ensures.count ∙ order) in
    let longer : length c.extend_from_slice.new.self.items ≡ length c.mcus.samples.items + c.read_by.result * per = search (rules, arith) in
    omega (arith, place, whole, before.2.count, longer, length-take (c.read_by.result * per) c.read_by.new.blocks)

pub mcus-preserved : goal.mcus-preserved
mcus-preserved c =
    let h = c.args.reader.now.run.interval.head in
    let hd = c.head-head.result.now in
    let before = c.mcus.invariant.read in
    let zs = before.0 in
    let per = length c.order-per_mcu.result.now in
    let order : per ≡ per_mcu c.mcus.reader = ap (λ (o : List ℕ). length o) (c.order-per_mcu.ensures.value ∙ ap order_of (c.head-head.ensures.value ∙ ap (λ (v : IntervalValue). v.head) c.interval.ensures)) ∙ sym (ap (λ (r : RunOf). length (order_of r.interval.head)) c.mcus.invariant.run) in
    let own : per ≡ length (order_of h) = ap (λ (o : List ℕ). length o) (c.order-per_mcu.ensures.value ∙ ap order_of (c.head-head.ensures.value ∙ ap (λ (v : IntervalValue). v.head) c.interval.ensures)) in
    let ys = take (c.read_by.result * per) c.read_by.new.blocks in
    let read0 = c.read_by.ensures.read zs before.1 in
    let read : HasRead c.read_by.new.self (zs ++ ys) = subst (λ (k : ℕ). HasRead c.read_by.new.self (zs ++ take (c.read_by.result * k) c.read_by.new.blocks)) (sym order) read0 in
    let whole : length zs ≡ c.mcus.reader.mcu * length (order_of h) = before.1.run.mcus.0 ∙ ap (λ (k : ℕ). k * per_mcu c.mcus.reader) before.1.run.ends ∙ ap (λ (r : RunOf). c.mcus.reader.mcu * length (order_of r.interval.head)) c.mcus.invariant.run in
    let place : c.mcus-first.result * blocks_of hd ≡ length zs = ap (λ n. n * blocks_of hd) c.mcus-first.ensures.value ∙ ap (λ n. c.mcus.reader.mcu * n) (sym c.order-per_mcu.ensures.count ∙ own) ∙ sym whole in
    let longer : length c.extend_from_slice.new.self.items ≡ length c.mcus.samples.items + c.read_by.result * per = search (rules, arith) in
    let cut : length ys ≡ c.read_by.result * per = search (rules, arith) in
    let added : c.extend_from_slice.new.self.items ≡ c.mcus.samples.items ++ take (c.read_by.result * per) (replicate 64 (replicate 64 0)) = search (rules, c.in_ok-extend_from_slice.ensures.items) in
    let new = c.transform_blocks.new.units.items in
    let all = placed h zs ys c.mcus.samples.items new c.mcus.reader.mcu whole before.2 (omega (arith, c.transform_blocks.ensures.count, longer, cut, before.2.count))
    (λ n lt. c.transform_blocks.ensures.kept n (omega (arith, lt, place)) ∙ ap (λ l. get_or l n []) added ∙ get_or_append_left c.mcus.samples.items _ [] n (omega (arith, lt, before.2.count)))
    (λ n lt. ap (λ k. get_or new (k + n) []) (sym place) ∙ c.transform_blocks.ensures.here n lt ∙ ap (λ (x : HeadValue). unit_of x ys n) (c.head-head.ensures.value ∙ ap (λ (v : IntervalValue). v.head) c.interval.ensures)) in
    record {
      run = c.read_by.ensures.run ∙ c.mcus.invariant.run;
      space = search (rules, c.mcus.invariant.space);
      empty = refl;
      read = (zs ++ ys, read, all);
    }

on_ok : {T E P : Type 0} (r : Result T E) → P → OnOk r P
on_ok (Ok x) p = p
on_ok (Err e) p = tt

pub returns-in_err-extend_from_slice-clause-run : goal.returns-in_err-extend_from_slice-clause-run
returns-in_err-extend_from_slice-clause-run c = on_ok c.from_residual-in_err-extend_from_slice.result (c.read_by.ensures.run ∙ c.mcus.invariant.run)

pub returns-then-count-eq0-clause-ended : goal.returns-then-count-eq0-clause-ended
returns-then-count-eq0-clause-ended c =
    let few : c.read_by.result ≤ c.read_by.result * length c.order-per_mcu.result.now = le-mul_of_pos_right c.read_by.result c.order-per_mcu.ensures.some in
    c.read_by.ensures.none (omega (arith, c.read_by.auto.blocks, c.mcus.invariant.space)) (omega (arith, few, c.if-count-eq0.true))

pub mcus-smaller : goal.mcus-smaller
mcus-smaller c =
    let some : c.read_by.result ≢ 0 = λ z. c.if-count-eq0.false (ap (λ (k : ℕ). k * length c.order-per_mcu.result.now) z ∙ zero-mul (length c.order-per_mcu.result.now)) in
    omega (arith, some, c.read_by.ensures.few, c.read_by.ensures.mcus, ap (λ (r : RunOf). r.mcus) c.read_by.ensures.run)
