use Rattle.std.proofs.Common.{rules, ◌≡◌, ◌<◌, ◌≤◌, ◌+◌, ◌*◌, ℕ, ◌-◌, List, length, take, drop, length-drop, refl, sym, ap, subst, ◌∙◌, arith}
use Rattle.std.specs.Prelude.{ℤ}
use Rattle.std.proofs.lemmas.List.{length-take-le}
use Rattle.std.proofs.lemmas.Slice.{take-put_mid_below}
use Rattle.std.proofs.Math.Nat.{mul-le-mul_right}
use Rattle.jr_head.specs.Geometry.{IsValid, order_of}
use Rattle.jr_head.specs.HeadValue.{HeadValue}
use Rattle.jr_scan.specs.declared.place.RunEnd.TheVariants.{AllRead}
use Rattle.jr_scan.specs.Run.{IsRun, run_from}
use Rattle.jr_scan.proofs.McuReaders.{more_held, no_run}
use Rattle.jr_scan.proofs.taking_over.store_mcus.Goals as goal

pub loop-k-init : goal.loop-k-init
loop-k-init c =
    let i = c.args.interval.now in
    let p = c.args.place.now in
    let three : length p.predictions ≡ 3 = search rules in
    let none : 0 ≡ 0 * length c.order-per_mcu.result.now = omega arith in
    record {
      space = refl;
      run = subst (λ (n : ℕ). IsRun (run_from i p 0) (take n c.args.blocks.now) p AllRead) none (no_run i p three);
      within = c.requires.within;
      in_range = c.requires.in_range;
    }

pub loop-k-preserved : goal.loop-k-preserved
loop-k-preserved c =
    let i = c.args.interval.now in
    let k = c.loop-k.k in
    let per = length c.order-per_mcu.result.now in
    let valid = subst IsValid c.head.ensures.value c.head.ensures.valid in
    let space : k * per + per ≤ length c.loop-k.blocks = search rules in
    let long : length c.store.new.blocks ≡ per = search rules in
    let more = more_held i c.args.place.now c.loop-k.place c.in-Some.to k per c.loop-k.blocks c.store.new.blocks valid space long c.loop-k.invariant.run c.in-Some.ensures.some in
    record {
      space = search (rules, c.loop-k.invariant.space);
      run = search (rules, more);
      within = c.in-Some.ensures.within;
      in_range = c.in-Some.ensures.in_range;
    }

pub returns-in_default-clause-run : goal.returns-in_default-clause-run
returns-in_default-clause-run c =
    let i = c.args.interval.now in
    let k = c.loop-k.k in
    let per = length c.order-per_mcu.result.now in
    let same : per ≡ length (order_of i.head) = ap (λ (o : List ℕ). length o) (c.order-per_mcu.ensures.value ∙ ap order_of c.head.ensures.value) in
    let first : k * length (order_of i.head) ≡ k * per = ap (λ (n : ℕ). k * n) (sym same) in
    let space : k * per + per ≤ length c.loop-k.blocks = search rules in
    let kept = take-put_mid_below (k * per) (k * per + per - k * per) c.loop-k.blocks c.store.new.blocks (k * length (order_of i.head)) (omega (arith, first)) (omega (arith, space)) in
    let run = subst (λ (n : ℕ). IsRun (run_from i c.args.place.now k) (take n c.loop-k.blocks) c.loop-k.place AllRead) (sym first) c.loop-k.invariant.run in
    subst (λ (bs : List (List ℤ)). IsRun (run_from i c.args.place.now k) bs c.loop-k.place AllRead) (sym kept) run

-- an MCU before the last one lies within the space for all
fits : (h : HeadValue) (order : List ℕ) (k most size old : ℕ) → order ≡ order_of h → k < most → most * length (order_of h) ≤ old → size ≡ old → k * length order + length order ≤ size
fits h order k most size old same lt space long =
    let le : (k + 1) * length (order_of h) ≤ most * length (order_of h) = mul-le-mul_right {m = k + 1} {n = most} (length (order_of h)) (omega (arith, lt)) in
    rw same (omega (arith, le, space, long))

pub overflow_mul-start : goal.overflow_mul-start
overflow_mul-start c = omega (arith, fits c.args.interval.now.head _ _ _ _ _ (c.order-per_mcu.ensures.value ∙ ap order_of c.head.ensures.value) c.loop-k-test.true c.requires.space c.loop-k.invariant.space)

pub overflow_add-end : goal.overflow_add-end
overflow_add-end c = omega (arith, fits c.args.interval.now.head _ _ _ _ _ (c.order-per_mcu.ensures.value ∙ ap order_of c.head.ensures.value) c.loop-k-test.true c.requires.space c.loop-k.invariant.space)

pub offset_bounds-blocks-start : goal.offset_bounds-blocks-start
offset_bounds-blocks-start c = omega (arith, fits c.args.interval.now.head _ _ _ _ _ (c.order-per_mcu.ensures.value ∙ ap order_of c.head.ensures.value) c.loop-k-test.true c.requires.space c.loop-k.invariant.space)

pub slice_bounds-store-end : goal.slice_bounds-store-end
slice_bounds-store-end c = fits c.args.interval.now.head _ _ _ _ _ (c.order-per_mcu.ensures.value ∙ ap order_of c.head.ensures.value) c.loop-k-test.true c.requires.space c.loop-k.invariant.space

pub store-requires-clause-space : goal.store-requires-clause-space
store-requires-clause-space c =
    let same : c.order-per_mcu.result.now ≡ order_of c.args.interval.now.head = c.order-per_mcu.ensures.value ∙ ap order_of c.head.ensures.value in
    let per = length c.order-per_mcu.result.now in
    let at = c.loop-k.k * per in
    let space = fits c.args.interval.now.head _ _ _ _ _ same c.loop-k-test.true c.requires.space c.loop-k.invariant.space in
    length-take-le (at + per - at) (drop at c.loop-k.blocks) (omega (arith, space, length-drop at c.loop-k.blocks)) ∙ omega (arith, ap length same)

pub returns-clause-run : goal.returns-clause-run
returns-clause-run c =
    let i = c.args.interval.now in
    let same : c.order-per_mcu.result.now ≡ order_of i.head = c.order-per_mcu.ensures.value ∙ ap order_of c.head.ensures.value in
    let all : c.loop-k.k ≡ c.args.most = omega arith in
    rw all at (subst (λ (o : List ℕ). IsRun (run_from i c.args.place.now c.loop-k.k) (take (c.loop-k.k * length o) c.loop-k.blocks) c.loop-k.place AllRead) same c.loop-k.invariant.run)
