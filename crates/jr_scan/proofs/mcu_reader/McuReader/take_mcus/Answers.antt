use Rattle.std.proofs.Common.{◌≡◌, ◌<◌, ◌≤◌, ◌+◌, ◌*◌, ◌-◌, ◌++◌, [], ℕ, ℤ, Bool, List, length, take, refl, ap, sym, subst, ◌∙◌, rules, arith}
use Rattle.std.proofs.Math.Nat.{mul-le-mul_right}
use Rattle.jr_head.specs.HeadValue.{HeadValue}
use Rattle.jr_head.specs.Geometry.{IsValid, order_of}
use Rattle.jr_mcu.specs.Mcus.{BeginsNoMcu, TakesMcu, predicted}
use Rattle.jr_scan.specs.declared.place.Place.{Place}
use Rattle.jr_scan.specs.declared.place.RunEnd.TheVariants.{AllRead}
use Rattle.jr_scan.specs.IntervalValue.{IntervalValue}
use Rattle.jr_scan.specs.Run.{RunOf, HasNoMcu, IsRun, run_from}
use Rattle.jr_scan.specs.McuReader.{McuReaderValue, per_mcu}
use Rattle.jr_scan.proofs.McuReaders.{next_mcu, no_run, value_of}
use Rattle.jr_scan.proofs.Runs.{component_low, runs_meet}
use Rattle.jr_scan.proofs.mcu_reader.McuReader.take_mcus.Goals as goal

pub loop-k-init : goal.loop-k-init
loop-k-init g c =
    let r = c.args.self.now in
    let three : length r.place.predictions ≡ 3 = ap (λ (x : McuReaderValue). length x.place.predictions) (sym c.self.view_is) ∙ c.self.invariant.three in
    let none : 0 * length c.order-per_mcu.result.now ≡ 0 = omega arith in
    record {
      lasts = c.self.invariant;
      run = ap (λ (x : McuReaderValue). x.run) c.self.view_is;
      mcu = omega (arith, ap (λ (x : McuReaderValue). x.mcu) c.self.view_is);
      space = refl;
      start = λ first. c.self.view_is;
      taken = (
        [],
        subst (λ (p : Place). IsRun (run_from r.run.interval r.place 0) [] p AllRead) (ap (λ (x : McuReaderValue). x.place) (sym c.self.view_is)) (no_run r.run.interval r.place three),
        λ keeps. ap (λ (n : ℕ). take n c.args.blocks.now) none,
      );
    }

pub loop-k-preserved : goal.loop-k-preserved
loop-k-preserved g c =
    let r = c.args.self.now in
    let keep = c.loop-k.invariant in
    let k = c.loop-k.k in
    let inside = c.loop-k.self-inside in
    let i = inside.interval in
    let ps = inside.predictions in
    let new = c.read_mcu.new in
    let t = c.in-Some.ensures.some in
    let before = keep.taken in
    let same : c.self.inside.interval ≡ i = ap (λ (o : RunOf). o.interval) (ap (λ (x : McuReaderValue). x.run) c.self.view_is ∙ sym keep.run) in
    let head : c.head-head.result.now ≡ i.head = c.head-head.ensures.value ∙ ap (λ (j : IntervalValue). j.head) same in
    let t0 : TakesMcu c.head-head.result.now ps t.0 inside.bits new.bits = search (rules, t.1) in
    let t1 = subst (λ (h : HeadValue). TakesMcu h ps t.0 inside.bits new.bits) head t0 in
    let last0 : new.predictions ≡ predicted c.head-head.result.now ps t.0 = search (rules, t.2) in
    let last = last0 ∙ ap (λ (h : HeadValue). predicted h ps t.0) head in
    let more : inside.mcu < inside.mcus = omega (arith, c.requires.few, keep.mcu, c.loop-k-test.true, ap (λ (o : RunOf). o.mcus) keep.run) in
    let next = next_mcu (value_of inside) inside.bits new.bits new.predictions t.0 keep.lasts more (omega arith) t1 last c.read_mcu.ensures.in_range in
    let q : Place = record { bit = 8 * length i.bytes - length new.bits; predictions = new.predictions } in
    let here = subst (λ (j : IntervalValue). IsRun (run_from j (value_of inside).place 1) t.0 q AllRead) (ap (λ (o : RunOf). o.interval) keep.run) next.1 in
    let valid = subst (λ (x : McuReaderValue). IsValid x.run.interval.head) c.self.view_is c.self.invariant.valid in
    let per = length c.order-per_mcu.result.now in
    let per_is : per ≡ length (order_of c.head-head.result.now) = ap (λ (o : List ℕ). length o) c.order-per_mcu.ensures.value in
    let size : (k + 1) * per ≡ k * per + length (order_of c.head-head.result.now) = omega (arith, per_is) in
    record {
      lasts = next.0;
      run = keep.run;
      mcu = omega (arith, keep.mcu);
      space = search (rules, keep.space);
      start = λ first. absurd (omega (arith, first));
      taken = (
        before.0 ++ t.0,
        runs_meet r.run.interval r.place (value_of inside).place q k 1 before.0 t.0 AllRead (component_low r.run.interval.head valid) before.1 here,
        λ keeps. ap (λ (n : ℕ). take n new.blocks) size ∙ t.3 keeps ∙ ap (λ (zs : List (List ℤ)). zs ++ t.0) (before.2 keeps),
      );
    }

pub returns-in_default-clause-ended : goal.returns-in_default-clause-ended
returns-in_default-clause-ended g c = λ less.
    let keep = c.loop-k.invariant in
    let inside = c.loop-k.self-inside in
    let i = inside.interval in
    let ps = inside.predictions in
    let same : c.self.inside.interval ≡ i = ap (λ (o : RunOf). o.interval) (ap (λ (x : McuReaderValue). x.run) c.self.view_is ∙ sym keep.run) in
    let head : c.head-head.result.now ≡ i.head = c.head-head.ensures.value ∙ ap (λ (j : IntervalValue). j.head) same in
    let n0 : BeginsNoMcu c.head-head.result.now ps inside.bits = search (rules, c.in_default.ensures.none) in
    let n1 = subst (λ (h : HeadValue). BeginsNoMcu h ps inside.bits) head n0 in
    let n2 : HasNoMcu i (record { bit = 8 * length i.bytes - length inside.bits; predictions = ps }) = subst (λ (b : List Bool). BeginsNoMcu i.head ps b) keep.lasts.bits n1 in
    let kept = c.in_default.ensures.kept in
    let n3 = subst (λ (b : List Bool). HasNoMcu i (record { bit = 8 * length i.bytes - length b; predictions = ps })) (sym kept.0) n2 in
    subst (λ (qs : List ℤ). HasNoMcu i (record { bit = 8 * length i.bytes - length c.read_mcu.new.bits; predictions = qs })) (sym kept.1) n3

pub read_mcu-requires-clause-space : goal.read_mcu-requires-clause-space
read_mcu-requires-clause-space g c = λ keeps.
    let r = c.args.self.now in
    let k = c.loop-k.k in
    let per = length c.order-per_mcu.result.now in
    let per_is : per ≡ length (order_of c.head-head.result.now) = ap (λ (o : List ℕ). length o) c.order-per_mcu.ensures.value in
    let same : per ≡ per_mcu r = per_is ∙ ap (λ (h : HeadValue). length (order_of h)) c.head-head.ensures.value ∙ ap (λ (x : McuReaderValue). per_mcu x) c.self.view_is in
    let space = subst (λ (n : ℕ). c.args.most * n ≤ length c.args.blocks.now) (sym same) (c.requires.space keeps) in
    let next : (k + 1) * per ≤ c.args.most * per = mul-le-mul_right {m = k + 1} {n = c.args.most} per (omega (arith, c.loop-k-test.true)) in
    let one : (k + 1) * per ≡ k * per + per = omega arith in
    omega (arith, space, next, one, per_is, c.loop-k.invariant.space)
