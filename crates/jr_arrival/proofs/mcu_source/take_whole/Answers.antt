use Rattle.std.proofs.Common.{◌≡◌, ◌+◌, ◌-◌, ℕ, Option, Some, inl, inr, refl, sym, ap, subst, ◌∙◌, length, arith, rules}
use Rattle.jr_head.specs.Geometry.{IsValid}
use Rattle.jr_scan.specs.declared.place.Place.{Place}
use Rattle.jr_scan.specs.declared.place.RunEnd.TheVariants.{AllRead}
use Rattle.jr_scan.specs.Run.{HasNoMcu, IsRun, RunOf, run_from, CanReadFrom}
use Rattle.jr_scan.specs.declared.cursor.Cursor.{Cursor}
use Rattle.jr_scan.proofs.CursorRuns.{passed_place}
use Rattle.jr_arrival.specs.RowMcus.{TakesWhole}
use Rattle.jr_arrival.proofs.ReadOn.{nothing_read}
use Rattle.jr_arrival.proofs.mcu_source.take_whole.Goals as goal

abbrev cursor_at : (number mcu : ℕ) → Option Place → Cursor
cursor_at number mcu place = record { number = number; mcu = mcu; place = place }

-- a cursor that has moved past no MCU
unmoved : (k : Cursor) (mcu : ℕ) (place : Option Place) → mcu ≡ k.mcu → place ≡ k.place → cursor_at k.number mcu place ≡ k
unmoved k mcu place m p = ap (λ (x : ℕ). cursor_at k.number x place) m ∙ ap (cursor_at k.number k.mcu) p

pub overflow_add-cursor : goal.overflow_add-cursor
overflow_add-cursor g c =
    let taken = c.take-whole.ensures.taken c.at-reader.ensures.read in
    let own : c.take-whole.new.reader.run ≡ run_from c.args.interval c.args.place (c.mcus_in.result - c.args.cursor.now.mcu) = c.take-whole.ensures.run ∙ c.at-reader.ensures.run in
    search (rules, arith, taken.read.few, ap (λ (o : RunOf). o.mcus) own, c.at-reader.ensures.mcu, c.take-whole.ensures.mcu, c.mcus_in.ensures.value, c.requires.some)

pub take-whole-requires-clause-head : goal.take-whole-requires-clause-head
take-whole-requires-clause-head g c = ap (λ (o : RunOf). o.interval.head) c.at-reader.ensures.run ∙ c.requires.head

pub returns-clause-taken : goal.returns-clause-taken
returns-clause-taken g c =
    let h = c.args.head.now in
    let i = c.args.interval in
    let p = c.args.place in
    let k = c.args.cursor.now in
    let n = c.take-whole.result in
    let q = c.place-next.result in
    let r = c.at-reader in
    let u = c.take-whole.new.reader in
    let e = c.take-whole.ensures in
    let left = c.mcus_in.result - k.mcu in
    let taken = e.taken r.ensures.read in
    let own : u.run ≡ run_from i p left = e.run ∙ r.ensures.run in
    let most : u.run.mcus ≡ left = ap (λ (o : RunOf). o.mcus) own in
    let same = c.place-next.ensures.value in
    let run : IsRun (run_from i p n) taken.blocks q AllRead = subst (λ (x : Place). IsRun (run_from i p n) taken.blocks x AllRead) (sym same) (passed_place r.result u i i p left n taken.blocks refl r.ensures.run r.ensures.mcu e.run e.mcu taken.read) in
    let can : CanReadFrom i q = subst (λ (o : RunOf). CanReadFrom o.interval q) own (c.place-next.ensures.within, c.place-next.ensures.in_range) in
    let valid : IsValid i.head = subst (λ (o : RunOf). IsValid o.interval.head) own c.place-next.ensures.valid in
    let d : Cursor = record { number = k.number; mcu = k.mcu + n; place = Some q } in
    let whole : TakesWhole h i p g.K.McuSink.keeps c.args.done n k d (g.K.McuSink.groups c.args.sink.now) (g.K.McuSink.groups c.take-whole.new.self) = record {
      to = q;
      blocks = taken.blocks;
      cursor = refl;
      run = run;
      can = can;
      few = omega (arith, taken.read.few, most, r.ensures.mcu, e.mcu, c.mcus_in.ensures.value, c.requires.some);
      across = e.few;
      adds = taken.adds;
      none = λ z.
          let three : length p.predictions ≡ 3 = search rules in
          let back : q ≡ p = nothing_read i p q taken.blocks valid three (subst (λ (m : ℕ). IsRun (run_from i p m) taken.blocks q AllRead) z run) in
          let stuck : HasNoMcu i p = elim (e.none z) [
            | inl full ↦ absurd (omega (arith, full, most, e.mcu, r.ensures.mcu, z, c.mcus_in.ensures.value, c.requires.some))
            | inr last ↦ subst (HasNoMcu i) (sym same ∙ back) (subst (λ (o : RunOf). HasNoMcu o.interval u.place) own last)
          ] in
          (unmoved k (k.mcu + n) (Some q) (omega (arith, z)) (ap Some back ∙ sym c.requires.place), stuck);
      valid = subst IsValid c.requires.head valid;
      units = omega (arith, c.order-some.ensures.some, c.order-some.ensures.count);
    } in
    search (rules, whole)
