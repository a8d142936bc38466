use Rattle.std.proofs.Common.{◌≡◌, ◌≤◌, ◌-◌, ◌*◌, ◌%◌, ℕ, Option, Some, inl, inr, sym, ap, subst, ◌∙◌, arith}
use Rattle.std.specs.Prelude.{IfSome}
use Rattle.jr_scan.specs.declared.place.Place.{Place}
use Rattle.jr_arrival.specs.declared.file_source.FileSource.{FileSource}
use Rattle.jr_arrival.specs.declared.window.Window.{Window}
use Rattle.jr_arrival.specs.FileSources.{NoneFollows, source_of}
use Rattle.jr_arrival.specs.Sources.{Walks}
use Rattle.jr_arrival.proofs.SourceSteps.{walks_on, walks_then}
use Rattle.jr_arrival.proofs.Standing.{moves_to}
use Rattle.jr_arrival.proofs.Steps.{window_left}
use Rattle.jr_arrival.proofs.file_source.FileSourceMcuSource.take_some.Goals as goal

pub returns-then-some-gt0-clause-walks : goal.returns-then-some-gt0-clause-walks
returns-then-some-gt0-clause-walks g c =
    let groups = g.K.McuSink.groups in
    walks_on c.args.head.now (source_of c.args.self.now) (source_of c.windows.self) (source_of c.take_near-some.new.self) g.K.McuSink.keeps c.args.done c.take_near-some.result (groups c.args.sink.now) (groups c.windows.sink) (groups c.take_near-some.new.sink) c.windows.invariant.walks c.take_near-some.ensures.walks

pub returns-in_default-slide-clause-walks : goal.returns-in_default-slide-clause-walks
returns-in_default-slide-clause-walks g c =
    let groups = g.K.McuSink.groups in
    let keeps = g.K.McuSink.keeps in
    let h = c.args.head.now in
    let s = c.args.self.now in
    let d = c.take_near-some.new.self in
    let n = c.take_near-some.result in
    let old = groups c.args.sink.now in
    let new = groups c.take_near-some.new.sink in
    let none : n ≡ 0 = omega (arith, c.if-some-gt0.false) in
    let walks = walks_on h (source_of s) (source_of c.windows.self) (source_of d) keeps c.args.done n old (groups c.windows.sink) new c.windows.invariant.walks c.take_near-some.ensures.walks in
    let kept = c.slide.ensures.kept c.in_default-slide.is in
    subst (λ (w : Window). Walks h (source_of s) (source_of (record { window = w; cursor = d.cursor; ended = d.ended })) keeps c.args.done 0 old new) (sym kept.0) (subst (λ (k : ℕ). Walks h (source_of s) (source_of d) keeps c.args.done k old new) none walks)

pub returns-in_default-slide-clause-none : goal.returns-in_default-slide-clause-none
returns-in_default-slide-clause-none g c stated =
    let h = c.args.head.now in
    let b = c.windows.self in
    let p = c.in-Some.place in
    let d = c.take_near-some.new.self in
    let near = c.take_near-some.ensures.none (omega (arith, c.if-some-gt0.false)) in
    let kept = c.slide.ensures.kept c.in_default-slide.is in
    let follows : NoneFollows h b p = record {
      none = near.1;
      far = elim kept.1 [
        | inl ends ↦ inl (sym (ap (λ (x : FileSource). x.window.ends) near.0) ∙ ends)
        | inr long ↦ inr (omega (arith, long, ap (λ (x : FileSource). x.window.found) near.0, ap (λ (x : FileSource). x.window.from) near.0, window_left h b p c.windows.invariant.walks.steps.at.window))
      ];
    } in
    let here : IfSome b.cursor.place (NoneFollows h b) = subst (λ (o : Option Place). IfSome o (NoneFollows h b)) (sym c.in-Some.is) follows in
    let there : IfSome d.cursor.place (NoneFollows h d) = subst (λ (x : FileSource). IfSome x.cursor.place (NoneFollows h x)) (sym near.0) here in
    subst (λ (w : Window). IfSome d.cursor.place (NoneFollows h (record { window = w; cursor = d.cursor; ended = d.ended }))) (sym kept.0) there

pub windows-preserved : goal.windows-preserved
windows-preserved g c =
    let groups = g.K.McuSink.groups in
    let keeps = g.K.McuSink.keeps in
    let h = c.args.head.now in
    let s = c.args.self.now in
    let p = c.in-Some.place in
    let q = c.at_bit.result in
    let e = c.take_near-some.ensures in
    let d = c.take_near-some.new.self in
    let n = c.take_near-some.result in
    let w = c.slide.new.self in
    let k = c.in-Some-slide.ensures in
    let old = groups c.args.sink.now in
    let new = groups c.take_near-some.new.sink in
    let none : n ≡ 0 = omega (arith, c.if-some-gt0.false) in
    let near = e.none none in
    let walks = walks_on h (source_of s) (source_of c.windows.self) (source_of d) keeps c.args.done n old (groups c.windows.sink) new c.windows.invariant.walks e.walks in
    let at : d.cursor.place ≡ Some p = ap (λ (x : FileSource). x.cursor.place) near.0 ∙ c.in-Some.is in
    let bit : q.bit ≡ p.bit % 8 = ap (λ (r : Place). r.bit) c.at_bit.ensures ∙ k.at.1 in
    let few : q.bit ≤ 8 * (w.found - w.from) = omega (arith, ap (λ (r : Place). r.bit) c.at_bit.ensures, k.at.2) in
    let steps = moves_to h d p q w e.walks.steps.at at k.window k.file k.at.0 bit (ap (λ (r : Place). r.predictions) c.at_bit.ensures) few in
    record {
      walks = walks_then h (source_of s) (source_of d) (source_of (record { window = w; cursor = record { number = d.cursor.number; mcu = d.cursor.mcu; place = Some q }; ended = d.ended })) keeps c.args.done n old new none walks steps;
      number = e.number ∙ c.windows.invariant.number;
      space = e.space;
    }
