use Rattle.std.proofs.Common.{◌≡◌, ◌∙◌, ◌<◌, ℕ, inl, inr, ap, subst, sym, length, take, rules, arith}
use Rattle.jr_head.specs.HeadValue.{HeadValue}
use Rattle.jr_head.specs.Geometry.{components_of}
use Rattle.jri_canvas.specs.Layouts.{HavePlaces, sample_count}
use Rattle.jri_memory.specs.Canvases.{HasForm, LaysScan}
use Rattle.jri_memory.proofs.Filled.{asked_few, asked_long, asked_space, filled, picture_shown, unwritten}
use Rattle.jri_memory.proofs.canvas.decode_on.Goals as goal

pub slice_bounds-lay_scan-end : goal.slice_bounds-lay_scan-end
slice_bounds-lay_scan-end c = asked_few (length c.args.marks.now) c.intervals-count.result c.asked_for-asked.result c.asked_for-asked.ensures.all c.asked_for-asked.ensures.none (c.lacks_space.ensures.space c.if-lacks_space.false)

pub slice_bounds-lay_scan-end-2 : goal.slice_bounds-lay_scan-end-2
slice_bounds-lay_scan-end-2 c = sym (asked_long c.args.marks.now c.intervals-count.result c.asked_for-asked.result c.asked_for-asked.ensures.all c.asked_for-asked.ensures.none (c.lacks_space.ensures.space c.if-lacks_space.false))

pub lay_scan-requires-clause-marks : goal.lay_scan-requires-clause-marks
lay_scan-requires-clause-marks c there =
    asked_space c.args.marks.now c.intervals-count.result c.asked_for-asked.result c.asked_for-asked.ensures.all c.asked_for-asked.ensures.none (c.lacks_space.ensures.space c.if-lacks_space.false) _ c.intervals-count.ensures.value there

pub lay_scan-requires-clause-places : goal.lay_scan-requires-clause-places
lay_scan-requires-clause-places c k from to =
    let height : c.height.result ≡ c.in_ok-scan.scan.head.height = c.height.ensures.value ∙ ap (λ (h : HeadValue). h.height) c.head-head.ensures.value in
    c.have_places.ensures.there c.if-not-have_places.false k from (omega (arith, to, height))

pub returns-clause-decoded : goal.returns-clause-decoded
returns-clause-decoded c =
    let scan = c.in_ok-scan.scan in
    let read = c.in_ok-scan.ensures.scan in
    let form = c.in-Some.form in
    let count = c.intervals-count.result in
    let asked = c.asked_for-asked.result in
    let marks = c.lay_scan.new.marks in
    let counts = c.in-Ok.counts in
    let laid : LaysScan scan form c.args.canvas.now c.lay_scan.new.canvas (take asked c.args.marks.now) marks counts = c.in-Ok.ensures.laid in
    let head = c.head-head.ensures.value in
    let wide : c.width.result ≡ scan.head.width = c.width.ensures.value ∙ ap (λ (h : HeadValue). h.width) head in
    let components = c.pixels_in.ensures.components ∙ ap components_of head in
    let is : HasForm c.width.result (sample_count c.pixels_in.result) c.args.shape.stride c.args.shape.layout form = c.in-Some.ensures.form in
    let space : length (take asked c.args.marks.now) ≡ asked = asked_long c.args.marks.now count asked c.asked_for-asked.ensures.all c.asked_for-asked.ensures.none (c.lacks_space.ensures.space c.if-lacks_space.false) in
    let of = c.of.ensures in
    record {
      read = read.read;
      is = read.is;
      here = record {
        scan = scan;
        each = laid.marks;
        f = laid.f;
        is = picture_shown read.read scan laid.marks laid.f read.here laid.shows;
        form = form;
        form_is = subst (λ (w : ℕ). HasForm w (components_of scan.head) c.args.shape.stride c.args.shape.layout form) wide (subst (λ (n : ℕ). HasForm c.width.result n c.args.shape.stride c.args.shape.layout form) components is);
        lie = laid.lie;
        marked = λ there.
            let all : asked ≡ count = c.asked_for-asked.ensures.all there in
            let some : 0 < length (take asked c.args.marks.now) = omega (arith, space, all, c.intervals-count.ensures.some) in
            let placed : length marks ≡ asked = search (rules, arith, space, c.lay_scan.auto.marks) in
            filled _ _ _ _ (laid.store some) placed;
        reported = record {
          intervals = search rules;
          counts = record { sound = of.sound ∙ laid.counted.sound; damaged = of.damaged ∙ laid.counted.damaged; blank = search (rules, arith, laid.counted.blank) };
          ended = search rules;
          no_fault = of.no_fault;
        };
      };
    }

pub returns-in_default-lay_scan-clause-marks : goal.returns-in_default-lay_scan-clause-marks
returns-in_default-lay_scan-clause-marks c =
    let same : c.lay_scan.new.marks ≡ take c.asked_for-asked.result c.args.marks.now = search rules in
    unwritten c.lay_scan.new.marks c.args.marks.now c.asked_for-asked.result same

pub returns-then-not-have_places-clause-space : goal.returns-then-not-have_places-clause-space
returns-then-not-have_places-clause-space c _ =
    let scan = c.in_ok-scan.scan in
    let form = c.in-Some.form in
    let head = c.head-head.ensures.value in
    let wide : c.width.result ≡ scan.head.width = c.width.ensures.value ∙ ap (λ (h : HeadValue). h.width) head in
    let components = c.pixels_in.ensures.components ∙ ap components_of head in
    let height : c.height.result ≡ scan.head.height = c.height.ensures.value ∙ ap (λ (h : HeadValue). h.height) head in
    let is : HasForm c.width.result (sample_count c.pixels_in.result) c.args.shape.stride c.args.shape.layout form = c.in-Some.ensures.form in
    record {
      head = scan.head;
      is = c.in_ok-scan.ensures.head;
      less = inl (record {
        form = form;
        is = subst (λ (w : ℕ). HasForm w (components_of scan.head) c.args.shape.stride c.args.shape.layout form) wide (subst (λ (n : ℕ). HasForm c.width.result n c.args.shape.stride c.args.shape.layout form) components is);
        less = subst (λ (n : ℕ). HavePlaces form 0 n (length c.args.canvas.now) → ⊥) height (c.have_places.ensures.not_there c.if-not-have_places.true);
      });
    }

pub returns-then-lacks_space-clause-space : goal.returns-then-lacks_space-clause-space
returns-then-lacks_space-clause-space c _ =
    let less = c.lacks_space.ensures.less c.if-lacks_space.true in
    record { head = c.in_ok-scan.scan.head; is = c.in_ok-scan.ensures.head; less = inr (less.0, omega (arith, less.1, c.intervals-count.ensures.count)) }
