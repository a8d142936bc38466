use Rattle.std.proofs.Common.{◌≡◌, ◌∙◌, ◌<◌, ◌++◌, length, sym, take, drop, rules, arith}
use Rattle.jr_paint.specs.Text.{lines_of}
use Rattle.jr_rows.specs.Whole.{PaintsWhole}
use Rattle.jri_memory.specs.Calls.{over}
use Rattle.jri_memory.proofs.Filled.{asked_few, asked_long, asked_space, filled, picture_shown, unwritten}
use Rattle.jri_memory.proofs.decode.decode.Goals as goal

pub returns-clause-decoded : goal.returns-clause-decoded
returns-clause-decoded c =
    let scan = c.in_ok-scan.scan in
    let read = c.in_ok-scan.ensures.scan in
    let count = c.intervals-count.result in
    let asked = c.asked_for-asked.result in
    let pixels = c.paint_scan.new.pixels in
    let marks = c.paint_scan.new.marks in
    let counts = c.in-Ok.counts in
    let painted : PaintsWhole scan pixels (take asked c.args.marks.now) marks counts = search (rules, c.in-Ok.ensures.painted) in
    let long : length pixels ≡ c.bytes_of_picture-size.result = search (rules, arith, c.paint_scan.auto.pixels) in
    let lines : pixels ++ drop c.bytes_of_picture-size.result c.args.pixels.now ≡ over (lines_of scan.head painted.f scan.head.height) c.args.pixels.now = filled _ _ _ _ painted.lines long in
    let space : length (take asked c.args.marks.now) ≡ asked = asked_long c.args.marks.now count asked c.asked_for-asked.ensures.all c.asked_for-asked.ensures.none (c.lacks_space.ensures.space c.if-lacks_space.false) in
    let of = c.of.ensures in
    record {
      read = read.read;
      is = read.is;
      here = record {
        scan = scan;
        each = painted.marks;
        f = painted.f;
        is = picture_shown read.read scan painted.marks painted.f read.here painted.shows;
        painted = search (rules, lines);
        marked = λ there.
            let all : asked ≡ count = c.asked_for-asked.ensures.all there in
            let some : 0 < length (take asked c.args.marks.now) = omega (arith, space, all, c.intervals-count.ensures.some) in
            let placed : length marks ≡ asked = search (rules, arith, space, c.paint_scan.auto.marks) in
            filled _ _ _ _ (painted.store some) placed;
        reported = record {
          intervals = search rules;
          counts = record { sound = of.sound ∙ painted.counted.sound; damaged = of.damaged ∙ painted.counted.damaged; blank = search (rules, arith, painted.counted.blank) };
          ended = search rules;
          no_fault = of.no_fault;
        };
      };
    }

pub slice_bounds-paint_scan-end-3 : goal.slice_bounds-paint_scan-end-3
slice_bounds-paint_scan-end-3 c = asked_few (length c.args.marks.now) c.intervals-count.result c.asked_for-asked.result c.asked_for-asked.ensures.all c.asked_for-asked.ensures.none (c.lacks_space.ensures.space c.if-lacks_space.false)

pub slice_bounds-paint_scan-end-4 : goal.slice_bounds-paint_scan-end-4
slice_bounds-paint_scan-end-4 c = sym (asked_long c.args.marks.now c.intervals-count.result c.asked_for-asked.result c.asked_for-asked.ensures.all c.asked_for-asked.ensures.none (c.lacks_space.ensures.space c.if-lacks_space.false))

pub paint_scan-requires-clause-places : goal.paint_scan-requires-clause-places
paint_scan-requires-clause-places c there =
    asked_space c.args.marks.now c.intervals-count.result c.asked_for-asked.result c.asked_for-asked.ensures.all c.asked_for-asked.ensures.none (c.lacks_space.ensures.space c.if-lacks_space.false) _ c.intervals-count.ensures.value there

pub returns-in_default-clause-pixels : goal.returns-in_default-clause-pixels
returns-in_default-clause-pixels c =
    let same : c.paint_scan.new.pixels ≡ take c.bytes_of_picture-size.result c.args.pixels.now = search rules in
    unwritten c.paint_scan.new.pixels c.args.pixels.now c.bytes_of_picture-size.result same

pub returns-in_default-clause-marks : goal.returns-in_default-clause-marks
returns-in_default-clause-marks c =
    let same : c.paint_scan.new.marks ≡ take c.asked_for-asked.result c.args.marks.now = search rules in
    unwritten c.paint_scan.new.marks c.args.marks.now c.asked_for-asked.result same
