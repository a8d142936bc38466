use Rattle.std.proofs.Common.{◌≡◌, ◌∙◌, ◌<◌, List, length, take, sym, rules, arith}
use Rattle.jr_picture.specs.declared.mark.Mark.{Mark}
use Rattle.jr_rows.proofs.StoredMarks.{are_marks}
use Rattle.jri_memory.specs.Checks.{AreStored}
use Rattle.jri_memory.proofs.Filled.{asked_few, asked_long, asked_space, filled}
use Rattle.jri_memory.proofs.check.check.Goals as goal

pub returns-clause-checked : goal.returns-clause-checked
returns-clause-checked c =
    let scan = c.in_ok-scan.scan in
    let read = c.in_ok-scan.ensures.scan in
    let count = c.intervals-count.result in
    let asked = c.asked_for-asked.result in
    let marks = c.mark_intervals-marked.new.marks in
    let marked = c.mark_intervals-marked.ensures.store in
    let ms : List Mark = marked.0 in
    let store : AreStored scan (length scan.intervals) c.mark_intervals-marked.result marks ms = search (rules, marked.1) in
    let space : length (take asked c.args.marks.now) ≡ asked = asked_long c.args.marks.now count asked c.asked_for-asked.ensures.all c.asked_for-asked.ensures.none (c.lacks_space.ensures.space c.if-lacks_space.false) in
    let of = c.of.ensures in
    let all : count ≡ length scan.intervals = search rules in
    record {
      read = read.read;
      is = read.is;
      here = record {
        scan = scan;
        each = ms;
        is = read.here;
        are = store.are;
        marked = λ there.
            let these : asked ≡ count = c.asked_for-asked.ensures.all there in
            let some : 0 < length (take asked c.args.marks.now) = omega (arith, space, these, c.intervals-count.ensures.some) in
            let placed : length marks ≡ asked = search (rules, arith, space, c.mark_intervals-marked.ensures.long) in
            let long : length marks ≡ length ms = placed ∙ these ∙ all ∙ sym store.are.long in
            let filling : 0 < length marks = omega (arith, these, placed, c.intervals-count.ensures.some) in
            filled _ _ _ _ (are_marks ms marks long (λ k lt. store.store filling k (omega (arith, lt, store.are.long)))) placed;
        reported = record {
          intervals = search rules;
          counts = record { sound = of.sound ∙ store.sound; damaged = of.damaged ∙ store.damaged; blank = search (rules, arith, of.sound, of.damaged, of.blank, store.all, store.are.long) };
          ended = search rules;
          no_fault = of.no_fault;
        };
      };
    }

pub slice_bounds-mark_intervals-end : goal.slice_bounds-mark_intervals-end
slice_bounds-mark_intervals-end c = asked_few (length c.args.marks.now) c.intervals-count.result c.asked_for-asked.result c.asked_for-asked.ensures.all c.asked_for-asked.ensures.none (c.lacks_space.ensures.space c.if-lacks_space.false)

pub slice_bounds-mark_intervals-end-2 : goal.slice_bounds-mark_intervals-end-2
slice_bounds-mark_intervals-end-2 c = sym (asked_long c.args.marks.now c.intervals-count.result c.asked_for-asked.result c.asked_for-asked.ensures.all c.asked_for-asked.ensures.none (c.lacks_space.ensures.space c.if-lacks_space.false))

pub mark_intervals-marked-requires : goal.mark_intervals-marked-requires
mark_intervals-marked-requires c =
    record { space = λ there. asked_space c.args.marks.now c.intervals-count.result c.asked_for-asked.result c.asked_for-asked.ensures.all c.asked_for-asked.ensures.none (c.lacks_space.ensures.space c.if-lacks_space.false) _ c.intervals-count.ensures.value there }
