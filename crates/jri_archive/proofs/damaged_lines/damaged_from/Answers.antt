use Rattle.std.proofs.Common.{arith, rules, ap, subst, ◌∙◌, ◌<◌, length}
use Rattle.jr_head.specs.HeadValue.{HeadValue}
use Rattle.jr_scan.specs.IntervalValue.{IntervalValue}
use Rattle.jr_scan.specs.Mcus.{HasDecoding, HasNoDecoding, HasLongestFront}
use Rattle.jr_scan.specs.ScanValue.{interval_of}
use Rattle.jr_damage.specs.Lines.{AreLinesOf}
use Rattle.jri_archive.specs.DamagedLines.{top_of, undecoded_mcu}
use Rattle.jri_archive.proofs.Undecoded.{above_is_undamaged, none_more, sound_is_undamaged}
use Rattle.jri_archive.proofs.damaged_lines.damaged_from.Goals.{else-lines_of-lines-via-else-lines_of-lines, else-lines_of-lines-via-then-lines_of-lines+in-None-1}
use Rattle.jri_archive.proofs.damaged_lines.damaged_from.Goals as goal

pub returns-in-loop-i : goal.returns-in-loop-i
returns-in-loop-i c =
    let s = c.args.scan.now in
    let below : c.loop-i.i < length s.intervals = search rules in
    record {
      interval = c.loop-i.i;
      below = below;
      damaged = subst (λ (v : IntervalValue). HasNoDecoding v) c.interval_ref.ensures c.in-Some.ensures.damaged;
      first = c.loop-i.invariant;
      longest = c.in-Some.longest;
      front = subst (λ (v : IntervalValue). HasLongestFront v c.in-Some.longest) c.interval_ref.ensures c.in-Some.ensures.front;
      top = c.undecoded_top.ensures ∙ ap (λ (h : HeadValue). top_of h (undecoded_mcu h c.loop-i.i c.in-Some.longest)) c.head-in-loop-i.ensures.value;
    }

pub loop-i-preserved : goal.loop-i-preserved
loop-i-preserved c =
    let s = c.args.scan.now in
    let below : c.loop-i.i < length s.intervals = search rules in
    let lines : AreLinesOf s.head c.loop-i.i c.lines_of.result = subst (λ (h : HeadValue). AreLinesOf h c.loop-i.i c.lines_of.result) c.head.ensures.value c.lines_of.ensures.lines in
    elim c.else-lines_of-lines.branch [
      | else-lines_of-lines-via-else-lines_of-lines w ↦ (
          let above : c.lines_of.result.last < c.args.lines.first = search (rules, w.if-lines_of-lines.false) in
          none_more s c.loop-i.i c.loop-i.invariant (above_is_undamaged s c.loop-i.i c.lines_of.result c.args.lines below lines c.requires above))
      | else-lines_of-lines-via-then-lines_of-lines+in-None-1 w ↦ (
          let sound : HasDecoding (interval_of s c.loop-i.i) = search (rules, w.damaged_front.ensures.sound, w.interval_ref.ensures) in
          none_more s c.loop-i.i c.loop-i.invariant (sound_is_undamaged s c.loop-i.i sound))
    ]

pub returns : goal.returns
returns c =
    let h = c.requires.first in
    let within : h.interval < c.loop-i.i = omega (arith, h.below, c.loop-i-test.false, c.loop-i.auto.i-end, c.intervals-i-end.ensures.value) in
    absurd (c.loop-i.invariant h.interval within h.damaged)
