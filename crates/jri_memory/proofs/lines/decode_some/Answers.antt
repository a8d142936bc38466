use Rattle.std.proofs.Common.{◌≡◌, ◌*◌, length, subst, take, rules, arith}
use Rattle.jr_head.specs.HeadValue.{HeadValue}
use Rattle.jr_rows.specs.SomeLines.{PaintsLines}
use Rattle.jri_memory.specs.Calls.{HasTheseLines}
use Rattle.jri_memory.proofs.Filled.{filled, picture_shown, unwritten}
use Rattle.jri_memory.proofs.lines.decode_some.Goals as goal

pub returns-clause-decoded : goal.returns-clause-decoded
returns-clause-decoded c =
    let scan = c.in_ok-scan.scan in
    let read = c.in_ok-scan.ensures.scan in
    let m = c.in-Ok.marked in
    let shown : PaintsLines scan c.args.first c.args.count c.paint_scan_lines.new.pixels m = search (rules, c.in-Ok.ensures.painted) in
    let long : length c.paint_scan_lines.new.pixels ≡ c.args.count * c.bytes_of_line.result = search (rules, arith, c.paint_scan_lines.auto.pixels) in
    record {
      read = read.read;
      is = read.is;
      here = record {
        scan = scan;
        each = shown.marks;
        f = shown.f;
        is = picture_shown read.read scan shown.marks shown.f read.here shown.shows;
        there = subst (λ (h : HeadValue). HasTheseLines h c.args.first c.args.count) c.head-head.ensures.value (c.has_lines.ensures.there c.if-not-has_lines.false);
        painted = filled _ _ _ _ shown.lines long;
        counted = search (rules, shown.counted);
        blank = search rules;
        intervals = search rules;
        ended = search rules;
        no_fault = c.of.ensures.no_fault;
      };
    }

pub returns-in_default-clause-pixels : goal.returns-in_default-clause-pixels
returns-in_default-clause-pixels c =
    let size = c.args.count * c.bytes_of_line.result in
    let same : c.paint_scan_lines.new.pixels ≡ take size c.args.pixels.now = search rules in
    unwritten c.paint_scan_lines.new.pixels c.args.pixels.now size same
