use Rattle.std.proofs.Common.{rules, arith}
use Rattle.jr_view.specs.PartialViews.{view_of}
use Rattle.jr_view.proofs.PartialViews.{keeps_more, not_empty}
use Rattle.jr_view.proofs.partial_view.show_all.Goals as goal

pub returns-in-Err-clause-kept : goal.returns-in-Err-clause-kept
returns-in-Err-clause-kept c =
    let a = c.args in
    let r = c.rows in
    let s = c.show_next.new in
    keeps_more (view_of a.partial_file.now a.pixels.now a.row.now) (view_of r.partial_file r.pixels r.row) (view_of s.partial_file s.pixels s.row) r.invariant.seen r.invariant.lines r.invariant.kept c.show_next.ensures.kept

pub returns-in-Err-clause-refusal : goal.returns-in-Err-clause-refusal
returns-in-Err-clause-refusal c other bytes seen = c.in-Err.ensures.refusal other bytes (c.rows.invariant.seen bytes seen).partial_file

pub returns-then-count-eq0-clause-kept : goal.returns-then-count-eq0-clause-kept
returns-then-count-eq0-clause-kept c =
    let a = c.args in
    let r = c.rows in
    let s = c.show_next.new in
    keeps_more (view_of a.partial_file.now a.pixels.now a.row.now) (view_of r.partial_file r.pixels r.row) (view_of s.partial_file s.pixels s.row) r.invariant.seen r.invariant.lines r.invariant.kept c.show_next.ensures.kept

pub returns-then-count-eq0-clause-settled : goal.returns-then-count-eq0-clause-settled
returns-then-count-eq0-clause-settled c bytes seen = c.in-Ok.ensures.settled c.if-count-eq0.true bytes (c.rows.invariant.seen bytes seen)

pub rows-preserved : goal.rows-preserved
rows-preserved c =
    let a = c.args in
    let r = c.rows in
    let s = c.show_next.new in
    record {
      some = not_empty r.pixels s.pixels c.show_next.auto.pixels r.invariant.some;
      seen = λ bytes seen. c.show_next.ensures.seen bytes (r.invariant.seen bytes seen);
      lines = omega (arith, r.invariant.lines, c.in-Ok.ensures.lines);
      kept = keeps_more (view_of a.partial_file.now a.pixels.now a.row.now) (view_of r.partial_file r.pixels r.row) (view_of s.partial_file s.pixels s.row) r.invariant.seen r.invariant.lines r.invariant.kept c.show_next.ensures.kept;
    }

pub returns-in-Err-clause-settled : goal.returns-in-Err-clause-settled
returns-in-Err-clause-settled c = search rules

pub returns-in-Err-clause-stays : goal.returns-in-Err-clause-stays
returns-in-Err-clause-stays c = search rules

pub returns-then-count-eq0-clause-refusal : goal.returns-then-count-eq0-clause-refusal
returns-then-count-eq0-clause-refusal c = search rules

pub returns-then-count-eq0-clause-stays : goal.returns-then-count-eq0-clause-stays
returns-then-count-eq0-clause-stays c = search rules
