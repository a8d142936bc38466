use Rattle.std.proofs.Common.{sym, ◌∙◌}
use Rattle.std.proofs.lemmas.List.Folds.{list_any_at}
use Rattle.jr_head.specs.Scans.{has_wide, is_wide}
use Rattle.jr_head.proofs.ScanLaws.{none_more, none_all}
use Rattle.jr_head.proofs.scan.has_wide.Goals as goal

pub returns-then-is_wide : goal.returns-then-is_wide
unfolding has_wide
returns-then-is_wide c = λ qs cs t. sym (list_any_at (is_wide qs) c.args.scan_components.now c.loop-u.u-index _ c.loop-u-test.true (sym (c.is_wide.ensures qs cs t) ∙ c.if-is_wide.true))

pub loop-u-preserved : goal.loop-u-preserved
loop-u-preserved c = λ qs cs t. none_more (is_wide qs) c.args.scan_components.now c.loop-u.u-index _ c.loop-u-test.true (c.loop-u.invariant qs cs t) (sym (c.is_wide.ensures qs cs t) ∙ c.if-is_wide.false)

pub returns : goal.returns
unfolding has_wide
returns c = λ qs cs t. none_all (is_wide qs) c.args.scan_components.now c.loop-u.u-index c.loop-u-test.false (c.loop-u.invariant qs cs t)
