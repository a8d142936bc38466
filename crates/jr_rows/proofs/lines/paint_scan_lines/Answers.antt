use Rattle.std.proofs.Common.{arith, subst, ap, ◌∙◌, ◌≡◌, ℕ, ◌+◌, ◌-◌, ◌*◌}
use Rattle.jr_head.specs.HeadValue.{HeadValue}
use Rattle.jr_head.specs.Geometry.{IsValid}
use Rattle.jr_paint.specs.Lines.{line_size}
use Rattle.jr_piece.proofs.EachOutcome.{outcome}
use Rattle.jr_rows.specs.Rows.{HasSampleSpace}
use Rattle.jr_rows.proofs.SomeLines.{painted_lines}
use Rattle.jr_rows.proofs.lines.paint_scan_lines.Goals as goal

between : (first count : ℕ) → count ≡ first + count - first
between first count = omega arith

pub returns-clause-painted : goal.returns-clause-painted
returns-clause-painted c =
    let t = c.args.scan.now in
    let valid = subst IsValid c.head.ensures.value c.head.ensures.valid in
    painted_lines outcome t valid c.args.first c.args.count c.paint_between-marked.new.pixels c.paint_between-marked.result c.paint_between-marked.ensures.lines c.paint_between-marked.ensures.counts

pub paint_between-marked-requires-clause-space : goal.paint_between-marked-requires-clause-space
paint_between-marked-requires-clause-space c = subst (λ (h : HeadValue). HasSampleSpace h c.in_ok-work.work) c.head.ensures.value c.in_ok-work.ensures

pub paint_between-marked-requires-clause-inside : goal.paint_between-marked-requires-clause-inside
paint_between-marked-requires-clause-inside c = c.requires.inside

pub paint_between-marked-requires-clause-pixels : goal.paint_between-marked-requires-clause-pixels
paint_between-marked-requires-clause-pixels c =
    let count : c.args.count ≡ c.args.first + c.args.count - c.args.first = between c.args.first c.args.count in
    c.requires.space ∙ ap (λ (n : ℕ). n * line_size c.args.scan.now.head) count
