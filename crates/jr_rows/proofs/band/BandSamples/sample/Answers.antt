use Rattle.std.proofs.Common.{◌+◌, ◌∙◌, rules, arith}
use Rattle.jr_rows.proofs.BandLines.{shown, within}
use Rattle.jr_rows.proofs.band.BandSamples.sample.Goals as goal

pub overflow_add-start : goal.overflow_add-start
overflow_add-start c =
    let all = within (record { head = c.self.inside.head.now; groups = c.self.inside.lines.now.groups }) c.args.self.now c.self.view_is c.self.invariant.0 c.self.invariant.1 c.groups-groups.result.now c.groups-groups.ensures c.args.c c.args.y c.args.x 1 c.start.result c.requires.component c.start.ensures (omega arith) (omega (arith, c.requires.column)) in
    search (rules, arith, all)

pub sample_at-requires : goal.sample_at-requires
sample_at-requires c =
    let all = within (record { head = c.self.inside.head.now; groups = c.self.inside.lines.now.groups }) c.args.self.now c.self.view_is c.self.invariant.0 c.self.invariant.1 c.groups-groups.result.now c.groups-groups.ensures c.args.c c.args.y c.args.x 1 c.start.result c.requires.component c.start.ensures (omega arith) (omega (arith, c.requires.column)) in
    search (rules, arith, all)

pub returns : goal.returns
returns c =
    c.sample_at.ensures ∙ shown (record { head = c.self.inside.head.now; groups = c.self.inside.lines.now.groups }) c.args.self.now c.self.view_is c.groups-groups.result.now c.groups-groups.ensures c.args.c c.args.x c.args.y (c.start.result + c.args.x) (omega (arith, c.start.ensures))
