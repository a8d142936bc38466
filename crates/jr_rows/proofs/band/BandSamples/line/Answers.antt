use Rattle.std.proofs.Common.{◌+◌, ◌*◌, ◌<◌, ◌∙◌, length, rules, arith}
use Rattle.std.proofs.lemmas.List.Edits.{get_or-between}
use Rattle.jr_rows.proofs.BandLines.{shown, within}
use Rattle.jr_rows.proofs.band.BandSamples.line.Goals as goal

pub overflow_add-result : goal.overflow_add-result
overflow_add-result c =
    let some : 0 < c.args.count = search (rules, arith) in
    let all = within (record { head = c.self.inside.head.now; groups = c.self.inside.lines.now.groups }) c.args.self.now c.self.view_is c.self.invariant.0 c.self.invariant.1 c.groups.result.now c.groups.ensures c.args.c c.args.y 0 c.args.count c.start-start.result c.requires.component c.start-start.ensures some (omega (arith, c.requires.columns)) in
    search (rules, arith, all)

pub slice_bounds-result-end-2 : goal.slice_bounds-result-end-2
slice_bounds-result-end-2 c =
    let some : 0 < c.args.count = search (rules, arith) in
    let all = within (record { head = c.self.inside.head.now; groups = c.self.inside.lines.now.groups }) c.args.self.now c.self.view_is c.self.invariant.0 c.self.invariant.1 c.groups.result.now c.groups.ensures c.args.c c.args.y 0 c.args.count c.start-start.result c.requires.component c.start-start.ensures some (omega (arith, c.requires.columns)) in
    search (rules, arith, all)

pub returns-clause-samples : goal.returns-clause-samples
returns-clause-samples c k lt =
    let some : 0 < c.args.count = search (rules, arith) in
    let start = c.start-start.result in
    let all = within (record { head = c.self.inside.head.now; groups = c.self.inside.lines.now.groups }) c.args.self.now c.self.view_is c.self.invariant.0 c.self.invariant.1 c.groups.result.now c.groups.ensures c.args.c c.args.y 0 c.args.count start c.requires.component c.start-start.ensures some (omega (arith, c.requires.columns)) in
    let inside : start + k < 8 * length c.groups.result.now = omega (arith, lt, all) in
    get_or-between c.samples_of.result.now start (start + c.args.count) k 0 (omega (arith, lt))
    ∙ c.samples_of.ensures.samples (start + k) inside
    ∙ shown (record { head = c.self.inside.head.now; groups = c.self.inside.lines.now.groups }) c.args.self.now c.self.view_is c.groups.result.now c.groups.ensures c.args.c k c.args.y (start + k) (omega (arith, c.start-start.ensures))
