use Rattle.std.specs.String.{string_bytes}
use Rattle.jri_mending.proofs.Makings.{makes_more}
use Rattle.jri_mending.proofs.tree_running.mend_each.Goals as goal

pub returns-in_err-state-clause-made : goal.returns-in_err-state-clause-made
returns-in_err-state-clause-made g c =
    let steps = g.D.Devices.steps in
    makes_more (string_bytes c.args.request.now.directory) (steps c.args.devices.now) (steps c.loop.devices) (steps c.mend_name.new.devices) c.loop.invariant c.mend_name.ensures

pub returns-in_err-write_line-clause-made : goal.returns-in_err-write_line-clause-made
returns-in_err-write_line-clause-made g c =
    let steps = g.D.Devices.steps in
    makes_more (string_bytes c.args.request.now.directory) (steps c.args.devices.now) (steps c.loop.devices) (steps c.mend_name.new.devices) c.loop.invariant c.mend_name.ensures

pub loop-preserved : goal.loop-preserved
loop-preserved g c =
    let steps = g.D.Devices.steps in
    makes_more (string_bytes c.args.request.now.directory) (steps c.args.devices.now) (steps c.loop.devices) (steps c.mend_name.new.devices) c.loop.invariant c.mend_name.ensures
