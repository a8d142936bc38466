use Rattle.std.proofs.Common.{is_ok}
use Rattle.jri_mending.proofs.Makings.{makes_file, makes_more}
use Rattle.jri_mending.proofs.tree_making.make_file.Goals as goal

pub returns : goal.returns
returns g c =
    let steps = g.D.Devices.steps in
    let made = makes_file c.args.directory.now c.args.target.now (steps c.make_directories.new.devices) (steps c.write_part.new.devices) (is_ok c.write_part.result.outcome) c.requires c.write_part.ensures in
    makes_more c.args.directory.now (steps c.args.devices.now) (steps c.make_directories.new.devices) (steps c.write_part.new.devices) c.make_directories.ensures made
