use Rattle.jri_mending.proofs.Makings.{makes_more}
use Rattle.jri_mending.proofs.tree_making.make_directories.Goals as goal
use Rattle.jri_mending.proofs.tree_making.make_directories.Goals.{then-as_bytes-at-eq47+in-Some+in_ok-whole, else-as_bytes-at-eq47}

pub loop-at-preserved : goal.loop-at-preserved
loop-at-preserved g c =
    let steps = g.D.Devices.steps in
    let directory = c.args.directory.now in
    elim c.if-as_bytes-at-eq47.branch [
      | then-as_bytes-at-eq47+in-Some+in_ok-whole w ↦ rw w.devices-is (makes_more directory (steps c.args.devices.now) (steps c.loop-at.devices) (steps w.make_directory.new.devices) c.loop-at.invariant w.make_directory.ensures)
      | else-as_bytes-at-eq47 w ↦ rw w.devices-is c.loop-at.invariant
    ]
