use Rattle.jri_mending.proofs.Makings.{makes_directory_or_nothing}
use Rattle.jri_mending.proofs.tree_making.make_directory.Goals as goal

pub returns : goal.returns
returns g c = makes_directory_or_nothing c.args.directory.now c.args.name.now _ _ c.make_directory.result c.requires c.make_directory.ensures.made c.make_directory.ensures.failed
