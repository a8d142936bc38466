use Rattle.std.proofs.Common.{rules}
use Rattle.std.proofs.lemmas.Option.{unwrap_or-slice_get}
use Rattle.jr_piece.specs.Units.{grey_unit}
use Rattle.jr_view.specs.Views.{units_shown}
use Rattle.jr_view.proofs.shown.Shown.unit.Goals as goal

pub returns-in-None : goal.returns-in-None
returns-in-None c =
    let read = unwrap_or-slice_get (units_shown c.args.self.now) c.args.k grey_unit in
    search (rules, read)
