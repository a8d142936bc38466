use Rattle.std.proofs.Common.{rules}
use Rattle.jr_paint.proofs.Nearness.{colours_are_near}
use Rattle.jr_paint.proofs.colours.colours_are_near.Goals as goal

pub returns : goal.returns
returns c y cb cr hb hr = search (rules, colours_are_near y cb cr hb hr)
