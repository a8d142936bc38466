use Rattle.std.proofs.Common.{rules, ◌≡◌, ◌≢◌, ◌⊎◌, inl, inr, ◌*◌}
use Rattle.std.specs.Arc.{arc_value}
use Rattle.jr_cells.specs.StripSights.{KnowsNoStrip}
use Rattle.jr_cells.proofs.StripSeen.{seen, of_cells, knows_all, known_strip, missed_strip, strange_strip}
use Rattle.jr_cells.proofs.strip_cells.StripCells.look.Goals as goal
use Rattle.jr_cells.proofs.strip_cells.StripCells.look.Goals.{then-number-self-via-then-number-self, then-number-self-via-else-number-self+then-first-place}

pub returns-in_err-get_cell-clause-none : goal.returns-in_err-get_cell-clause-none
returns-in_err-get_cell-clause-none c =
    let missed : (seen c.sight.inside.number c.sight.inside.each c.get_cell.new.notes.items ≡ c.args.sight.now) × KnowsNoStrip c.args.sight.now c.args.place
    = rw (← c.sight.view_is) (missed_strip c.sight.inside.number c.sight.inside.each c.sight.inside.notes.items c.get_cell.new.notes.items c.args.place c.get_cell.ensures.cells (search (rules, c.in_err-get_cell.ensures.none))) in
    search (rules, missed)

pub returns-then-number-self-clause-later : goal.returns-then-number-self-clause-later
returns-then-number-self-clause-later c = rw (← c.sight.view_is) (knows_all c.sight.inside.number c.sight.inside.each c.sight.inside.notes.items c.get_cell.new.notes.items c.get_cell.ensures.later)

pub returns-then-number-self-clause-none : goal.returns-then-number-self-clause-none
returns-then-number-self-clause-none c =
    let of = of_cells c.sight.inside.number c.sight.inside.each c.sight.inside.notes.items c.args.sight.now c.args.self.now c.sight.view_is c.requires.sight in
    let s = c.in_ok-get_cell.field-0.now in
    let other : ((arc_value s).interval.number ≢ c.sight.inside.number) ⊎ (((arc_value s).interval.number ≡ c.sight.inside.number) × ((arc_value s).first ≢ c.args.place * c.sight.inside.each))
    = elim c.then-number-self.branch [
      | then-number-self-via-then-number-self w ↦ inl (search (rules, of.0))
      | then-number-self-via-else-number-self+then-first-place w ↦ inr (search (rules, of.0), search (rules, of.1))
    ] in
    rw (← c.sight.view_is) (strange_strip c.sight.inside.number c.sight.inside.each c.sight.inside.notes.items c.get_cell.new.notes.items c.args.place s c.get_cell.ensures.cells c.get_cell.ensures.later (search (rules, c.get_cell.ensures.others)) (search (rules, c.in_ok-get_cell.ensures.some)) other)

pub returns-clause-later : goal.returns-clause-later
returns-clause-later c = rw (← c.sight.view_is) (knows_all c.sight.inside.number c.sight.inside.each c.sight.inside.notes.items c.get_cell.new.notes.items c.get_cell.ensures.later)

pub returns-clause-some : goal.returns-clause-some
returns-clause-some c =
    let of = of_cells c.sight.inside.number c.sight.inside.each c.sight.inside.notes.items c.args.sight.now c.args.self.now c.sight.view_is c.requires.sight in
    let s = c.in_ok-get_cell.field-0.now in
    let number : (arc_value s).interval.number ≡ c.sight.inside.number = search (rules, of.0) in
    let first : (arc_value s).first ≡ c.args.place * c.sight.inside.each = search (rules, of.1) in
    let known = known_strip c.sight.inside.number c.sight.inside.each c.get_cell.new.notes.items c.args.place s (search (rules, c.in_ok-get_cell.ensures.some)) number first in
    search (rules, known)

pub returns-clause-first : goal.returns-clause-first
returns-clause-first c = search rules
