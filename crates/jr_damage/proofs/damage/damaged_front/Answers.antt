use Rattle.std.proofs.Common.{sym, subst}
use Rattle.jr_scan.specs.Cursors.{IsPlaceAfter}
use Rattle.jr_scan.specs.declared.cursor.Cursor.{Cursor}
use Rattle.jr_scan.proofs.CursorRuns.{at_start}
use Rattle.jr_damage.proofs.damage.damaged_front.Goals as goal

pub take-whole-requires-clause-at : goal.take-whole-requires-clause-at
take-whole-requires-clause-at c = subst (λ (k : Cursor). IsPlaceAfter c.fork.result k.mcu k.place) (sym c.at_start-cursor.ensures) (at_start c.fork.result)
