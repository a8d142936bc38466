use Rattle.jr_scan.proofs.CursorSteps.{onward}
use Rattle.jr_scan.proofs.cursor.Cursor.skip.Goals as goal

pub returns-clause-at : goal.returns-clause-at
returns-clause-at c = onward c.args.interval c.args.self.now.mcu c.args.mcus c.take-whole.result c.take-whole.new.self.mcu c.take-whole.new.self.place c.take-whole.ensures.mcu c.take-whole.ensures.at c.requires.few c.take-whole.ensures.few c.take-whole.ensures.stuck
