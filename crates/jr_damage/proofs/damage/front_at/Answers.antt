use Rattle.std.proofs.Common.{◌<◌, Bool, subst, arith}
use Rattle.jr_scan.specs.Mcus.{ReportsSound}
use Rattle.jr_scan.proofs.CursorSteps.{cut_short}
use Rattle.jr_damage.proofs.damage.front_at.Goals.{else-cursor-mcus-via-then-cursor-mcus+else-is_sound, else-cursor-mcus-via-else-cursor-mcus}
use Rattle.jr_damage.proofs.damage.front_at.Goals as goal

pub returns-else-cursor-mcus-clause-damaged : goal.returns-else-cursor-mcus-clause-damaged
returns-else-cursor-mcus-clause-damaged c = elim c.else-cursor-mcus.branch [
  | else-cursor-mcus-via-then-cursor-mcus+else-is_sound w ↦ subst (λ (b : Bool). ReportsSound b c.args.interval.now) w.if-is_sound.false w.is_sound.ensures
  | else-cursor-mcus-via-else-cursor-mcus w ↦
      let less : c.args.cursor.now.mcu < c.args.interval.now.mcus = omega (arith, c.requires.at.few, w.if-cursor-mcus.false, c.mcus.ensures) in
      cut_short c.args.interval.now c.args.cursor.now.mcu less c.requires.longest
]
