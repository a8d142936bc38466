use Rattle.std.proofs.Common.{◌<◌, ap, sym, subst, ◌∙◌, arith, rules}
use Rattle.jr_scan.specs.McuReader.{McuReaderValue, IsMcuReader}
use Rattle.jr_scan.proofs.McuReaders.{damaged_read}
use Rattle.jr_scan.proofs.mcu_reader.McuReader.is_sound.Goals as goal

pub returns-then-self-clause-damaged : goal.returns-then-self-clause-damaged
returns-then-self-clause-damaged c = λ f i zs all.
    let left = c.self.inside.bits in
    damaged_read c.args.self.now left i zs (subst (λ (r : McuReaderValue). IsMcuReader r left) c.self.view_is c.self.invariant) (λ e short. let lt : c.left.result < 8 = omega (arith, short, c.left.ensures) in grind (arith, rules)) all

pub returns-else-self-clause-damaged : goal.returns-else-self-clause-damaged
returns-else-self-clause-damaged c = λ f i zs all.
    let left = c.self.inside.bits in
    damaged_read c.args.self.now left i zs (subst (λ (r : McuReaderValue). IsMcuReader r left) c.self.view_is c.self.invariant)
    (λ e short. c.if-self.false (ap (λ (r : McuReaderValue). r.mcu) c.self.view_is ∙ e ∙ ap (λ (r : McuReaderValue). r.run.mcus) (sym c.self.view_is))) all

pub returns-then-self-clause-sound : goal.returns-then-self-clause-sound
returns-then-self-clause-sound c = search rules
