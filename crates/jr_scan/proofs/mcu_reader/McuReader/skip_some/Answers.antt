use Rattle.std.proofs.Common.{◌≡◌, ◌+◌, ◌*◌, ◌++◌, ℤ, List, length, ap, subst, ◌∙◌, arith}
use Rattle.std.specs.List.{All}
use Rattle.jr_mcu.specs.Block.{IsInRange}
use Rattle.jr_scan.specs.McuReader.{McuReaderValue, HasRead, HasEnded, per_mcu}
use Rattle.jr_scan.proofs.mcu_reader.McuReader.skip_some.Goals.{in-Some+else-taken-gt0, in_default}
use Rattle.jr_scan.proofs.mcu_reader.McuReader.skip_some.Goals as goal

-- the reader that skips is the given one, since a speculative read of which nothing is used changes nothing
same : (c : goal.After-skip) → c.match-find.self ≡ c.args.self.now
same c = elim c.match-find.branch [
  | in-Some+else-taken-gt0 w ↦ w.self-is ∙ w.skip_speculated-taken.ensures.none (omega (arith, w.if-taken-gt0.false))
  | in_default w ↦ w.self-is
]

pub returns-clause-run : goal.returns-clause-run
returns-clause-run c = c.skip.ensures.run ∙ ap (λ (r : McuReaderValue). r.run) (same c)

pub returns-clause-mcus : goal.returns-clause-mcus
returns-clause-mcus c = c.skip.ensures.mcus ∙ ap (λ (r : McuReaderValue). r.mcu + c.skip.result) (same c)

pub returns-clause-few : goal.returns-clause-few
returns-clause-few c = c.skip.ensures.few

pub returns-clause-most : goal.returns-clause-most
returns-clause-most c = omega (arith, c.skip.ensures.most, c.requires.some)

pub returns-clause-passed : goal.returns-clause-passed
returns-clause-passed c = subst (λ (r : McuReaderValue). (zs : List (List ℤ)) → HasRead r zs → (ys : List (List ℤ)) × (length ys ≡ c.skip.result * per_mcu r) × All IsInRange ys × HasRead c.skip.new.self (zs ++ ys)) (same c) c.skip.ensures.passed

pub returns-clause-ended : goal.returns-clause-ended
returns-clause-ended c = λ none. c.skip.ensures.ended (omega (arith, none))

pub returns-clause-stays : goal.returns-clause-stays
returns-clause-stays c = subst (λ (r : McuReaderValue). HasEnded r → c.skip.new.self ≡ r) (same c) c.skip.ensures.stays
