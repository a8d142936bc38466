use Rattle.std.proofs.Common.{inr, ◌≡◌, ℕ, ◌+◌, ◌*◌, ◌<◌, ◌≤◌, true, false, [], length, take, refl, sym, ◌∙◌, arith}
use Rattle.std.proofs.Math.Nat.{mul-le-mul_right}
use Rattle.jr_scan.specs.McuReader.{per_mcu}
use Rattle.jr_scan.proofs.McuReaders.{read_on}
use Rattle.jr_scan.proofs.cursor.take_all.Goals as goal

-- the blocks of a further MCU have space if fewer are taken than there is space for
one_more : (n mcus per long : ℕ) → n < mcus → mcus * per ≤ long → (n + 1) * per ≤ long
one_more n mcus per long lt space = let more : (n + 1) * per ≤ mcus * per = mul-le-mul_right {m = n + 1} {n = mcus} per (omega (arith, lt)) in omega (arith, more, space)

pub returns-in-Some-clause-taken : goal.returns-in-Some-clause-taken
returns-in-Some-clause-taken c = (take (c.read_by.result * per_mcu c.args.reader.now) c.read_by.new.blocks, c.read_by.ensures.read [] c.requires.new, λ t. refl)

pub returns-in-Some-clause-ended : goal.returns-in-Some-clause-ended
returns-in-Some-clause-ended c = λ lt.
    c.read_by.ensures.ended (one_more c.read_by.result c.args.mcus (per_mcu c.args.reader.now) (length c.read_by.new.blocks) lt (omega (arith, c.requires.space c.if-keeps.true, c.read_by.auto.blocks)))

pub returns-in-Some-2-clause-taken : goal.returns-in-Some-2-clause-taken
returns-in-Some-2-clause-taken c =
    let p = c.skip_by.ensures.passed [] c.requires.new in
    (p.0, p.3, λ t. let z : true ≡ false = sym t ∙ c.if-keeps.false in cc)

pub returns-in-None-clause-taken : goal.returns-in-None-clause-taken
returns-in-None-clause-taken c =
    let r = c.args.reader.now in
    let e = c.take_mcus.ensures in
    (e.taken.0, read_on r c.take_mcus.new.self c.take_mcus.result [] e.taken.0 c.requires.valid e.run e.mcus e.few e.taken.1 c.requires.new, λ t. e.taken.2 refl)

pub returns-in-None-clause-ended : goal.returns-in-None-clause-ended
returns-in-None-clause-ended c = λ lt. inr (c.take_mcus.ensures.ended lt)

pub returns-in-None-2-clause-taken : goal.returns-in-None-2-clause-taken
returns-in-None-2-clause-taken c =
    let r = c.args.reader.now in
    let e = c.take_mcus-in-None-2.ensures in
    (e.taken.0, read_on r c.take_mcus-in-None-2.new.self c.take_mcus-in-None-2.result [] e.taken.0 c.requires.valid e.run e.mcus e.few e.taken.1 c.requires.new, λ t. let z : true ≡ false = sym t ∙ c.if-keeps-2.false in cc)

pub returns-in-None-2-clause-ended : goal.returns-in-None-2-clause-ended
returns-in-None-2-clause-ended c = λ lt. inr (c.take_mcus-in-None-2.ensures.ended lt)
