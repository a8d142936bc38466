use Rattle.std.proofs.Common.{◌≡◌, ◌+◌, ◌-◌, ◌*◌, ◌/◌, ◌^◌, arith, ap, ⊎_elim}
use Rattle.std.proofs.lemmas.Bool.{cases_lt}
use Rattle.jr_code.proofs.EntryLemmas.{windows_of, begins, begins_only}
use Rattle.jr_code.proofs.words.enter_word.Goals as goal

pub returns-clause-inside : goal.returns-clause-inside
returns-clause-inside c = λ byte is.
    let each : 256 / 2 ^ c.args.long ≡ 2 ^ (8 - c.args.long) = windows_of 8 c.args.long c.requires.short in
    let times : c.args.code * (256 / 2 ^ c.args.long) ≡ c.args.code * 2 ^ (8 - c.args.long) = ap (λ n. c.args.code * n) each in
    let here = begins_only (8 - c.args.long) byte c.args.code is in
    c.loop-byte.invariant.inside byte (omega (arith, here.1)) (omega (arith, here.0))

pub returns-clause-outside : goal.returns-clause-outside
returns-clause-outside c = λ byte other.
    let each : 256 / 2 ^ c.args.long ≡ 2 ^ (8 - c.args.long) = windows_of 8 c.args.long c.requires.short in
    let times : c.args.code * (256 / 2 ^ c.args.long) ≡ c.args.code * 2 ^ (8 - c.args.long) = ap (λ n. c.args.code * n) each in
    ⊎_elim
    (λ before. c.loop-byte.invariant.before byte before)
    (λ from. ⊎_elim
    (λ to. absurd (other (begins (8 - c.args.long) byte c.args.code (omega (arith, from)) (omega (arith, to)))))
    (λ after. c.loop-byte.invariant.after byte (omega (arith, after)))
    (cases_lt byte (c.args.code * (256 / 2 ^ c.args.long) + 256 / 2 ^ c.args.long)))
    (cases_lt byte (c.args.code * (256 / 2 ^ c.args.long)))
