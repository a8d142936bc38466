use Rattle.std.proofs.Common.{◌-◌, ◌%◌, arith, rules}
use Rattle.jr_code.proofs.RegisterLemmas.{word_or}
use Rattle.jr_code.proofs.register.with_bytes.Goals as goal

pub returns : goal.returns
returns c =
    let store = word_or c.args.count (8 - c.args.count % 8) c.args.held c.args.word (omega arith) c.requires.clean (omega arith) in
    search (rules, store)
