use Rattle.std.proofs.Common.{rules}
use Rattle.jr_code.proofs.RegisterLemmas.{first_word}
use Rattle.jr_code.proofs.register.first_word.Goals as goal

pub returns-clause-some : goal.returns-clause-some
returns-clause-some c = first_word c.from_be_bytes.result c.args.bytes.now c.in-len8-up.len_at_least (λ i. (c.type_inv.bytes i).fits) (search (rules, c.from_be_bytes.ensures))
