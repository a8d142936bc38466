use Rattle.std.proofs.Common.{rules, ◌<◌, ◌+◌, ◌*◌, subst, sym}
use Rattle.jr_paint.proofs.Turns.{even_of, odd_of}
use Rattle.jr_paint.proofs.lanes.load_by_turns.Goals as goal

pub returns-clause-even : goal.returns-clause-even
returns-clause-even c = search (rules, even_of c.args.i c.args.bytes.now c.requires c.type_inv.bytes)

pub returns-clause-odd : goal.returns-clause-odd
returns-clause-odd c = search (rules, odd_of c.args.i c.args.bytes.now c.requires c.type_inv.bytes)

pub returns-clause-small_even : goal.returns-clause-small_even
returns-clause-small_even c k l = subst (λ v. v < 256) (sym (even_of c.args.i c.args.bytes.now c.requires c.type_inv.bytes k l)) (c.type_inv.bytes (c.args.i + 2 * k)).fits

pub returns-clause-small_odd : goal.returns-clause-small_odd
returns-clause-small_odd c k l = subst (λ v. v < 256) (sym (odd_of c.args.i c.args.bytes.now c.requires c.type_inv.bytes k l)) (c.type_inv.bytes (c.args.i + (2 * k + 1))).fits
