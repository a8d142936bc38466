use Rattle.std.proofs.Common.{rules, ◌<◌, ◌+◌, subst, sym}
use Rattle.jr_paint.proofs.Turns.{chunk_at}
use Rattle.jr_paint.proofs.lanes.load.Goals as goal

pub returns-clause-values : goal.returns-clause-values
returns-clause-values c = search (rules, chunk_at c.args.i c.args.bytes.now c.requires)

pub returns-clause-small : goal.returns-clause-small
returns-clause-small c k l = subst (λ v. v < 256) (sym (chunk_at c.args.i c.args.bytes.now c.requires k l)) (c.type_inv.bytes (c.args.i + k)).fits
