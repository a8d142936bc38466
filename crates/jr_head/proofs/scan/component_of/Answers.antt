use Rattle.std.proofs.Common.{rules}
use Rattle.jr_head.proofs.scan.component_of.Goals as goal

pub returns-clause-factors : goal.returns-clause-factors
returns-clause-factors c = record {
  horizontal = c.factor-horizontal.ensures;
  vertical = c.factor-vertical.ensures;
  elements = rw c.of.ensures c.to_elements.ensures.count;
  coded = record { dc = search rules; ac = search rules };
}
