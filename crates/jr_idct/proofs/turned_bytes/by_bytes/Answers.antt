use Rattle.std.proofs.Common.{refl}
use Rattle.jr_idct.proofs.turned_bytes.by_bytes.Goals as goal

pub returns-then-upper : goal.returns-then-upper
returns-then-upper c = rw c.if-upper.true refl

pub returns : goal.returns
returns c = rw c.if-upper.false refl
