use Rattle.std.proofs.Common.{refl}
use Rattle.jr_code.proofs.EntryLemmas.{pairs_none}
use Rattle.jr_code.proofs.table.CodeTable.pairs.Goals as goal

pub loop-i-init : goal.loop-i-init
loop-i-init c = record { all = refl; entered = pairs_none c.args.self.now }
