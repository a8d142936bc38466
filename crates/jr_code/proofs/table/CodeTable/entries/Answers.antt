use Rattle.std.proofs.Common.{◌≡◌, refl, subst, arith}
use Rattle.jr_code.specs.Code.{AreEntriesTo}
use Rattle.jr_code.proofs.EntryLemmas.{entries_none, entries_all}
use Rattle.jr_code.proofs.table.CodeTable.entries.Goals as goal

pub loop-i-init : goal.loop-i-init
loop-i-init c = record { all = refl; entered = entries_none c.args.self.now }

pub returns : goal.returns
returns c =
    let eight : c.loop-i.i ≡ 8 = omega arith in
    entries_all c.args.self.now c.loop-i.entries (subst (λ i. AreEntriesTo c.args.self.now i c.loop-i.entries) eight c.loop-i.invariant.entered)
