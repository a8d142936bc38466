use Rattle.std.proofs.Common.{◌≡◌, get_or, rules}
use Rattle.std.specs.Prelude.{Some, slice_get}
use Rattle.std.proofs.lemmas.Option.{slice_get-get_or}
use Rattle.jr_code.proofs.table.CodeTable.enter_pairs.Goals as goal

pub loop-k-preserved : goal.loop-k-preserved
loop-k-preserved c =
    let symbols = c.words_of-first.result.1.now in
    let known : slice_get c.words_of-first.result.1.now c.loop-k.k ≡ Some (get_or c.words_of-first.result.1.now c.loop-k.k 0) = slice_get-get_or symbols c.loop-k.k 0 c.loop-k-test.true in
    let word = c.words_of-first.ensures.each c.loop-k.k (get_or symbols c.loop-k.k 0) known in
    record { all = search rules; entered = c.enter_pair.ensures c.args.self.now word c.loop-k.invariant.entered }
