use Rattle.std.proofs.Common.{◌<◌, ◌≢◌, ◌*◌, length, arith, below_more, get_or-set_other, get_or-set_same, ◌∙◌}
use Rattle.std.proofs.lemmas.List.{length-set}
use Rattle.jr_code.proofs.ReadLemmas.{first_of}
use Rattle.jr_code.proofs.table.CodeTable.long.Goals as goal

pub loop-k-preserved : goal.loop-k-preserved
loop-k-preserved c =
    let lt : c.loop-k.k < length c.loop-k.long = omega arith in
    record {
      all = length-set c.loop-k.long c.loop-k.k (2 * c.up_to-end.result.0, c.up_to-end.result.1) ∙ c.loop-k.invariant.all;
      done = below_more _ _
          (λ b h. let ne : b ≢ c.loop-k.k = omega arith in rw get_or-set_other (c.loop-k.invariant.done b h))
          (rw get_or-set_same (first_of c.args.self.now c.loop-k.k c.up_to-end.result.0 (omega arith) c.up_to-end.ensures.end, c.up_to-end.ensures.words));
    }
