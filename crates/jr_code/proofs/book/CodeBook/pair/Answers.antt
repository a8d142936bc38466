use Rattle.std.proofs.Common.{◌/◌, ◌^◌, arith, get_or, subst}
use Rattle.jr_code.specs.Bits.{bits}
use Rattle.jr_code.specs.Code.{IsPackedPair, outside, unpacked}
use Rattle.jr_code.proofs.PairLemmas.{pair_front}
use Rattle.jr_code.proofs.book.CodeBook.pair.Goals as goal

pub returns : goal.returns
returns c =
    let r = c.args.register in
    let p = get_or c.self.inside.pairs c.upper.result outside in
    let looked_up : IsPackedPair c.self.inside.words (r.held / 2 ^ 53) p = subst (λ w. IsPackedPair c.self.inside.words w p) c.upper.ensures.number (c.self.invariant.0 c.upper.result (omega arith)) in
    record {
      front = λ long. rw (← c.self.view_is) (pair_front c.self.inside.words r.count r.held (bits r.rest.now) (unpacked p) (omega arith) looked_up.0 long);
      goes = λ long. looked_up.1 (omega (arith, long));
    }
