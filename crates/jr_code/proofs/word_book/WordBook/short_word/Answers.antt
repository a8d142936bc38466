use Rattle.std.proofs.Common.{arith, get_or}
use Rattle.std.specs.Prelude.{None}
use Rattle.jr_code.specs.Register.{bits_in}
use Rattle.jr_code.proofs.ReadLemmas.{entry_word}
use Rattle.jr_code.proofs.RegisterLemmas.{length-held, window_whole}
use Rattle.jr_code.proofs.word_book.WordBook.short_word.Goals as goal

pub returns : goal.returns
returns c =
    let r = c.args.register in
    let window = window_whole 8 c.first_bits.result r.count r.held r.rest.now (omega arith) (omega arith) c.first_bits.ensures.number in
    rw (← c.self.view_is) (entry_word c.self.inside.table (bits_in c.args.register) c.first_bits.result c.args.register.count (get_or c.self.inside.entries c.first_bits.result None)
    window (omega arith) (omega (arith, length-held r.count r.held r.rest.now (omega arith))) (c.self.invariant.0 c.first_bits.result (omega arith)))
