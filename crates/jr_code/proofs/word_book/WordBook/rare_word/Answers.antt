use Rattle.std.proofs.Common.{arith}
use Rattle.jr_code.specs.Bits.{upper_bits}
use Rattle.jr_code.specs.Code.{HasNoFirstWord, IsFirstWordWhereWhole}
use Rattle.jr_code.proofs.RegisterLemmas.{length-first}
use Rattle.jr_code.proofs.ReadLemmas.{if_none, nil_none, nil_word}
use Rattle.jr_code.proofs.word_book.WordBook.rare_word.Goals as goal

pub returns-in_err-symbol-clause-none : goal.returns-in_err-symbol-clause-none
returns-in_err-symbol-clause-none c =
    if_none (HasNoFirstWord c.args.self.now (upper_bits c.args.count c.args.held)) c.from_residual.result
    (nil_none c.args.self.now (upper_bits c.args.count c.args.held) c.in_err-symbol.ensures.none)

pub returns-then-from-count-clause-none : goal.returns-then-from-count-clause-none
returns-then-from-count-clause-none c =
    let is : IsFirstWordWhereWhole c.args.self.now (upper_bits c.args.count c.args.held) c.in_ok-symbol.symbol c.in_ok-symbol.long =
    nil_word c.args.self.now (upper_bits c.args.count c.args.held) c.in_ok-symbol.symbol c.in_ok-symbol.long c.in_ok-symbol.ensures.found in
    is.1 (omega (arith, length-first c.args.count c.args.held (omega arith)))

pub returns-clause-found : goal.returns-clause-found
returns-clause-found c =
    let is : IsFirstWordWhereWhole c.args.self.now (upper_bits c.args.count c.args.held) c.in_ok-symbol.symbol c.in_ok-symbol.long =
    nil_word c.args.self.now (upper_bits c.args.count c.args.held) c.in_ok-symbol.symbol c.in_ok-symbol.long c.in_ok-symbol.ensures.found in
    (omega arith, is.0 (omega (arith, length-first c.args.count c.args.held (omega arith))))
