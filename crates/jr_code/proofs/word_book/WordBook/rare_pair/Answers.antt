use Rattle.std.proofs.Common.{◌≡◌, ◌∙◌, ◌++◌, ◌%◌, ◌<◌, ◌≤◌, [], drop, length, refl, arith, ap, w16, w32}
use Rattle.std.specs.Prelude.{None}
use mir.Val.{SFits}
use Rattle.std.proofs.lemmas.Int.{to_z-of_z, ints}
use Rattle.jr_code.specs.Bits.{upper_bits}
use Rattle.jr_code.specs.Code.{HasNoExtended}
use Rattle.jr_code.specs.Register.{bits_in}
use Rattle.jr_code.proofs.CodeLemmas.{one_word}
use Rattle.jr_code.proofs.PairLemmas.{held_apart, held_short, no_word_none, too_few}
use Rattle.jr_code.proofs.RegisterLemmas.{length-first}
use Rattle.jr_code.proofs.ReadLemmas.{if_none}
use Rattle.jr_code.proofs.word_book.WordBook.rare_pair.Goals as goal

pub returns-in_err-symbol-clause-none : goal.returns-in_err-symbol-clause-none
returns-in_err-symbol-clause-none c =
    let bs = upper_bits c.args.count c.args.held in
    if_none (HasNoExtended c.args.self.now bs) c.from_residual.result (no_word_none c.args.self.now bs c.in_err-symbol.ensures.none)

pub returns-in_err-value-clause-none : goal.returns-in_err-value-clause-none
returns-in_err-value-clause-none c =
    let bs = upper_bits c.args.count c.args.held in
    let s = c.in_ok-symbol.symbol in
    let n = c.in_ok-symbol.long in
    let mid = bits_in c.after.result in
    let left : bits_in c.after.result ≡ drop n (upper_bits c.args.count c.args.held ++ []) = c.after.ensures ∙ ap (λ k. drop k (upper_bits c.args.count c.args.held ++ [])) c.from.ensures in
    let few : length (bits_in c.after.result) < c.from-count.result = too_few c.from-count.result (bits_in c.after.result) None refl c.in_err-value.ensures.found.1 in
    if_none (HasNoExtended c.args.self.now bs) c.from_residual-in_err-value.result
    (held_short c.args.self.now (one_word c.args.self.now) bs mid s n c.in_ok-symbol.ensures.found.1 left (omega (arith, few, c.from-count.ensures)))

pub returns-clause-found : goal.returns-clause-found
returns-clause-found c =
    let bs = upper_bits c.args.count c.args.held in
    let s = c.in_ok-symbol.symbol in
    let n = c.in_ok-symbol.long in
    let v = c.in_ok-value.value in
    let f32 : SFits w32 v = omega (arith, ints, c.in_ok-value.ensures.small) in
    let f16 : SFits w16 v = omega (arith, ints, c.in_ok-value.ensures.small) in
    let mid = bits_in c.after.result in
    let left : bits_in c.after.result ≡ drop n (upper_bits c.args.count c.args.held ++ []) = c.after.ensures ∙ ap (λ k. drop k (upper_bits c.args.count c.args.held ++ [])) c.from.ensures in
    let size : c.from-count.result ≡ s % 16 = omega (arith, c.from-count.ensures) in
    let fits : n ≤ length (upper_bits c.args.count c.args.held) = omega (arith, c.in_ok-symbol.ensures.found.0, length-first c.args.count c.args.held (omega arith)) in
    let both = held_apart c.args.self.now bs mid s n c.from-count.result v fits c.in_ok-symbol.ensures.found.1 size left (c.in_ok-value.ensures.found.0 refl) c.in_ok-value.ensures.taken.0 in
    (omega (arith, both.0, size, length-first c.args.count c.args.held (omega arith)), rw (to_z-of_z w32 v f32, to_z-of_z w16 v f16) (rw size at both.1))
