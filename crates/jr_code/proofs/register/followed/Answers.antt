use Rattle.std.proofs.Common.{◌≡◌, ◌*◌, ◌%◌, ◌∷◌, ◌++◌, ◌+◌, ◌∙◌, ap, arith, sym, drop}
use Rattle.std.specs.Prelude.{bit_or}
use Rattle.std.proofs.lemmas.List.{drop_more}
use Rattle.jr_code.specs.Bits.{bits_of, bits}
use Rattle.jr_code.proofs.RegisterLemmas.{push_byte}
use Rattle.jr_code.proofs.register.followed.Goals as goal

pub loop-byte-preserved : goal.loop-byte-preserved
loop-byte-preserved c = λ count few.
    let i = c.loop-byte.byte-index in
    let e : count + 8 * (c.loop-byte.byte-index + 1) ≡ count + 8 * c.loop-byte.byte-index + 8 = omega arith in
    let here : c.from.result ∷ drop (c.loop-byte.byte-index + 1) c.args.bytes.now ≡ drop c.loop-byte.byte-index c.args.bytes.now =
    ap (λ b. b ∷ drop (c.loop-byte.byte-index + 1) c.args.bytes.now) c.from.ensures ∙ sym (drop_more c.args.bytes.now c.loop-byte.byte-index 0 c.loop-byte-test.true) in
    ap (λ n. bits_of n (bit_or (c.loop-byte.held * 256 % 18446744073709551616) c.from.result) ++ bits (drop (c.loop-byte.byte-index + 1) c.args.bytes.now)) e
    ∙ push_byte (count + 8 * c.loop-byte.byte-index) c.loop-byte.held c.from.result (drop (c.loop-byte.byte-index + 1) c.args.bytes.now) (omega arith) (omega arith)
    ∙ ap (λ t. bits_of (count + 8 * c.loop-byte.byte-index) c.loop-byte.held ++ bits t) here
    ∙ c.loop-byte.invariant count few
