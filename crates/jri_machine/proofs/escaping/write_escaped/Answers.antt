use Rattle.std.proofs.Common.{◌+◌, length, refl, arith}
use Rattle.jri_machine.proofs.Escapes.{write_byte, write_run}
use Rattle.jri_machine.proofs.escaping.write_escaped.Goals as goal

pub bytes-preserved-then-at-name : goal.bytes-preserved-then-at-name
bytes-preserved-then-at-name c =
    let name = c.args.name.now in
    let at = c.bytes.at + length c.text_of-text.result.now in
    let p = write_run _ _ _ name _ _ c.bytes.at c.plain_count.result refl c.plain_count.ensures.within c.plain_count.ensures.plain c.text_of-text.ensures.within c.text_of-text.ensures.text c.in_ok-push_str.ensures.bytes c.bytes.invariant in
    write_byte _ _ _ name at c.if-at-name.true (let byte = c.type_inv.name at in omega (arith, byte)) c.in_ok-write_number.ensures p

pub bytes-preserved : goal.bytes-preserved
bytes-preserved c =
    write_run _ _ _ c.args.name.now _ _ c.bytes.at c.plain_count.result refl c.plain_count.ensures.within c.plain_count.ensures.plain c.text_of-text.ensures.within c.text_of-text.ensures.text c.in_ok-push_str.ensures.bytes c.bytes.invariant
