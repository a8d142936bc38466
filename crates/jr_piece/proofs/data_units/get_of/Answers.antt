use Rattle.std.proofs.Common.{rules, ◌≡◌, ◌/◌, ◌%◌, length, slice_get, refl, sym, ap, ◌∙◌}
use Rattle.std.specs.Prelude.{Some, None}
use Rattle.std.specs.Option.{option_copied, option_map, option_and_then}
use Rattle.std.specs.Arc.{arc_value}
use Rattle.std.proofs.lemmas.Option.{slice_get-map, slice_get_past, slice_get_read}
use Rattle.jr_piece.specs.StripValue.{StripValue}
use Rattle.jr_piece.specs.Strips.{shared_strips}
use Rattle.jr_piece.proofs.EvenStrips.{found_at, unit_in}
use Rattle.jr_piece.proofs.data_units.get_of.Goals as goal

pub returns-in-None : goal.returns-in-None
returns-in-None c =
    let strips = c.args.strips.now in
    let k = c.args.k in
    let n = c.args.each in
    let past : slice_get strips (k / n) ≡ None = slice_get_past strips (k / n) (search (rules, c.in-None.ensures.lookup.3)) in
    let none : slice_get (shared_strips strips) (k / n) ≡ None = slice_get-map arc_value strips (k / n) ∙ ap (option_map arc_value) past in
    sym (found_at n k (shared_strips strips) c.requires.some c.requires.even ∙ ap (option_and_then (unit_in (k % n))) none)

pub returns-in-Some : goal.returns-in-Some
returns-in-Some c =
    let strips = c.args.strips.now in
    let k = c.args.k in
    let n = c.args.each in
    let strip = c.in-Some.strip.now in
    let there : slice_get strips (k / n) ≡ Some strip = slice_get_read strips (length strips) (k / n) strip refl (search (rules, c.in-Some.ensures.lookup.3.0)) (search (rules, c.in-Some.ensures.lookup.1)) in
    let some : slice_get (shared_strips strips) (k / n) ≡ Some (arc_value strip) = slice_get-map arc_value strips (k / n) ∙ ap (option_map arc_value) there in
    let shown : option_copied c.block.result ≡ slice_get c.deref.result.now.samples (k % n) = search (rules, c.block.ensures) in
    shown ∙ ap (λ (s : StripValue). slice_get s.samples (k % n)) c.deref.ensures
    ∙ sym (found_at n k (shared_strips strips) c.requires.some c.requires.even ∙ ap (option_and_then (unit_in (k % n))) some)
