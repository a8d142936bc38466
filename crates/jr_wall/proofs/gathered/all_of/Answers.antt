use Rattle.std.proofs.Common.{rules, ◌≡◌, [], ◌∷◌, ◌++◌, None, slice_index_or, sym, subst}
use Rattle.std.specs.Arc.{arc_value}
use Rattle.jr_wall.specs.Sharing.{IsEmptyOrOf}
use Rattle.jr_piece.specs.Strips.{AreOf, shared_strips}
use Rattle.jr_wall.proofs.Gathering.{one_more_of}
use Rattle.jr_wall.proofs.gathered.all_of.Goals as goal

pub loop-place-preserved : goal.loop-place-preserved
loop-place-preserved c = λ i all.
    let at : IsEmptyOrOf i (slice_index_or c.args.places.now c.loop-place.place-index None) = all c.loop-place.place-index None c.loop-place-test.true in
    let one : (arc_value c.in_ok-ok.field-0).interval ≡ i = search (rules, at) in
    let pushed : c.push.new.self.items ≡ c.loop-place.strips.items ++ c.in_ok-ok.field-0 ∷ [] = search rules in
    subst (λ xs. AreOf i (shared_strips xs)) (sym pushed) (one_more_of i c.loop-place.strips.items c.in_ok-ok.field-0 (c.loop-place.invariant i all) one)
