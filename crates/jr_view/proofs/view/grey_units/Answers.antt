use Rattle.std.proofs.Common.{rules, ◌≡◌, List, ℕ, [], ◌∷◌, ◌++◌, ap, ◌∙◌}
use Rattle.std.proofs.lemmas.List.{replicate_more}
use Rattle.jr_piece.specs.Units.{grey_unit}
use Rattle.jr_view.proofs.view.grey_units.Goals as goal

pub loop-preserved : goal.loop-preserved
loop-preserved c =
    let pushed : c.push.new.self.items ≡ c.loop.units.items ++ grey_unit ∷ [] = search (rules, c.in_ok-push.ensures.items) in
    pushed ∙ ap (λ (us : List (List ℕ)). us ++ grey_unit ∷ []) c.loop.invariant ∙ replicate_more c.loop.counter grey_unit
