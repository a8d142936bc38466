use Rattle.std.proofs.Common.{◌≡◌, ℕ, ◌++◌, ◌∷◌, [], length, refl, ap, ◌∙◌}
use Rattle.jr_cut.proofs.PartialSegments.{have_next, open_next}
use Rattle.jr_cut.proofs.partial_segments.PartialSegments.next.Goals as goal

pub returns-clause-is : goal.returns-clause-is
returns-clause-is c =
    let spans : c.push.new.self.items ≡ c.args.self.now.spans.items ++ (record { start = c.args.self.now.begin; end = length c.args.self.now.bytes.unstuffed }) ∷ []
    = c.in_ok-push.ensures.items ∙ ap (λ (n : ℕ). c.args.self.now.spans.items ++ (record { start = c.args.self.now.begin; end = n }) ∷ []) c.len-end.ensures in
    open_next _ _ c.args.marker c.requires.is c.requires.marker c.requires.few spans c.len-end.ensures refl refl c.skip.ensures.data c.skip.ensures.rest

pub returns-clause-all : goal.returns-clause-all
returns-clause-all c =
    have_next _ _ c.args.marker c.requires.is c.requires.marker (c.in_ok-push.ensures.items ∙ ap (λ (n : ℕ). c.args.self.now.spans.items ++ (record { start = c.args.self.now.begin; end = n }) ∷ []) c.len-end.ensures) c.len-end.ensures refl refl c.skip.ensures.data c.skip.ensures.rest
