use Rattle.std.proofs.Common.{◌≡◌, ℕ, ◌+◌, ◌∙◌, refl, arith, List, [], ◌∷◌, get_or, w16}
use Rattle.jr_idct.specs.Matrix.{at}
use Rattle.jr_idct.proofs.Passes.{below_eight}
use Rattle.jr_idct.proofs.Vectors.{joined, lanes_given, lanes_join, lanes_pick, lanes_read}
use Rattle.jr_idct.proofs.pair.row.Goals as goal

order : List ℕ
order = 0 ∷ 1 ∷ 2 ∷ 3 ∷ 4 ∷ 5 ∷ 6 ∷ 7 ∷ 8 ∷ 9 ∷ 10 ∷ 11 ∷ 12 ∷ 13 ∷ 14 ∷ 15 ∷ []

pub returns-clause-first : goal.returns-clause-first
unfolding order
returns-clause-first c k h =
    let both = lanes_join w16 8 8 _ _ (at c.load-first.result) (at c.load-second.result) (lanes_given w16 8 c.load-first.result _ c.load-first.type_inv) (lanes_given w16 8 c.load-second.result _ c.load-second.type_inv) in
    lanes_read w16 16 _ _ (lanes_pick w16 16 16 _ order _ both refl refl) k (omega (arith, h))
    ∙ below_eight (λ k. joined 8 (at c.load-first.result) (at c.load-second.result) (get_or order k 0) ≡ at c.load-first.result k) refl refl refl refl refl refl refl refl k h
    ∙ c.load-first.ensures k h

pub returns-clause-second : goal.returns-clause-second
unfolding order
returns-clause-second c k h =
    let both = lanes_join w16 8 8 _ _ (at c.load-first.result) (at c.load-second.result) (lanes_given w16 8 c.load-first.result _ c.load-first.type_inv) (lanes_given w16 8 c.load-second.result _ c.load-second.type_inv) in
    lanes_read w16 16 _ _ (lanes_pick w16 16 16 _ order _ both refl refl) (8 + k) (omega (arith, h))
    ∙ below_eight (λ k. joined 8 (at c.load-first.result) (at c.load-second.result) (get_or order (8 + k) 0) ≡ at c.load-second.result k) refl refl refl refl refl refl refl refl k h
    ∙ c.load-second.ensures k h
