use Rattle.std.proofs.Common.{rules, ◌≡◌, ◌++◌, ◌+◌, ◌*◌, pos, ◌∙◌, ap, ap₂, ◌+ℤ◌, w16}
use Rattle.std.proofs.Math.IntN.{◌*ℤ◌}
use Rattle.std.specs.Simd.Lanes.{pick_l}
use Rattle.jr_idct.specs.Lanes.{word_lanes}
use Rattle.jr_idct.specs.Matrix.{at}
use Rattle.jr_idct.proofs.PairSums.{pair_sums, words_first, words_second}
use Rattle.jr_idct.proofs.Vectors.{unchanged}
use Rattle.jr_idct.proofs.lanes.pair_sum.Goals as goal

pub returns : goal.returns
returns c j l =
    let a = c.args.a in
    let b = c.args.b in
    let u = c.args.upper in
    let is_pairs : c.by_words-pairs.result ≡ pick_l (pos 0) (a ++ b) (word_lanes u) =
    c.by_words-pairs.ensures ∙ ap₂ (λ x y. pick_l (pos 0) (x ++ y) (word_lanes u)) (unchanged w16 16 a _ c.well_formed.0) (unchanged w16 16 b _ c.well_formed.1.0) in
    pair_sums c.args.x c.args.y c.requires.x c.requires.y c.by_words-pairs.result _ c.by_words-pairs.type_inv j l
    ∙ ap₂ (λ p q. c.args.x *ℤ p +ℤ c.args.y *ℤ q)
    (ap (λ v. at v (2 * j)) is_pairs ∙ words_first a b _ _ c.well_formed.0 c.well_formed.1.0 u j l)
    (ap (λ v. at v (2 * j + 1)) is_pairs ∙ words_second a b _ _ c.well_formed.0 c.well_formed.1.0 u j l)

pub overflow_cast-pairs : goal.overflow_cast-pairs
overflow_cast-pairs c = search (rules, c.by_words-pairs.type_inv)
