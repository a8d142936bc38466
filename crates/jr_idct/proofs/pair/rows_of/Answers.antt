use Rattle.std.proofs.Common.{◌≡◌, ℕ, ◌+◌, ◌*◌, ◌<◌, [], ◌∷◌, w16}
use Rattle.jr_idct.specs.Lanes.{lane}
use Rattle.jr_idct.specs.Matrix.{at}
use Rattle.jr_idct.proofs.Passes.{below_eight}
use Rattle.jr_idct.proofs.Vectors.{unchanged}
use Rattle.jr_idct.proofs.pair.rows_of.Goals as goal

pub returns : goal.returns
returns c =
    let u0 = unchanged w16 16 c.row-x0.result _ c.row-x0.type_inv in
    let u1 = unchanged w16 16 c.row-x1.result _ c.row-x1.type_inv in
    let u2 = unchanged w16 16 c.row-x2.result _ c.row-x2.type_inv in
    let u3 = unchanged w16 16 c.row-x3.result _ c.row-x3.type_inv in
    let u4 = unchanged w16 16 c.row-x4.result _ c.row-x4.type_inv in
    let u5 = unchanged w16 16 c.row-x5.result _ c.row-x5.type_inv in
    let u6 = unchanged w16 16 c.row-x6.result _ c.row-x6.type_inv in
    let u7 = unchanged w16 16 c.row-x7.result _ c.row-x7.type_inv in
    record {
      first = rw (u0, u1, u2, u3, u4, u5, u6, u7) (λ r k h g. below_eight (λ r. (k : ℕ) → k < 8 → lane (c.row-x0.result ∷ c.row-x1.result ∷ c.row-x2.result ∷ c.row-x3.result ∷ c.row-x4.result ∷ c.row-x5.result ∷ c.row-x6.result ∷ c.row-x7.result ∷ []) r k ≡ at c.args.a.now (8 * r + k)) c.row-x0.ensures.first c.row-x1.ensures.first c.row-x2.ensures.first c.row-x3.ensures.first c.row-x4.ensures.first c.row-x5.ensures.first c.row-x6.ensures.first c.row-x7.ensures.first r h k g);
      second = rw (u0, u1, u2, u3, u4, u5, u6, u7) (λ r k h g. below_eight (λ r. (k : ℕ) → k < 8 → lane (c.row-x0.result ∷ c.row-x1.result ∷ c.row-x2.result ∷ c.row-x3.result ∷ c.row-x4.result ∷ c.row-x5.result ∷ c.row-x6.result ∷ c.row-x7.result ∷ []) r (8 + k) ≡ at c.args.b.now (8 * r + k)) c.row-x0.ensures.second c.row-x1.ensures.second c.row-x2.ensures.second c.row-x3.ensures.second c.row-x4.ensures.second c.row-x5.ensures.second c.row-x6.ensures.second c.row-x7.ensures.second r h k g);
    }
