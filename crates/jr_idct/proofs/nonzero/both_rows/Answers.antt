use Rattle.std.proofs.Common.{ap, sym, ◌∙◌, w16}
use Rattle.jr_idct.specs.Matrix.{at}
use Rattle.jr_idct.proofs.Vectors.{unchanged}
use Rattle.jr_idct.proofs.nonzero.both_rows.Goals as goal

pub returns : goal.returns
returns c =
    let u = unchanged w16 16 c.either.result _ c.either.type_inv in
    let ua = unchanged w16 16 c.two_rows.result _ c.two_rows.type_inv in
    let ub = unchanged w16 16 c.two_rows-2.result _ c.two_rows-2.type_inv in
    record {
      first = rw u (λ j l e. sym (c.two_rows.ensures j l) ∙ sym (ap (λ v. at v j) ua) ∙ c.either.ensures.first j l e);
      second = rw u (λ j l e. sym (c.two_rows-2.ensures j l) ∙ sym (ap (λ v. at v j) ub) ∙ c.either.ensures.second j l e);
    }
