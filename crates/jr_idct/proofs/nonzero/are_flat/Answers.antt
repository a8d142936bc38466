use Rattle.std.proofs.Common.{rules, ◌≡◌, ℕ, ◌<◌, pos, sym, ◌∙◌, IsTrue}
use Rattle.jr_idct.specs.Matrix.{at}
use Rattle.jr_idct.proofs.ZeroLanes.{only_first, passed}
use Rattle.jr_idct.proofs.nonzero.are_flat.Goals as goal

pub returns : goal.returns
returns c =
    let all : IsTrue c.is_zero.result → (j : ℕ) → j < 16 → at c.either.result j ≡ pos 0 = λ t j l. passed c.either.result _ c.either.type_inv j (c.is_zero.ensures t j l) in
    let row_0 : IsTrue c.is_zero.result → (j : ℕ) → 0 < j → j < 16 → at c.both_rows.result j ≡ pos 0 = λ t j p l. passed c.both_rows.result _ c.both_rows.type_inv j (sym (c.but_first-first.ensures j p l) ∙ passed c.but_first-first.result _ c.but_first-first.type_inv j (c.either.ensures.first j l (all t j l))) in
    let row_2 : IsTrue c.is_zero.result → (j : ℕ) → j < 16 → at c.both_rows-2.result j ≡ pos 0 = λ t j l. passed c.both_rows-2.result _ c.both_rows-2.type_inv j (c.either.ensures.second j l (all t j l)) in
    record {
      first = λ t. only_first c.args.a.now c.natural-x.result.now c.natural-x.ensures.values c.requires.low_a (λ j p l. c.both_rows.ensures.first j l (row_0 t j p l)) (λ j l. search (rules, c.both_rows-2.ensures.first j l (row_2 t j l)));
      second = λ t. only_first c.args.b.now c.natural-y.result.now c.natural-y.ensures.values c.requires.low_b (λ j p l. c.both_rows.ensures.second j l (row_0 t j p l)) (λ j l. search (rules, c.both_rows-2.ensures.second j l (row_2 t j l)));
    }
