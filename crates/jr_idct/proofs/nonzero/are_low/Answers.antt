use Rattle.std.proofs.Common.{rules, ◌≡◌, ℕ, ◌%◌, ◌<◌, ◌≤◌, pos, sym, ◌∙◌, IsTrue}
use Rattle.jr_idct.specs.Matrix.{at}
use Rattle.jr_idct.proofs.ZeroLanes.{only_low, passed}
use Rattle.jr_idct.proofs.nonzero.are_low.Goals as goal

pub returns : goal.returns
returns c =
    let all : IsTrue c.is_zero.result → (j : ℕ) → j < 16 → at c.either.result j ≡ pos 0 = λ t j l. passed c.either.result _ c.either.type_inv j (c.is_zero.ensures t j l) in
    let top : IsTrue c.is_zero.result → (j : ℕ) → j < 16 → 4 ≤ j % 8 → at c.either-top.result j ≡ pos 0 = λ t j l g. passed c.either-top.result _ c.either-top.type_inv j (sym (c.right_half.ensures j l g) ∙ passed c.right_half.result _ c.right_half.type_inv j (c.either.ensures.first j l (all t j l))) in
    let bottom : IsTrue c.is_zero.result → (j : ℕ) → j < 16 → at c.either-bottom.result j ≡ pos 0 = λ t j l. passed c.either-bottom.result _ c.either-bottom.type_inv j (search (rules, c.either.ensures.second j l (all t j l))) in
    let row_0 : IsTrue c.is_zero.result → (j : ℕ) → j < 16 → 4 ≤ j % 8 → at c.both_rows.result j ≡ pos 0 = λ t j l g. passed c.both_rows.result _ c.both_rows.type_inv j (c.either-top.ensures.first j l (top t j l g)) in
    let row_2 : IsTrue c.is_zero.result → (j : ℕ) → j < 16 → 4 ≤ j % 8 → at c.both_rows-2.result j ≡ pos 0 = λ t j l g. passed c.both_rows-2.result _ c.both_rows-2.type_inv j (c.either-top.ensures.second j l (top t j l g)) in
    let row_4 : IsTrue c.is_zero.result → (j : ℕ) → j < 16 → at c.both_rows-3.result j ≡ pos 0 = λ t j l. passed c.both_rows-3.result _ c.both_rows-3.type_inv j (c.either-bottom.ensures.first j l (bottom t j l)) in
    let row_6 : IsTrue c.is_zero.result → (j : ℕ) → j < 16 → at c.both_rows-4.result j ≡ pos 0 = λ t j l. passed c.both_rows-4.result _ c.both_rows-4.type_inv j (c.either-bottom.ensures.second j l (bottom t j l)) in
    record {
      first = λ t. only_low c.args.a.now c.natural-x.result.now c.natural-x.ensures.values (λ j l g. c.both_rows.ensures.first j l (row_0 t j l g)) (λ j l g. c.both_rows-2.ensures.first j l (row_2 t j l g)) (λ j l. c.both_rows-3.ensures.first j l (row_4 t j l)) (λ j l. c.both_rows-4.ensures.first j l (row_6 t j l));
      second = λ t. only_low c.args.b.now c.natural-y.result.now c.natural-y.ensures.values (λ j l g. c.both_rows.ensures.second j l (row_0 t j l g)) (λ j l g. c.both_rows-2.ensures.second j l (row_2 t j l g)) (λ j l. c.both_rows-3.ensures.second j l (row_4 t j l)) (λ j l. c.both_rows-4.ensures.second j l (row_6 t j l));
    }
