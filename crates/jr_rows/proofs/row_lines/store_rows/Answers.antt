use Rattle.std.proofs.Common.{◌≡◌, ◌≢◌, ℕ, ◌+◌, ◌*◌, ◌<◌, ◌≤◌, ◌∙◌, [], length, inl, inr, ap, arith, rules, slice_index}
use Rattle.std.proofs.lemmas.Bool.{cases_lt}
use Rattle.std.proofs.lemmas.List.{get_or-set_same, get_or-set_other}
use Rattle.std.proofs.Math.Nat.{add-mul, mul-le-mul_right}
use Rattle.jr_rows.proofs.row_lines.store_rows.Goals as goal

-- each row is in a line of its own
rows_apart : (across row row' : ℕ) → 0 < across → row < row' → row * across < row' * across
rows_apart across row row' some lt = omega (arith, add-mul row 1 across, mul-le-mul_right {m = row + 1} {n = row'} across (omega (arith, lt)), some)

pub loop-row-preserved : goal.loop-row-preserved
loop-row-preserved c =
    let old = c.loop-row.groups in
    let row = c.loop-row.row in
    let across = c.args.across in
    let at = c.args.at + row * across in
    let low : row < 8 = search rules in
    let most : row * across ≤ 7 * across = mul-le-mul_right {m = row} {n = 7} across (omega (arith, low)) in
    let inside : at < length old = omega (arith, most, c.requires.space, c.loop-row.invariant.long) in
    let last = get_or-set_same old at c.row_of.result [] inside in
    record {
      long = search rules;
      rows = λ r k lt small. elim (cases_lt r row) [
        | inl l ↦
            let apart : c.args.at + r * across ≢ at = λ e. omega (arith, e, rows_apart across r row c.requires.some l) in
            ap (λ u. slice_index u k) (get_or-set_other old at (c.args.at + r * across) c.row_of.result [] apart) ∙ c.loop-row.invariant.rows r k l small
        | inr g ↦
            let same : r ≡ row = omega (arith, lt, g) in
            rw same (ap (λ u. slice_index u k) last ∙ c.row_of.ensures k small)
      ];
      others = λ n away. get_or-set_other old at n c.row_of.result [] (away row low) ∙ c.loop-row.invariant.others n away;
    }
