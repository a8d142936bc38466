use Rattle.std.proofs.Common.{arith, refl, rules, ℕ, ◌+◌, ◌*◌, ◌^◌, ◌<◌, ◌∙◌}
use Rattle.jr_idct.specs.Matrix.{IsWithin, at, wide_reach}
use Rattle.jr_idct.proofs.Passes.{first_within}
use Rattle.jr_idct.proofs.Whole.{sample_from}
use Rattle.jr_idct.proofs.wide.wide_samples.Goals as goal

pub sample_rows-requires : goal.sample_rows-requires
sample_rows-requires c = λ k h.
    let small : (j : ℕ) → j < 64 → IsWithin (2 ^ 31) (at c.args.table.now j) = search (rules, c.requires) in
    rw (c.first_passes.ensures k h) (first_within (2 ^ 31) wide_reach c.args.table.now small (omega arith) k h)

pub returns : goal.returns
returns c = λ r k h g.
    let t = c.args.table.now in
    c.sample_rows.ensures (8 * r + k) (omega arith)
    ∙ sample_from (at t) t c.first_passes.result (λ n b. refl) c.first_passes.ensures r k h g
