use Rattle.std.proofs.Common.{rules, ℕ, ◌+◌, ◌*◌, ◌/◌, ◌%◌, ◌<◌, [], ◌∷◌, arith, ◌∙◌}
use Rattle.std.proofs.lemmas.Int.{ints}
use Rattle.jr_idct.specs.Lanes.{lane}
use Rattle.jr_idct.specs.Matrix.{IsWithin}
use Rattle.jr_idct.proofs.Chain.{chain, first_short, second_short}
use Rattle.jr_idct.proofs.pair.values.Goals as goal

pub entries-columns-requires : goal.entries-columns-requires
entries-columns-requires c = record { constant = (omega (arith, ints), omega (arith, ints)); few = omega arith; short = first_short (c.args.x.0 ∷ c.args.x.1 ∷ c.args.x.2 ∷ c.args.x.3 ∷ c.args.x.4 ∷ c.args.x.5 ∷ c.args.x.6 ∷ c.args.x.7 ∷ []) (λ k p h g. let s = c.requires k p h g in (omega (arith, ints, s), omega (arith, ints, s))) }

pub entries-sums-requires : goal.entries-sums-requires
entries-sums-requires c =
    let small : (k p : ℕ) → k < 8 → p < 16 → IsWithin 32767 (lane (c.turned-rows.result.0 ∷ c.turned-rows.result.1 ∷ c.turned-rows.result.2 ∷ c.turned-rows.result.3 ∷ c.turned-rows.result.4 ∷ c.turned-rows.result.5 ∷ c.turned-rows.result.6 ∷ c.turned-rows.result.7 ∷ []) k p) =
    λ k p h g. rw (c.turned-rows.ensures k p h g ∙ c.entries-columns.ensures (p % 8) (8 * (p / 8) + k) (omega arith) (omega (arith, h, g))) (first_short (c.args.x.0 ∷ c.args.x.1 ∷ c.args.x.2 ∷ c.args.x.3 ∷ c.args.x.4 ∷ c.args.x.5 ∷ c.args.x.6 ∷ c.args.x.7 ∷ []) c.requires (p % 8) (8 * (p / 8) + k) (omega arith) (omega (arith, h, g))).1 in
    record { constant = (omega (arith, ints), omega (arith, ints)); few = omega arith; short = second_short (c.turned-rows.result.0 ∷ c.turned-rows.result.1 ∷ c.turned-rows.result.2 ∷ c.turned-rows.result.3 ∷ c.turned-rows.result.4 ∷ c.turned-rows.result.5 ∷ c.turned-rows.result.6 ∷ c.turned-rows.result.7 ∷ []) small }

pub returns-clause-first : goal.returns-clause-first
returns-clause-first c v is_x =
    chain (c.args.x.0 ∷ c.args.x.1 ∷ c.args.x.2 ∷ c.args.x.3 ∷ c.args.x.4 ∷ c.args.x.5 ∷ c.args.x.6 ∷ c.args.x.7 ∷ []) (c.entries-columns.result.0 ∷ c.entries-columns.result.1 ∷ c.entries-columns.result.2 ∷ c.entries-columns.result.3 ∷ c.entries-columns.result.4 ∷ c.entries-columns.result.5 ∷ c.entries-columns.result.6 ∷ c.entries-columns.result.7 ∷ []) (c.turned-rows.result.0 ∷ c.turned-rows.result.1 ∷ c.turned-rows.result.2 ∷ c.turned-rows.result.3 ∷ c.turned-rows.result.4 ∷ c.turned-rows.result.5 ∷ c.turned-rows.result.6 ∷ c.turned-rows.result.7 ∷ []) (c.entries-sums.result.0 ∷ c.entries-sums.result.1 ∷ c.entries-sums.result.2 ∷ c.entries-sums.result.3 ∷ c.entries-sums.result.4 ∷ c.entries-sums.result.5 ∷ c.entries-sums.result.6 ∷ c.entries-sums.result.7 ∷ []) c.entries-columns.ensures c.turned-rows.ensures (λ i p h g. search (rules, c.entries-sums.ensures i p h g))
    (λ i. i) (λ i h. omega (arith, h)) (λ i h. omega (arith, h)) (λ i k h g. omega (arith, h, g)) v is_x

pub returns-clause-second : goal.returns-clause-second
returns-clause-second c v is_x =
    chain (c.args.x.0 ∷ c.args.x.1 ∷ c.args.x.2 ∷ c.args.x.3 ∷ c.args.x.4 ∷ c.args.x.5 ∷ c.args.x.6 ∷ c.args.x.7 ∷ []) (c.entries-columns.result.0 ∷ c.entries-columns.result.1 ∷ c.entries-columns.result.2 ∷ c.entries-columns.result.3 ∷ c.entries-columns.result.4 ∷ c.entries-columns.result.5 ∷ c.entries-columns.result.6 ∷ c.entries-columns.result.7 ∷ []) (c.turned-rows.result.0 ∷ c.turned-rows.result.1 ∷ c.turned-rows.result.2 ∷ c.turned-rows.result.3 ∷ c.turned-rows.result.4 ∷ c.turned-rows.result.5 ∷ c.turned-rows.result.6 ∷ c.turned-rows.result.7 ∷ []) (c.entries-sums.result.0 ∷ c.entries-sums.result.1 ∷ c.entries-sums.result.2 ∷ c.entries-sums.result.3 ∷ c.entries-sums.result.4 ∷ c.entries-sums.result.5 ∷ c.entries-sums.result.6 ∷ c.entries-sums.result.7 ∷ []) c.entries-columns.ensures c.turned-rows.ensures (λ i p h g. search (rules, c.entries-sums.ensures i p h g))
    (λ i. 8 + i) (λ i h. omega (arith, h)) (λ i h. omega (arith, h)) (λ i k h g. omega (arith, h, g)) v is_x
