use Rattle.std.proofs.Common.{◌≡◌, inl, inr, ℕ, ◌+◌, List, subst, sym, arith}
use Rattle.std.proofs.lemmas.Bool.{cases_lt}
use Rattle.jri_words.specs.Quality.{HasQuality, IsScaledTable, percent}
use Rattle.jri_words.proofs.quality.quality_of.Goals as goal

pub loop-lower-preserved : goal.loop-lower-preserved
loop-lower-preserved c q some few has = elim (cases_lt c.loop-lower.lower q) [
  | inl more ↦
      let last : q ≡ c.loop-lower.lower + 1 = omega (arith, more, few) in
      let named : HasQuality c.args.head.now (c.loop-lower.lower + 1) = subst (λ (n : ℕ). HasQuality c.args.head.now n) last has in
      let of_table = subst (λ (t : List ℕ). IsScaledTable (percent (c.loop-lower.lower + 1)) t) (sym c.quantiser-table.ensures) named in
      c.is_scaled_table.ensures.no c.if-is_scaled_table.false (subst (λ (p : ℕ). IsScaledTable p c.quantiser-table.result.now) (sym c.percent_of.ensures.value) of_table)
  | inr less ↦ c.loop-lower.invariant q some less has
]
