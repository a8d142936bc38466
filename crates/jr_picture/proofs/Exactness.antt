-- A sample that is one of a block's samples is the ideal one rounded down or up.
use Rattle.std.proofs.Common.{◌≡◌, ℕ, ◌+◌, ◌*◌, ◌<◌, List, ℤ, pos, ◌≤ℤ◌, sym, subst, ◌∙◌}
use Rattle.std.specs.Prelude.{slice_index}
use Rattle.jr_idct.specs.Ideal.{energy, IsFaithful, SamplesAreFaithful}
use Rattle.jr_idct.specs.Transform.{product_at, samples}
use Rattle.jr_idct.proofs.Whole.{sample_in}

pub faithful : SamplesAreFaithful → (z : List ℤ) (q : List ℕ) (s r c : ℕ) → r < 8 → c < 8 → s ≡ slice_index (samples z q) (8 * r + c) → energy (product_at z q) ≤ℤ pos (3400 * 3400) → IsFaithful s (product_at z q) r c
faithful law z q s r c h g is small = subst (λ (t : ℕ). IsFaithful t (product_at z q) r c) (sym (is ∙ sample_in z q r c h g)) (law (product_at z q) r c h g small)
