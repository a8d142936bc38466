use Rattle.std.proofs.Common.{ℕ, ◌<◌, subst}
use Rattle.jri_file.proofs.EachPicture.{each_file}
use Rattle.jri_file.proofs.laws.each_accepted_file_has_a_picture.Goals as goal

pub returns : goal.returns
returns c = each_file c.args.head.now c.assert_invariant.ensures (subst (λ (n : ℕ). 0 < n) c.intervals-some.ensures.value c.intervals-some.ensures.some)
