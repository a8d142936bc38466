use Rattle.std.proofs.Common.{rules, arith, ◌*◌, ◌<◌, ℕ}
use Rattle.std.proofs.lemmas.Int.{ints}
use Rattle.jr_idct.specs.Matrix.{IsWithin}
use Rattle.jr_idct.specs.Ideal.{ideal}
use Rattle.jr_idct.proofs.Energy.{AreSmall, spread}
use Rattle.jr_idct.proofs.Squares.{adds}
use Rattle.jr_exact.proofs.Moderate.{moderate_energy}
use Rattle.jr_exact.proofs.moderate_blocks_have_little_energy.Goals as goal

pub returns : goal.returns
unfolding spread adds
returns c x m =
    let entries : AreSmall = search (rules) in
    let near : (r c : ℕ) → r < 8 → c < 8 → IsWithin (3392 * m.n) (ideal m.n x r c) = λ r c hr hc. (let w = m.values r c hr hc in (omega (arith, ints, w.0), omega (arith, ints, w.1))) in
    moderate_energy m.n x m.large near entries c.roots_agree.ensures
