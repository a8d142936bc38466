use Rattle.std.proofs.Common.{◌≡◌, ℕ, ◌*◌, ◌≤◌, Bool, true, false, List, ◌++◌, length, length-append, ap, refl, arith}
use Rattle.std.specs.Prelude.{ℤ}
use Rattle.jr_code.specs.Bits.{bits}
use Rattle.jr_code.proofs.BitLemmas.{length-bits}
use Rattle.jr_mcu.specs.Mcus.{no_predictions, Mcus}
use Rattle.jr_mcu.proofs.LongMcus.{mcus_long}
use Rattle.jr_scan.specs.IntervalValue.{IntervalValue}
use Rattle.jr_piece.specs.PieceValue.{PieceValue}
use Rattle.jr_piece.specs.Outcome.{IsOutcome}
use Rattle.jr_wall.proofs.laws.pieces_are_of_their_data.Goals as goal

few_blocks : (i : IntervalValue) (k : ℕ) (zs : List (List ℤ)) (taken rest : List Bool) → Mcus i.head no_predictions k zs taken → bits i.bytes ≡ taken ++ rest → length zs ≤ 4 * length i.bytes
few_blocks i k zs taken rest m e =
    omega (arith, m.0, mcus_long i.head no_predictions k zs taken m, ap length e, length-append taken rest, length-bits i.bytes)

few_units : (p : PieceValue) → IsOutcome p → (is_sound : Bool) → p.is_sound ≡ is_sound → length p.samples ≤ 4 * length p.interval.bytes
few_units p o true e =
    let sound = o.sound e in
    let few = few_blocks p.interval p.interval.mcus sound.blocks sound.decodes.taken sound.decodes.padding sound.decodes.mcus sound.decodes.spelled in
    omega (arith, few, sound.samples.count)
few_units p o false e =
    let damaged = o.damaged e in
    let front = damaged.longest.front in
    let few = few_blocks p.interval p.front damaged.blocks front.taken front.rest front.mcus front.spelled in
    omega (arith, few, damaged.samples.count)

pub returns : goal.returns
returns c p o = few_units p o p.is_sound refl
