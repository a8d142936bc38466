-- The maximum number of whole MCUs that the bytes of an interval can code.
use Rattle.std.proofs.Common.{ℕ, ◌*◌, ◌/◌, ◌<◌, ◌≤◌, List, length, ap, length-append, arith}
use Rattle.std.specs.Prelude.{ℤ}
use Rattle.std.proofs.Math.Nat.{le-div_iff_mul-le}
use Rattle.jr_code.proofs.BitLemmas.{length-bits}
use Rattle.jr_head.specs.Geometry.{order_of}
use Rattle.jr_mcu.specs.Mcus.{no_predictions}
use Rattle.jr_mcu.proofs.LongMcus.{mcus_long}
use Rattle.jr_scan.specs.IntervalValue.{IntervalValue}
use Rattle.jr_scan.specs.Mcus.{Front}

front_few : (i : IntervalValue) (k : ℕ) (zs : List (List ℤ)) → Front i k zs → k * length (order_of i.head) ≤ 4 * length i.bytes
front_few i k zs f =
    omega (arith, mcus_long i.head no_predictions k zs f.taken f.mcus, ap length f.spelled, length-append f.taken f.rest, length-bits i.bytes)

pub few_mcus : (i : IntervalValue) (k : ℕ) (zs : List (List ℤ)) → 0 < length (order_of i.head) → Front i k zs → k ≤ 4 * length i.bytes / length (order_of i.head)
few_mcus i k zs some f = (le-div_iff_mul-le some).1 (front_few i k zs f)
