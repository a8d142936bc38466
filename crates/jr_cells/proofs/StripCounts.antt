-- The number of cells for the strips of some MCUs.
use Rattle.std.proofs.Common.{ℕ, zero, suc, ◌*◌, ◌<◌, ◌≤◌, arith}
use Rattle.std.specs.Int.{div_ceil}
use Rattle.std.proofs.Math.Nat.{mul-le-mul_right, le-mul_of_pos_right}
use Rattle.std.proofs.lemmas.Grind.{div_ceil_times}

-- each of them begins with one of the MCUs
pub begins_within : (mcus each place : ℕ) → 0 < each → place < div_ceil mcus each → place * each < mcus
begins_within mcus each place some h =
    let up : suc place * each ≤ div_ceil mcus each * each = mul-le-mul_right each (omega (arith, h)) in
    omega (arith, up, (div_ceil_times mcus each some).1)

-- they are no more than the MCUs
pub no_more : (mcus each : ℕ) → 0 < each → div_ceil mcus each ≤ mcus
no_more mcus each some = go (div_ceil mcus each) (omega arith)
  where
    go : (n : ℕ) → n ≤ div_ceil mcus each → n ≤ mcus
    go zero h = omega arith
    go (suc n) h = omega (arith, begins_within mcus each n some (omega (arith, h)), le-mul_of_pos_right n some)

-- if memory suffices for that number of MCUs, it suffices for the cells
pub space_of_cells : (cells mcus each space : ℕ) → cells ≤ mcus → mcus * each ≤ space → cells * each ≤ space
space_of_cells cells mcus each space few h = let up : cells * each ≤ mcus * each = mul-le-mul_right each few in omega (arith, up, h)
