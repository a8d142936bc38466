use Rattle.std.proofs.Common.{ℕ, ◌≡◌, ◌+◌, ◌-◌, ◌*◌, ◌%◌, ◌<◌, ◌≤◌, [], length, get_or}
use Rattle.jr_head.specs.Geometry.{blocks_of, order_of}
use Rattle.jr_piece.specs.Outcome.{unit_of}
use Rattle.jr_piece.proofs.transforming.transform_blocks.Given as goal

abbrev pub invariant-mcus : goal.invariant-mcus
invariant-mcus g l = record {
  space : g.U.UnitSink.has_space l.head l.units;
  long : length (g.U.UnitSink.units l.head l.units) ≡ length (g.U.UnitSink.units l.head l.fn.units);
  within : l.done ≤ length l.blocks;
  few : l.done < length l.blocks → l.mcu ≤ l.fn.first + l.done;
  place : l.done < length l.blocks → l.mcu * blocks_of l.head ≡ l.fn.first * blocks_of l.head + l.done;
  whole : l.done < length l.blocks → l.done % length (order_of l.head) ≡ 0;
  kept : (k : ℕ) → k < l.fn.first * blocks_of l.head → get_or (g.U.UnitSink.units l.head l.units) k [] ≡ get_or (g.U.UnitSink.units l.head l.fn.units) k [];
  here : (k : ℕ) → k < l.done → get_or (g.U.UnitSink.units l.head l.units) (l.fn.first * blocks_of l.head + k) [] ≡ unit_of l.head l.blocks k;
}

abbrev pub decreases-mcus : goal.decreases-mcus
decreases-mcus g l = length l.blocks - l.done
