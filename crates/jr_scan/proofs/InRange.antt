-- The blocks of a decoding, or of a prefix, are in range.
use Rattle.std.proofs.Common.{ℕ, Bool, List, [], ℤ}
use Rattle.std.specs.List.{All}
use Rattle.std.proofs.lemmas.List.Elements.{All-from_get_or}
use Rattle.jr_head.specs.HeadValue.{HeadValue}
use Rattle.jr_mcu.specs.Block.{IsInRange}
use Rattle.jr_scan.specs.IntervalValue.{IntervalValue}
use Rattle.jr_mcu.specs.Mcus.{Blocks}
use Rattle.jr_scan.specs.Mcus.{Decodes, LongestFront}
use Rattle.jr_scan.specs.declared.place.Place.{Place}
use Rattle.jr_scan.specs.declared.place.RunEnd.{RunEnd}
use Rattle.jr_scan.specs.Run.{RunOf, IsRun}
use Rattle.jr_mcu.proofs.Ranges.{block_in_range}

blocks_in_range : (h : HeadValue) (start : List ℤ) (zs : List (List ℤ)) (all : List Bool) → Blocks h start zs all → All IsInRange zs
blocks_in_range h start zs all b = All-from_get_or IsInRange zs [] (λ n lt. block_in_range _ _ _ _ _ (b.each n lt))

pub decoding_in_range : (i : IntervalValue) (zs : List (List ℤ)) → Decodes i zs → All IsInRange zs
decoding_in_range i zs d = blocks_in_range _ _ _ _ d.mcus.1

pub front_in_range : (i : IntervalValue) (k : ℕ) (zs : List (List ℤ)) → LongestFront i k zs → All IsInRange zs
front_in_range i k zs l = blocks_in_range _ _ _ _ l.front.mcus.1

pub run_in_range : (r : RunOf) (zs : List (List ℤ)) (to : Place) (end : RunEnd) → IsRun r zs to end → All IsInRange zs
run_in_range r zs to end s = blocks_in_range _ _ _ _ s.mcus.1
