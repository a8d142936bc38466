use Rattle.std.proofs.Common.{◌≡◌, ◌-◌, [], map}
use Rattle.std.specs.List.{range_with_len}
use Rattle.jr_cells.specs.Draws.{view}
use Rattle.jr_cells.specs.Values.{desk_of, fresh}
use Rattle.jr_cells.proofs.claims.deal.Given as goal

abbrev pub invariant-loop-place : goal.invariant-loop-place
invariant-loop-place l = record {
  list : l.list.items ≡ map (fresh (desk_of l.table.table_id l.limit l.seats)) (range_with_len 0 l.place);
  table : l.rest.table_id ≡ l.table.table_id;
  rest : l.rest.me ≡ (view l.limit l.seats [] (l.seats - l.place) 0, []);
}
