use Rattle.std.proofs.Common.{◌≡◌, ◌+◌, ◌<◌, ℕ, length, vec_len, cond}
use Rattle.std.specs.List.{All}
use Rattle.jr_cells.specs.Count.{total, times}
use Rattle.jr_cells.specs.Values.{desk_of}
use Rattle.jr_cells.proofs.claims.merged.Given as goal

abbrev pub decreases-loop-seat : goal.decreases-loop-seat
decreases-loop-seat l = vec_len l.seats

abbrev pub invariant-loop-seat : goal.invariant-loop-seat
invariant-loop-seat l = record {
  rest : All (λ s. s.desk ≡ desk_of l.table.table_id l.table.key.0 l.table.key.1) l.seats.items;
  table : l.pass.table_id ≡ l.table.table_id;
  held : 0 < l.pass.me.0.seats;
  drawn : (x : ℕ) → times x l.pass.me.0.drawn + total (λ s. times x s.drawn) l.seats.items ≡ total (λ s. times x s.drawn) l.fn.seats.items;
  seats : l.pass.me.0.seats + length l.seats.items ≡ length l.fn.seats.items;
  ended : l.pass.me.0.ended + total (λ s. cond s.ended 1 0) l.seats.items ≡ total (λ s. cond s.ended 1 0) l.fn.seats.items;
}
