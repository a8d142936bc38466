-- What contracts see of a desk and of a seat.
use Rattle.std.specs.Prelude.{ℕ, Bool, false, List, []}
use Rattle.atomic_table.specs.Seated.{TableId}

pub record DeskValue : Type 0 where
  pub table : TableId
  pub limit : ℕ
  pub seats : ℕ

pub record SeatValue : Type 0 where
  pub desk : DeskValue
  pub place : ℕ
  pub drawn : List ℕ
  pub ended : Bool

abbrev pub desk_of : TableId → ℕ → ℕ → DeskValue
desk_of table limit seats = record { table = table; limit = limit; seats = seats }

-- the seat at this index, which has drawn nothing
abbrev pub fresh : DeskValue → ℕ → SeatValue
fresh desk place = record { desk = desk; place = place; drawn = []; ended = false }
