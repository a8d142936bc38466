-- The rule of the desk's table, and the result of one claim.
use Rattle.std.specs.Prelude.{◌≡◌, ℕ, ◌+◌, ◌<◌, ◌≤◌, ◌^◌, min, nat_lt, MatchBool, List, [], ◌∷◌, ◌++◌, length, slice_index}
use mathlib.Core.Option.{some}
use lib.ListN.{get_elem?}
use Rattle.atomic_table.specs.Table.{State, Me, Step}
use Rattle.jr_base.specs.declared.limits.TheConstants.{MAX_WORKERS}
use Rattle.jr_cells.specs.declared.claims.SeatView.{SeatView}
use Rattle.jr_cells.specs.Count.{total, times, once_below}

-- a view of a desk of `limit` numbers and `all` seats
abbrev pub view : ℕ → ℕ → List ℕ → ℕ → ℕ → SeatView
view limit all drawn seats ended = record { limit = limit; all = all; drawn = drawn; seats = seats; ended = ended }

-- the condition of each view; w is word 0
pub record Fits (n k w : ℕ) (v : SeatView) : Type 0 where
  pub limit : 0 < v.seats → v.limit ≡ n
  pub all : 0 < v.seats → v.all ≡ k
  pub idle : v.seats ≡ 0 → v.drawn ≡ []
  pub ended : v.ended ≤ v.seats
  pub past : 0 < v.ended → n ≤ w

-- The rule of n numbers and k seats
pub record Dealt (n k : ℕ) (s : State (Unit {0}) SeatView) : Type 0 where
  pub words : length s.words ≡ 2
  pub second : slice_index s.words 1 ≡ n
  pub fits : n < 2 ^ 32
  pub few : k ≤ MAX_WORKERS
  pub once : (x : ℕ) → total (λ v. times x v.drawn) s.views ≡ once_below x (min (slice_index s.words 0) n)
  pub drawn : total (λ v. length v.drawn) s.views ≡ min (slice_index s.words 0) n
  pub seats : total (λ v. v.seats) s.views ≡ k
  pub over : slice_index s.words 0 ≤ n + total (λ v. v.ended) s.views
  pub each : (id : ℕ) (v : SeatView) → get_elem? s.views id ≡ some v → Fits n k (slice_index s.words 0) v

-- the result of a claim: a number below the limit is drawn, otherwise the seat has ended
abbrev pub Stated : Step (Unit {0}) → Me (Unit {0}) SeatView → ℕ → Me (Unit {0}) SeatView → Type 0
Stated step me found next =
    (next.1 ≡ me.1)
    × MatchBool (nat_lt found me.0.limit)
    ((next.0 ≡ view me.0.limit me.0.all (me.0.drawn ++ found ∷ []) me.0.seats me.0.ended) × (length me.0.drawn < me.0.limit))
    (next.0 ≡ view me.0.limit me.0.all me.0.drawn me.0.seats (me.0.ended + 1))
