-- A run of MCUs: the whole MCUs starting at a position of an interval, at most a given number.
use Rattle.std.specs.Prelude.{◌≡◌, ℕ, ◌+◌, ◌*◌, ◌<◌, ◌≤◌, Bool, List, ◌++◌, length, drop, ℤ}
use Rattle.std.specs.List.{All}
use Rattle.jr_code.specs.Bits.{bits}
use Rattle.jr_scan.specs.declared.place.Place.{Place}
use Rattle.jr_scan.specs.declared.place.RunEnd.{RunEnd}
use Rattle.jr_scan.specs.declared.place.RunEnd.TheVariants.{AllRead, NoMcu}
use Rattle.jr_scan.specs.IntervalValue.{IntervalValue}
use Rattle.jr_mcu.specs.Block.{IsInDcRange}
use Rattle.jr_mcu.specs.Mcus.{no_predictions, Mcus, predicted, BeginsNoMcu}

-- a run of MCUs of an interval: where it starts, and the maximum number of its MCUs
pub record RunOf : Type 0 where
  pub interval : IntervalValue
  pub from : Place
  pub mcus : ℕ

abbrev pub start_of_interval : Place
start_of_interval = record { bit = 0; predictions = no_predictions }

-- all MCUs of an interval
abbrev pub whole_run : IntervalValue → RunOf
whole_run i = record { interval = i; from = start_of_interval; mcus = i.mcus }

-- n MCUs starting at a position of an interval
abbrev pub run_from : IntervalValue → Place → ℕ → RunOf
run_from i p k = record { interval = i; from = p; mcus = k }

-- the same bit, with other predictions
abbrev pub place_with : Place → List ℤ → Place
place_with p predictions = record { bit = p.bit; predictions = predictions }

-- the bits of the interval starting at the position
abbrev pub left_at : IntervalValue → Place → List Bool
left_at i p = drop p.bit (bits i.bytes)

-- no whole MCU follows
abbrev pub HasNoMcu : IntervalValue → Place → Type 0
HasNoMcu i p = BeginsNoMcu i.head p.predictions (left_at i p)

-- all requested MCUs are there, or no further one follows
abbrev pub EndsAs : RunOf → ℕ → Place → RunEnd → Type 0
EndsAs r count to AllRead = count ≡ r.mcus
EndsAs r count to NoMcu = (count < r.mcus) × HasNoMcu r.interval to

-- the run has these blocks, ends at that position, and for this reason
pub record IsRun (r : RunOf) (zs : List (List ℤ)) (to : Place) (end : RunEnd) : Type 0 where
  pub count : ℕ
  pub few : count ≤ r.mcus
  pub taken : List Bool
  pub mcus : Mcus r.interval.head r.from.predictions count zs taken
  pub spelled : left_at r.interval r.from ≡ taken ++ left_at r.interval to
  pub bit : to.bit ≡ r.from.bit + length taken
  pub predictions : to.predictions ≡ predicted r.interval.head r.from.predictions zs
  pub ends : EndsAs r count to end

-- the result of a run: its blocks, where it ends and why
pub record RunRead (r : RunOf) : Type 0 where
  pub blocks : List (List ℤ)
  pub to : Place
  pub end : RunEnd
  pub is : IsRun r blocks to end

-- the whole run of an interval has all its MCUs and these blocks, and leaves fewer than eight bits
abbrev pub IsSoundRun : IntervalValue → List (List ℤ) → Type 0
IsSoundRun i zs = (to : Place) × IsRun (whole_run i) zs to AllRead × (length (left_at i to) < 8)

-- these are the blocks of the first n MCUs of a run; if they are fewer than allowed, no further one follows
pub record FirstMcus (r : RunOf) (n : ℕ) (ys : List (List ℤ)) : Type 0 where
  pub to : Place
  pub run : IsRun (run_from r.interval r.from n) ys to AllRead
  pub none : n < r.mcus → HasNoMcu r.interval to

-- a position from which blocks of an interval can be read
abbrev pub CanReadFrom : IntervalValue → Place → Type 0
CanReadFrom i p = (p.bit ≤ 8 * length i.bytes) × All IsInDcRange p.predictions

-- the first MCUs of an interval are these blocks, and the next one starts there
pub record IsNext (i : IntervalValue) (first : ℕ) (zs : List (List ℤ)) (p : Place) : Type 0 where
  pub run : IsRun (run_from i start_of_interval first) zs p AllRead
  pub can : CanReadFrom i p
