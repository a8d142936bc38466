-- An interval whose data continues (T.81, E.1.4).
use Rattle.std.specs.Prelude.{ℕ, List, ◌++◌}
use Rattle.jr_scan.specs.IntervalValue.{IntervalValue}
use Rattle.jr_scan.specs.Run.{RunOf}

-- an interval followed by more data
abbrev pub with_more : IntervalValue → List ℕ → IntervalValue
with_more i more = record { number = i.number; mcus = i.mcus; bytes = i.bytes ++ more; head = i.head }

-- a run of an interval followed by more data
abbrev pub run_with_more : RunOf → List ℕ → RunOf
run_with_more r more = record { interval = with_more r.interval more; from = r.from; mcus = r.mcus }
