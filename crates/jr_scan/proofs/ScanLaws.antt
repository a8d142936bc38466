-- The laws of intervals and of runs, as proofs apply them.
use Rattle.std.proofs.Common.{◌≡◌, ℕ, ◌+◌, ◌*◌, ◌≤◌, List, ◌++◌, length, take, subst}
use Rattle.std.specs.Prelude.{◌↔◌, ℤ}
use Rattle.jr_code.proofs.CodeLemmas.{one_word}
use Rattle.jr_head.specs.Geometry.{IsValid, order_of}
use Rattle.jr_scan.specs.declared.place.Place.{Place}
use Rattle.jr_scan.specs.declared.place.RunEnd.TheVariants.{AllRead}
use Rattle.jr_scan.specs.IntervalValue.{IntervalValue}
use Rattle.jr_scan.specs.Mcus.{Decodes, Front}
use Rattle.jr_scan.specs.Run.{IsRun, IsSoundRun, RunOf, RunRead, run_from}
use Rattle.jr_scan.proofs.Fronts as laws
use Rattle.jr_scan.proofs.Runs as runs

abbrev pub OneDecoding : Type 0
OneDecoding = (i : IntervalValue) (zs ys : List (List ℤ)) → Decodes i zs → Decodes i ys → zs ≡ ys

pub one_decoding : OneDecoding
one_decoding = laws.one_decoding one_word

abbrev pub OneFront : Type 0
OneFront = (i : IntervalValue) (k : ℕ) (zs ys : List (List ℤ)) → Front i k zs → Front i k ys → zs ≡ ys

pub one_front : OneFront
one_front = laws.one_front one_word

abbrev pub ShorterFront : Type 0
ShorterFront = (i : IntervalValue) (j k : ℕ) (zs : List (List ℤ)) → j ≤ k → Front i k zs → Front i j (take (j * length (order_of i.head)) zs)

pub shorter_front : ShorterFront
shorter_front = laws.front_less

abbrev pub OneRun : Type 0
OneRun = (r : RunOf) (a b : RunRead r) → IsValid r.interval.head → (a.blocks ≡ b.blocks) × (a.to ≡ b.to) × (a.end ≡ b.end)

pub one_run : OneRun
one_run r a b valid = runs.one_run one_word r a.blocks b.blocks a.to b.to a.end b.end (runs.component_low r.interval.head valid) a.is b.is

abbrev pub RunsMeet : Type 0
RunsMeet = (i : IntervalValue) (p : Place) (k m : ℕ) (a : RunRead (run_from i p k)) (b : RunRead (run_from i a.to m)) → IsValid i.head → a.end ≡ AllRead → IsRun (run_from i p (k + m)) (a.blocks ++ b.blocks) b.to b.end

pub runs_meet : RunsMeet
runs_meet i p k m a b valid all = runs.runs_meet i p a.to b.to k m a.blocks b.blocks b.end (runs.component_low i.head valid) (subst (IsRun (run_from i p k) a.blocks a.to) all a.is) b.is

abbrev pub WholeRun : Type 0
WholeRun = (i : IntervalValue) (zs : List (List ℤ)) → Decodes i zs ↔ IsSoundRun i zs

pub whole_run : WholeRun
whole_run i zs = (runs.decoding_is_run i zs, λ r. runs.run_is_decoding i zs r.0 r.1 r.2)
