use Rattle.std.proofs.Common.{◌≡◌, ℕ, ◌<◌, get_or}
use Rattle.jr_paint.proofs.samples.Samples.line.Given as goal

abbrev pub invariant-loop-entry : goal.invariant-loop-entry
invariant-loop-entry g l = record {
  place : l.x ≡ l.entry-index;
  filled : (k : ℕ) → k < l.entry-index → get_or l.space k 0 ≡ g.Self.Samples.shown l.self l.c k l.y;
}
