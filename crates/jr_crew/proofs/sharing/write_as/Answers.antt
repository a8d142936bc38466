use Rattle.std.proofs.Common.{rules, refl, subst, ◌≡◌, ℕ, List, Option, Some, Result, Ok, Err}
use Rattle.std.specs.Option.{IfSome}
use Rattle.jr_base.specs.declared.tally.Tally.{Tally}
use Rattle.jr_base.specs.declared.writing.WriteFault.{WriteFault}
use Rattle.jr_head.specs.Geometry.{IsValid}
use Rattle.jr_scan.specs.ScanValue.{ScanValue}
use Rattle.jr_scan.specs.FirstIntervalsValue.{FirstIntervalsValue}
use Rattle.jr_piece.proofs.EachOutcome.{outcome}
use Rattle.jr_rows.specs.declared.marked.Marked.{Marked}
use Rattle.jr_rows.specs.Stream.{HasCounts, IsSentBy}
use Rattle.jr_rows.proofs.Sendings.{painted_picture, begun_picture}
use Rattle.jr_crew.proofs.sharing.write_as.Goals as goal

-- what is sent by a crew of the part
sent_by : {T : Type 0} (known : T → Option (List ℕ)) (crew part : FirstIntervalsValue) (old came new : Tally T) (answer : Option (Result Marked WriteFault)) (sent : Result Marked WriteFault)
    → IfSome answer (IsSentBy known crew old came) → answer ≡ Some sent → crew ≡ part → came ≡ new → IsSentBy known part old new sent
sent_by known crew part old came new answer sent ensured is same last =
    let here : IsSentBy known crew old came sent = subst (λ (o : Option (Result Marked WriteFault)). IfSome o (IsSentBy known crew old came)) is ensured in
    subst (λ (n : Tally _). IsSentBy known part old n sent) last (subst (λ (p : FirstIntervalsValue). IsSentBy known p old came sent) same here)

pub returns-in-Some-Ok-clause-painted : goal.returns-in-Some-Ok-clause-painted
returns-in-Some-Ok-clause-painted g c =
    let t = c.args.part.scan in
    let n = c.args.part.limit in
    let sent : Result Marked WriteFault = Ok c.in-Some-Ok.marked in
    let valid : IsValid t.head = search (rules, c.head.ensures.valid) in
    let crew : c.of.result ≡ c.args.part = search rules in
    let is : c.run_beside-sent.result.0 ≡ Some sent = search rules in
    let by = sent_by g.W.Write.contents c.of.result c.args.part c.args.out.now c.run_beside-sent.result.1.now _ c.run_beside-sent.result.0 sent c.run_beside-sent.ensures.0 is crew (search rules) in
    let counts : HasCounts t n c.counts_of.result = subst (λ (k : ℕ). HasCounts t k c.counts_of.result) c.limit-limit.ensures.value (subst (λ (s : ScanValue). HasCounts s c.limit-limit.result c.counts_of.result) c.scan-scan.ensures c.counts_of.ensures) in
    painted_picture g.W.Write.contents _ _ sent outcome t valid n c.limit-limit.ensures.few by.sent _ refl c.counts_of.result counts

pub returns-in-Some-Err-clause-begun : goal.returns-in-Some-Err-clause-begun
returns-in-Some-Err-clause-begun g c failed =
    let t = c.args.part.scan in
    let sent : Result Marked WriteFault = Err c.in-Some-Err.field-0-0 in
    let valid : IsValid t.head = search (rules, c.head.ensures.valid) in
    let crew : c.of.result ≡ c.args.part = search rules in
    let is : c.run_beside-sent.result.0 ≡ Some sent = search rules in
    let by = sent_by g.W.Write.contents c.of.result c.args.part c.args.out.now c.run_beside-sent.result.1.now _ c.run_beside-sent.result.0 sent c.run_beside-sent.ensures.0 is crew (search rules) in
    begun_picture g.W.Write.contents _ _ sent outcome t valid c.args.part.limit c.limit-limit.ensures.few by.sent _ refl
