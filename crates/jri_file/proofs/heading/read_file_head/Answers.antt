use Rattle.std.proofs.Common.{rules, List, ℕ, ◌≢◌, ◌+◌, ◌<◌, ◌≤◌, length, subst, sym, arith}
use Rattle.std.specs.Io.KnownBytes.{Consumes, IsAtEnd}
use Rattle.jr_base.specs.declared.limits.TheConstants.{MAX_FILE_BYTES}
use Rattle.jr_segments.specs.declared.refusal.Refusal.TheVariants.{EndsEarly, Memory}
use Rattle.jr_head.specs.Heads.{HeadOf, RefusalOf}
use Rattle.jri_file.specs.Files.{IsFaultOf, IsHeaderFaultOfInput}
use Rattle.jri_file.proofs.InputFile.{begins_with, fault_by_front, fault_of_all, fault_of_file, if_err, if_ok, read_on}
use Rattle.jri_file.proofs.heading.read_file_head.Goals as goal
use Rattle.jri_file.proofs.heading.read_file_head.Goals.{then-len-enough-via-then-len-enough, then-len-enough-via-else-len-enough+then-enough-eq-TOO_MANY}

pub returns-then-len-enough-clause-head : goal.returns-then-len-enough-clause-head
returns-then-len-enough-clause-head g c =
    let left = g.R.Read.remaining c.args.input.now.inner in
    let after = g.R.Read.remaining c.read_more.new.input.inner in
    let file = c.read_more.new.bytes.items in
    let read : Consumes left after file = read_on left (g.R.Read.remaining c.parts.input.inner) after c.parts.bytes.items file c.parts.invariant.read c.in_ok-read_more.ensures.read in
    if_ok c.head_of_bytes.result (λ head is. begins_with left after file head read (subst (λ (l : List ℕ). HeadOf l head) c.deref.ensures.value is)) c.head_of_bytes.ensures.head

pub returns-then-len-enough-clause-fault : goal.returns-then-len-enough-clause-fault
returns-then-len-enough-clause-fault g c =
    let left = g.R.Read.remaining c.args.input.now.inner in
    let after = g.R.Read.remaining c.read_more.new.input.inner in
    let file = c.read_more.new.bytes.items in
    let read : Consumes left after file = read_on left (g.R.Read.remaining c.parts.input.inner) after c.parts.bytes.items file c.parts.invariant.read c.in_ok-read_more.ensures.read in
    let end : length file < MAX_FILE_BYTES + 1 → IsAtEnd after = elim c.then-len-enough.branch [
      | then-len-enough-via-then-len-enough w ↦ λ _. c.in_ok-read_more.ensures.end (omega (arith, w.if-len-enough.true, c.len.ensures))
      | then-len-enough-via-else-len-enough+then-enough-eq-TOO_MANY w ↦ λ less. c.in_ok-read_more.ensures.end (omega (arith, less, w.if-enough-eq-TOO_MANY.true))
    ] in
    if_err c.head_of_bytes.result
    (λ f is. fault_of_all left f (fault_of_file left after file f read (omega (arith, c.in_ok-read_more.ensures.few)) end (subst (λ (l : List ℕ). IsFaultOf l f) c.deref.ensures.value is)))
    c.head_of_bytes.ensures.fault

pub returns-in-Ok-clause-head : goal.returns-in-Ok-clause-head
returns-in-Ok-clause-head g c =
    let left = g.R.Read.remaining c.args.input.now.inner in
    let after = g.R.Read.remaining c.read_more.new.input.inner in
    let file = c.read_more.new.bytes.items in
    let read : Consumes left after file = read_on left (g.R.Read.remaining c.parts.input.inner) after c.parts.bytes.items file c.parts.invariant.read c.in_ok-read_more.ensures.read in
    begins_with left after file c.in-Ok.head read (subst (λ (l : List ℕ). HeadOf l c.in-Ok.head) c.deref-in-parts.ensures.value c.in-Ok.ensures.head)

pub returns-in-Err : goal.returns-in-Err
returns-in-Err g c =
    let left = g.R.Read.remaining c.args.input.now.inner in
    let after = g.R.Read.remaining c.read_more.new.input.inner in
    let file = c.read_more.new.bytes.items in
    let read : Consumes left after file = read_on left (g.R.Read.remaining c.parts.input.inner) after c.parts.bytes.items file c.parts.invariant.read c.in_ok-read_more.ensures.read in
    let few : length file ≤ MAX_FILE_BYTES + 1 = omega (arith, c.in_ok-read_more.ensures.few) in
    let some : 2 ≤ length file = omega (arith, c.parts.invariant.some, c.if-len-enough.false, c.len.ensures) in
    let later : c.in-Err.refusal ≢ EndsEarly = search (rules, c.if-ne.ensures, c.if-ne.true, c.ne.ensures) in
    let fault = fault_by_front left after file read few some c.in-Err.refusal later (subst (λ (l : List ℕ). c.in-Err.refusal ≢ Memory → RefusalOf l c.in-Err.refusal) c.deref-in-parts.ensures.value c.in-Err.ensures.refusal) in
    let stated : IsHeaderFaultOfInput left c.fault_of.result = subst (IsHeaderFaultOfInput left) (sym c.fault_of.ensures) fault in
    search (rules, stated)
