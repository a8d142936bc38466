use Rattle.std.proofs.Common.{◌≡◌, List, ℕ, refl, subst, arith}
use Rattle.std.specs.Io.KnownBytes.{Consumes, prepend_known}
use Rattle.jri_file.specs.Files.{IsFaultOf}
use Rattle.jri_file.proofs.InputFile.{fault_of_file, of_file, read_first}
use Rattle.jri_file.proofs.whole.read_file.Goals as goal

pub returns-in-Ok-clause-file : goal.returns-in-Ok-clause-file
returns-in-Ok-clause-file g c =
    let left = g.R.Read.remaining c.args.input.now.inner in
    let after = g.R.Read.remaining c.read_more.new.input.inner in
    let file = c.read_more.new.bytes.items in
    let read : Consumes left after file = read_first left after file (subst (λ (l : List ℕ). Consumes (prepend_known l left) after file) c.new-bytes.ensures.items c.in_ok-read_more.ensures.read) in
    of_file (λ (f : List ℕ). f ≡ file) left after file read (omega (arith, c.in_ok-read_more.ensures.few)) (λ less. c.in_ok-read_more.ensures.end (omega (arith, less))) refl

pub returns-in-Err-clause-fault : goal.returns-in-Err-clause-fault
returns-in-Err-clause-fault g c =
    let left = g.R.Read.remaining c.args.input.now.inner in
    let after = g.R.Read.remaining c.read_more.new.input.inner in
    let file = c.read_more.new.bytes.items in
    let read : Consumes left after file = read_first left after file (subst (λ (l : List ℕ). Consumes (prepend_known l left) after file) c.new-bytes.ensures.items c.in_ok-read_more.ensures.read) in
    fault_of_file left after file c.in-Err.fault read (omega (arith, c.in_ok-read_more.ensures.few)) (λ less. c.in_ok-read_more.ensures.end (omega (arith, less))) (subst (λ (l : List ℕ). IsFaultOf l c.in-Err.fault) c.deref.ensures.value c.in-Err.ensures.fault)
