use Rattle.std.proofs.Common.{List, ℕ, subst, arith}
use Rattle.std.specs.Io.KnownBytes.{Consumes, prepend_known}
use Rattle.std.specs.Arc.{arc_value}
use Rattle.jri_file.specs.Files.{IsScanOfFile}
use Rattle.jri_file.proofs.InputFile.{fault_of_file, fault_of_input, if_err, if_ok, of_file, of_input, read_first, read_on}
use Rattle.jri_file.proofs.incoming.read_scan.Goals as goal

pub returns-then-len-lt-PART-clause-scan : goal.returns-then-len-lt-PART-clause-scan
returns-then-len-lt-PART-clause-scan g c =
    let left = g.R.Read.remaining c.args.input.now.inner in
    let after = g.R.Read.remaining c.read_more.new.input.inner in
    let bytes = c.read_more.new.bytes.items in
    let read : Consumes left after bytes = read_first left after bytes (subst (λ (l : List ℕ). Consumes (prepend_known l left) after bytes) c.new-bytes.ensures.items c.in_ok-read_more.ensures.read) in
    if_ok c.scan_of_bytes.result (λ scan is. of_file (λ file. IsScanOfFile file (arc_value scan)) left after bytes read (omega (arith, c.len.ensures, c.if-len-lt-PART.true)) (λ less. c.in_ok-read_more.ensures.end (omega (arith, c.len.ensures, c.if-len-lt-PART.true))) is) c.scan_of_bytes.ensures.scan

pub returns-then-len-lt-PART-clause-fault : goal.returns-then-len-lt-PART-clause-fault
returns-then-len-lt-PART-clause-fault g c =
    let left = g.R.Read.remaining c.args.input.now.inner in
    let after = g.R.Read.remaining c.read_more.new.input.inner in
    let bytes = c.read_more.new.bytes.items in
    let read : Consumes left after bytes = read_first left after bytes (subst (λ (l : List ℕ). Consumes (prepend_known l left) after bytes) c.new-bytes.ensures.items c.in_ok-read_more.ensures.read) in
    if_err c.scan_of_bytes.result (λ f is. fault_of_file left after bytes f read (omega (arith, c.len.ensures, c.if-len-lt-PART.true)) (λ less. c.in_ok-read_more.ensures.end (omega (arith, c.len.ensures, c.if-len-lt-PART.true))) is) c.scan_of_bytes.ensures.fault

pub returns-in-Ok-clause-scan : goal.returns-in-Ok-clause-scan
returns-in-Ok-clause-scan g c =
    let left = g.R.Read.remaining c.args.input.now.inner in
    let then = g.R.Read.remaining c.read_more.new.input.inner in
    let first = c.read_more.new.bytes.items in
    let read : Consumes left then first = read_first left then first (subst (λ (l : List ℕ). Consumes (prepend_known l left) then first) c.new-bytes.ensures.items c.in_ok-read_more.ensures.read) in
    if_ok c.cut_while_read.result (λ scan is. of_input (λ file. IsScanOfFile file (arc_value scan)) left then first read is) c.cut_while_read.ensures.scan

pub returns-in-Ok-clause-fault : goal.returns-in-Ok-clause-fault
returns-in-Ok-clause-fault g c =
    let left = g.R.Read.remaining c.args.input.now.inner in
    let then = g.R.Read.remaining c.read_more.new.input.inner in
    let first = c.read_more.new.bytes.items in
    let read : Consumes left then first = read_first left then first (subst (λ (l : List ℕ). Consumes (prepend_known l left) then first) c.new-bytes.ensures.items c.in_ok-read_more.ensures.read) in
    if_err c.cut_while_read.result (λ f is. fault_of_input left then first f read is) c.cut_while_read.ensures.fault

pub returns-clause-scan : goal.returns-clause-scan
returns-clause-scan g c =
    let left = g.R.Read.remaining c.args.input.now.inner in
    let then = g.R.Read.remaining c.read_more.new.input.inner in
    let after = g.R.Read.remaining c.read_more-2.new.input.inner in
    let first = c.read_more.new.bytes.items in
    let file = c.read_more-2.new.bytes.items in
    let begun : Consumes left then first = read_first left then first (subst (λ (l : List ℕ). Consumes (prepend_known l left) then first) c.new-bytes.ensures.items c.in_ok-read_more.ensures.read) in
    let read : Consumes left after file = read_on left then after first file begun c.in_ok-read_more-2.ensures.read in
    if_ok c.scan_of_bytes-2.result (λ scan is. of_file (λ f. IsScanOfFile f (arc_value scan)) left after file read (omega (arith, c.in_ok-read_more-2.ensures.few)) (λ less. c.in_ok-read_more-2.ensures.end (omega (arith, less))) is) c.scan_of_bytes-2.ensures.scan

pub returns-clause-fault : goal.returns-clause-fault
returns-clause-fault g c =
    let left = g.R.Read.remaining c.args.input.now.inner in
    let then = g.R.Read.remaining c.read_more.new.input.inner in
    let after = g.R.Read.remaining c.read_more-2.new.input.inner in
    let first = c.read_more.new.bytes.items in
    let file = c.read_more-2.new.bytes.items in
    let begun : Consumes left then first = read_first left then first (subst (λ (l : List ℕ). Consumes (prepend_known l left) then first) c.new-bytes.ensures.items c.in_ok-read_more.ensures.read) in
    let read : Consumes left after file = read_on left then after first file begun c.in_ok-read_more-2.ensures.read in
    if_err c.scan_of_bytes-2.result (λ f is. fault_of_file left after file f read (omega (arith, c.in_ok-read_more-2.ensures.few)) (λ less. c.in_ok-read_more-2.ensures.end (omega (arith, less))) is) c.scan_of_bytes-2.ensures.fault
