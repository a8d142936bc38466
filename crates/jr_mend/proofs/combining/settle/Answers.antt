use Rattle.std.proofs.Common.{◌∙◌, ℕ, List, get_or, length, refl, ap}
use Rattle.std.proofs.lemmas.Option.{slice_get_read}
use Rattle.jr_mend.specs.declared.byte_runs.ByteRun.{ByteRun}
use Rattle.jr_mend.proofs.CombinedBytes.{bytes_more}
use Rattle.jr_mend.proofs.combining.settle.Goals as goal

pub returns-clause-bytes : goal.returns-clause-bytes
returns-clause-bytes c = λ from to runs between start bytes.
    let copies = c.args.copies.now in
    let copy = c.index-copies-copy.result in
    let write = c.write_version.ensures in
    let run : ByteRun = record { start = c.args.found.start; end = c.args.found.end; copy = c.args.copy } in
    bytes_more copies runs run copy from to c.args.file.now c.write_version.new.file between start (slice_get_read copies (length copies) c.args.copy copy refl c.requires.copy c.index-copies-copy.is) write.long
    (λ p a b. write.inside p a b ∙ ap (λ (f : List ℕ). get_or f p 0) c.file.ensures) write.outside bytes
