use Rattle.std.specs.Prelude.{slice_range}
use Rattle.jr_damage.proofs.FoundBytes.{begins_byte, first_found}
use Rattle.jr_damage.proofs.offsets.offset_of.Goals as goal

pub returns : goal.returns
returns c = λ bytes all few.
    let n = c.spelled_length.result in
    let e = c.spelled_length.ensures in
    let parts = first_found (slice_range c.args.file.now c.args.span.start c.args.span.end) bytes e.spells.0 n c.args.k all e.spells.1 e.spells.2 e.spells.3 few in
    begins_byte c.args.file.now c.args.span bytes c.args.k n c.requires.order c.requires.within e.within parts.0 parts.1
