use Rattle.std.proofs.Common.{rules, arith, ◌<◌, length}
use Rattle.jri_archive.proofs.ListNames.{listed_is}
use Rattle.jri_archive.proofs.given.read_name.Goals as goal

pub returns-in-Ok : goal.returns-in-Ok
returns-in-Ok g c =
    let read = c.in-Ok.ensures in
    let some : 0 < length c.read_until.new.buf.items = search (rules, arith, read.ok) in
    listed_is _ _ c.read_until.new.buf.items _ (search (rules, read.bytes)) read.rest some c.end_at_nul-has_end.ensures
