use Rattle.std.proofs.Common.{rules, arith, ◌≡◌, length}
use Rattle.jri_archive.proofs.file_queue.FileQueue.has_reported_all.Goals as goal

pub returns-in-Some : goal.returns-in-Some
returns-in-Some g c equal names known =
    let all : c.in-Some.files ≡ length names = search (rules, c.self.invariant.files names known) in
    search (rules, arith, all)
