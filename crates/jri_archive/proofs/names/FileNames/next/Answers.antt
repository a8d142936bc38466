use Rattle.std.proofs.Common.{rules}
use Rattle.jri_archive.proofs.NextNames.{next_file}
use Rattle.jri_archive.proofs.names.FileNames.next.Goals as goal

pub returns : goal.returns
returns g c names e = next_file names _ _ _ (search (rules, c.in_ok-next.ensures)) c.file_of.ensures.none c.file_of.ensures.some
