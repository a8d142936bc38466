use Rattle.std.specs.Io.Buffered.{reader_remaining}
use Rattle.jri_archive.specs.Reporting.{IsCheckBy, HasRecord, given_names}
use Rattle.jri_archive.proofs.sharing.check_all.Given as goal

abbrev pub ghosts-check_as : goal.ghosts-check_as
ghosts-check_as g a = record {
  names = given_names (reader_remaining g.I.Read.remaining) a.list a.asked.is_recursive a.asked.names.items;
  may_be = IsCheckBy (given_names (reader_remaining g.I.Read.remaining) a.list a.asked.is_recursive a.asked.names.items) (g.F.Directory.holds a.source.directory) (g.F.Directory.fails a.source.directory) (g.F.Directory.stamps a.source.directory) (HasRecord a.source.state);
}
