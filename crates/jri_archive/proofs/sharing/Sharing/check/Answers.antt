use Rattle.std.proofs.Common.{subst}
use Rattle.std.specs.Prelude.{IfSome}
use Rattle.jri_archive.specs.Reporting.{HasRecord, IsRecordOf}
use Rattle.jri_archive.proofs.Claims.{check_of, found_of, map_of, recorded_of}
use Rattle.jri_archive.proofs.sharing.Sharing.check.Goals as goal

pub returns-clause-map : goal.returns-clause-map
returns-clause-map g c = map_of _ _ _ _ c.judged.ensures.bytes c.checked_file-checked.ensures.map c.judged.ensures.same

pub returns-clause-outcome : goal.returns-clause-outcome
returns-clause-outcome g c opened kept =
    let source = c.self.inside.source in
    let name = c.args.file.now.name.items in
    let p = c.judged.result.outcome in
    let is = check_of (g.F.Directory.holds source.directory) (g.F.Directory.fails source.directory) (g.F.Directory.stamps source.directory) (HasRecord source.state) name _ c.content-bytes.result.bytes
    c.checked_file-checked.result.outcome p c.content-bytes.result.seal c.known-known.result
    c.content-bytes.ensures.bytes c.content-bytes.ensures.error opened c.checked_file-checked.ensures.bytes c.checked_file-checked.ensures.error
    c.content-bytes.ensures.sealed c.content-bytes.ensures.hash c.known-known.ensures c.judged.ensures.same c.judged.ensures.changed in
    c.self.invariant.0 name p is

pub returns-clause-found : goal.returns-clause-found
returns-clause-found g c unknown =
    let source = c.self.inside.source in
    let name = c.args.file.now.name.items in
    found_of (g.F.Directory.holds source.directory) (g.F.Directory.fails source.directory) (g.F.Directory.stamps source.directory) (HasRecord source.state) name g.S.OneCheck.may_be (c.self.invariant.0 name) (c.self.invariant.1 unknown name).1
    c.content-bytes.result.bytes c.checked_file-checked.result.outcome c.judged.result.outcome c.content-bytes.result.seal c.known-known.result
    c.content-bytes.ensures.bytes c.checked_file-checked.ensures.bytes c.checked_file-checked.ensures.error
    c.content-bytes.ensures.sealed c.content-bytes.ensures.hash c.known-known.ensures c.judged.ensures.same c.judged.ensures.changed

pub returns-clause-entry : goal.returns-clause-entry
returns-clause-entry g c =
    let source = c.self.inside.source in
    let name = c.args.file.now.name.items in
    let p = c.judged.result.outcome in
    let is = recorded_of (g.F.Directory.holds source.directory) (g.F.Directory.fails source.directory) (g.F.Directory.stamps source.directory) (HasRecord source.state) name c.content-bytes.result.bytes
    c.checked_file-checked.result.outcome p c.content-bytes.result.seal c.judged.result.entry
    c.content-bytes.ensures.bytes c.checked_file-checked.ensures.bytes c.content-bytes.ensures.sealed c.content-bytes.ensures.stamp c.content-bytes.ensures.hash c.judged.ensures.entry in
    subst (λ s. IfSome c.judged.result.entry (λ f. IsRecordOf (g.F.Directory.holds s.directory) (g.F.Directory.stamps s.directory) name f p)) c.self.view_is is
