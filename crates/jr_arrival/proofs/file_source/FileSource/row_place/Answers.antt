use Rattle.std.proofs.Common.{◌≡◌, ◌+◌, length, ap, arith, rules}
use Rattle.jr_arrival.specs.declared.file_bytes.FileBytes.{FileBytes}
use Rattle.jr_arrival.proofs.Standing.{place_true}
use Rattle.jr_arrival.proofs.file_source.FileSource.row_place.Goals as goal

pub returns-clause-place : goal.returns-clause-place
returns-clause-place c h whole t is may right =
    let d = c.trim-next.new.self in
    let e = c.trim-next.ensures in
    let steps = e.steps h is in
    let there = steps.right whole t (may, right) in
    let file = steps.part in
    let at : c.saturating_add.result ≡ d.window.file.from + d.window.at = search (rules, arith, may.fits, steps.at.window.at, ap (λ (f : FileBytes). length f.bytes.now) file, ap (λ (f : FileBytes). f.from) file) in
    place_true whole t d c.trim-next.result _ c.args.self.now.window.file file steps.at.window e.low e.within e.place there.1 at (search rules) (search rules) (search rules) (search rules) c.place_state.ensures
