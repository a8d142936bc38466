use Rattle.std.proofs.Common.{ℕ, ◌+◌, ◌≤◌, ◌++◌, length, length-append, sym, ap, subst, ◌∙◌, rules}
use Rattle.jr_head.specs.Geometry.{IsValid}
use Rattle.jr_base.specs.declared.limits.TheConstants.{MAX_FILE_BYTES}
use Rattle.jr_scan.specs.PartialScan.{PartialScanValue, HasCome}
use Rattle.jr_arrival.specs.PartialFile.{PartialImageValue}
use Rattle.jr_arrival.proofs.Readings.{partial_stays, grows}
use Rattle.jr_arrival.proofs.partial_image.PartialImage.push.Goals as goal

pub invariant_of-self-2 : goal.invariant_of-self-2
invariant_of-self-2 c =
    let i = c.self.inside in
    let old : PartialScanValue = i.scan in
    let new : PartialScanValue = c.push.new.self in
    let more = c.args.more.now in
    let was = c.self.invariant.2 in
    let come : HasCome new (was.0 ++ more) = c.in_ok-push.ensures.pushed was.0 was.1 in
    let on = grows was.0 more old new c.push.ensures.head was.1 come in
    let small : i.bytes + length more ≤ MAX_FILE_BYTES = subst (λ (v : PartialImageValue). v.bytes + length more ≤ MAX_FILE_BYTES) (sym c.self.view_is) c.requires.few in
    let valid : IsValid old.scan.head = subst IsValid c.head-valid.ensures.value c.head-valid.ensures.valid in
    (partial_stays old new i.row valid on c.self.invariant.0, small, (was.0 ++ more, come, length-append was.0 more ∙ ap (λ (n : ℕ). n + length more) was.2))

pub returns-clause-pushed : goal.returns-clause-pushed
returns-clause-pushed c bytes has =
    let stated = c.in_ok-push.ensures.pushed bytes (subst (λ (v : PartialImageValue). HasCome v.partial_scan bytes) (sym c.self.view_is) has) in
    search (rules, stated)
