use Rattle.std.proofs.Common.{subst, sym, refl, Option, Some}
use Rattle.jr_damage.specs.declared.lines.Lines.{Lines}
use Rattle.jri_archive.specs.DamagedLines.{AreUndecoded}
use Rattle.jri_archive.proofs.damaged_lines.undecoded_lines.Goals as goal

pub returns : goal.returns
returns c =
    let l : Lines = record { first = c.damaged_from.result; last = c.in_ok-lines.lines.last } in
    subst (λ (o : Option Lines). AreUndecoded c.args.scan.now o (Some l)) (sym c.in_ok-lines.was) (l, refl, c.damaged_from.ensures, refl)
