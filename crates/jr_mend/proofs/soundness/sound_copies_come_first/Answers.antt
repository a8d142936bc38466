use Rattle.std.proofs.Common.{List, [], ◌∷◌, get_or, subst, arith}
use Rattle.std.proofs.lemmas.List.{length-map, map-append}
use Rattle.jr_scan.specs.IntervalValue.{IntervalValue}
use Rattle.jr_scan.specs.ScanValue.{interval_of}
use Rattle.jr_mend.specs.Choice.{IsChoiceOf}
use Rattle.jr_mend.specs.Copies.{versions_of}
use Rattle.jr_mend.proofs.FurtherCopies.{comes_first}
use Rattle.jr_mend.proofs.ScanOfCopies.{has_version, version_of}
use Rattle.jr_mend.proofs.soundness.sound_copies_come_first.Goals as goal

pub returns : goal.returns
returns c = λ copies further choices file m i copy choice lt has sound.
    let b = get_or choices i choice in
    let vs = versions_of copies i in
    let chosen = interval_of m.scan i in
    let is = subst (λ (l : List IntervalValue). IsChoiceOf l chosen b) (map-append (version_of i) copies (further ∷ [])) (m.chosen i choice lt) in
    let first = comes_first vs (version_of i further) chosen (version_of i copy) b is (has_version copies i copy has) sound in
    omega (arith, first, length-map copies (version_of i))
