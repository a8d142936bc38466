use Rattle.jr_scan.specs.ScanValue.{interval_of}
use Rattle.jr_mend.specs.Copies.{versions_of}
use Rattle.jr_mend.proofs.ScanOfCopies.{any_choice, has_version, sound_chosen, version_of}
use Rattle.jr_mend.proofs.soundness.sound_if_any_is.Goals as goal

pub returns : goal.returns
returns c = λ copies choices file m i copy lt has sound. sound_chosen (versions_of copies i) (interval_of m.scan i) (version_of i copy) _ (m.chosen i any_choice lt) (has_version copies i copy has) sound
