use Rattle.std.proofs.Common.{◌<◌, Bool, List, ap, subst, ◌∙◌, arith}
use Rattle.std.specs.Prelude.{ℤ}
use Rattle.std.specs.Arc.{arc_value}
use Rattle.jr_scan.specs.IntervalValue.{IntervalValue}
use Rattle.jr_scan.specs.Mcus.{HasNoDecoding, Decodes, Front, HasDecoding, HasLongestFront, ReportsSound}
use Rattle.jr_scan.specs.Cursors.{ReadingValue}
use Rattle.jr_scan.proofs.CursorSteps.{all_decode, cut_short}
use Rattle.jr_piece.proofs.strip_reader.StripReader.is_sound.Goals as goal

abbrev Sound : ReadingValue → Type 0
Sound r = (zs : List (List ℤ)) → Front r.interval r.first zs → Decodes r.interval zs

abbrev Damaged : ReadingValue → Type 0
Damaged r = HasLongestFront r.interval r.first → HasNoDecoding r.interval

pub returns-then-self-mcus-clause-sound : goal.returns-then-self-mcus-clause-sound
returns-then-self-mcus-clause-sound c = λ t.
    let own = c.as_ref-interval.ensures ∙ c.deref-coded.ensures in
    let all = c.if-self-mcus.true ∙ c.mcus.ensures ∙ ap (λ (v : IntervalValue). v.mcus) own in
    let decoding = subst HasDecoding own (subst (λ (b : Bool). ReportsSound b c.as_ref-interval.result) t c.is_sound.ensures) in
    subst Sound c.self.view_is (λ zs front. all_decode (arc_value c.self.inside.interval) c.self.inside.cursor.mcu zs all decoding front)

pub returns-then-self-mcus-clause-damaged : goal.returns-then-self-mcus-clause-damaged
returns-then-self-mcus-clause-damaged c = λ f.
    let own = c.as_ref-interval.ensures ∙ c.deref-coded.ensures in
    let none = subst HasNoDecoding own (subst (λ (b : Bool). ReportsSound b c.as_ref-interval.result) f c.is_sound.ensures) in
    subst Damaged c.self.view_is (λ longest. none)

pub returns-else-self-mcus-clause-damaged : goal.returns-else-self-mcus-clause-damaged
returns-else-self-mcus-clause-damaged c = λ f.
    let own = c.as_ref-interval.ensures ∙ c.deref-coded.ensures in
    let count = c.mcus.ensures ∙ ap (λ (v : IntervalValue). v.mcus) own in
    subst Damaged c.self.view_is (λ longest.
    let less : c.self.inside.cursor.mcu < (arc_value c.self.inside.interval).mcus = omega (arith, longest.1.front.at_most, c.if-self-mcus.false, count) in
    cut_short (arc_value c.self.inside.interval) c.self.inside.cursor.mcu less longest)
