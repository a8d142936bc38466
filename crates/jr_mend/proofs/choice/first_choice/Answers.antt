use Rattle.std.proofs.Common.{◌∷◌, [], ℕ, List, take, false, ap, subst, ◌∙◌}
use Rattle.jr_scan.specs.IntervalValue.{IntervalValue}
use Rattle.jr_scan.specs.ScanValue.{interval_of}
use Rattle.jr_mend.specs.Choice.{IsChoiceOf}
use Rattle.jr_mend.proofs.Choices.{one_choice}
use Rattle.jr_mend.proofs.choice.first_choice.Goals as goal

pub interval-requires-clause-bytes : goal.interval-requires-clause-bytes
interval-requires-clause-bytes c = ap (λ (l : List ℕ). take c.unstuff-found.result l) c.deref.ensures.value ∙ c.unstuff-found.ensures.data c.args.i c.requires.at

pub returns-clause-choice : goal.returns-clause-choice
returns-clause-choice c =
    let stated = c.damaged_front.ensures in
    let one = one_choice c.interval.result c.damaged_front.result stated.sound stated.damaged stated.front in
    (interval_of c.args.copy.now.scan c.args.i, subst (λ (v : IntervalValue). IsChoiceOf (v ∷ []) v (record { copy = 0; front = c.damaged_front.result; differs = false })) c.interval.ensures one)
