use Rattle.std.proofs.Common.{rules}
use Rattle.std.specs.String.{string_bytes}
use Rattle.jri_words.proofs.StepLemmas.{ended, undone}
use Rattle.jri_mending.proofs.writing.write_part.Goals as goal

pub returns : goal.returns
returns g c =
    let steps = g.D.Devices.steps in
    let fact = ended (λ _. ⊥) c.args.existing c.args.name.now (string_bytes c.in-Ok.part.name) (steps c.args.devices.now) (steps c.make_part.new.devices) (steps c.place.new.devices) c.place.result.outcome c.in-Ok.ensures.made in
    search (rules, fact, c.place.ensures.placed, c.place.ensures.removed)

pub returns-in-Err : goal.returns-in-Err
returns-in-Err g c =
    undone (λ _. ⊥) c.args.existing c.args.name.now _ _ c.in-Err.ending.outcome (search (rules, c.in-Err.ensures.none)) (search (rules, c.in-Err.ensures.unwritten))
