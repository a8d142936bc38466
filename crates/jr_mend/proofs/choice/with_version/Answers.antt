use Rattle.std.proofs.Common.{sym, ◌∙◌}
use Rattle.jr_mend.proofs.Choices.{first_sound, longer_front, stays_longest, stays_other, stays_same, stays_sound}
use Rattle.jr_mend.proofs.choice.with_version.Goals as goal

pub returns-in-None-None : goal.returns-in-None-None
returns-in-None-None c = λ vs is long.
    let same = sym c.bytes.ensures.bytes ∙ c.has_same_data-is_same.ensures.0 c.if-is_same.true ∙ c.bytes-2.ensures.bytes in
    (c.args.chosen, stays_same vs c.args.chosen c.args.next c.args.before is c.in-None-None.is-0 same)

pub returns-in-None-None-2 : goal.returns-in-None-None-2
returns-in-None-None-2 c = λ vs is long. (
  c.args.chosen,
  stays_other vs c.args.chosen c.args.next c.args.before is c.in-None-None.is-0 c.in-None-None.ensures.sound (λ e.
      let stated = c.has_same_data-is_same.ensures.1 (c.bytes.ensures.bytes ∙ e ∙ sym c.bytes-2.ensures.bytes) in
      let not = c.if-is_same.false in
      cc),
)

pub returns-in-None-Some : goal.returns-in-None-Some
returns-in-None-Some c = λ vs is long.
    let stays = stays_sound vs c.args.chosen c.args.next c.args.before is c.in-None-Some.is-0 c.in-None-Some.ensures.damaged in
    (c.args.chosen, search (stays))

pub returns-in-Some-None : goal.returns-in-Some-None
returns-in-Some-None c = λ vs is long.
    let first = first_sound vs c.args.chosen c.args.next c.args.before is c.in-Some-None.field-0-0 c.in-Some-None.is-0 c.args.number long c.in-Some-None.ensures.sound in
    (c.args.next, search (first))

pub returns-in-Some-Some : goal.returns-in-Some-Some
returns-in-Some-Some c = λ vs is long.
    let w = c.in-Some-Some in
    let longer = longer_front vs c.args.chosen c.args.next c.args.before is w.most w.is-0 w.mcus w.ensures.damaged w.ensures.front c.args.number long c.if-most-mcus.true in
    (c.args.next, search (longer))

pub returns-in-Some-Some-2 : goal.returns-in-Some-Some-2
returns-in-Some-Some-2 c = λ vs is long.
    let w = c.in-Some-Some in
    (c.args.chosen, stays_longest vs c.args.chosen c.args.next c.args.before is w.most w.is-0 w.mcus w.ensures.damaged w.ensures.front c.if-most-mcus.false)
