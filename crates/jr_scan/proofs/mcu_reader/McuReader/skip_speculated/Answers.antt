use Rattle.std.proofs.Common.{rules, ◌≤◌, ◌+◌, [], sym, subst, arith}
use Rattle.std.proofs.lemmas.List.{append-nil}
use Rattle.jr_scan.specs.McuReader.{HasRead}
use Rattle.jr_scan.proofs.TakingOver.{ended_stays, gone_passed, own_run}
use Rattle.jr_scan.proofs.mcu_reader.McuReader.skip_speculated.Goals as goal

pub returns-then-taken-gt0-clause-passed : goal.returns-then-taken-gt0-clause-passed
returns-then-taken-gt0-clause-passed c = λ zs s.
    let r = c.args.self.now in
    let k = c.pass_mcus-taken.result in
    let to = c.pass_mcus-taken.new.place in
    let valid = c.place-place.ensures.valid in
    let run = c.pass_mcus-taken.ensures.run in
    let mine = own_run r c.interval.result.now c.place-place.result to k run.0 c.interval.ensures c.place-place.ensures.value run.1 in
    let few : r.mcu + k ≤ r.run.mcus = search (rules, arith, c.pass_mcus-taken.ensures.most) in
    gone_passed r c.advance_to.new.self k to zs run.0 valid c.advance_to.ensures few mine s

pub returns-then-taken-gt0-clause-stays : goal.returns-then-taken-gt0-clause-stays
returns-then-taken-gt0-clause-stays c = λ ended.
    let r = c.args.self.now in
    let k = c.pass_mcus-taken.result in
    let to = c.pass_mcus-taken.new.place in
    let run = c.pass_mcus-taken.ensures.run in
    let mine = own_run r c.interval.result.now c.place-place.result to k run.0 c.interval.ensures c.place-place.ensures.value run.1 in
    let few : r.mcu + k ≤ r.run.mcus = search (rules, arith, c.pass_mcus-taken.ensures.most) in
    ended_stays r c.advance_to.new.self k to run.0 c.if-taken-gt0.true few mine ended

pub returns-else-taken-gt0-clause-passed : goal.returns-else-taken-gt0-clause-passed
returns-else-taken-gt0-clause-passed c = λ zs s. ([], search (rules, arith, c.if-taken-gt0.false), λ k d lt. absurd (omega (arith, lt)), subst (HasRead c.args.self.now) (sym (append-nil zs)) s)
