use Rattle.std.proofs.Common.{◌≡◌, ◌+◌, cond, ℕ, rules, arith}
use Rattle.jr_picture.specs.declared.mark.Mark.TheVariants.{Sound, Damaged}
use Rattle.jri_memory.proofs.Marks.{store_more}
use Rattle.jri_memory.proofs.check.mark_interval.Goals as goal

pub returns-clause-store : goal.returns-clause-store
returns-clause-store c = λ ms p.
    let b = c.is_sound-is_sound.result in
    let sound : c.with.result.sound ≡ c.args.before.sound + cond {A = ℕ} b 1 0 = search (rules, c.with.ensures.sound, c.one.ensures.sound) in
    let damaged : c.with.result.damaged ≡ c.args.before.damaged + cond {A = ℕ} b 0 1 = search (rules, c.with.ensures.damaged, c.one.ensures.damaged) in
    let all : c.with.result.sound + c.with.result.damaged ≡ c.args.i + 1 = search (rules, arith) in
    (cond b Sound Damaged, store_more _ c.args.i c.args.before _ _ _ ms b p c.is_sound-is_sound.ensures sound damaged all c.write_mark.ensures.long c.write_mark.ensures.store c.write_mark.ensures.kept)
