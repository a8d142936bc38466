use Rattle.std.proofs.Common.{◌+◌, ℕ, subst, sym}
use Rattle.std.specs.String.{string_bytes}
use Rattle.jri_words.specs.Images.{DecodesEach}
use Rattle.jri_words.proofs.StepLemmas.{decodes_one_more}
use Rattle.jri_engine.proofs.many.decode_each.Goals as goal

pub loop-k-preserved : goal.loop-k-preserved
loop-k-preserved g c =
    let steps = g.D.Devices.steps in
    let directory = string_bytes c.args.request.now.directory in
    let one = c.decode_one-ended.ensures in
    subst (λ (s : ℕ). DecodesEach directory (c.loop-k.k + 1) (steps c.args.devices.now) (steps c.decode_one-ended.new.devices) s) (sym c.worse_of-status.ensures)
    (decodes_one_more directory c.loop-k.k (steps c.args.devices.now) (steps c.loop-k.devices) (steps c.decode_one-ended.new.devices) c.loop-k.status c.decode_one-ended.result one.0 c.loop-k.invariant one.1 one.2)
