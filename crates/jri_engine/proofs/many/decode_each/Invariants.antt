use Rattle.std.specs.String.{string_bytes}
use Rattle.jri_words.specs.Images.{DecodesEach}
use Rattle.jri_engine.proofs.many.decode_each.Given as goal

abbrev pub invariant-loop-k : goal.invariant-loop-k
invariant-loop-k g l = DecodesEach (string_bytes l.request.directory) l.k (g.D.Devices.steps l.initial.devices) (g.D.Devices.steps l.devices) l.status
