use Rattle.std.proofs.Common.{◌≡◌, subst, rules}
use Rattle.jr_piece.specs.Outcome.{AreSamples}
use Rattle.jr_piece.proofs.Outcomes.{Ended, outcome}
use Rattle.jr_scan.specs.McuReader.{HasReadAll}
use Rattle.jr_scan.specs.Run.{RunOf, whole_run}
use Rattle.jr_piece.proofs.decoded.decode.Goals as goal

pub returns : goal.returns
returns c =
    let i = c.args.interval.now in
    let r = c.read_samples.new.reader in
    let read = c.in_ok-samples.ensures.read in
    let zs = read.0 in
    let run : r.run ≡ whole_run i = search (rules, c.in_ok-samples.ensures.run) in
    let all : HasReadAll r i zs = ((run, read.1), c.in_ok-samples.ensures.ended) in
    let ended : Ended i zs c.in_ok-samples.samples.items c.is_sound.result c.mcus.result = record {
      samples = subst (λ (o : RunOf). AreSamples o.interval.head zs c.in_ok-samples.samples.items) run read.2;
      longest = c.mcus.ensures.front i zs all;
      decodes = λ t. c.is_sound.ensures.sound t i zs all.0;
      none = λ f ys. c.is_sound.ensures.damaged f i zs all ys;
    } in
    let stated = outcome i zs c.in_ok-samples.samples.items c.is_sound.result c.mcus.result ended in
    search (rules, stated)
