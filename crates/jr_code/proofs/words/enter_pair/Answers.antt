use Rattle.std.proofs.Common.{◌≡◌, ◌<◌, ◌-◌, ◌*◌, ◌/◌, ◌^◌, ◌∙◌, ap, arith, rules, subst, sym}
use Rattle.std.proofs.lemmas.List.{length-set}
use Rattle.jr_code.specs.Code.{IsPair, GoesOn, unpacked, places_in}
use Rattle.jr_code.proofs.EntryLemmas.{pairs_more, windows_fit, windows_of, word_ahead}
use Rattle.jr_code.proofs.words.enter_pair.Goals as goal

pub loop-window-preserved : goal.loop-window-preserved
loop-window-preserved c = record {
  all = length-set c.loop-window.pairs c.loop-window.window c.of.result ∙ c.loop-window.invariant.all;
  entered = λ t w old.
      let each : 2048 / 2 ^ c.args.long ≡ 2 ^ (11 - c.args.long) = windows_of 11 c.args.long c.requires.short in
      let times : c.args.code * (2048 / 2 ^ c.args.long) ≡ c.args.code * 2 ^ (11 - c.args.long) = ap (λ n. c.args.code * n) each in
      let fit = windows_fit 11 c.args.long c.args.code c.requires.short c.requires.fits in
      let within : c.loop-window.window < 2048 = omega arith in
      let ahead = word_ahead t c.args.long c.loop-window.window c.args.code c.args.symbol c.requires.short (omega arith) (omega arith) w in
      let pair : IsPair t c.loop-window.window c.pair.result = search (rules, c.pair.ensures.pair) in
      let goes : GoesOn (unpacked c.of.result).symbol (places_in c.of.result) = search (rules, c.of.ensures, c.pair.ensures.both) in
      pairs_more t c.loop-window.pairs c.loop-window.window c.of.result c.loop-window.invariant.all within
      (subst (λ e. IsPair t c.loop-window.window e) (sym c.of.ensures.both) pair, λ _. goes) (c.loop-window.invariant.entered t w old);
}
