use Rattle.std.proofs.Common.{◌≡◌, ◌+◌, length, get_or, arith, rules}
use Rattle.std.proofs.lemmas.Option.{slice_get-get_or}
use Rattle.jr_code.proofs.EntryLemmas.{entries_more, passed_more, entries_next}
use Rattle.jr_code.proofs.table.CodeTable.enter_words.Goals as goal

pub loop-k-preserved : goal.loop-k-preserved
loop-k-preserved c =
    let t = c.args.self.now in
    let i = c.args.i in
    let k = c.loop-k.k in
    let first = c.words_of-first.result.0 in
    let symbols = c.words_of-first.result.1.now in
    let s = get_or symbols k 0 in
    let word = c.words_of-first.ensures.each k s (slice_get-get_or symbols k 0 (omega arith)) in
    record {
      all = search rules;
      entered = entries_more t i (first + k) s c.loop-k.entries c.enter_word.new.entries c.requires.short word c.enter_word.ensures.inside c.enter_word.ensures.outside c.loop-k.invariant.entered;
      none = passed_more i first k s c.loop-k.entries c.enter_word.new.entries c.enter_word.ensures.inside c.enter_word.ensures.outside c.loop-k.invariant.none;
    }

pub returns : goal.returns
returns c =
    let symbols = c.words_of-first.result.1.now in
    let all : c.loop-k.k ≡ length symbols = omega arith in
    entries_next c.args.self.now c.args.i c.words_of-first.result.0 (length symbols) c.loop-k.entries c.requires.short c.words_of-first.ensures.all c.loop-k.invariant.entered
    (λ b h none m lt. c.loop-k.invariant.none b h none m (omega arith))
