use Rattle.std.proofs.Common.{rules}
use Rattle.jr_code.proofs.CodeLemmas.{one_word}
use Rattle.jr_scan.proofs.InRange.{decoding_in_range}
use Rattle.jr_scan.proofs.Fronts.{one_decoding}
use Rattle.jr_scan.proofs.interval.Interval.read.Goals as goal

pub returns-then-is_sound-clause-only : goal.returns-then-is_sound-clause-only
returns-then-is_sound-clause-only c = λ ys d.
    one_decoding one_word c.args.self.now ys _ d (c.if-is_sound.ensures.sound (search rules) c.args.self.now _ (c.in_ok-blocks.ensures.run, c.in_ok-blocks.ensures.read))

pub returns-else-is_sound-clause-none : goal.returns-else-is_sound-clause-none
returns-else-is_sound-clause-none c = λ ys d.
    c.is_sound.ensures.damaged c.if-is_sound.false c.args.self.now _ ((c.in_ok-blocks.ensures.run, c.in_ok-blocks.ensures.read), c.in_ok-blocks.ensures.ended) ys d

pub returns-then-is_sound-clause-in_range : goal.returns-then-is_sound-clause-in_range
returns-then-is_sound-clause-in_range c =
    decoding_in_range c.args.self.now _ (c.if-is_sound.ensures.sound (search rules) c.args.self.now _ (c.in_ok-blocks.ensures.run, c.in_ok-blocks.ensures.read))

pub returns-else-is_sound-clause-some : goal.returns-else-is_sound-clause-some
returns-else-is_sound-clause-some c = search rules

pub returns-else-is_sound-clause-only : goal.returns-else-is_sound-clause-only
returns-else-is_sound-clause-only c = search rules

pub returns-else-is_sound-clause-in_range : goal.returns-else-is_sound-clause-in_range
returns-else-is_sound-clause-in_range c = search rules

pub returns-then-is_sound-clause-some : goal.returns-then-is_sound-clause-some
returns-then-is_sound-clause-some c = c.if-is_sound.ensures.sound (search rules) c.args.self.now _ (c.in_ok-blocks.ensures.run, c.in_ok-blocks.ensures.read)
