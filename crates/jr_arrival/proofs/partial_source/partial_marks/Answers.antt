use Rattle.std.proofs.Common.{◌≡◌, ℕ, ◌<◌, cond, length, sym, ◌∙◌, arith, rules}
use Rattle.jr_scan.specs.ScanValue.{ScanValue, interval_of, intervals_of}
use Rattle.jr_arrival.proofs.Marks.{counted}
use Rattle.jr_arrival.proofs.partial_source.partial_marks.Goals as goal

pub returns : goal.returns
returns c = record {
  counts = λ t b same.
      let s : ScanValue = c.args.scan.now.scan in
      let k = c.args.cursor in
      let all : length s.intervals ≡ intervals_of s.head = sym c.intervals-most.ensures.value ∙ c.intervals-most.ensures.count in
      let inside : k.number < length t.intervals = omega (arith, c.requires.number, b.count, all) in
      let sound : c.one.result.sound ≡ cond {A = ℕ} c.is_sound-is_sound.result 1 0 = search (rules, c.one.ensures.sound) in
      let damaged : c.one.result.damaged ≡ cond {A = ℕ} c.is_sound-is_sound.result 0 1 = search (rules, c.one.ensures.damaged) in
      counted t (interval_of s k.number) k.number c.args.marked c.one.result c.with.result c.is_sound-is_sound.result inside (c.requires.counts t b) same c.is_sound-is_sound.ensures sound damaged c.with.ensures.sound c.with.ensures.damaged;
}
