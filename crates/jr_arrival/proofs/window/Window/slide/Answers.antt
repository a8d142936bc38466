use Rattle.std.proofs.Common.{◌≡◌, ◌<◌, ◌≤◌, ◌+◌, ◌-◌, ◌*◌, ◌/◌, ◌^◌, ◌∙◌, length, sym, ap, subst, arith, rules}
use Rattle.std.specs.Prelude.{false}
use Rattle.jr_arrival.specs.declared.window.Window.{Window}
use Rattle.jr_arrival.specs.declared.file_bytes.FileBytes.{FileBytes}
use Rattle.jr_arrival.specs.FileSources.{IsOffset, IsWindow}
use Rattle.jr_arrival.proofs.Windows.{left_less, trimmed_later, trimmed_window, window_bits}
use Rattle.jr_arrival.proofs.window.Window.slide.Goals as goal

pub returns-clause-at : goal.returns-clause-at
returns-clause-at c =
    let i = c.args.self.now in
    let m = c.trim-left.new.self in
    let is = c.trim-left.ensures.is in
    let e = c.fill.ensures in
    let byte = c.args.bit / 8 in
    let byte_few : byte ≤ i.found - i.from = omega (arith, c.requires.bit) in
    let window = subst IsWindow (sym is) (trimmed_window i c.requires.window byte m.at byte_few c.trim-left.ensures.at) in
    let left : c.trim-left.result ≤ 8 * (m.found - m.from) = omega (arith, c.requires.bit, c.trim-left.ensures.bit, ap (λ (x : Window). x.from) is, ap (λ (x : Window). x.found) is) in
    let bit = e.bit (window_bits m c.trim-left.result window left) (omega (arith, c.trim-left.ensures.bit)) in
    (subst (IsOffset i byte) (sym e.at) c.trim-left.ensures.at, bit ∙ c.trim-left.ensures.bit, e.within)

pub returns-clause-nearer : goal.returns-clause-nearer
returns-clause-nearer c =
    let i = c.args.self.now in
    let w = c.requires.window in
    let m = c.trim-left.new.self in
    let is = c.trim-left.ensures.is in
    let d = c.fill.new.self in
    let e = c.fill.ensures in
    let n = c.next_reach-self.ensures in
    let next = c.next_reach-self.result in
    let bit = c.args.bit in
    let byte = bit / 8 in
    let long = length i.file.bytes.now in
    let from : m.from ≡ i.from + byte = ap (λ (x : Window). x.from) is in
    let reach : m.reach ≡ i.reach = ap (λ (x : Window). x.reach) is in
    let file : length d.file.bytes.now ≡ long = ap (λ (f : FileBytes). length f.bytes.now) (e.file ∙ ap (λ (x : Window). x.file) is) in
    let small : long < 2 ^ 64 = search (rules, arith) in
    let open_end : i.ends ≡ false = search rules in
    let few : 8 * (i.found - i.from) < 16650 + bit = search (rules, arith) in
    let byte_few : byte ≤ i.found - i.from = omega (arith, c.requires.bit) in
    let less = left_less long i.at m.at i.reach next d.reach i.from byte i.found bit (trimmed_later i w byte m.at byte_few c.trim-left.ensures.at) c.trim-left.ensures.at.within (omega arith) (omega arith) few
    (λ past. w.full past open_end) (λ none space. omega (arith, reach, n.further (omega (arith, from, none)) (omega (arith, reach, space)))) (omega (arith, reach, n.on)) (omega (arith, e.reach)) small in
    omega (arith, less, file, e.at, e.from)
