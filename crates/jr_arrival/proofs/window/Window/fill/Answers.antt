use Rattle.std.proofs.Common.{◌≡◌, ◌<◌, ◌≤◌, ◌-◌, ◌*◌, ℕ, List, ◌++◌, length, take, drop, sym, ap, subst, ◌∙◌, length-drop, arith, rules}
use Rattle.std.proofs.Math.Seq.{take-append_seam}
use Rattle.std.specs.Prelude.{min}
use Rattle.jr_cut.specs.Cut.{IsRaw, IsStop}
use Rattle.jr_cut.proofs.Cuts.{rest_is}
use Rattle.jr_arrival.specs.FileSources.{Spells}
use Rattle.jr_arrival.specs.declared.window.TheConstants.{WINDOW}
use Rattle.jr_arrival.proofs.Windows.{bit_there, filled}
use Rattle.jr_arrival.proofs.window.Window.fill.Goals as goal

pub returns-clause-window : goal.returns-clause-window
returns-clause-window c =
    let i = c.args.self.now in
    let bytes = i.file.bytes.now in
    let part = c.unstuff_some-part.result in
    let e = c.unstuff_some-part.ensures in
    let new = c.unstuff_some-part.new.space in
    let old = i.space.items in
    let long : i.space.len ≡ length new = search (rules, arith, e.long, c.requires.space) in
    let space : take i.space.len (new ++ drop (length new) old) ≡ new = ap (λ (n : ℕ). take n (new ++ drop (length new) old)) long ∙ take-append_seam new (drop (length new) old) in
    let window : length new ≡ WINDOW = search (rules, arith, e.long, c.requires.space) in
    record {
      space = ap length space ∙ window;
      from = omega arith;
      found = omega (arith, e.fits, e.long, window);
      at = c.requires.at;
      spells = subst (λ (xs : List ℕ). Spells bytes c.args.at (take (part.found - 0) (drop 0 xs)) part.ends) (sym space) (filled bytes new c.args.at part.found part.ends c.requires.at e.spells);
      full = λ reached ends. search (rules, arith, e.whole, reached, ends, e.long, window, length-drop c.args.at bytes);
    }

pub returns-clause-bit : goal.returns-clause-bit
returns-clause-bit c come low =
    let bytes = c.args.self.now.file.bytes.now in
    let at = c.args.at in
    let bit = c.args.bit in
    let n = c.spelled_length-least.result in
    let s = c.spelled_length-least.ensures.spells in
    let e = c.unstuff_some-part.ensures in
    let rest = rest_is bytes at in
    let is : IsRaw (take n (drop at bytes)) s.0 = subst (λ (xs : List ℕ). IsRaw (take n xs) s.0) rest s.1 in
    let stop : length s.0 < min bit 1 → IsStop (drop n (drop at bytes)) = λ lt. subst (λ (xs : List ℕ). IsStop (drop n xs)) rest (s.3 (search (rules, arith, lt))) in
    let le : length s.0 ≤ c.unstuff_some-part.result.found = e.some n s.0 (search (rules, arith)) c.spelled_length-least.ensures.within s.1 (search (rules, arith, s.2, c.requires.space)) in
    let there : bit ≤ 8 * c.unstuff_some-part.result.found = bit_there bytes at bit n c.unstuff_some-part.result.found s.0 come low is stop le in
    search (rules, arith, there)
