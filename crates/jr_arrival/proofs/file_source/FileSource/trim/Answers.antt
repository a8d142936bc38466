use Rattle.std.proofs.Common.{◌≡◌, ◌≤◌, ◌-◌, ◌*◌, ◌/◌, ◌%◌, Some, sym, ap, subst, ◌∙◌, arith}
use Rattle.jr_scan.specs.declared.place.Place.{Place}
use Rattle.jr_arrival.specs.declared.window.Window.{Window}
use Rattle.jr_arrival.specs.FileSources.{IsInside, IsWindow}
use Rattle.jr_arrival.proofs.Standing.{moves_to}
use Rattle.jr_arrival.proofs.Windows.{trimmed_window}
use Rattle.jr_arrival.proofs.file_source.FileSource.trim.Goals as goal

pub returns-clause-steps : goal.returns-clause-steps
returns-clause-steps c h is =
    let s = c.args.self.now in
    let p = c.in-Some.place in
    let d = c.trim-bit.new.self in
    let q = c.at_bit-next.result in
    let e = c.trim-bit.ensures in
    let inside : IsInside s.window (Some p) = subst (IsInside s.window) c.in-Some.is c.requires.inside in
    let le : p.bit / 8 ≤ s.window.found - s.window.from = omega (arith, inside.0) in
    let window = subst IsWindow (sym e.is) (trimmed_window s.window c.requires.window (p.bit / 8) d.at le e.at) in
    let file = ap (λ (w : Window). w.file) e.is in
    let bit : q.bit ≡ p.bit % 8 = ap (λ (r : Place). r.bit) c.at_bit-next.ensures ∙ e.bit in
    let few : q.bit ≤ 8 * (d.found - d.from) = omega (arith, bit, inside.0, ap (λ (w : Window). w.found) e.is, ap (λ (w : Window). w.from) e.is) in
    moves_to h s p q d is c.in-Some.is window file e.at bit (ap (λ (r : Place). r.predictions) c.at_bit-next.ensures) few

pub returns-clause-within : goal.returns-clause-within
returns-clause-within c =
    let s = c.args.self.now in
    let p = c.in-Some.place in
    let e = c.trim-bit.ensures in
    let inside : IsInside s.window (Some p) = subst (IsInside s.window) c.in-Some.is c.requires.inside in
    omega (arith, ap (λ (r : Place). r.bit) c.at_bit-next.ensures, e.bit, inside.0, ap (λ (w : Window). w.found) e.is, ap (λ (w : Window). w.from) e.is)
