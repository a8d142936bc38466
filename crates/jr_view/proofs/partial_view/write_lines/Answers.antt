use Rattle.std.proofs.Common.{rules, arith, ◌≡◌, ◌+◌, ◌-◌, ◌*◌, ◌≤◌, length, sym, subst, drop, ℕ}
use Rattle.std.proofs.Math.Nat.{add-mul}
use borrow.Rule.Slice.PartMut.{drop_put, put_mid}
use Rattle.jr_view.proofs.partial_view.write_lines.Goals as goal

pub returns-clause-after : goal.returns-clause-after
returns-clause-after c =
    let a = c.args in
    let from = a.first * a.line in
    let size = a.count * a.line in
    let sum : (a.first + a.count) * a.line ≡ from + size = add-mul a.first a.count a.line in
    let long : length c.copy_from_slice.new.self ≡ from + size - from = search (rules, arith, sum) in
    let inside : from + size ≤ length a.pixels.now = omega (arith, sum, c.requires.inside) in
    let after = drop_put from (from + size) a.pixels.now c.copy_from_slice.new.self (omega arith) inside long in
    subst (λ (k : ℕ). drop k (put_mid from (from + size - from) a.pixels.now c.copy_from_slice.new.self) ≡ drop k a.pixels.now) (sym sum) after
