use Rattle.std.proofs.Common.{rules, arith, ◌≡◌, ◌∙◌, ◌+◌, ◌-◌, ◌*◌, ◌<◌, ◌≤◌, ap, subst, take, drop, List, ℕ}
use Rattle.jri_canvas.specs.Layouts.{LieOn, laid_line, line_in, plain_line_size}
use Rattle.jri_canvas.proofs.Canvases.{lie_as, lie_both, lie_none}
use Rattle.jri_canvas.proofs.lines.lay_lines.Goals as goal

pub loop-k-init : goal.loop-k-init
loop-k-init c =
    let form = c.args.form.now in
    let first = c.args.first in
    let line = λ (n : ℕ). laid_line form (line_in (plain_line_size form) c.args.lines.now (n - first)) in
    let none : first ≡ first + 0 = omega arith in
    subst (λ (end : ℕ). LieOn form first end line c.args.canvas.now c.args.canvas.now) none (lie_none form line first c.args.canvas.now)

pub loop-k-preserved : goal.loop-k-preserved
loop-k-preserved c =
    let form = c.args.form.now in
    let k = c.loop-k.k in
    let first = c.args.first in
    let xs = c.args.lines.now in
    let long = c.bytes_before-line.result in
    let line = λ (n : ℕ). laid_line form (line_in (plain_line_size form) xs (n - first)) in
    let part = take (k * long + long - k * long) (drop (k * long) xs) in
    let size : k * long + long - k * long ≡ long = omega arith in
    let part_is = λ (n : ℕ) (from : first + k ≤ n) (to : n < first + k + 1).
    let here : k ≡ n - first = omega (arith, from, to) in
    ap (λ (z : List ℕ). laid_line form z)
    (ap (λ (m : ℕ). take m (drop (k * long) xs)) size ∙ ap (λ (m : ℕ). line_in m xs k) c.bytes_before-line.ensures.value ∙ ap (λ (m : ℕ). line_in (plain_line_size form) xs m) here) in
    let one : LieOn form (first + k) (first + k + 1) line c.loop-k.canvas c.lay_at.new.canvas =
    lie_as form (λ _. laid_line form part) line (first + k) (first + k + 1) c.loop-k.canvas c.lay_at.new.canvas part_is c.lay_at.ensures in
    let next : first + k + 1 ≡ first + (k + 1) = omega arith in
    subst (λ (end : ℕ). LieOn form first end line c.args.canvas.now c.lay_at.new.canvas) next
    (lie_both form line c.requires.stride first (first + k) (first + k + 1) c.args.canvas.now c.loop-k.canvas c.lay_at.new.canvas (omega arith) (omega arith) c.loop-k.invariant one)

pub returns : goal.returns
returns c =
    let form = c.args.form.now in
    let first = c.args.first in
    let line = λ (n : ℕ). laid_line form (line_in (plain_line_size form) c.args.lines.now (n - first)) in
    let all : first + c.loop-k.k ≡ first + c.args.count = search (rules, arith) in
    subst (λ (end : ℕ). LieOn form first end line c.args.canvas.now c.loop-k.canvas) all c.loop-k.invariant
