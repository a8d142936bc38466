use Rattle.std.proofs.Common.{rules, arith, subst, ap, ◌≡◌, ◌+◌, ◌-◌, ◌<◌, ◌≤◌, ℕ}
use Rattle.jri_canvas.specs.Layouts.{LieOn, laid_line, line_in, plain_line_size, sample_count}
use Rattle.jri_canvas.proofs.Canvases.{lie_as}
use Rattle.jri_memory.specs.Canvases.{HasForm}
use Rattle.jri_memory.proofs.laying.lay_out.Goals as goal

pub returns-then-not-have_places-clause-space : goal.returns-then-not-have_places-clause-space
returns-then-not-have_places-clause-space c _ =
    let form = c.in-Some-form_of.form in
    let components : sample_count c.in-Some.pixels ≡ c.args.components = search (rules, c.in-Some.ensures.some) in
    let is : HasForm c.args.width (sample_count c.in-Some.pixels) c.args.stride c.args.layout form = search (rules, c.in-Some-form_of.ensures.form) in
    let here = subst (λ (n : ℕ). HasForm c.args.width n c.args.stride c.args.layout form) components is in record {
      count = c.in-Some-whole_lines.count;
      all = search (rules, here.numbers.components_are, here.numbers.width_is, c.bytes_before.ensures.value);
      less = record { form = form; is = here; less = search (rules, c.if-not-have_places.ensures.not_there) };
    }

pub returns-clause-done : goal.returns-clause-done
returns-clause-done c _ =
    let form = c.in-Some-form_of.form in
    let count = c.in-Some-whole_lines.count in
    let xs = c.args.lines.now in
    let components : sample_count c.in-Some.pixels ≡ c.args.components = search (rules, c.in-Some.ensures.some) in
    let is : HasForm c.args.width (sample_count c.in-Some.pixels) c.args.stride c.args.layout form = search (rules, c.in-Some-form_of.ensures.form) in
    let same = λ (k : ℕ) (from : 0 ≤ k) (to : k < 0 + count). let none : k - 0 ≡ k = omega arith in ap (λ (n : ℕ). laid_line form (line_in (plain_line_size form) xs n)) none in
    let end : 0 + count ≡ count = omega arith in record {
      form = form;
      is = subst (λ (n : ℕ). HasForm c.args.width n c.args.stride c.args.layout form) components is;
      count = count;
      all = search (rules, c.bytes_before.ensures.value);
      lie = subst (λ (n : ℕ). LieOn form 0 n (λ k. laid_line form (line_in (plain_line_size form) xs k)) c.args.canvas.now c.lay_lines.new.canvas) end
          (lie_as form _ (λ k. laid_line form (line_in (plain_line_size form) xs k)) 0 (0 + count) c.args.canvas.now c.lay_lines.new.canvas same c.lay_lines.ensures);
    }
