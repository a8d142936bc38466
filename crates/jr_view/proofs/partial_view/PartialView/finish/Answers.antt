use Rattle.std.proofs.Common.{◌≡◌, [], ℕ, ◌-◌, ◌*◌, List, length, take, drop, sym, ap, subst, ◌∙◌, arith}
use Rattle.jr_head.specs.HeadValue.{HeadValue}
use Rattle.jr_paint.specs.Lines.{line_size, next_lines_of}
use Rattle.jr_picture.specs.declared.mark.Mark.{Mark}
use Rattle.jr_picture.specs.Headline.{ShowsFirst}
use Rattle.jr_arrival.specs.PartialFile.{given_of}
use Rattle.jr_view.specs.PartialViews.{PartialViewValue, AreScanLines, IsSeen}
use Rattle.jr_view.proofs.PartialViews.{few_shown, size_whole, whole_picture, with_items_is}
use Rattle.jr_view.proofs.partial_view.PartialView.finish.Goals as goal

pub paint_rest-requires-clause-few : goal.paint_rest-requires-clause-few
paint_rest-requires-clause-few c =
    let i = c.self.inside in
    let was = c.self.invariant in
    let few = few_shown i.partial_file i.pixels.items (length i.row.items) was.0 c.in-Ok.finished.scan (c.in-Ok.ensures.scan was.0 was.1.partial_file) was.1 in
    omega (arith, few, c.lines-first.ensures)

pub paint_rest-requires-clause-size : goal.paint_rest-requires-clause-size
paint_rest-requires-clause-size c =
    let i = c.self.inside in
    let was = c.self.invariant in
    let whole = c.in-Ok-lines_or_grey.pixels.items in
    let none : i.pixels.items ≡ [] → length whole ≡ c.in-Ok.finished.scan.head.height * line_size c.in-Ok.finished.scan.head =
    λ e. c.in-Ok-lines_or_grey.ensures.none e ∙ ap (λ (h : HeadValue). h.height * line_size h) c.head.ensures.value in
    let size = size_whole i.partial_file i.pixels.items (length i.row.items) was.0 c.in-Ok.finished.scan (c.in-Ok.ensures.scan was.0 was.1.partial_file) was.1 whole c.in-Ok-lines_or_grey.ensures.there none in
    ap (λ (l : List ℕ). length l) c.as_mut_slice.ensures.value ∙ size

pub returns-clause-scan : goal.returns-clause-scan
returns-clause-scan c bytes seen = c.in-Ok.ensures.scan bytes (subst (λ (v : PartialViewValue). IsSeen v bytes) (sym c.self.view_is) seen).partial_file

pub returns-clause-picture : goal.returns-clause-picture
returns-clause-picture c =
    let i = c.self.inside in
    let was = c.self.invariant in
    let s = c.in-Ok.finished.scan in
    let h = s.head in
    let whole = c.in-Ok-lines_or_grey.pixels in
    let painted = c.paint_rest.new.pixels in
    let first : c.lines-first.result ≡ given_of i.partial_file.partial_image = c.lines-first.ensures in
    let before : take (c.lines-first.result * line_size h) painted ≡ take (c.lines-first.result * line_size h) whole.items =
    c.paint_rest.ensures.before ∙ ap (λ (l : List ℕ). take (c.lines-first.result * line_size h) l) c.as_mut_slice.ensures.value in
    let rest = c.in-Ok-paint_rest.ensures.rest in
    let picture = whole_picture i.partial_file i.pixels.items (length i.row.items) was.0 s (c.in-Ok.ensures.scan was.0 was.1.partial_file) was.1 whole.items painted c.in-Ok-lines_or_grey.ensures.there
    (subst (λ (k : ℕ). take (k * line_size h) painted ≡ take (k * line_size h) whole.items) first before)
    (subst (λ (k : ℕ). (marks : List Mark) (f : ℕ → ℕ → ℕ → ℕ) → ShowsFirst s (length s.intervals) marks f → drop (k * line_size h) painted ≡ next_lines_of h f k (h.height - k)) first rest) in
    let long : length painted ≡ length whole.items = c.paint_rest.auto.pixels ∙ ap (λ (l : List ℕ). length l) c.as_mut_slice.ensures.value in
    subst (AreScanLines s) (sym (with_items_is whole.len whole.items painted whole.ok.0 long)) picture

pub returns-in-Err-clause-refusal : goal.returns-in-Err-clause-refusal
returns-in-Err-clause-refusal c other bytes seen = c.in-Err.ensures.refusal other bytes (subst (λ (v : PartialViewValue). IsSeen v bytes) (sym c.self.view_is) seen).partial_file
