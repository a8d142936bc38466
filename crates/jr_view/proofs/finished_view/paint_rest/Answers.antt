use Rattle.std.proofs.Common.{◌≡◌, ℕ, ◌+◌, ◌-◌, ◌*◌, ◌≤◌, length, take, drop, sym, ap, subst, ◌∙◌, arith}
use Rattle.std.proofs.Math.Nat.{add-mul}
use Rattle.std.proofs.lemmas.List.{drop_all}
use Rattle.std.proofs.lemmas.Nat.{mul-le}
use borrow.Rule.Slice.PartMut.{mid_len, put_mid, take_put}
use Rattle.jr_head.specs.HeadValue.{HeadValue}
use Rattle.jr_paint.specs.Lines.{line_size, next_lines_of}
use Rattle.jr_view.proofs.PartialViews.{store_after, rest_same}
use Rattle.jr_view.proofs.finished_view.paint_rest.Goals as goal

pub paint_scan_lines-requires-clause-space : goal.paint_scan_lines-requires-clause-space
paint_scan_lines-requires-clause-space c =
    let h = c.args.scan.now.head in
    let head : c.head-head.result.now ≡ h = c.head-head.ensures.value in
    let line : c.shape_of.result.line ≡ line_size h = c.shape_of.ensures.line ∙ ap (λ (g : HeadValue). line_size g) head in
    let high : c.height.result ≡ h.height = c.height.ensures.value ∙ ap (λ (g : HeadValue). g.height) head in
    let from = c.args.first * c.shape_of.result.line in
    let from_is : from ≡ c.args.first * line_size h = ap (λ (k : ℕ). c.args.first * k) line in
    let left = h.height - c.args.first in
    let whole : h.height ≡ c.args.first + left = omega (arith, c.requires.few) in
    let all : h.height * line_size h ≡ (c.args.first + left) * line_size h = ap (λ (k : ℕ). k * line_size h) whole in
    let sum = add-mul c.args.first left (line_size h) in
    let size : length c.args.pixels.now - from ≡ left * line_size h = omega (arith, from_is, all, sum, c.requires.size) in
    mid_len from (length c.args.pixels.now) c.args.pixels.now (omega arith) ∙ size ∙ ap (λ (k : ℕ). (k - c.args.first) * line_size h) (sym high)

pub returns-clause-before : goal.returns-clause-before
returns-clause-before c =
    let h = c.args.scan.now.head in
    let head : c.head-head.result.now ≡ h = c.head-head.ensures.value in
    let line : c.shape_of.result.line ≡ line_size h = c.shape_of.ensures.line ∙ ap (λ (g : HeadValue). line_size g) head in
    let from = c.args.first * c.shape_of.result.line in
    let from_is : from ≡ c.args.first * line_size h = ap (λ (k : ℕ). c.args.first * k) line in
    let left = h.height - c.args.first in
    let whole : h.height ≡ c.args.first + left = omega (arith, c.requires.few) in
    let all : h.height * line_size h ≡ (c.args.first + left) * line_size h = ap (λ (k : ℕ). k * line_size h) whole in
    let sum = add-mul c.args.first left (line_size h) in
    let inside : from ≤ length c.args.pixels.now = omega (arith, from_is, all, sum, c.requires.size) in
    let painted = put_mid from (length c.args.pixels.now - from) c.args.pixels.now c.paint_scan_lines.new.pixels in
    subst (λ (k : ℕ). take k painted ≡ take k c.args.pixels.now) from_is (take_put from (length c.args.pixels.now - from) c.args.pixels.now c.paint_scan_lines.new.pixels inside)

pub returns-clause-rest : goal.returns-clause-rest
returns-clause-rest c marks f shows =
    let s = c.args.scan.now in
    let h = s.head in
    let head : c.head-head.result.now ≡ h = c.head-head.ensures.value in
    let line : c.shape_of.result.line ≡ line_size h = c.shape_of.ensures.line ∙ ap (λ (g : HeadValue). line_size g) head in
    let high : c.height.result ≡ h.height = c.height.ensures.value ∙ ap (λ (g : HeadValue). g.height) head in
    let from = c.args.first * c.shape_of.result.line in
    let from_is : from ≡ c.args.first * line_size h = ap (λ (k : ℕ). c.args.first * k) line in
    let left = h.height - c.args.first in
    let whole : h.height ≡ c.args.first + left = omega (arith, c.requires.few) in
    let all : h.height * line_size h ≡ (c.args.first + left) * line_size h = ap (λ (k : ℕ). k * line_size h) whole in
    let sum = add-mul c.args.first left (line_size h) in
    let inside : from ≤ length c.args.pixels.now = omega (arith, from_is, all, sum, c.requires.size) in
    let count : c.height.result - c.args.first ≡ left = ap (λ (k : ℕ). k - c.args.first) high in
    let few : c.args.first + (c.height.result - c.args.first) ≤ h.height = omega (arith, high, c.requires.few) in
    let tail = c.paint_scan_lines.new.pixels in
    let painted = put_mid from (length c.args.pixels.now - from) c.args.pixels.now tail in
    let lines : tail ≡ next_lines_of h f c.args.first (c.height.result - c.args.first) = rest_same s c.args.first (c.height.result - c.args.first) tail c.in_ok-paint_scan_lines.field-0 few c.in_ok-paint_scan_lines.ensures.painted marks f shows in
    subst (λ (k : ℕ). drop k painted ≡ tail) from_is (store_after from c.args.pixels.now tail inside) ∙ lines ∙ ap (next_lines_of h f c.args.first) count

pub returns-then-left-eq0-clause-rest : goal.returns-then-left-eq0-clause-rest
returns-then-left-eq0-clause-rest c marks f shows =
    let h = c.args.scan.now.head in
    let high : c.height.result ≡ h.height = c.height.ensures.value ∙ ap (λ (g : HeadValue). g.height) c.head-head.ensures.value in
    let none : h.height - c.args.first ≡ 0 = omega (arith, high, c.if-left-eq0.true) in
    let last : h.height ≡ c.args.first = omega (arith, none, c.requires.few) in
    let size : length c.args.pixels.now ≡ c.args.first * line_size h = c.requires.size ∙ ap (λ (k : ℕ). k * line_size h) last in
    drop_all (c.args.first * line_size h) c.args.pixels.now (omega (arith, size)) ∙ ap (λ (k : ℕ). next_lines_of h f c.args.first k) (sym none)

pub slice_bounds-paint_scan_lines-count : goal.slice_bounds-paint_scan_lines-count
slice_bounds-paint_scan_lines-count c =
    let h = c.args.scan.now.head in
    let line : c.shape_of.result.line ≡ line_size h = c.shape_of.ensures.line ∙ ap (λ (g : HeadValue). line_size g) c.head-head.ensures.value in
    let from_is : c.args.first * c.shape_of.result.line ≡ c.args.first * line_size h = ap (λ (k : ℕ). c.args.first * k) line in
    omega (arith, from_is, c.requires.size, mul-le c.args.first (line_size h) h.height (line_size h) c.requires.few (omega arith))
