use Rattle.std.proofs.Common.{arith, sym, subst, ap, ◌∙◌, length, ◌≡◌, ℕ, ◌*◌, ◌%◌, ◌<◌, ◌≤◌, [], None, slice_index_or}
use Rattle.std.proofs.Math.Nat.{mul-le-mul_right}
use Rattle.jr_head.specs.HeadValue.{HeadValue}
use Rattle.jr_head.specs.Geometry.{blocks_of, mcus_across}
use Rattle.jr_piece.specs.Outcome.{unit_of}
use Rattle.jr_rows.specs.Bands.{unit_shown_of}
use Rattle.jr_rows.specs.Groups.{units_in}
use Rattle.jr_rows.specs.RowLines.{HasLines}
use Rattle.jr_rows.specs.RowsValue.{SampleRowValue}
use Rattle.jr_rows.specs.Rows.{HasSampleSpace, coded_in}
use Rattle.jr_rows.proofs.GroupLists.{units_long}
use Rattle.jr_rows.proofs.ShownUnits.{row_shown}
use Rattle.jr_rows.proofs.sample_row.SampleRow.transform.Goals as goal

pub returns-clause-units : goal.returns-clause-units
returns-clause-units c =
    let t = c.args.scan.now in
    let h = t.head in
    let n = c.args.limit in
    let row = c.args.row in
    let per = blocks_of h in
    let us = units_in h c.decode.new.self.groups in
    let long = units_long h c.decode.new.self.groups in
    let head : c.head-head.result.now ≡ h = c.head-head.ensures.value in
    let some : 0 < per = omega (arith, c.order-some.ensures.some, c.order-some.ensures.count ∙ ap (λ (x : HeadValue). blocks_of x) head) in
    let coded : c.coded_of_row-coded.result * per ≡ coded_in h n row * per = ap (λ (k : ℕ). k * per) c.coded_of_row-coded.ensures.value in
    let decoded : (k : ℕ) → k < c.coded_of_row-coded.result * per → slice_index_or us k [] ≡ unit_of h c.args.blocks.now k = rw head at c.decode.ensures.decoded in
    let blank : (k : ℕ) → c.coded_of_row-coded.result * per ≤ k → k < mcus_across h * per → slice_index_or us k [] ≡ unit_shown_of h (k % per) None 0 = rw head at c.decode.ensures.blank in
    row_shown t n row c.requires.row some us long (λ b first k lt. decoded k (omega (arith, lt, coded)) ∙ c.requires.read b first k lt) (λ k le lt. blank k (omega (arith, le, coded)) (omega (arith, lt, long)))

pub returns-clause-space : goal.returns-clause-space
returns-clause-space c =
    let had = subst (HasSampleSpace c.args.scan.now.head) (sym c.self.view_is) c.requires.space in
    let lines = subst (λ (g : HeadValue). HasLines g c.decode.new.self) c.head-head.ensures.value c.decode.ensures.space in
    record { blocks = had.blocks; lines = lines; space = had.space }

pub decode-requires-clause-space : goal.decode-requires-clause-space
decode-requires-clause-space c =
    let lines = subst (λ (r : SampleRowValue). HasLines c.args.scan.now.head r.lines) (sym c.self.view_is) c.requires.space.lines in
    subst (λ (g : HeadValue). HasLines g c.self.inside.lines) (sym c.head-head.ensures.value) lines

pub decode-requires-clause-few : goal.decode-requires-clause-few
decode-requires-clause-few c =
    subst (λ (g : HeadValue). c.coded_of_row-coded.result ≤ mcus_across g) (sym c.head-head.ensures.value) c.coded_of_row-coded.ensures.few

pub decode-requires-clause-blocks : goal.decode-requires-clause-blocks
decode-requires-clause-blocks c =
    let h = c.args.scan.now.head in
    let few = mul-le-mul_right (blocks_of h) c.coded_of_row-coded.ensures.few in
    let fits : c.coded_of_row-coded.result * blocks_of h ≤ length c.args.blocks.now = omega (arith, few, c.requires.long) in
    subst (λ (g : HeadValue). c.coded_of_row-coded.result * blocks_of g ≤ length c.args.blocks.now) (sym c.head-head.ensures.value) fits
