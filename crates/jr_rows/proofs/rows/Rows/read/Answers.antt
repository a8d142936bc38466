use Rattle.std.proofs.Common.{arith, sym, subst, ap, ◌∙◌, ◌≡◌, ℕ, ◌+◌, ◌*◌, ◌/◌, ◌%◌, ◌<◌, ◌≤◌, ◌++◌, drop, [], length, slice_index_or}
use Rattle.std.proofs.lemmas.List.{get_or_append_left, length-take-le}
use Rattle.jr_head.specs.HeadValue.{HeadValue}
use Rattle.jr_head.specs.Geometry.{blocks_of, mcus_across, mcus_down, quantiser_of}
use Rattle.jr_idct.specs.Transform.{samples}
use Rattle.jr_mcu.specs.Mcus.{component}
use Rattle.jr_rows.specs.Bands.{unit_shown}
use Rattle.jr_rows.specs.Rows.{CountsMarks, coded_before, coded_in, intervals_before, mcus_before}
use Rattle.jr_scan.specs.ScanValue.{ScanValue}
use Rattle.jr_rows.specs.Cursors.{mcus_to}
use Rattle.jr_rows.proofs.rows.Rows.read.Goals as goal

pub returns-clause-read : goal.returns-clause-read
returns-clause-read c b first k lt =
    let h = c.args.part.now.scan.head in
    let per = blocks_of h in
    let new = c.read_mcus-marked.new.blocks in
    let row = c.args.self.now.row in
    let head : c.head-head.result.now ≡ h = c.head-head.ensures.value ∙ ap (λ (s : ScanValue). s.head) c.scan.ensures in
    let here = c.coded_of_row-coded.ensures.value ∙ ap (λ (s : ScanValue). coded_in s.head c.limit.result row) c.scan-2.ensures in
    let coded : c.coded_of_row-coded.result ≡ coded_in h c.args.part.now.limit row = here ∙ ap (λ (n : ℕ). coded_in h n row) c.limit.ensures.value in
    let times = ap (λ (m : ℕ). m * per) coded in
    let across : c.shape_of.result.across ≡ mcus_across h = c.shape_of.ensures.across ∙ ap (λ (x : HeadValue). mcus_across x) head in
    let per_is : length c.order.result.now ≡ per = c.order.ensures.count ∙ ap (λ (x : HeadValue). blocks_of x) head in
    let whole = ap (λ (n : ℕ). n * length c.order.result.now) across ∙ ap (λ (n : ℕ). mcus_across h * n) per_is in
    let inside : c.units_to-end.result ≤ length c.args.blocks.now = omega (arith, c.units_to-end.ensures.within, whole, c.requires.space) in
    let end : c.units_to-end.result ≡ c.coded_of_row-coded.result * per = c.units_to-end.ensures.value ∙ ap (λ (n : ℕ). c.coded_of_row-coded.result * n) per_is in
    let long : length new ≡ c.coded_of_row-coded.result * per = c.read_mcus-marked.auto.blocks ∙ length-take-le c.units_to-end.result c.args.blocks.now inside ∙ end in
    let block : slice_index_or (new ++ drop c.units_to-end.result c.args.blocks.now) k [] ≡ slice_index_or new k [] = get_or_append_left new (drop c.units_to-end.result c.args.blocks.now) [] k (omega (arith, lt, long, times)) in
    ap (λ z. samples z (quantiser_of h (component h k))) block ∙ c.read_mcus-marked.ensures.returned b first k (omega (arith, lt, times)) ∙ ap (λ (m : ℕ). unit_shown b (m + k / per) (k % per)) c.requires.rows.at

pub read_mcus-marked-requires-clause-lies : goal.read_mcus-marked-requires-clause-lies
read_mcus-marked-requires-clause-lies c = c.requires.rows.lies

pub read_mcus-marked-requires-clause-same : goal.read_mcus-marked-requires-clause-same
read_mcus-marked-requires-clause-same c = c.requires.same

pub returns-clause-rows : goal.returns-clause-rows
returns-clause-rows c =
    let n = c.args.part.now.limit in
    let row = c.args.self.now.row in
    let h = c.args.part.now.scan.head in
    let coded = c.coded_of_row-coded.result in
    let here = subst (λ (s : ScanValue). coded_before s.head c.limit.result row + coded ≡ coded_before s.head c.limit.result (row + 1)) c.scan-2.ensures c.coded_of_row-coded.ensures.moved in
    let rest = subst (λ (k : ℕ). coded_before h k row + coded ≡ coded_before h k (row + 1)) c.limit.ensures.value here in
    record { lies = c.read_mcus-marked.ensures.lies; at = omega (arith, c.read_mcus-marked.ensures.moved, c.requires.rows.at, rest) }

pub returns-clause-counts : goal.returns-clause-counts
returns-clause-counts c =
    let t = c.args.part.now.scan in
    let n = c.args.part.now.limit in
    let row = c.args.self.now.row in
    let h = t.head in
    let next = c.read_mcus-marked.new.cursor in
    let coded = c.coded_of_row-coded.result in
    let here = subst (λ (s : ScanValue). coded_before s.head c.limit.result row + coded ≡ coded_before s.head c.limit.result (row + 1)) c.scan-2.ensures c.coded_of_row-coded.ensures.moved in
    let rest = subst (λ (k : ℕ). coded_before h k row + coded ≡ coded_before h k (row + 1)) c.limit.ensures.value here in
    let to : mcus_to h next ≡ coded_before h n (row + 1) = omega (arith, c.read_mcus-marked.ensures.moved, c.requires.rows.at, rest) in
    let from = subst (λ (m : ℕ). CountsMarks t n (intervals_before h m) (intervals_before h (mcus_to h next)) c.read_mcus-marked.result) c.requires.rows.at c.read_mcus-marked.ensures.counts in
    subst (λ (m : ℕ). CountsMarks t n (intervals_before h (coded_before h n row)) (intervals_before h m) c.read_mcus-marked.result) to from

pub coded_of_row-coded-requires : goal.coded_of_row-coded-requires
coded_of_row-coded-requires c = subst (λ (s : ScanValue). c.args.self.now.row < mcus_down s.head) (sym c.scan-2.ensures) c.requires.row

pub units_to-end-requires-clause-few : goal.units_to-end-requires-clause-few
units_to-end-requires-clause-few c =
    let coded = c.coded_of_row-coded.result in
    let head = c.head-head.ensures.value ∙ ap (λ (s : ScanValue). s.head) c.scan.ensures in
    let across = c.shape_of.ensures.across ∙ ap (λ (x : HeadValue). mcus_across x) head in
    subst (λ (n : ℕ). coded ≤ n) (sym across) (subst (λ (s : ScanValue). coded ≤ mcus_across s.head) c.scan-2.ensures c.coded_of_row-coded.ensures.few)

pub units_to-end-requires-clause-short : goal.units_to-end-requires-clause-short
units_to-end-requires-clause-short c = c.order.ensures.few

pub slice_bounds-read_mcus-end : goal.slice_bounds-read_mcus-end
slice_bounds-read_mcus-end c =
    let h = c.args.part.now.scan.head in
    let head = c.head-head.ensures.value ∙ ap (λ (s : ScanValue). s.head) c.scan.ensures in
    let across = c.shape_of.ensures.across ∙ ap (λ (x : HeadValue). mcus_across x) head in
    let per_is = c.order.ensures.count ∙ ap (λ (x : HeadValue). blocks_of x) head in
    let whole = ap (λ (n : ℕ). n * length c.order.result.now) across ∙ ap (λ (n : ℕ). mcus_across h * n) per_is in
    omega (arith, c.units_to-end.ensures.within, whole, c.requires.space)

pub read_mcus-marked-requires-clause-few : goal.read_mcus-marked-requires-clause-few
read_mcus-marked-requires-clause-few c =
    let h = c.args.part.now.scan.head in
    let row = c.args.self.now.row in
    let coded = c.coded_of_row-coded.result in
    let near = subst (λ (s : ScanValue). coded_before s.head c.limit.result row + coded ≤ mcus_before s.head c.limit.result) c.scan-2.ensures c.coded_of_row-coded.ensures.inside in
    let inside = subst (λ (k : ℕ). coded_before h k row + coded ≤ mcus_before h k) c.limit.ensures.value near in
    subst (λ (n : ℕ). n + coded ≤ mcus_before h c.args.part.now.limit) (sym c.requires.rows.at) inside

pub read_mcus-marked-requires-clause-space : goal.read_mcus-marked-requires-clause-space
read_mcus-marked-requires-clause-space c =
    let h = c.args.part.now.scan.head in
    let head = c.head-head.ensures.value ∙ ap (λ (s : ScanValue). s.head) c.scan.ensures in
    let across = c.shape_of.ensures.across ∙ ap (λ (x : HeadValue). mcus_across x) head in
    let per_is = c.order.ensures.count ∙ ap (λ (x : HeadValue). blocks_of x) head in
    let whole = ap (λ (n : ℕ). n * length c.order.result.now) across ∙ ap (λ (n : ℕ). mcus_across h * n) per_is in
    let inside : c.units_to-end.result ≤ length c.args.blocks.now = omega (arith, c.units_to-end.ensures.within, whole, c.requires.space) in
    length-take-le c.units_to-end.result c.args.blocks.now inside ∙ c.units_to-end.ensures.value ∙ ap (λ (n : ℕ). c.coded_of_row-coded.result * n) per_is
