use Rattle.std.proofs.Common.{arith, refl, sym, subst, ap, ◌∙◌, ◌≡◌, ℕ, ◌+◌, ◌-◌, ◌*◌, ◌%◌, ◌<◌, ◌≤◌, ◌^◌, min, [], None, length, drop, slice_index_or, length-append, length-drop}
use Rattle.std.proofs.Math.Nat.{add-mul, mul-le-mul_right}
use Rattle.std.proofs.lemmas.List.{length-take-le}
use mir.Syntax.{w32}
use mir.Val.{Fits}
use Rattle.jr_head.specs.HeadValue.{HeadValue}
use Rattle.jr_head.specs.Geometry.{blocks_of, mcus_across, mcus_down}
use Rattle.jr_scan.specs.ScanValue.{ScanValue, intervals_of}
use Rattle.jr_piece.specs.Outcome.{unit_of}
use Rattle.jr_rows.specs.Bands.{unit_shown, unit_shown_of}
use Rattle.jr_rows.specs.Cursors.{mcus_to}
use Rattle.jr_rows.specs.Groups.{units_in}
use Rattle.jr_rows.specs.MarkBytes.{StoresMarks}
use Rattle.jr_rows.specs.RowLines.{HasLines, mcus_at_once}
use Rattle.jr_rows.specs.Rows.{CountsMarks, ShowsAfter, ShowsFirstUnits, coded_before, coded_in, intervals_before, mcus_before}
use Rattle.jr_rows.proofs.GroupLists.{units_long}
use Rattle.jr_rows.proofs.IntervalPlaces.{ends_few}
use Rattle.jr_rows.specs.RowsValue.{SampleRowValue}
use Rattle.jr_rows.proofs.Lent.{all_back}
use Rattle.jr_rows.proofs.StoredMarks.{stores_both, stores_none}
use Rattle.jr_rows.proofs.ReadRows.{counts_both, counts_none, shown_more}
use Rattle.jr_rows.proofs.ShownUnits.{row_shown}
use Rattle.jr_rows.proofs.rows.Rows.decode.Goals as goal

-- the borrowed blocks fit
fits : (units at_once per most blocks long : ℕ) → units ≤ at_once * per → at_once ≡ most → per ≡ blocks → long ≡ most * blocks → units ≤ long
fits units at_once per most blocks long within e is all = let whole = ap (λ (n : ℕ). n * per) e ∙ ap (λ (n : ℕ). most * n) is in omega (arith, within, whole, all)

few_at_once : (some at_once rest : ℕ) → some ≡ min at_once rest → some ≤ at_once
few_at_once some at_once rest e = omega (arith, e)

falls : (some at_once coded done : ℕ) → some ≡ min at_once (coded - done) → 0 < at_once → done < coded → coded - (done + some) < coded - done
falls some at_once coded done e more lt = omega (arith, e, more, lt)

done_fits : (some at_once coded done : ℕ) → some ≡ min at_once (coded - done) → done ≤ coded → coded < 2 ^ 32 → Fits w32 (done + some)
done_fits some at_once coded done e le lt = omega (arith, e, le, lt)

pub transform_blocks-requires-clause-inside : goal.transform_blocks-requires-clause-inside
transform_blocks-requires-clause-inside c =
    let h = c.args.part.now.scan.head in
    let hd = c.head-head.result.now in
    let here : hd ≡ h = c.head-head.ensures.value ∙ ap (λ (s : ScanValue). s.head) c.scan.ensures in
    let some = c.min-some.result in
    let per_is : length c.order-per_mcu.result.now ≡ blocks_of h = c.order-per_mcu.ensures.count ∙ ap (λ (x : HeadValue). blocks_of x) here in
    let inside : c.units_to.result ≤ length c.parts.blocks = fits _ _ _ _ _ _ c.units_to.ensures.within (c.mcus_at_once-at_once.ensures.value ∙ ap (λ (x : HeadValue). mcus_at_once x) here) per_is (c.parts.invariant.near ∙ ap (λ z. length z) c.as_mut_slice-blocks.ensures.value ∙ ap (λ (r : SampleRowValue). length r.blocks) c.work.view_is ∙ c.requires.space.blocks) in
    let done = c.parts.done in
    let per : done * blocks_of hd ≡ done * blocks_of h = ap (λ (x : HeadValue). done * blocks_of x) here in
    let long : length c.read_mcus-more.new.blocks ≡ some * blocks_of h = c.read_mcus-more.auto.blocks ∙ length-take-le c.units_to.result c.parts.blocks inside ∙ c.units_to.ensures.value ∙ ap (λ (k : ℕ). some * k) per_is in
    let whole : length (units_in hd c.parts.lines.groups) ≡ mcus_across h * blocks_of h = units_long hd c.parts.lines.groups ∙ ap (λ (x : HeadValue). mcus_across x * blocks_of x) here in
    let few : c.coded_of_row-coded.result ≤ mcus_across h = subst (λ (s : ScanValue). c.coded_of_row-coded.result ≤ mcus_across s.head) c.scan-3.ensures c.coded_of_row-coded.ensures.few in
    let within : done + some ≤ mcus_across h = omega (arith, c.min-some.ensures, c.parts-test.true, few) in
    let all : (done + some) * blocks_of h ≤ mcus_across h * blocks_of h = mul-le-mul_right {m = done + some} {n = mcus_across h} (blocks_of h) within in
    omega (arith, per, long, whole, all, add-mul done some (blocks_of h))

pub with-marked-requires : goal.with-marked-requires
with-marked-requires c =
    let t = c.args.part.now.scan in
    let few = ends_few t.head (mcus_to t.head c.read_mcus-more.new.cursor) in
    let space : intervals_of t.head < 2 ^ 32 = subst (λ (s : ScanValue). intervals_of s.head < 2 ^ 32) c.scan-2.ensures (subst (λ (n : ℕ). n < 2 ^ 32) c.intervals.ensures.count c.intervals.type_inv) in
    omega (arith, c.parts.invariant.counts.few, c.read_mcus-more.ensures.counts.few, few, space)

pub parts-preserved : goal.parts-preserved
parts-preserved c =
    let t = c.args.part.now.scan in
    let h = t.head in
    let n = blocks_of h in
    let limit = c.args.part.now.limit in
    let keep = c.parts.invariant in
    let read = c.read_mcus-more in
    let some = c.min-some.result in
    let done = c.parts.done in
    let from = mcus_to h c.args.self.now.cursor in
    let hd = c.head-head.result.now in
    let here : hd ≡ h = c.head-head.ensures.value ∙ ap (λ (s : ScanValue). s.head) c.scan.ensures in
    let per_is : length c.order-per_mcu.result.now ≡ blocks_of h = c.order-per_mcu.ensures.count ∙ ap (λ (x : HeadValue). blocks_of x) here in
    let inside : c.units_to.result ≤ length c.parts.blocks = fits _ _ _ _ _ _ c.units_to.ensures.within (c.mcus_at_once-at_once.ensures.value ∙ ap (λ (x : HeadValue). mcus_at_once x) here) per_is (c.parts.invariant.near ∙ ap (λ z. length z) c.as_mut_slice-blocks.ensures.value ∙ ap (λ (r : SampleRowValue). length r.blocks) c.work.view_is ∙ c.requires.space.blocks) in
    let new = c.transform_blocks.new.units in
    let old = c.parts.lines in
    let positive : 0 < n = omega (arith, c.order-per_mcu.ensures.some, per_is) in
    let long : length read.new.blocks ≡ some * n = c.read_mcus-more.auto.blocks ∙ length-take-le c.units_to.result c.parts.blocks inside ∙ c.units_to.ensures.value ∙ ap (λ (k : ℕ). some * k) per_is in
    let kept : (k : ℕ) → k < done * n → slice_index_or (units_in h new.groups) k [] ≡ slice_index_or (units_in h old.groups) k [] =
    subst (λ (x : HeadValue). (k : ℕ) → k < done * blocks_of x → slice_index_or (units_in x new.groups) k [] ≡ slice_index_or (units_in x old.groups) k []) here c.transform_blocks.ensures.kept in
    let store : (k : ℕ) → k < length read.new.blocks → slice_index_or (units_in h new.groups) (done * n + k) [] ≡ unit_of h read.new.blocks k =
    subst (λ (x : HeadValue). (k : ℕ) → k < length read.new.blocks → slice_index_or (units_in x new.groups) (done * blocks_of x + k) [] ≡ unit_of x read.new.blocks k) here c.transform_blocks.ensures.here in
    let shows : ShowsAfter t limit (from + done) (done * n) some (units_in h new.groups) =
    subst (λ (m : ℕ). ShowsAfter t limit m (done * n) some (units_in h new.groups)) keep.moved (λ b first k lt. store k (omega (arith, lt, long)) ∙ read.ensures.returned b first k lt) in
    let stores = read.ensures.stores in
    record {
      within = omega (arith, c.min-some.ensures, c.parts-test.true);
      near = omega (arith, length-append read.new.blocks (drop c.units_to.result c.parts.blocks), length-drop c.units_to.result c.parts.blocks, read.auto.blocks ∙ length-take-le c.units_to.result c.parts.blocks inside, inside, keep.near);
      space = subst (λ (x : HeadValue). HasLines x new) here c.transform_blocks.ensures.space;
      row = keep.row;
      lies = read.ensures.lies;
      moved = omega (arith, read.ensures.moved, keep.moved);
      shows = λ b first. shown_more n done some from (unit_shown b) (λ k. slice_index_or (units_in h old.groups) k []) (λ k. slice_index_or (units_in h new.groups) k []) positive (keep.shows b first) kept (shows b first);
      counts = counts_both t limit _ _ _ c.parts.marked read.result c.with-marked.result keep.counts read.ensures.counts c.with-marked.ensures.sound c.with-marked.ensures.damaged;
      places = λ there. stores.long ∙ keep.places (omega (arith, there, stores.long));
      stores = stores_both t limit _ _ _ c.args.marks.now c.parts.marks read.new.marks (omega (arith, keep.counts.few)) keep.stores stores;
    }

pub returns-clause-units : goal.returns-clause-units
returns-clause-units c =
    let t = c.args.part.now.scan in
    let h = t.head in
    let n = c.args.part.now.limit in
    let row = c.args.self.now.row in
    let per = blocks_of h in
    let us = units_in h c.parts.lines.groups in
    let all = units_in h c.fill_blank.new.self.groups in
    let coded = c.coded_of_row-coded.result in
    let coded_is : coded ≡ coded_in h n row = c.coded_of_row-coded.ensures.value ∙ ap (λ (s : ScanValue). coded_in s.head c.limit.result row) c.scan-3.ensures ∙ ap (λ (k : ℕ). coded_in h k row) c.limit.ensures.value in
    let done_is : c.parts.done ≡ coded = omega (arith, c.parts.invariant.within, c.parts-test.false) in
    let few : coded ≤ mcus_across h = subst (λ (s : ScanValue). c.coded_of_row-coded.result ≤ mcus_across s.head) c.scan-3.ensures c.coded_of_row-coded.ensures.few in
    let head : c.head-head.result.now ≡ h = c.head-head.ensures.value ∙ ap (λ (s : ScanValue). s.head) c.scan.ensures in
    let some : 0 < per = omega (arith, c.order-per_mcu.ensures.some, c.order-per_mcu.ensures.count ∙ ap (λ (x : HeadValue). blocks_of x) head) in
    let at : mcus_to h c.args.self.now.cursor ≡ coded_before h n row = c.requires.rows.at in
    let from = subst (λ (m : ℕ). ShowsFirstUnits t n m c.parts.done us) at c.parts.invariant.shows in
    let done = subst (λ (m : ℕ). ShowsFirstUnits t n (coded_before h n row) m us) done_is from in
    let kept : (k : ℕ) → k < coded * per → k < mcus_across h * per → slice_index_or all k [] ≡ slice_index_or us k [] = rw head at c.fill_blank.ensures.kept in
    let blank : (k : ℕ) → coded * per ≤ k → k < mcus_across h * per → slice_index_or all k [] ≡ unit_shown_of h (k % per) None 0 = rw head at c.fill_blank.ensures.blank in
    let most : coded * per ≤ mcus_across h * per = mul-le-mul_right {m = coded} {n = mcus_across h} per few in
    let shows : ShowsFirstUnits t n (coded_before h n row) coded all = λ b first k lt. kept k lt (omega (arith, lt, most)) ∙ done b first k lt in
    row_shown t n row c.requires.row some all (units_long h c.fill_blank.new.self.groups)
    (subst (λ (k : ℕ). ShowsFirstUnits t n (coded_before h n row) k all) coded_is shows)
    (λ k le lt. blank k (omega (arith, le, ap (λ (m : ℕ). m * per) coded_is)) (omega (arith, lt, units_long h c.fill_blank.new.self.groups)))

-- the position of the cursor after the row is decoded
pub returns-clause-counts : goal.returns-clause-counts
returns-clause-counts c =
    let t = c.args.part.now.scan in
    let h = t.head in
    let n = c.args.part.now.limit in
    let row = c.args.self.now.row in
    let coded = c.coded_of_row-coded.result in
    let near = subst (λ (s : ScanValue). coded_before s.head c.limit.result row + coded ≡ coded_before s.head c.limit.result (row + 1)) c.scan-3.ensures c.coded_of_row-coded.ensures.moved in
    let moved = subst (λ (k : ℕ). coded_before h k row + coded ≡ coded_before h k (row + 1)) c.limit.ensures.value near in
    let to : mcus_to h c.parts.self.cursor ≡ coded_before h n (row + 1) = omega (arith, moved, c.requires.rows.at, c.parts.invariant.moved, c.parts.invariant.within, c.parts-test.false) in
    let here = subst (λ (m : ℕ). CountsMarks t n (intervals_before h m) (intervals_before h (mcus_to h c.parts.self.cursor)) c.parts.marked) c.requires.rows.at c.parts.invariant.counts in
    subst (λ (m : ℕ). CountsMarks t n (intervals_before h (coded_before h n row)) (intervals_before h m) c.parts.marked) to here

pub returns-clause-stores : goal.returns-clause-stores
returns-clause-stores c =
    let t = c.args.part.now.scan in
    let h = t.head in
    let n = c.args.part.now.limit in
    let row = c.args.self.now.row in
    let coded = c.coded_of_row-coded.result in
    let near = subst (λ (s : ScanValue). coded_before s.head c.limit.result row + coded ≡ coded_before s.head c.limit.result (row + 1)) c.scan-3.ensures c.coded_of_row-coded.ensures.moved in
    let moved = subst (λ (k : ℕ). coded_before h k row + coded ≡ coded_before h k (row + 1)) c.limit.ensures.value near in
    let to : mcus_to h c.parts.self.cursor ≡ coded_before h n (row + 1) = omega (arith, moved, c.requires.rows.at, c.parts.invariant.moved, c.parts.invariant.within, c.parts-test.false) in
    let here = subst (λ (m : ℕ). StoresMarks t n (intervals_before h m) (intervals_before h (mcus_to h c.parts.self.cursor)) c.args.marks.now c.parts.marks) c.requires.rows.at c.parts.invariant.stores in
    subst (λ (m : ℕ). StoresMarks t n (intervals_before h (coded_before h n row)) (intervals_before h m) c.args.marks.now c.parts.marks) to here

pub returns-clause-space : goal.returns-clause-space
returns-clause-space c =
    let h = c.args.part.now.scan.head in
    let head : c.head-head.result.now ≡ h = c.head-head.ensures.value ∙ ap (λ (s : ScanValue). s.head) c.scan.ensures in
    let blocks = c.parts.blocks in
    let held = c.work.inside.blocks.ok.0 in
    let long : c.work.inside.blocks.len ≡ length blocks = held ∙ sym (c.parts.invariant.near ∙ ap (λ z. length z) c.as_mut_slice-blocks.ensures.value) in
    record {
      blocks = ap length (all_back c.work.inside.blocks.len blocks c.work.inside.blocks.items long) ∙ sym long ∙ held ∙ ap (λ (r : SampleRowValue). length r.blocks) c.work.view_is ∙ c.requires.space.blocks;
      lines = subst (λ (x : HeadValue). HasLines x c.fill_blank.new.self) head c.fill_blank.ensures.space;
      space = ap (λ (r : SampleRowValue). r.space) c.work.view_is ∙ c.requires.space.space;
    }

pub parts-init : goal.parts-init
parts-init c =
    let t = c.args.part.now.scan in
    let n = c.args.part.now.limit in
    record {
      within = omega arith;
      near = refl;
      space = subst (λ (v : SampleRowValue). HasLines t.head v.lines) (sym c.work.view_is) c.requires.space.lines;
      row = refl;
      lies = c.requires.rows.lies;
      moved = omega arith;
      shows = λ b _ k lt. absurd (omega (arith, lt));
      counts = counts_none t n _ _ c.none-marked.result c.none-marked.ensures.sound c.none-marked.ensures.damaged refl;
      places = c.requires.places;
      stores = stores_none t n _ _ c.args.marks.now refl;
    }

pub read_mcus-more-requires-clause-lies : goal.read_mcus-more-requires-clause-lies
read_mcus-more-requires-clause-lies c = c.parts.invariant.lies

pub read_mcus-more-requires-clause-same : goal.read_mcus-more-requires-clause-same
read_mcus-more-requires-clause-same c = c.requires.same

pub read_mcus-more-requires-clause-few : goal.read_mcus-more-requires-clause-few
read_mcus-more-requires-clause-few c =
    let h = c.args.part.now.scan.head in
    let row = c.args.self.now.row in
    let coded = c.coded_of_row-coded.result in
    let near = subst (λ (s : ScanValue). coded_before s.head c.limit.result row + coded ≤ mcus_before s.head c.limit.result) c.scan-3.ensures c.coded_of_row-coded.ensures.inside in
    let inside = subst (λ (k : ℕ). coded_before h k row + coded ≤ mcus_before h k) c.limit.ensures.value near in
    omega (arith, inside, c.requires.rows.at, c.parts.invariant.moved, c.min-some.ensures, c.parts-test.true)

pub read_mcus-more-requires-clause-space : goal.read_mcus-more-requires-clause-space
read_mcus-more-requires-clause-space c =
    let h = c.args.part.now.scan.head in
    let here : c.head-head.result.now ≡ h = c.head-head.ensures.value ∙ ap (λ (s : ScanValue). s.head) c.scan.ensures in
    let per_is : length c.order-per_mcu.result.now ≡ blocks_of h = c.order-per_mcu.ensures.count ∙ ap (λ (x : HeadValue). blocks_of x) here in
    let inside : c.units_to.result ≤ length c.parts.blocks = fits _ _ _ _ _ _ c.units_to.ensures.within (c.mcus_at_once-at_once.ensures.value ∙ ap (λ (x : HeadValue). mcus_at_once x) here) per_is (c.parts.invariant.near ∙ ap (λ z. length z) c.as_mut_slice-blocks.ensures.value ∙ ap (λ (r : SampleRowValue). length r.blocks) c.work.view_is ∙ c.requires.space.blocks) in
    length-take-le c.units_to.result c.parts.blocks inside ∙ c.units_to.ensures.value ∙ ap (λ (k : ℕ). c.min-some.result * k) per_is

pub read_mcus-more-requires-clause-places : goal.read_mcus-more-requires-clause-places
read_mcus-more-requires-clause-places c = c.parts.invariant.places

pub transform_blocks-requires-clause-space : goal.transform_blocks-requires-clause-space
transform_blocks-requires-clause-space c =
    let here = c.head-head.ensures.value ∙ ap (λ (s : ScanValue). s.head) c.scan.ensures in
    subst (λ (x : HeadValue). HasLines x c.parts.lines) (sym here) c.parts.invariant.space

pub returns-clause-rows : goal.returns-clause-rows
returns-clause-rows c =
    let h = c.args.part.now.scan.head in
    let n = c.args.part.now.limit in
    let row = c.args.self.now.row in
    let coded = c.coded_of_row-coded.result in
    let near = subst (λ (s : ScanValue). coded_before s.head c.limit.result row + coded ≡ coded_before s.head c.limit.result (row + 1)) c.scan-3.ensures c.coded_of_row-coded.ensures.moved in
    let moved = subst (λ (k : ℕ). coded_before h k row + coded ≡ coded_before h k (row + 1)) c.limit.ensures.value near in
    let to : mcus_to h c.parts.self.cursor ≡ coded_before h n (row + 1) = omega (arith, moved, c.requires.rows.at, c.parts.invariant.moved, c.parts.invariant.within, c.parts-test.false) in
    record { lies = c.parts.invariant.lies; at = to ∙ ap (λ (k : ℕ). coded_before h n (k + 1)) (sym c.parts.invariant.row) }

pub coded_of_row-coded-requires : goal.coded_of_row-coded-requires
coded_of_row-coded-requires c = subst (λ (s : ScanValue). c.args.self.now.row < mcus_down s.head) (sym c.scan-3.ensures) c.requires.row

pub overflow_sub-coded : goal.overflow_sub-coded
overflow_sub-coded c = c.parts.invariant.within

pub units_to-requires-clause-few : goal.units_to-requires-clause-few
units_to-requires-clause-few c = few_at_once c.min-some.result c.mcus_at_once-at_once.result _ c.min-some.ensures

pub units_to-requires-clause-short : goal.units_to-requires-clause-short
units_to-requires-clause-short c = c.order-per_mcu.ensures.few

pub slice_bounds-near-end : goal.slice_bounds-near-end
slice_bounds-near-end c =
    let here = c.head-head.ensures.value ∙ ap (λ (s : ScanValue). s.head) c.scan.ensures in
    let per_is = c.order-per_mcu.ensures.count ∙ ap (λ (x : HeadValue). blocks_of x) here in
    fits _ _ _ _ _ _ c.units_to.ensures.within (c.mcus_at_once-at_once.ensures.value ∙ ap (λ (x : HeadValue). mcus_at_once x) here) per_is
    (c.parts.invariant.near ∙ ap (λ z. length z) c.as_mut_slice-blocks.ensures.value ∙ ap (λ (r : SampleRowValue). length r.blocks) c.work.view_is ∙ c.requires.space.blocks)

pub slice_bounds-near-end-in-parts : goal.slice_bounds-near-end-in-parts
slice_bounds-near-end-in-parts c =
    let here = c.head-head.ensures.value ∙ ap (λ (s : ScanValue). s.head) c.scan.ensures in
    let per_is = c.order-per_mcu.ensures.count ∙ ap (λ (x : HeadValue). blocks_of x) here in
    let inside = fits _ _ _ _ _ _ c.units_to.ensures.within (c.mcus_at_once-at_once.ensures.value ∙ ap (λ (x : HeadValue). mcus_at_once x) here) per_is
    (c.parts.invariant.near ∙ ap (λ z. length z) c.as_mut_slice-blocks.ensures.value ∙ ap (λ (r : SampleRowValue). length r.blocks) c.work.view_is ∙ c.requires.space.blocks) in
    sym (length-take-le c.units_to.result c.parts.blocks inside)

pub fill_blank-requires : goal.fill_blank-requires
fill_blank-requires c =
    let here = c.head-head.ensures.value ∙ ap (λ (s : ScanValue). s.head) c.scan.ensures in
    record { space = subst (λ (x : HeadValue). HasLines x c.parts.lines) (sym here) c.parts.invariant.space }

pub overflow_add-done : goal.overflow_add-done
overflow_add-done c = done_fits c.min-some.result c.mcus_at_once-at_once.result c.coded_of_row-coded.result c.parts.done c.min-some.ensures c.parts.invariant.within c.coded_of_row-coded.type_inv

pub parts-smaller : goal.parts-smaller
parts-smaller c = falls c.min-some.result c.mcus_at_once-at_once.result c.coded_of_row-coded.result c.parts.done c.min-some.ensures c.mcus_at_once-at_once.ensures.some c.parts-test.true
