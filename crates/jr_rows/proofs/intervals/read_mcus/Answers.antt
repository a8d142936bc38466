use Rattle.std.proofs.Common.{rules, arith, refl, sym, subst, ap, add-zero, ◌∙◌, ◌≡◌, ℕ, ◌+◌, ◌-◌, ◌*◌, ◌<◌, ◌≤◌, ◌^◌, min, [], length, slice_index_or}
use Rattle.std.specs.Option.{IfSome}
use Rattle.std.proofs.Math.Nat.{add-mul}
use borrow.Rule.Slice.PartMut.{mid_len, put_mid, same_len_mid}
use mir.Syntax.{w32}
use mir.Val.{Fits}
use Rattle.jr_head.specs.HeadValue.{HeadValue}
use Rattle.jr_head.specs.Geometry.{blocks_of, mcus_of, order_of, quantiser_of}
use Rattle.jr_idct.specs.Transform.{samples}
use Rattle.jr_mcu.specs.Mcus.{component}
use Rattle.jr_scan.specs.Speculations.{AreSpeculationsOf}
use Rattle.jr_scan.specs.IntervalValue.{IntervalValue}
use Rattle.jr_scan.specs.ScanValue.{ScanValue, interval_of, intervals_of}
use Rattle.jr_scan.specs.Mcus.{units_before}
use Rattle.jr_scan.specs.Cursors.{AreBlocksFrom, IsPlaceAfter}
use Rattle.jr_piece.specs.PieceValue.{PieceValue}
use Rattle.jr_piece.specs.Outcome.{IsOutcome, unit_of}
use Rattle.jr_piece.specs.Units.{CodesUnits}
use Rattle.jr_piece.proofs.CodedUnits.{read_codes}
use Rattle.jr_piece.proofs.Parts.{kept_before, store_there}
use Rattle.jr_rows.specs.Bands.{unit_shown}
use Rattle.jr_rows.specs.Cursors.{IsCursorOf, mcus_to}
use Rattle.jr_rows.specs.MarkBytes.{StoresMarks}
use Rattle.jr_rows.specs.Rows.{CountsMarks, ReturnsAfter, ReturnsMcus, intervals_before}
use Rattle.jr_rows.proofs.RowCursors.{IsReady, decoded, ended}
use Rattle.jr_rows.proofs.IntervalPlaces.{ends_few, first_few}
use Rattle.jr_rows.proofs.StoredMarks.{stores_both, stores_none}
use Rattle.jr_rows.proofs.ReadRows.{counts_both, counts_none, returns_there, shown_more}
use Rattle.jr_rows.proofs.intervals.read_mcus.Goals as goal

-- the MCUs that an interval has left, at most those that are still to be read
some_within : (some left mcus done : ℕ) → some ≡ min left (mcus - done) → done ≤ mcus → done + some ≤ mcus
some_within some left mcus done e le = omega (arith, e, le)

some_left : (at some left rest all : ℕ) → some ≡ min left rest → at + left ≡ all → at + some ≤ all
some_left at some left rest all e is = omega (arith, e, is)

some_read : (some left mcus done : ℕ) → some ≡ min left (mcus - done) → 0 < left → done < mcus → 0 < some
some_read some left mcus done e more lt = omega (arith, e, more, lt)

falls : (some left mcus done : ℕ) → some ≡ min left (mcus - done) → 0 < left → done < mcus → mcus - (done + some) < mcus - done
falls some left mcus done e more lt = omega (arith, e, more, lt)

fits_all : (done some mcus : ℕ) → done + some ≤ mcus → Fits w32 mcus → Fits w32 (done + some)
fits_all done some mcus le lt = omega (arith, le, lt)

after_it : (at mcu some : ℕ) → at ≡ mcu + some → 0 < some → 0 < at
after_it at mcu some e more = omega (arith, e, more)

all_read : (done mcus : ℕ) → done ≤ mcus → mcus ≤ done → done ≡ mcus
all_read done mcus le ge = omega (arith, le, ge)

part_size : (start end done some per : ℕ) → start ≡ done * per → end ≡ (done + some) * per → end - start ≡ some * per
part_size start end done some per at to = let sum = add-mul done some per in omega (arith, at, to, sum)

pub ready-requires-clause-more : goal.ready-requires-clause-more
ready-requires-clause-more c =
    let t = c.args.part.now.scan in
    let at = c.intervals.cursor in
    let is : c.scan-scan.result.now ≡ t = c.scan-scan.ensures in
    let some : 0 < mcus_of t.head = search (rules, arith) in
    let few = first_few t.head c.args.part.now.limit some in
    subst (λ (s : ScanValue). mcus_to s.head at < mcus_of s.head) (sym is) (omega (arith, few, c.requires.few, c.intervals.invariant.moved, c.intervals-test.true))

pub read-requires-clause-same : goal.read-requires-clause-same
read-requires-clause-same c =
    let t = c.args.part.now.scan in
    let r = c.ready.new.cursor in
    let interval : c.fork.result ≡ interval_of t r.number = c.fork.ensures ∙ c.interval_ref-interval.ensures ∙ ap (λ (s : ScanValue). interval_of s r.number) c.scan-scan.ensures in
    subst (λ (i : IntervalValue). IfSome c.of_interval-own.result (λ g. AreSpeculationsOf i g.now)) (sym interval) (c.of_interval-own.ensures t c.requires.same)

pub mark_ended-more-requires-clause-decoded : goal.mark_ended-more-requires-clause-decoded
mark_ended-more-requires-clause-decoded c =
    let t = c.args.part.now.scan in
    let at = c.intervals.cursor in
    let r = c.ready.new.cursor in
    let e = c.ready.ensures in
    let ready : IsReady t at r c.ready.result = subst (λ (s : ScanValue). IsReady s at r c.ready.result) c.scan-scan.ensures (record { number = e.number; some = e.some; left_is = e.left; to = e.to }) in
    let least : c.min-some.result ≡ min c.ready.result (c.args.mcus - c.intervals.done) = c.min-some.ensures in
    let lt = decoded t c.args.part.now.limit at r c.ready.result ready c.min-some.result (omega (arith, least, e.some, c.intervals-test.true)) (omega (arith, least, c.requires.few, c.intervals.invariant.moved, c.intervals-test.true)) in
    omega (arith, lt, c.read.ensures.number)

pub with-marked-requires : goal.with-marked-requires
with-marked-requires c =
    let t = c.args.part.now.scan in
    let n = c.args.part.now.limit in
    let at = c.intervals.cursor in
    let r = c.ready.new.cursor in
    let e = c.ready.ensures in
    let ready : IsReady t at r c.ready.result = subst (λ (s : ScanValue). IsReady s at r c.ready.result) c.scan-scan.ensures (record { number = e.number; some = e.some; left_is = e.left; to = e.to }) in
    let here = c.read.ensures.number ∙ ended t n at r c.ready.result ready in
    let few = ends_few t.head (mcus_to t.head c.read.new.self) in
    let space : intervals_of t.head < 2 ^ 32 = search (rules, arith) in
    omega (arith, c.intervals.invariant.counts.few, c.mark_ended-more.ensures.counts.few, here, few, space)

pub intervals-preserved : goal.intervals-preserved
intervals-preserved c =
    let t = c.args.part.now.scan in
    let limit = c.args.part.now.limit in
    let h = t.head in
    let n = blocks_of h in
    let keep = c.intervals.invariant in
    let at = c.intervals.cursor in
    let done = c.intervals.done in
    let from = mcus_to h c.args.cursor.now in
    let r = c.ready.new.cursor in
    let e = c.ready.ensures in
    let ready : IsReady t at r c.ready.result = subst (λ (s : ScanValue). IsReady s at r c.ready.result) c.scan-scan.ensures (record { number = e.number; some = e.some; left_is = e.left; to = e.to }) in
    let least : c.min-some.result ≡ min c.ready.result (c.args.mcus - done) = c.min-some.ensures in
    let mcus = c.min-some.result in
    let lt = decoded t limit at r c.ready.result ready mcus (omega (arith, least, e.some, c.intervals-test.true)) (omega (arith, least, c.requires.few, keep.moved, c.intervals-test.true)) in
    let start = c.units_to-from.result in
    let size = c.units_to-end.result - start in
    let old = c.intervals.blocks in
    let sub = c.read.new.blocks in
    let new = put_mid start size old sub in
    let head : c.head.result.now ≡ h = c.head.ensures.value ∙ ap (λ (s : ScanValue). s.head) c.scan-scan.ensures in
    let per_is : length c.order-per_mcu.result.now ≡ n = c.order-per_mcu.ensures.count ∙ ap (λ (x : HeadValue). blocks_of x) head in
    let space : length old ≡ c.args.mcus * length c.order-per_mcu.result.now = keep.long ∙ c.requires.space ∙ ap (λ (k : ℕ). c.args.mcus * k) (sym per_is) in
    let positive : 0 < n = omega (arith, c.order-per_mcu.ensures.some, per_is) in
    let start_is : start ≡ done * n = c.units_to-from.ensures.value ∙ ap (λ (k : ℕ). done * k) per_is in
    let end_is : c.units_to-end.result ≡ (done + mcus) * n = c.units_to-end.ensures.value ∙ ap (λ (k : ℕ). (done + mcus) * k) per_is in
    let fits : c.units_to-end.result ≤ length old = omega (arith, c.units_to-end.ensures.within, space) in
    let long : length sub ≡ mcus * n = c.read.auto.blocks ∙ mid_len start c.units_to-end.result old fits ∙ omega (arith, start_is, end_is, add-mul done mcus n) in
    let inside : start ≤ length old = omega (arith, c.units_to-from.ensures.within, space) in
    let interval : c.fork.result ≡ interval_of t r.number = c.fork.ensures ∙ c.interval_ref-interval.ensures ∙ ap (λ (s : ScanValue). interval_of s r.number) c.scan-scan.ensures in
    let codes : (p : PieceValue) → IsOutcome p → p.interval ≡ interval_of t r.number → CodesUnits p (units_before (interval_of t r.number) r.mcu) sub =
    read_codes (interval_of t r.number) r.mcu sub (subst (λ (i : IntervalValue). AreBlocksFrom i r.mcu sub) interval c.read.ensures.blocks) in
    let part : (k : ℕ) → k < length sub → slice_index_or new (done * n + k) [] ≡ slice_index_or sub k [] =
    λ k here. ap (λ (m : ℕ). slice_index_or new (m + k) []) (sym start_is) ∙ store_there [] start size old sub inside k here in
    let kept : (k : ℕ) → k < done * n → slice_index_or new k [] ≡ slice_index_or old k [] = λ k l. kept_before [] start size old sub inside k (omega (arith, l, start_is)) in
    let gave : ReturnsAfter t limit (from + done) (done * n) mcus new =
    subst (λ (m : ℕ). ReturnsAfter t limit m (done * n) mcus new) (ready.to ∙ keep.moved) (returns_there t limit r mcus done sub new positive ready.number lt (omega (arith, least, ready.left_is)) long codes part) in
    let to = mcus_to h c.read.new.self in
    let here = c.read.ensures.number ∙ ended t limit at r c.ready.result ready in
    let counts = subst (λ (m : ℕ). CountsMarks t limit m (intervals_before h to) c.mark_ended-more.result) here c.mark_ended-more.ensures.counts in
    let stores = subst (λ (m : ℕ). StoresMarks t limit m (intervals_before h to) c.intervals.marks c.mark_ended-more.new.marks) here c.mark_ended-more.ensures.stores in
    let number = ap (λ (k : ℕ). k * h.restart) c.read.ensures.number in
    record {
      within = omega (arith, least, keep.within, c.intervals-test.true);
      long = same_len_mid start size old sub c.read.auto.blocks ∙ keep.long;
      lies = record {
        number = omega (arith, e.lies.number, ap (λ (s : ScanValue). length s.intervals) c.scan-scan.ensures, c.read.ensures.number);
        at = subst (λ (k : ℕ). IsPlaceAfter (interval_of t k) c.read.new.self.mcu c.read.new.self.place) (sym c.read.ensures.number) (subst (λ (i : IntervalValue). IsPlaceAfter i c.read.new.self.mcu c.read.new.self.place) interval c.read.ensures.at);
      };
      moved = omega (arith, number, c.read.ensures.mcu, ready.to, keep.moved);
      returned = λ b first. shown_more n done mcus from (unit_shown b) (unit_of h old) (unit_of h new) positive (keep.returned b first)
          (λ k l. ap (λ z. samples z (quantiser_of h (component h k))) (kept k l)) (gave b first);
      counts = counts_both t limit _ _ _ c.intervals.marked c.mark_ended-more.result c.with-marked.result keep.counts counts c.with-marked.ensures.sound c.with-marked.ensures.damaged;
      places = λ there. stores.long ∙ keep.places (omega (arith, there, stores.long));
      stores = stores_both t limit _ _ _ c.args.marks.now c.intervals.marks c.mark_ended-more.new.marks (omega (arith, keep.counts.few)) keep.stores stores;
    }

pub returns-clause-returned : goal.returns-clause-returned
returns-clause-returned c =
    let t = c.args.part.now.scan in
    let all : c.intervals.done ≡ c.args.mcus = omega (arith, c.intervals.invariant.within, c.intervals-test.false) in
    subst (λ (n : ℕ). ReturnsMcus t c.args.part.now.limit (mcus_to t.head c.args.cursor.now) n c.intervals.blocks) all c.intervals.invariant.returned

pub mark_ended-more-requires-clause-lies : goal.mark_ended-more-requires-clause-lies
mark_ended-more-requires-clause-lies c =
    let t = c.args.part.now.scan in
    let r = c.ready.new.cursor in
    let next = c.read.new.self in
    let interval : c.fork.result ≡ interval_of t r.number = c.fork.ensures ∙ c.interval_ref-interval.ensures ∙ ap (λ (s : ScanValue). interval_of s r.number) c.scan-scan.ensures in
    record {
      number = omega (arith, c.ready.ensures.lies.number, ap (λ (s : ScanValue). length s.intervals) c.scan-scan.ensures, c.read.ensures.number);
      at = subst (λ (k : ℕ). IsPlaceAfter (interval_of t k) next.mcu next.place) (sym c.read.ensures.number) (subst (λ (i : IntervalValue). IsPlaceAfter i next.mcu next.place) interval c.read.ensures.at);
    }

pub intervals-init : goal.intervals-init
intervals-init c =
    let t = c.args.part.now.scan in
    let n = c.args.part.now.limit in
    record {
      within = omega arith;
      long = refl;
      lies = c.requires.lies;
      moved = sym (add-zero _);
      returned = λ b _ k lt. absurd (omega (arith, lt));
      counts = counts_none t n _ _ c.none-marked.result c.none-marked.ensures.sound c.none-marked.ensures.damaged refl;
      places = c.requires.places;
      stores = stores_none t n _ _ c.args.marks.now refl;
    }

pub intervals-smaller : goal.intervals-smaller
intervals-smaller c = falls c.min-some.result c.ready.result c.args.mcus c.intervals.done c.min-some.ensures c.ready.ensures.some c.intervals-test.true

pub ready-requires-clause-lies : goal.ready-requires-clause-lies
ready-requires-clause-lies c = subst (λ (s : ScanValue). IsCursorOf s c.intervals.cursor) (sym c.scan-scan.ensures) c.intervals.invariant.lies

pub overflow_sub-mcus : goal.overflow_sub-mcus
overflow_sub-mcus c = c.intervals.invariant.within

pub units_to-from-requires-clause-few : goal.units_to-from-requires-clause-few
units_to-from-requires-clause-few c = c.intervals.invariant.within

pub units_to-from-requires-clause-short : goal.units_to-from-requires-clause-short
units_to-from-requires-clause-short c = c.order-per_mcu.ensures.few

pub overflow_add-done : goal.overflow_add-done
overflow_add-done c = fits_all c.intervals.done c.min-some.result c.args.mcus (some_within c.min-some.result c.ready.result c.args.mcus c.intervals.done c.min-some.ensures c.intervals.invariant.within) c.ranges.mcus

pub overflow_add-done-in-intervals : goal.overflow_add-done-in-intervals
overflow_add-done-in-intervals c = fits_all c.intervals.done c.min-some.result c.args.mcus (some_within c.min-some.result c.ready.result c.args.mcus c.intervals.done c.min-some.ensures c.intervals.invariant.within) c.ranges.mcus

pub units_to-end-requires-clause-few : goal.units_to-end-requires-clause-few
units_to-end-requires-clause-few c = some_within c.min-some.result c.ready.result c.args.mcus c.intervals.done c.min-some.ensures c.intervals.invariant.within

pub units_to-end-requires-clause-short : goal.units_to-end-requires-clause-short
units_to-end-requires-clause-short c = c.order-per_mcu.ensures.few

pub read-requires-clause-at : goal.read-requires-clause-at
read-requires-clause-at c =
    let r = c.ready.new.cursor in
    subst (λ (i : IntervalValue). IsPlaceAfter i r.mcu r.place) (sym (c.fork.ensures ∙ c.interval_ref-interval.ensures)) c.ready.ensures.lies.at

pub read-requires-clause-few : goal.read-requires-clause-few
read-requires-clause-few c =
    let r = c.ready.new.cursor in
    let few = some_left r.mcu c.min-some.result c.ready.result _ _ c.min-some.ensures c.ready.ensures.left in
    subst (λ (i : IntervalValue). r.mcu + c.min-some.result ≤ i.mcus) (sym (c.fork.ensures ∙ c.interval_ref-interval.ensures)) few

pub read-requires-clause-space : goal.read-requires-clause-space
read-requires-clause-space c =
    let t = c.args.part.now.scan in
    let n = blocks_of t.head in
    let start = c.units_to-from.result in
    let end = c.units_to-end.result in
    let per = length c.order-per_mcu.result.now in
    let mcus = c.min-some.result in
    let old = c.intervals.blocks in
    let head = c.head.ensures.value ∙ ap (λ (s : ScanValue). s.head) c.scan-scan.ensures in
    let per_is : per ≡ n = c.order-per_mcu.ensures.count ∙ ap (λ (x : HeadValue). blocks_of x) head in
    let space : length old ≡ c.args.mcus * per = c.intervals.invariant.long ∙ c.requires.space ∙ ap (λ (k : ℕ). c.args.mcus * k) (sym per_is) in
    let fits : end ≤ length old = omega (arith, c.units_to-end.ensures.within, space) in
    let order : order_of c.fork.result.head ≡ c.order-per_mcu.result.now = ap (λ (i : IntervalValue). order_of i.head) (c.fork.ensures ∙ c.interval_ref-interval.ensures) ∙ ap (λ (x : HeadValue). order_of x) (sym c.head.ensures.value) ∙ sym c.order-per_mcu.ensures.value in
    let at : start ≡ c.intervals.done * per = omega (arith, c.units_to-from.ensures.value) in
    mid_len start end old fits ∙ part_size start end c.intervals.done mcus per at c.units_to-end.ensures.value ∙ ap (λ z. mcus * length z) (sym order)

pub slice_bounds-read-end : goal.slice_bounds-read-end
slice_bounds-read-end c =
    let head = c.head.ensures.value ∙ ap (λ (s : ScanValue). s.head) c.scan-scan.ensures in
    let per_is = c.order-per_mcu.ensures.count ∙ ap (λ (x : HeadValue). blocks_of x) head in
    let space = c.intervals.invariant.long ∙ c.requires.space ∙ ap (λ (k : ℕ). c.args.mcus * k) (sym per_is) in
    omega (arith, c.units_to-end.ensures.within, space)

pub mark_ended-more-requires-clause-interval : goal.mark_ended-more-requires-clause-interval
mark_ended-more-requires-clause-interval c =
    let t = c.args.part.now.scan in
    c.interval_ref-interval.ensures ∙ ap (λ (s : ScanValue). interval_of s c.ready.new.cursor.number) c.scan-scan.ensures ∙ ap (λ (k : ℕ). interval_of t k) (sym c.read.ensures.number)

pub mark_ended-more-requires-clause-some : goal.mark_ended-more-requires-clause-some
mark_ended-more-requires-clause-some c =
    let some = some_read c.min-some.result c.ready.result c.args.mcus c.intervals.done c.min-some.ensures c.ready.ensures.some c.intervals-test.true in
    after_it c.read.new.self.mcu c.ready.new.cursor.mcu c.min-some.result c.read.ensures.mcu some

pub mark_ended-more-requires-clause-places : goal.mark_ended-more-requires-clause-places
mark_ended-more-requires-clause-places c = c.intervals.invariant.places

pub returns-clause-lies : goal.returns-clause-lies
returns-clause-lies c = c.intervals.invariant.lies

pub returns-clause-moved : goal.returns-clause-moved
returns-clause-moved c = c.intervals.invariant.moved ∙ ap (λ (n : ℕ). mcus_to c.args.part.now.scan.head c.args.cursor.now + n) (all_read _ _ c.intervals.invariant.within c.intervals-test.false)

pub returns-clause-counts : goal.returns-clause-counts
returns-clause-counts c = c.intervals.invariant.counts

pub returns-clause-stores : goal.returns-clause-stores
returns-clause-stores c = c.intervals.invariant.stores
