-- The position of a source, by its numbers.
use Rattle.std.proofs.Common.{◌≡◌, ℕ, zero, suc, ◌+◌, ◌-◌, ◌*◌, ◌/◌, ◌%◌, ◌<◌, ◌≤◌, List, [], Option, Some, None, inl, inr, refl, sym, ap, subst, ◌∙◌, arith}
use Rattle.std.specs.Prelude.{ℤ, Bool, true, false, IfSome}
use Rattle.std.specs.List.{All}
use Rattle.std.proofs.lemmas.Bool.{cases_Bool}
use Rattle.jr_mcu.specs.Block.{IsInDcRange}
use Rattle.jr_scan.specs.declared.place.Place.{Place}
use Rattle.jr_scan.specs.ScanValue.{ScanValue}
use Rattle.jr_scan.specs.Run.{start_of_interval}
use Rattle.jr_scan.proofs.CursorRuns.{at_start}
use Rattle.jr_scan.specs.declared.cursor.Cursor.{Cursor}
use Rattle.jr_arrival.specs.declared.file_source.FileSource.{FileSource}
use Rattle.jr_arrival.specs.declared.window.Window.{Window}
use Rattle.jr_head.specs.HeadValue.{HeadValue}
use Rattle.jr_head.specs.Geometry.{blocks_of}
use Rattle.jr_head.specs.Intervals.{intervals_of, mcus_in}
use Rattle.jr_arrival.specs.declared.file_bytes.FileBytes.{FileBytes}
use Rattle.jr_arrival.specs.declared.place.RowPlace.{RowPlace}
use Rattle.jr_arrival.specs.Meaning.{HasBits, HasNoFurtherMcu, IsPlaceIn, MayBe, MeansAt, ReadsAt, offset_in}
use Rattle.jr_arrival.specs.Parts.{part_of}
use Rattle.jr_arrival.specs.Places.{place_state}
use Rattle.jr_arrival.specs.FileSources.{IsFileSource, IsInside, IsOffset, IsRightIn, BeginsNext, IsWindow, MeansNext, begun, source_of, start_unless}
use Rattle.jr_arrival.specs.Sources.{HasNoneLeft, Steps}
use Rattle.jr_arrival.proofs.ReadOn.{nothing_whole}
use Rattle.jr_arrival.proofs.ScanIntervals.{count_is}
use Rattle.jr_rows.specs.Cursors.{mcus_to}
use Rattle.jr_arrival.proofs.Steps.{moved, stuck_on}
use Rattle.jr_arrival.proofs.Windows.{window_bits}

pub right_by : (whole : List ℕ) (t : ScanValue) (d : FileSource) (i m at : ℕ) (o : Option Place) (ended : Bool) → d.cursor.number ≡ i → d.cursor.mcu ≡ m → d.window.file.from + d.window.at ≡ at → d.cursor.place ≡ o → d.ended ≡ ended → t.head.scan_at ≤ at → MeansNext whole t i m at o ended → IsRightIn whole t d
right_by whole t d i m at o ended number mcu there place over from means = record {
  from = omega (arith, from, there);
  means = subst (λ (k : ℕ). MeansNext whole t k d.cursor.mcu (d.window.file.from + d.window.at) d.cursor.place d.ended) (sym number)
      (subst (λ (k : ℕ). MeansNext whole t i k (d.window.file.from + d.window.at) d.cursor.place d.ended) (sym mcu)
      (subst (λ (k : ℕ). MeansNext whole t i m k d.cursor.place d.ended) (sym there)
      (subst (λ (r : Option Place). MeansNext whole t i m at r d.ended) (sym place) (subst (MeansNext whole t i m at o) (sym over) means))));
}

pub place_by : (p : Place) (bit : ℕ) (predictions : List ℤ) → p.bit ≡ bit → p.predictions ≡ predictions → p ≡ record { bit = bit; predictions = predictions }
place_by p bit predictions b e = ap (λ (k : ℕ). (let q : Place = record { bit = k; predictions = p.predictions } in q)) b ∙ ap (λ (l : List ℤ). (let q : Place = record { bit = bit; predictions = l } in q)) e

pub inside_by : (w : Window) (bit : ℕ) (o : Option Place) → bit ≤ 8 * (w.found - w.from) → IfSome o (λ p. (p.bit ≡ bit) × All IsInDcRange p.predictions) → IsInside w o
inside_by w bit None le is = tt
inside_by w bit (Some p) le is = (omega (arith, le, is.0), is.1)

-- its state as a number
pub stated : (whole : List ℕ) (t : ScanValue) (i m at : ℕ) (o : Option Place) (ended : Bool) (q : Place) → IfSome o (λ p. p ≡ q) → MeansNext whole t i m at o ended → MeansAt whole t (place_state o ended) i m at q
stated whole t i m at (Some p) ended q same means = subst (ReadsAt whole t i m at) same means
stated whole t i m at None false q same means = means
stated whole t i m at None true q same means = means

-- a state by its number; predictions count if the interval continues
pub opened : (whole : List ℕ) (t : ScanValue) (n i m at : ℕ) (p : Place) (o : Option Place) (ended : Bool) → (n ≡ 0 → All IsInDcRange p.predictions → o ≡ Some p) → (0 < n → o ≡ None) → (n ≡ 1 → ended ≡ false) → (1 < n → ended ≡ true) → MeansAt whole t n i m at p → MeansNext whole t i m at o ended
opened whole t zero i m at p o ended reads none stuck over means = subst (λ (r : Option Place). MeansNext whole t i m at r ended) (sym (reads refl means.next.can.1)) means
opened whole t (suc zero) i m at p o ended reads none stuck over means =
    subst (λ (r : Option Place). MeansNext whole t i m at r ended) (sym (none (omega arith))) (subst (MeansNext whole t i m at None) (sym (stuck refl)) means)
opened whole t (suc (suc n)) i m at p o ended reads none stuck over means =
    subst (λ (r : Option Place). MeansNext whole t i m at r ended) (sym (none (omega arith))) (subst (MeansNext whole t i m at None) (sym (over (omega arith))) means)

-- it has moved to a window that begins at the byte of its next MCU
pub moves_to : (h : HeadValue) (s : FileSource) (p q : Place) (d : Window) → IsFileSource h s → s.cursor.place ≡ Some p → IsWindow d → d.file ≡ s.window.file → IsOffset s.window (p.bit / 8) d.at → q.bit ≡ p.bit % 8 → q.predictions ≡ p.predictions → q.bit ≤ 8 * (d.found - d.from)
    → Steps h (source_of s) (source_of (record s { window = d; cursor = record { number = s.cursor.number; mcu = s.cursor.mcu; place = Some q } })) 0
moves_to h s p q d is at window file off bit predictions le =
    let inside : IsInside s.window (Some p) = subst (IsInside s.window) at is.inside in
    record {
      at = record { window = window; inside = (le, subst (λ (l : List ℤ). All IsInDcRange l) (sym predictions) inside.1); is_in = is.is_in; over = λ ended. absurd (let wrong : Some p ≡ None = sym at ∙ is.over ended in cc) };
      part = file;
      right = λ whole t may.
          let means : ReadsAt whole t s.cursor.number s.cursor.mcu (s.window.file.from + s.window.at) p = subst (λ (o : Option Place). MeansNext whole t s.cursor.number s.cursor.mcu (s.window.file.from + s.window.at) o s.ended) at may.1.means in
          let there = moved h s.window (p.bit / 8) d.at off is.window (omega (arith, inside.0)) whole t may.0 s.cursor.number s.cursor.mcu p q refl bit predictions means in (
            subst (λ (f : FileBytes). MayBe (part_of f) h whole t) (sym file) may.0,
            right_by whole t (record s { window = d; cursor = record { number = s.cursor.number; mcu = s.cursor.mcu; place = Some q } }) s.cursor.number s.cursor.mcu (s.window.file.from + d.at) (Some q) s.ended refl refl (ap (λ (f : FileBytes). f.from + d.at) file) refl refl (omega (arith, may.1.from, off.is)) there,
          );
      passed = omega arith;
    }

-- the position where such a source is
pub place_true : (whole : List ℕ) (t : ScanValue) (s : FileSource) (q : Place) (p : RowPlace) (f : FileBytes) → s.window.file ≡ f → IsWindow s.window → q.bit < 8 → q.bit ≤ 8 * (s.window.found - s.window.from) → IfSome s.cursor.place (λ o. o ≡ q) → IsRightIn whole t s
    → p.at ≡ s.window.file.from + s.window.at → p.bit ≡ q.bit → p.predictions ≡ q.predictions → p.interval ≡ s.cursor.number → p.mcu ≡ s.cursor.mcu → p.state ≡ place_state s.cursor.place s.ended → IsPlaceIn (part_of f) whole t p
place_true whole t s q p f file w low le same right at_is bit predictions number mcu state =
    let c = s.cursor in
    let from = s.window.file.from in
    let at : from + s.window.at ≡ offset_in t.head p = omega (arith, right.from, at_is) in
    let in_bytes : s.window.at ≡ offset_in t.head p - from = omega (arith, at) in
    let r : Place = record { bit = p.bit; predictions = p.predictions } in
    let means = stated whole t c.number c.mcu (from + s.window.at) c.place s.ended q same right.means in
    let here : MeansAt whole t (place_state c.place s.ended) c.number c.mcu (from + s.window.at) r = subst (MeansAt whole t (place_state c.place s.ended) c.number c.mcu (from + s.window.at)) (place_by q p.bit p.predictions (sym bit) (sym predictions)) means in
    record {
      bit = omega (arith, bit, low);
      from = omega (arith, at, ap (λ (g : FileBytes). g.from) file);
      come = subst (λ (g : FileBytes). HasBits g.bytes.now (offset_in t.head p - g.from) p.bit) file (subst (λ (k : ℕ). HasBits s.window.file.bytes.now k p.bit) in_bytes (subst (HasBits s.window.file.bytes.now s.window.at) (sym bit) (window_bits s.window q.bit w le)));
      means = subst (λ (k : ℕ). MeansAt whole t p.state p.interval p.mcu k r) at
          (subst (λ (k : ℕ). MeansAt whole t k p.interval p.mcu (from + s.window.at) r) (sym state)
          (subst (λ (k : ℕ). MeansAt whole t (place_state c.place s.ended) k p.mcu (from + s.window.at) r) (sym number) (subst (λ (k : ℕ). MeansAt whole t (place_state c.place s.ended) c.number k (from + s.window.at) r) (sym mcu) here)));
    }

-- a scan has not ended where an MCU is read
pub goes_on : (h : HeadValue) (s : FileSource) (p : Place) → IsFileSource h s → s.cursor.place ≡ Some p → s.ended ≡ false
goes_on h s p is at = elim (cases_Bool s.ended) [
  | inr going ↦ going
  | inl over ↦ absurd (let wrong : Some p ≡ None = sym at ∙ is.over over in cc)
]

start_inside : (h : HeadValue) (w : Window) (ended : Bool) → IsInside w (start_unless ended)
start_inside h w true = tt
start_inside h w false =
    let start = at_start (record { number = 0; mcus = 0; bytes = []; head = h }) in
    (omega arith, (start.next start_of_interval refl).1.can.1)

-- it has moved to the next interval, to whose data its window has
pub begins : (h : HeadValue) (s f : FileSource) → IsWindow f.window → f.window.file ≡ s.window.file → f.cursor ≡ s.cursor → s.cursor.number + 1 < intervals_of h → (s.cursor.number + 1) * h.restart ≡ mcus_to h s.cursor → BeginsNext h s f → Steps h (source_of s) (source_of (begun f)) 0
begins h s f window file same number next there =
    let n : f.cursor.number ≡ s.cursor.number = ap (λ (c : Cursor). c.number) same in
    let m : (f.cursor.number + 1) * h.restart ≡ (s.cursor.number + 1) * h.restart = ap (λ (k : ℕ). (k + 1) * h.restart) n in
    record {
      at = record { window = window; inside = start_inside h f.window f.ended; is_in = record { number = omega (arith, n, number); few = omega arith }; over = λ ended. ap start_unless ended };
      part = file;
      right = λ whole t may. (subst (λ (g : FileBytes). MayBe (part_of g) h whole t) (sym file) may.0, there whole t may.0 may.1);
      passed = omega (arith, m, next);
    }

-- without a position no further MCU of its interval is whole
pub none_left : (h : HeadValue) (s : FileSource) → IsFileSource h s → 0 < blocks_of h → s.cursor.place ≡ None → s.cursor.mcu < mcus_in h s.cursor.number → HasNoneLeft h (source_of s)
none_left h s is some place left = record {
  number = is.is_in.number;
  some = left;
  stuck = place;
  none = λ whole t may.
      let e = may.0.head in
      let means = subst (λ (o : Option Place). MeansNext whole t s.cursor.number s.cursor.mcu (s.window.file.from + s.window.at) o s.ended) place may.1.means in
      (e, count_is whole t may.0.scan ∙ ap intervals_of e, go whole t (subst (λ (g : HeadValue). 0 < blocks_of g) (sym e) some) s.ended means);
}
  where
    go : (whole : List ℕ) (t : ScanValue) → 0 < blocks_of t.head → (ended : Bool) → MeansNext whole t s.cursor.number s.cursor.mcu (s.window.file.from + s.window.at) None ended → HasNoFurtherMcu t s.cursor.number s.cursor.mcu
    go whole t some false means = means.no_more
    go whole t some true means = nothing_whole t s.cursor.number s.cursor.mcu some (means s.cursor.number (omega arith))

-- it has moved past grey MCUs
pub passes_grey : (h : HeadValue) (s : FileSource) (n : ℕ) → IsFileSource h s → s.cursor.place ≡ None → s.cursor.mcu + n ≤ mcus_in h s.cursor.number → Steps h (source_of s) (source_of (record s { cursor = record { number = s.cursor.number; mcu = s.cursor.mcu + n; place = s.cursor.place } })) n
passes_grey h s n is place few = record {
  at = record { window = is.window; inside = is.inside; is_in = record { number = is.is_in.number; few = few }; over = is.over };
  part = refl;
  right = λ whole t may. (may.0, record { from = may.1.from; means = go whole t s.cursor.place place s.ended may.1.means });
  passed = omega arith;
}
  where
    go : (whole : List ℕ) (t : ScanValue) (o : Option Place) → o ≡ None → (ended : Bool) → MeansNext whole t s.cursor.number s.cursor.mcu (s.window.file.from + s.window.at) o ended → MeansNext whole t s.cursor.number (s.cursor.mcu + n) (s.window.file.from + s.window.at) o ended
    go whole t (Some p) e ended means = absurd (let wrong : Some p ≡ None = e in cc)
    go whole t None e false means = stuck_on whole t s.cursor.number s.cursor.mcu (s.window.file.from + s.window.at) n means
    go whole t None e true means = means
