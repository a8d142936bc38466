-- Steps of a source over a scan whose file is still arriving.
use Rattle.std.proofs.Common.{◌≡◌, ℕ, ◌+◌, ◌<◌, ◌≤◌, ◌++◌, inl, inr, Option, Some, None, List, [], length, refl, sym, ap, subst, ◌∙◌, arith}
use Rattle.std.specs.Prelude.{ℤ, Bool}
use Rattle.std.proofs.lemmas.Bool.{cases_lt}
use Rattle.jr_head.specs.HeadValue.{HeadValue}
use Rattle.jr_head.specs.Geometry.{IsValid, mcus_of}
use Rattle.jr_head.specs.Intervals.{intervals_of, mcus_in}
use Rattle.jr_scan.specs.declared.place.Place.{Place}
use Rattle.jr_scan.specs.IntervalValue.{IntervalValue}
use Rattle.jr_scan.specs.PartialScan.{PartialScanValue}
use Rattle.jr_scan.specs.Mcus.{HasLongestFront, LongestFront}
use Rattle.jr_scan.specs.Run.{run_from, FirstMcus}
use Rattle.jr_scan.specs.ScanValue.{ScanValue, interval_of}
use Rattle.jr_scan.proofs.McuReaders.{no_run}
use Rattle.jr_scan.proofs.ScanLaws.{one_run, runs_meet, shorter_front}
use Rattle.jr_scan.proofs.CursorRuns as runs
use Rattle.jr_scan.specs.Cursors.{interval_start}
use Rattle.jr_scan.specs.declared.cursor.Cursor.{Cursor}
use Rattle.jr_piece.specs.Outcome.{unit_of}
use Rattle.jr_rows.specs.Cursors.{mcus_to}
use Rattle.jr_rows.specs.Rows.{CountsMarks}
use Rattle.jr_rows.specs.declared.marked.Marked.{Marked}
use Rattle.jr_rows.proofs.IntervalPlaces.{mcus_in_some, next_there}
use Rattle.jr_arrival.specs.declared.partial_source.PartialSource.{PartialSource}
use Rattle.jr_arrival.specs.LongerFile.{IsOver}
use Rattle.jr_arrival.specs.Meaning.{HasNoFurtherMcu}
use Rattle.jr_arrival.specs.More.{with_more}
use Rattle.jr_arrival.specs.PartialRows.{GrowsInto, IsFinal, ReadsAll, ReadsTo, StaysLongest}
use Rattle.jr_arrival.specs.PartialSources.{IsPartialSource, partial_source_of}
use Rattle.jr_arrival.specs.RowMcus.{TakesWhole}
use Rattle.jr_arrival.specs.Sources.{HasNoneLeft, ShowsMore, Steps, Walks}
use Rattle.jr_arrival.proofs.Knowing.{long_rest_stays}
use Rattle.jr_arrival.proofs.LinesStay.{interval_more}
use Rattle.jr_arrival.proofs.MoreData.{run_is_final}
use Rattle.jr_arrival.proofs.Readings.{at_the_start, far_front, next_stays, nothing_follows}
use Rattle.jr_arrival.proofs.ShownSteps.{CodesBy, extends_shows, whole_units}

-- a position that is another one
module _ (h : HeadValue) (s : PartialSource) (is : IsPartialSource h s) (n : ℕ) (place : Option Place) where
  abbrev moved : PartialSource
  moved = record s { cursor = record { number = s.cursor.number; mcu = s.cursor.mcu + n; place = place } }

  pub moves : s.cursor.mcu + n ≤ mcus_in h s.cursor.number → ReadsTo s.scan.now s.cursor.number (s.cursor.mcu + n) place → Steps h (partial_source_of s) (partial_source_of moved) n
  moves few reads = record {
    at = record {
      head = is.head;
      valid = is.valid;
      count = is.count;
      reading = record { number = is.reading.number; few = subst (λ (g : HeadValue). s.cursor.mcu + n ≤ mcus_in g s.cursor.number) (sym is.head) few; begun = is.reading.begun; reads = reads; counts = is.reading.counts };
    };
    part = refl;
    right = λ whole t may. may;
    passed = omega arith;
  }

module _ (h : HeadValue) (s : PartialSource) (is : IsPartialSource h s) where
  abbrev g : PartialScanValue
  g = s.scan.now

  abbrev i : IntervalValue
  i = interval_of g.scan s.cursor.number

  valid_g : IsValid g.scan.head
  valid_g = subst IsValid (sym is.head) is.valid

  scan_for : (t : ScanValue) → GrowsInto g t → (t.head ≡ h) × (length t.intervals ≡ intervals_of h)
  scan_for t b = (b.head ∙ is.head, b.count ∙ is.count)

  -- whole MCUs
  module _ (p : Place) (at : s.cursor.place ≡ Some p) {j : IntervalValue} {keeps : Bool} {done n : ℕ} {d : Cursor} {old new : List (List ℕ)} (same : j ≡ i) (taken_j : TakesWhole h j p keeps done n s.cursor d old new) where
    abbrev taken : TakesWhole h i p keeps done n s.cursor d old new
    taken = subst (λ (x : IntervalValue). TakesWhole h x p keeps done n s.cursor d old new) same taken_j

    reads_p : ReadsTo g s.cursor.number s.cursor.mcu (Some p)
    reads_p = subst (ReadsTo g s.cursor.number s.cursor.mcu) at is.reading.reads

    few_g : s.cursor.mcu + n ≤ mcus_in g.scan.head s.cursor.number
    few_g = subst (λ (k : HeadValue). s.cursor.mcu + n ≤ mcus_in k s.cursor.number) (sym is.head) taken.few

    steps : Steps h (partial_source_of s) (partial_source_of (moved h s is n (Some taken.to))) n
    steps =
        let first : FirstMcus (run_from i p n) n taken.blocks = record { to = taken.to; run = taken.run; none = λ lt. absurd (omega (arith, lt)) } in
        moves h s is n (Some taken.to) taken.few (reads_p.0 ++ taken.blocks, runs.going one_run runs_meet shorter_front i valid_g s.cursor.mcu reads_p.0 p reads_p.1 n n taken.blocks first few_g taken.to taken.run taken.can)

    shows : ShowsMore h (partial_source_of s) keeps done n old new
    shows =
        extends_shows h (partial_source_of s) keeps n done (unit_of h taken.blocks) old new taken.units (subst (λ (k : HeadValue). s.cursor.number < intervals_of k) is.head is.reading.number) taken.few taken.adds (λ whole t b.
        let d = b.so_far s.cursor.number in
        let longer = with_more i d.0 in
        let e = scan_for t b in
        let codes = whole_units h longer s.cursor.mcu n reads_p.0 taken.blocks p taken.to is.valid is.head (next_stays i d.0 s.cursor.mcu reads_p.0 p reads_p.1) (run_is_final (run_from i p n) d.0 taken.blocks taken.to reads_p.1.can.0 taken.run) few_g in
        (e.0, e.1, subst (λ (x : IntervalValue). CodesBy h x s.cursor.mcu n (unit_of h taken.blocks)) (sym (interval_more g.scan t s.cursor.number d.0 b.head d.1)) codes))

    pub walks_whole : Walks h (partial_source_of s) (partial_source_of (record s { cursor = d })) keeps done n old new
    walks_whole = subst (λ (k : Cursor). Walks h (partial_source_of s) (partial_source_of (record s { cursor = k })) keeps done n old new) (sym taken.cursor) (record { steps = steps; shows = shows; few = taken.across })

    -- or none
    pub none_whole : n ≡ 0 → ReadsAll g.scan d.number d.mcu d.place
    none_whole z =
        let none = taken.none z in
        let here : FirstMcus (run_from i p 1) 0 [] = record { to = p; run = no_run i p (ap length reads_p.1.run.predictions); none = λ lt. none.1 } in
        let sum : s.cursor.mcu + 0 ≡ s.cursor.mcu = omega arith in
        let all : ReadsAll g.scan s.cursor.number s.cursor.mcu (Some p) = subst (HasLongestFront i) sum (nothing_follows i s.cursor.mcu 1 reads_p.0 [] p valid_g reads_p.1 here (omega arith) is.reading.few) in
        subst (λ (k : Cursor). ReadsAll g.scan k.number k.mcu k.place) (sym none.0) (subst (ReadsAll g.scan s.cursor.number s.cursor.mcu) (sym at) all)

  -- no further MCU becomes whole
  pub returns_up : s.cursor.mcu < mcus_in h s.cursor.number → ReadsAll g.scan s.cursor.number s.cursor.mcu s.cursor.place → IsFinal g s.cursor.number s.cursor.place → Steps h (partial_source_of s) (partial_source_of (record s { cursor = record { number = s.cursor.number; mcu = s.cursor.mcu; place = None } })) 0
  returns_up left all final =
      let far = far_front g s.cursor.number s.cursor.mcu s.cursor.place is.reading.reads all final in
      let none : s.cursor.mcu + 0 ≡ s.cursor.mcu = omega arith in
      let few : far.0 < mcus_in g.scan.head s.cursor.number = subst (λ (k : HeadValue). far.0 < mcus_in k s.cursor.number) (sym is.head) (omega (arith, far.2, left)) in
      subst (λ (k : ℕ). Steps h (partial_source_of s) (partial_source_of (record s { cursor = record { number = s.cursor.number; mcu = k; place = None } })) 0) none
      (moves h s is 0 None (omega (arith, left)) (far.0, far.1, omega (arith, far.2), few, far.3))

  longest_there : (front : ℕ) (zs : List (List ℤ)) → StaysLongest g s.cursor.number front zs → (t : ScanValue) → GrowsInto g t → LongestFront (interval_of t s.cursor.number) front zs
  longest_there front zs l t b = elim l.final [
    | inl over ↦ subst (λ (x : IntervalValue). LongestFront x front zs) (sym (b.whole s.cursor.number over)) l.longest
    | inr long ↦
        let d = b.so_far s.cursor.number in
        let longer = long_rest_stays i d.0 front zs valid_g (l.longest, long) in
        subst (λ (x : IntervalValue). LongestFront x front zs) (sym (interval_more g.scan t s.cursor.number d.0 b.head d.1)) longer.0
  ]

  module _ (stuck : s.cursor.place ≡ None) where
    reads_none : ReadsTo g s.cursor.number s.cursor.mcu None
    reads_none = subst (ReadsTo g s.cursor.number s.cursor.mcu) stuck is.reading.reads

    pub none_left : s.cursor.mcu < mcus_in h s.cursor.number → HasNoneLeft h (partial_source_of s)
    none_left left = record {
      number = subst (λ (k : HeadValue). s.cursor.number < intervals_of k) is.head is.reading.number;
      some = left;
      stuck = stuck;
      none = λ whole t b.
          let e = scan_for t b in
          let r = reads_none in
          let none : HasNoFurtherMcu t s.cursor.number s.cursor.mcu = record { front = r.0; blocks = r.1; few = r.2; longest = longest_there r.0 r.1 r.4 t b } in
          (e.0, e.1, none);
    }

    pub passes_grey : (n : ℕ) → s.cursor.mcu + n ≤ mcus_in h s.cursor.number → Steps h (partial_source_of s) (partial_source_of (record s { cursor = record { number = s.cursor.number; mcu = s.cursor.mcu + n; place = s.cursor.place } })) n
    passes_grey n few =
        let r = reads_none in
        let reads : ReadsTo g s.cursor.number (s.cursor.mcu + n) None = (r.0, r.1, omega (arith, r.2), r.3, r.4) in
        moves h s is n s.cursor.place few (subst (ReadsTo g s.cursor.number (s.cursor.mcu + n)) (sym stuck) reads)

  -- all MCUs of the interval are read, and it is over
  module _ (all : s.cursor.mcu ≡ mcus_in h s.cursor.number) (more : mcus_to h s.cursor < mcus_of h) where
    number_h : s.cursor.number < intervals_of h
    number_h = subst (λ (k : HeadValue). s.cursor.number < intervals_of k) is.head is.reading.number

    pub begins : (m : Marked) → IsOver g.scan g.segments s.cursor.number
        → ((t : ScanValue) → GrowsInto g t → interval_of t s.cursor.number ≡ i → CountsMarks t (length t.intervals) 0 (s.cursor.number + 1) m)
        → Steps h (partial_source_of s) (partial_source_of (record s { cursor = interval_start (s.cursor.number + 1); marked = m })) 0
    begins m over counts =
        let next = next_there h s.cursor.number s.cursor.mcu number_h all more in
        record {
          at = record {
            head = is.head;
            valid = is.valid;
            count = is.count;
            reading = record {
              number = subst (λ (k : HeadValue). s.cursor.number + 1 < intervals_of k) (sym is.head) next.0;
              few = omega arith;
              begun = λ j lt. elim (cases_lt j s.cursor.number) [ inl l ↦ is.reading.begun j l | inr k ↦ subst (λ (n : ℕ). IsOver g.scan g.segments n) {x = s.cursor.number} {y = j} (omega (arith, k, lt)) over ];
              reads = at_the_start (interval_of g.scan (s.cursor.number + 1));
              counts = λ t b. counts t b (b.whole s.cursor.number over);
            };
          };
          part = refl;
          right = λ whole t may. may;
          passed = omega (arith, next.1);
        }

    pub begins_some : 0 < mcus_in h (s.cursor.number + 1)
    begins_some =
        let next = next_there h s.cursor.number s.cursor.mcu number_h all more in
        mcus_in_some h (s.cursor.number + 1) (omega (arith, more)) next.0
