-- What is read of a row of MCUs is that of every scan that the scan may become.
use Rattle.std.proofs.Common.{◌≡◌, ℕ, ◌+◌, ◌*◌, ◌<◌, ◌≤◌, inl, inr, Option, Some, None, List, [], ◌∷◌, ◌++◌, length, get_or, refl, sym, ap, subst, ◌∙◌, append_assoc, length-append, arith}
use Rattle.std.specs.Prelude.{ℤ, true, false}
use Rattle.std.proofs.lemmas.Bool.{cases_lt}
use Rattle.std.proofs.Math.Nat.{add-mul}
use Rattle.jr_head.specs.HeadValue.{HeadValue}
use Rattle.jr_head.specs.Geometry.{IsValid, blocks_of, mcus_across, mcus_down, vertical_max}
use Rattle.jr_scan.specs.declared.place.Place.{Place}
use Rattle.jr_scan.specs.PartialScan.{PartialScanValue, HasCome}
use Rattle.jr_scan.specs.IntervalValue.{IntervalValue}
use Rattle.jr_scan.specs.Mcus.{HasLongestFront, LongestFront, ReportsSound}
use Rattle.jr_scan.specs.Run.{run_from, start_of_interval, FirstMcus, IsNext}
use Rattle.jr_scan.specs.ScanValue.{ScanValue, interval_of, intervals_of, mcus_in}
use Rattle.jr_scan.proofs.ScanLaws.{one_run, runs_meet, shorter_front}
use Rattle.jr_scan.proofs.CursorRuns as runs
use Rattle.jr_scan.specs.Cursors.{IsPlaceAfter}
use Rattle.jr_scan.specs.declared.cursor.Cursor.{Cursor}
use Rattle.jr_scan.proofs.CursorSteps.{cut_short}
use Rattle.jr_paint.specs.Lines.{next_lines_of}
use Rattle.jr_paint.proofs.Places.{in_div_ceil}
use Rattle.jr_picture.specs.DecodedScan.{DecodedScan}
use Rattle.jr_picture.specs.Samples.{samples_of}
use Rattle.jr_rows.specs.Bands.{samples_in}
use Rattle.jr_rows.specs.Cursors.{mcus_to}
use Rattle.jr_rows.specs.Groups.{units_in}
use Rattle.jr_rows.specs.Rows.{DecodesFirst, HasSampleSpace, ShowsFirstUnits, first_line, line_count}
use Rattle.jr_rows.specs.RowLinesValue.{RowLinesValue}
use Rattle.jr_rows.specs.RowsValue.{SampleRowValue}
use Rattle.jr_rows.proofs.ReadRows.{counts_none}
use Rattle.jr_arrival.specs.More.{with_more}
use Rattle.jr_arrival.proofs.LinesOfPictures.{row_of_board}
use Rattle.jr_arrival.proofs.MoreData.{run_is_final}
use Rattle.jr_arrival.specs.PartialRows.{AreFinalLines, GrowsInto, Begins, PartialRowValue, HasGiven, HasNoMore, IsPartialRow, IsFinal, IsPartialReading, ReadsAll, ReadsTo, LiesIn, StaysLongest}
use Rattle.jr_arrival.specs.PartialSources.{partial_source_of}
use Rattle.jr_arrival.specs.Sources.{Walks}
use Rattle.jr_arrival.specs.declared.partial_source.PartialSource.{PartialSource}
use Rattle.jr_arrival.specs.LongerFile.{IsOver}
use Rattle.jr_arrival.specs.declared.window.TheConstants.{MCU_BITS}
use Rattle.jr_arrival.proofs.Knowing.{HasLongRest, long_rest_stays, rest_left}
use Rattle.jr_arrival.proofs.LinesStay.{interval_more}
use Rattle.jr_arrival.proofs.ScansGoOn.{becomes, grown_few}

-- ---- what a scan may become

-- more bytes have come, with which no fewer segments have begun
pub record Grows (old new : PartialScanValue) : Type 0 where
  pub becomes : GrowsInto old new.scan
  pub segments : old.segments ≤ new.segments

pub grows : (bytes more : List ℕ) (old new : PartialScanValue) → new.scan.head ≡ old.scan.head → HasCome old bytes → HasCome new (bytes ++ more) → Grows old new
grows bytes more old new heads was is = record {
  becomes = becomes bytes more old new.scan heads was is.scan;
  segments = omega (arith, grown_few bytes more old.scan new.scan heads was.starts was.scan is.scan, was.segments, is.segments);
}

over_stays : (old new : PartialScanValue) (i : ℕ) → Grows old new → IsOver old.scan old.segments i → IsOver new.scan new.segments i
over_stays old new i b (inl n) = inl (λ e. n (sym (b.becomes.end n) ∙ e))
over_stays old new i b (inr lt) = inr (omega (arith, lt, b.segments))

pub becomes_itself : (part : PartialScanValue) → GrowsInto part part.scan
becomes_itself part = record { head = refl; count = refl; so_far = λ i. ([], sym (append-nil (get_or part.scan.intervals i []))); whole = λ i over. refl; end = λ n. refl }
  where
    append-nil : (xs : List ℕ) → xs ++ [] ≡ xs
    append-nil [] = refl
    append-nil (x ∷ xs) = ap (λ (ys : List ℕ). x ∷ ys) (append-nil xs)

becomes_more : (old new : PartialScanValue) (t : ScanValue) → Grows old new → GrowsInto new t → GrowsInto old t
becomes_more old new t a b = record {
  head = b.head ∙ a.becomes.head;
  count = b.count ∙ a.becomes.count;
  so_far = λ i.
      let d = a.becomes.so_far i in
      let e = b.so_far i in
      (d.0 ++ e.0, e.1 ∙ ap (λ (l : List ℕ). l ++ e.0) d.1 ∙ append_assoc (get_or old.scan.intervals i []) d.0 e.0);
  whole = λ i over. b.whole i (over_stays old new i a over) ∙ a.becomes.whole i over;
  end = λ n. b.end (λ e. n (sym (a.becomes.end n) ∙ e)) ∙ a.becomes.end n;
}

-- ---- the position of the reading

pub next_stays : (i : IntervalValue) (more : List ℕ) (first : ℕ) (zs : List (List ℤ)) (p : Place) → IsNext i first zs p → IsNext (with_more i more) first zs p
next_stays i more first zs p n = record {
  run = run_is_final (run_from i start_of_interval first) more zs p (omega arith) n.run;
  can = (omega (arith, n.can.0, length-append i.bytes more), n.can.1);
}

-- a longest prefix that stays it is that of every scan that the scan may become, and stays it there
stays_longest : (old new : PartialScanValue) (number front : ℕ) (zs : List (List ℤ)) → IsValid old.scan.head → Grows old new → StaysLongest old number front zs → StaysLongest new number front zs
stays_longest old new number front zs valid b l = elim l.final [
  | inl over ↦ record { longest = subst (λ (i : IntervalValue). LongestFront i front zs) (sym (b.becomes.whole number over)) l.longest; final = inl (over_stays old new number b over) }
  | inr long ↦
      let d = b.becomes.so_far number in
      let there = long_rest_stays (interval_of old.scan number) d.0 front zs valid (l.longest, long) in
      let here : HasLongRest (interval_of new.scan number) front zs = subst (λ (i : IntervalValue). HasLongRest i front zs) (sym (interval_more old.scan new.scan number d.0 b.becomes.head d.1)) there in
      record { longest = here.0; final = inr here.1 }
]

reads_stays : (old new : PartialScanValue) (number mcu : ℕ) (place : Option Place) → IsValid old.scan.head → Grows old new → ReadsTo old number mcu place → ReadsTo new number mcu place
reads_stays old new number mcu (Some p) valid b r =
    let d = b.becomes.so_far number in
    (r.0, subst (λ (i : IntervalValue). IsNext i mcu r.0 p) (sym (interval_more old.scan new.scan number d.0 b.becomes.head d.1)) (next_stays (interval_of old.scan number) d.0 mcu r.0 p r.1))
reads_stays old new number mcu None valid b r = (r.0, r.1, r.2, subst (λ (h : HeadValue). r.0 < mcus_in h number) (sym b.becomes.head) r.3, stays_longest old new number r.0 r.1 valid b r.4)

pub partial_stays : (old new : PartialScanValue) (v : PartialRowValue) → IsValid old.scan.head → Grows old new → IsPartialRow old v → IsPartialRow new v
partial_stays old new v valid b c = record {
  lies = subst (λ (h : HeadValue). LiesIn h v) (sym b.becomes.head) c.lies;
  given = subst (λ (h : HeadValue). HasGiven h v) (sym b.becomes.head) c.given;
  reading = record {
    number = subst (λ (h : HeadValue). v.cursor.number < intervals_of h) (sym b.becomes.head) c.reading.number;
    few = subst (λ (h : HeadValue). v.cursor.mcu ≤ mcus_in h v.cursor.number) (sym b.becomes.head) c.reading.few;
    begun = λ i lt. over_stays old new i b (c.reading.begun i lt);
    reads = reads_stays old new v.cursor.number v.cursor.mcu v.cursor.place valid b c.reading.reads;
    counts = λ u then. c.reading.counts u (becomes_more old new u b then);
  };
  shows = λ u then. c.shows u (becomes_more old new u b then);
}

-- such a position is one of the interval's bytes so far
pub reads_there : (part : PartialScanValue) (number mcu : ℕ) (p : Place) → mcu ≤ mcus_in part.scan.head number → ReadsTo part number mcu (Some p) → IsPlaceAfter (interval_of part.scan number) mcu (Some p)
reads_there part number mcu p few r = record {
  few = few;
  next = λ q e. let same : p ≡ q = cc in (r.0, subst (IsNext (interval_of part.scan number) mcu r.0) same r.1);
  none = λ e. let z : Some p ≡ None = e in cc;
}

-- without a position the interval has no decoding
pub none_sound : (part : PartialScanValue) (number mcu : ℕ) → ReadsTo part number mcu None → ReportsSound false (interval_of part.scan number)
none_sound part number mcu r = cut_short (interval_of part.scan number) r.0 r.3 (r.1, r.4.longest)

-- nothing of an interval is read at its start
pub at_the_start : (i : IntervalValue) → (zs : List (List ℤ)) × IsNext i 0 zs start_of_interval
at_the_start i = (runs.at_start i).next start_of_interval refl

-- ---- the end of the reading

-- a reader that reads nothing has reached the longest prefix
pub nothing_follows : (i : IntervalValue) (first left : ℕ) (zs ys : List (List ℤ)) (p : Place) → IsValid i.head → IsNext i first zs p → FirstMcus (run_from i p left) 0 ys → 0 < left → first ≤ i.mcus → HasLongestFront i (first + 0)
nothing_follows i first left zs ys p valid next here some few =
    (zs ++ ys, runs.longest one_run runs_meet shorter_front i valid first zs p next 0 left ys here (omega (arith, few)) some)

-- the grey MCUs of an interval are past a longest prefix that stays it
pub far_front : (part : PartialScanValue) (number mcu : ℕ) (place : Option Place) → ReadsTo part number mcu place → ReadsAll part.scan number mcu place → IsFinal part number place → (front : ℕ) × (zs : List (List ℤ)) × (front ≤ mcu) × StaysLongest part number front zs
far_front part number mcu (Some p) r all (inl over) = (mcu, all.0, omega arith, record { longest = all.1; final = inl over })
far_front part number mcu (Some p) r all (inr long) =
    (mcu, all.0, omega arith, record { longest = all.1; final = inr (omega (arith, long, ap length (rest_left (interval_of part.scan number) mcu all.0 r.0 p all.1.front r.1.run))) })
far_front part number mcu None r all final = (r.0, r.1, r.2, r.4)

-- if it may become longer, no further MCU is final
pub no_more : (part : PartialScanValue) (c : Cursor) → ReadsTo part c.number c.mcu c.place → ReadsAll part.scan c.number c.mcu c.place → (IsFinal part c.number c.place → ⊥) → HasNoMore part c
no_more part c = go c.place
  where
    go : (place : Option Place) → ReadsTo part c.number c.mcu place → ReadsAll part.scan c.number c.mcu place → (IsFinal part c.number place → ⊥) → HasNoMore part c
    go None r all going = absurd (going tt)
    go (Some p) r all going =
        let same = rest_left (interval_of part.scan c.number) c.mcu all.0 r.0 p all.1.front r.1.run in
        let short : length all.1.front.rest < MCU_BITS = elim (cases_lt (length all.1.front.rest) MCU_BITS) [
          | inl lt ↦ lt
          | inr ge ↦ absurd (going (inr (omega (arith, ge, ap length same))))
        ] in
        record { going = λ over. going (inl over); next = inr (record { blocks = all.0; longest = all.1; short = short }) }

-- ---- a row of MCUs

-- on to the next one
pub step_row : (part : PartialScanValue) (v : PartialRowValue) → IsPartialRow part v → 0 < vertical_max part.scan.head → v.done ≡ mcus_across part.scan.head → (lines : ℕ) → lines ≡ first_line part.scan.head v.row + line_count part.scan.head v.row → lines < part.scan.head.height
    → IsPartialRow part (record { row = v.row + 1; done = 0; cursor = v.cursor; samples = v.samples; lines = lines; marked = v.marked })
step_row part v c some whole lines given more =
    let deep = 8 * vertical_max part.scan.head in
    let positive : 0 < deep = omega (arith, some) in
    let next : (v.row + 1) * deep ≡ v.row * deep + deep = omega (arith, add-mul v.row 1 deep) in
    let at : lines ≡ (v.row + 1) * deep = omega (arith, given, more, next) in
    let across : (v.row + 1) * mcus_across part.scan.head ≡ v.row * mcus_across part.scan.head + mcus_across part.scan.head = omega (arith, add-mul v.row 1 (mcus_across part.scan.head)) in
    record {
      lies = record {
        row = in_div_ceil (v.row + 1) part.scan.head.height deep positive (omega (arith, at, more));
        within = omega arith;
        at = omega (arith, c.lies.at, whole, across);
        space = c.lies.space;
      };
      given = record { from = omega (arith, at); to = omega (arith, at); none = λ lt. at; left = λ lt. omega (arith, at, lt, positive) };
      reading = c.reading;
      shows = λ t b board first k lt. absurd (omega (arith, lt));
    }

-- lines that are returned of it
pub step_lines : (part : PartialScanValue) (v : PartialRowValue) (n : ℕ) → IsPartialRow part v → v.done ≡ mcus_across part.scan.head → v.lines + n ≤ first_line part.scan.head v.row + line_count part.scan.head v.row → (v.lines + n < part.scan.head.height → v.lines + n < first_line part.scan.head v.row + line_count part.scan.head v.row)
    → IsPartialRow part (record { row = v.row; done = v.done; cursor = v.cursor; samples = v.samples; lines = v.lines + n; marked = v.marked })
step_lines part v n c whole few left = record {
  lies = record { row = c.lies.row; within = c.lies.within; at = c.lies.at; space = c.lies.space };
  given = record { from = omega (arith, c.given.from); to = few; none = λ lt. absurd (omega (arith, lt, whole)); left = left };
  reading = c.reading;
  shows = c.shows;
}

-- the row's samples are painted as the image's
module _ (part : PartialScanValue) (v : PartialRowValue) (valid : IsValid part.scan.head) (c : IsPartialRow part v) (whole : v.done ≡ mcus_across part.scan.head) (n : ℕ) (few : v.lines + n ≤ first_line part.scan.head v.row + line_count part.scan.head v.row) (t : ScanValue) (b : GrowsInto part t) (board : DecodedScan) (first : DecodesFirst t (length t.intervals) board) where
  abbrev groups : List (List ℕ)
  groups = v.samples.lines.groups

  abbrev PaintedBy : HeadValue → Type 0
  PaintedBy g = next_lines_of g (samples_in (record { head = g; groups = groups })) v.lines n ≡ next_lines_of t.head (samples_of board) v.lines n

  painted_there : PaintedBy t.head
  painted_there =
      let e = sym b.head in
      let all : ShowsFirstUnits t (length t.intervals) (v.row * mcus_across t.head) (mcus_across t.head) (units_in t.head groups) =
      subst (λ (k : ℕ). ShowsFirstUnits t (length t.intervals) (v.row * mcus_across t.head) k (units_in t.head groups)) (whole ∙ ap mcus_across e) (c.shows t b) in
      let end = subst (λ (g : HeadValue). v.lines + n ≤ first_line g v.row + line_count g v.row) e few in
      row_of_board t (length t.intervals) v.row groups (subst IsValid e valid) (subst (λ (g : HeadValue). v.row < mcus_down g) e c.lies.row) all board first v.lines n (subst (λ (g : HeadValue). HasGiven g v) e c.given).from end

  pub lines_are : PaintedBy part.scan.head
  lines_are = subst PaintedBy b.head painted_there

pub row_partial : (part : PartialScanValue) (v : PartialRowValue) → IsValid part.scan.head → IsPartialRow part v → v.done ≡ mcus_across part.scan.head → (n : ℕ) → v.lines + n ≤ first_line part.scan.head v.row + line_count part.scan.head v.row
    → (pixels : List ℕ) → pixels ≡ next_lines_of part.scan.head (samples_in (record { head = part.scan.head; groups = v.samples.lines.groups })) v.lines n → AreFinalLines part v.lines n pixels
row_partial part v valid c whole n few pixels are t b board first = are ∙ lines_are part v valid c whole n few t b board first

-- ---- the beginning

pub begins_partial : (part : PartialScanValue) (v : PartialRowValue) → Begins part.scan.head v → 0 < mcus_down part.scan.head → 0 < intervals_of part.scan.head → 0 < part.scan.head.height → 0 < vertical_max part.scan.head → IsPartialRow part v
begins_partial part v b down some high deep =
    let none : v.row * mcus_across part.scan.head ≡ 0 * mcus_across part.scan.head = ap (λ (n : ℕ). n * mcus_across part.scan.head) b.row in
    let number : v.cursor.number ≡ 0 = ap (λ (c : Cursor). c.number) b.cursor in
    let mcu : v.cursor.mcu ≡ 0 = ap (λ (c : Cursor). c.mcu) b.cursor in
    let before : v.cursor.number * part.scan.head.restart ≡ 0 * part.scan.head.restart = ap (λ (n : ℕ). n * part.scan.head.restart) number in
    let top : first_line part.scan.head v.row ≡ 0 * (8 * vertical_max part.scan.head) = ap (λ (n : ℕ). n * (8 * vertical_max part.scan.head)) b.row in
    record {
      lies = record { row = omega (arith, b.row, down); within = omega (arith, b.done); at = omega (arith, mcu, b.done, none, before); space = b.space };
      given = record { from = omega (arith, top, b.lines); to = omega (arith, b.lines); none = λ lt. omega (arith, top, b.lines); left = λ lt. omega (arith, top, b.lines, high, deep) };
      reading = record {
        number = omega (arith, number, some);
        few = omega (arith, mcu);
        begun = λ i lt. absurd (omega (arith, lt, number));
        reads = subst (λ (c : Cursor). ReadsTo part c.number c.mcu c.place) (sym b.cursor) (at_the_start (interval_of part.scan 0));
        counts = λ t becomes. counts_none t (length t.intervals) 0 v.cursor.number v.marked b.sound b.damaged (sym number);
      };
      shows = λ t becomes board first k lt. let zero : v.done * blocks_of t.head ≡ 0 * blocks_of t.head = ap (λ (n : ℕ). n * blocks_of t.head) b.done in absurd (omega (arith, lt, zero));
    }

-- what is walked of it
pub row_walked : (s d : PartialSource) (h : HeadValue) (v : PartialRowValue) (n : ℕ) (w : SampleRowValue) → IsPartialRow s.scan.now v → s.cursor ≡ v.cursor → s.scan.now.scan.head ≡ h → HasSampleSpace h w → Walks h (partial_source_of s) (partial_source_of d) true v.done n v.samples.lines.groups w.lines.groups
    → IsPartialRow s.scan.now (record { row = v.row; done = v.done + n; cursor = d.cursor; samples = w; lines = v.lines; marked = d.marked })
row_walked s d h v n w c same e space walks =
    let part = s.scan.now in
    let f = sym e in
    let at_h : mcus_to h s.cursor ≡ v.row * mcus_across h + v.done = subst (λ (g : HeadValue). mcus_to g s.cursor ≡ v.row * mcus_across g + v.done) e (ap (mcus_to part.scan.head) same ∙ c.lies.at) in
    let at_d : mcus_to h d.cursor ≡ v.row * mcus_across h + (v.done + n) = omega (arith, walks.steps.passed, at_h) in
    record {
      lies = record {
        row = c.lies.row;
        within = subst (λ (g : HeadValue). v.done + n ≤ mcus_across g) f walks.few;
        at = subst (λ (g : HeadValue). mcus_to g d.cursor ≡ v.row * mcus_across g + (v.done + n)) f at_d;
        space = subst (λ (g : HeadValue). HasSampleSpace g w) f space;
      };
      given = record { from = c.given.from; to = c.given.to; none = λ lt. c.given.none (omega (arith, lt)); left = c.given.left };
      reading = subst (λ (g : PartialScanValue). IsPartialReading g d.cursor d.marked) walks.steps.part walks.steps.at.reading;
      shows = λ t b.
          let k = b.head ∙ e in
          let before = subst (λ (g : HeadValue). ShowsFirstUnits t (length t.intervals) (v.row * mcus_across g) v.done (units_in t.head v.samples.lines.groups)) k (c.shows t b) in
          subst (λ (g : HeadValue). ShowsFirstUnits t (length t.intervals) (v.row * mcus_across g) (v.done + n) (units_in t.head w.lines.groups)) (sym k) (walks.shows refl (v.row * mcus_across h) at_h [] t b before);
    }

-- what is read of a row does not depend on the rest of its memory
pub same_lines : (part : PartialScanValue) (v : PartialRowValue) (w : SampleRowValue) → IsPartialRow part v → w.lines ≡ v.samples.lines → HasSampleSpace part.scan.head w
    → IsPartialRow part (record { row = v.row; done = v.done; cursor = v.cursor; samples = w; lines = v.lines; marked = v.marked })
same_lines part v w c same space = record {
  lies = record { row = c.lies.row; within = c.lies.within; at = c.lies.at; space = space };
  given = record { from = c.given.from; to = c.given.to; none = c.given.none; left = c.given.left };
  reading = c.reading;
  shows = λ t b. subst (λ (l : RowLinesValue). ShowsFirstUnits t (length t.intervals) (v.row * mcus_across t.head) v.done (units_in t.head l.groups)) (sym same) (c.shows t b);
}
