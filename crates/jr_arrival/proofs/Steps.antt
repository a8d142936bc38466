-- What a source's steps keep true in each file that its bytes may be.
use Rattle.std.proofs.Common.{◌≡◌, ◌≢◌, ℕ, ◌+◌, ◌-◌, ◌*◌, ◌/◌, ◌%◌, ◌<◌, ◌≤◌, ◌⊎◌, inl, inr, List, [], Option, Some, None, ◌++◌, length, take, drop, refl, sym, ap, subst, ◌∙◌, append_assoc, length-append, length-drop, length-take-le, arith}
use Rattle.std.specs.Prelude.{ℤ, Bool, true, false}
use Rattle.std.specs.List.{All}
use Rattle.std.proofs.lemmas.List.{drop-drop}
use Rattle.jr_base.specs.declared.marker.TheConstants.{RST0}
use Rattle.jr_cut.specs.Cut.{IsRaw, IsStop, IsEnding, marker}
use Rattle.jr_cut.specs.declared.scan_end.ScanEnd.{ScanEnd}
use Rattle.jr_cut.specs.declared.scan_end.ScanEnd.TheVariants.{EndOfFile}
use Rattle.jr_head.specs.HeadValue.{HeadValue}
use Rattle.jr_head.specs.Geometry.{IsValid}
use Rattle.jr_head.specs.Intervals.{intervals_of, mcus_in}
use Rattle.jr_mcu.specs.Block.{IsInDcRange}
use Rattle.jr_scan.specs.declared.place.Place.{Place}
use Rattle.jr_scan.specs.declared.place.RunEnd.TheVariants.{AllRead}
use Rattle.jr_code.specs.Bits.{bits}
use Rattle.jr_code.proofs.BitLemmas.{length-bits}
use Rattle.jr_scan.specs.Run.{HasNoMcu, IsRun, left_at, run_from, start_of_interval, IsNext}
use Rattle.jr_scan.specs.ScanValue.{ScanValue, interval_of}
use Rattle.jr_cut.proofs.CutLaw.{ending_stop, marker_stop}
use Rattle.jr_cut.proofs.Spellings.{one_stop}
use Rattle.jr_arrival.specs.declared.file_source.FileSource.{FileSource}
use Rattle.jr_arrival.specs.declared.window.Window.{Window}
use Rattle.jr_arrival.specs.Meaning.{GoesOnAt, HasNoData, HasNoFurtherMcu, IsStuckAt, MayBe, ReadsAt, after}
use Rattle.jr_arrival.specs.Places.{IsIn}
use Rattle.jr_arrival.specs.declared.window.TheConstants.{MCU_BITS}
use Rattle.jr_arrival.specs.LongerFile.{MayGrow}
use Rattle.jr_arrival.specs.FileSources.{IsFileSource, IsOffset, IsRightIn, IsWindow, MeansNext, NoneFollows, data_in, in_window}
use Rattle.jr_arrival.specs.Parts.{part_of}
use Rattle.jr_arrival.proofs.Going.{ended_on, ending_more, next_on}
use Rattle.jr_arrival.proofs.Parts.{drop_part, on_part}
use Rattle.jr_arrival.proofs.ReadOn.{grows_on, none_on, reads_first, reads_on, run_on}
use Rattle.jr_cut.proofs.Slices.{split_at}
use Rattle.jr_arrival.proofs.Windows.{window_long}

-- ---- over MCUs of its interval

-- over those after which no whole one follows
pub stuck_on : (whole : List ℕ) (t : ScanValue) (i m at n : ℕ) → IsStuckAt whole t i m at → IsStuckAt whole t i (m + n) at
stuck_on whole t i m at n stuck = record { before = stuck.before; on = stuck.on; no_more = record { front = stuck.no_more.front; blocks = stuck.no_more.blocks; few = omega (arith, stuck.no_more.few); longest = stuck.no_more.longest } }

-- over whole ones, of a position in the window
module _ (h : HeadValue) (s : FileSource) (p : Place) (is : IsFileSource h s) (at : s.cursor.place ≡ Some p) (inside : p.bit ≤ 8 * (s.window.found - s.window.from)) where
  reads_there : (whole : List ℕ) (t : ScanValue) → IsRightIn whole t s → ReadsAt whole t s.cursor.number s.cursor.mcu (s.window.file.from + s.window.at) p
  reads_there whole t right = subst (λ (o : Option Place). MeansNext whole t s.cursor.number s.cursor.mcu (s.window.file.from + s.window.at) o s.ended) at right.means

  pub passes_true : IsValid h → (n : ℕ) (q : Place) → s.cursor.mcu + n ≤ mcus_in h s.cursor.number → (ys : List (List ℤ)) → IsRun (run_from (in_window h s) p n) ys q AllRead → q.bit ≤ 8 * (s.window.found - s.window.from) → All IsInDcRange q.predictions
      → (whole : List ℕ) (t : ScanValue) → MayBe (part_of s.window.file) h whole t → IsRightIn whole t s → ReadsAt whole t s.cursor.number (s.cursor.mcu + n) (s.window.file.from + s.window.at) q
  passes_true valid n q few ys run to in_range whole t may right =
      let w = is.window.spells in
      let found = data_in s.window in
      let long : length found ≡ s.window.found - s.window.from = window_long s.window is.window in
      let means = reads_there whole t right in
      let o = on_part (part_of s.window.file) h whole t may s.cursor.number s.window.at w.read means.before found means.on w.within w.spelled in
      let e = may.head in
      reads_on whole t s.cursor.number s.cursor.mcu (s.window.file.from + s.window.at) (mcus_in h s.cursor.number - s.cursor.mcu) found o.on.rest p (subst IsValid (sym e) valid) means o.is n ys q (omega (arith, inside, long)) (omega (arith, to, long)) in_range
      (subst (λ (g : HeadValue). s.cursor.mcu + n ≤ mcus_in g s.cursor.number) (sym e) few)
      (subst (λ (g : HeadValue). IsRun (run_from (record { number = s.cursor.number; mcus = mcus_in h s.cursor.number - s.cursor.mcu; bytes = found; head = g }) p n) ys q AllRead) (sym e) run)

  -- the run of them is one of the interval
  pub run_there : IsValid h → (n : ℕ) (q : Place) (ys : List (List ℤ)) → IsRun (run_from (in_window h s) p n) ys q AllRead → q.bit ≤ 8 * (s.window.found - s.window.from) → (whole : List ℕ) (t : ScanValue) → MayBe (part_of s.window.file) h whole t → IsRightIn whole t s
      → (before : List ℕ) × (blocks : List (List ℤ)) × IsNext (interval_of t s.cursor.number) s.cursor.mcu blocks (after before p) × IsRun (run_from (interval_of t s.cursor.number) (after before p) n) ys (after before q) AllRead
  run_there valid n q ys run to whole t may right =
      let w = is.window.spells in
      let found = data_in s.window in
      let long : length found ≡ s.window.found - s.window.from = window_long s.window is.window in
      let means = reads_there whole t right in
      let o = on_part (part_of s.window.file) h whole t may s.cursor.number s.window.at w.read means.before found means.on w.within w.spelled in
      let e = may.head in (
        means.before,
        means.blocks,
        means.next,
        run_on whole t s.cursor.number s.cursor.mcu (s.window.file.from + s.window.at) (mcus_in h s.cursor.number - s.cursor.mcu) found o.on.rest p (subst IsValid (sym e) valid) means o.is n ys q (omega (arith, inside, long)) (omega (arith, to, long))
            (subst (λ (g : HeadValue). IsRun (run_from (record { number = s.cursor.number; mcus = mcus_in h s.cursor.number - s.cursor.mcu; bytes = found; head = g }) p n) ys q AllRead) (sym e) run),
      )

-- ---- to a later byte of its data

module _ (h : HeadValue) (w : Window) (byte at : ℕ) (off : IsOffset w byte at) (is : IsWindow w) (le : byte ≤ w.found - w.from) (whole : List ℕ) (t : ScanValue) (may : MayBe (part_of w.file) h whole t) (i mcu : ℕ) where
  abbrev front : List ℕ
  front = take byte (data_in w)

  front_long : length front ≡ byte
  front_long = let found_long = window_long w is in length-take-le byte (data_in w) (omega (arith, found_long, le))

  on : (before : List ℕ) (g : GoesOnAt whole t i (w.file.from + w.at) before) → GoesOnAt whole t i (w.file.from + at) (before ++ front)
  on before g =
      let o = on_part (part_of w.file) h whole t may i w.at off.read before front g (omega (arith, off.is, off.within)) off.spelled in
      let there : w.file.from + w.at + off.read ≡ w.file.from + at = omega (arith, off.is) in
      subst (λ (k : ℕ). GoesOnAt whole t i k (before ++ front)) there o.on

  pub moved : (p q : Place) → p.bit / 8 ≡ byte → q.bit ≡ p.bit % 8 → q.predictions ≡ p.predictions → ReadsAt whole t i mcu (w.file.from + w.at) p → ReadsAt whole t i mcu (w.file.from + at) q
  moved p q from bit predictions means =
      let b : 8 * length means.before + p.bit ≡ 8 * length (means.before ++ front) + q.bit = omega (arith, length-append means.before front, front_long, bit, from) in
      let same : after means.before p ≡ after (means.before ++ front) q =
      ap (λ (k : ℕ). (let r : Place = record { bit = k; predictions = p.predictions } in r)) b ∙ ap (λ (l : List ℤ). (let r : Place = record { bit = 8 * length (means.before ++ front) + q.bit; predictions = l } in r)) (sym predictions) in
      record { before = means.before ++ front; on = on means.before means.on; blocks = means.blocks; next = subst (IsNext (interval_of t i) mcu means.blocks) same means.next }

-- ---- after its data

module _ (h : HeadValue) (s : FileSource) (w : IsWindow s.window) (end read : ℕ) (found : List ℕ) (there : end ≡ s.window.at + read) (within : end ≤ length s.window.file.bytes.now) (raw : IsRaw (take read (drop s.window.at s.window.file.bytes.now)) found) where
  abbrev bytes : List ℕ
  bytes = s.window.file.bytes.now

  abbrev from : ℕ
  from = s.window.file.from

  abbrev number : ℕ
  number = s.cursor.number

  there_whole : from + s.window.at + read ≡ from + end
  there_whole = omega (arith, there)

  module _ (p : Place) (at : s.cursor.place ≡ Some p) (inside : p.bit ≤ 8 * (s.window.found - s.window.from)) (is_in : IsIn h number s.cursor.mcu) (valid : IsValid h) (none : NoneFollows h s p) (here : IsStop (drop end bytes)) (whole : List ℕ) (t : ScanValue) (may : MayBe (part_of s.window.file) h whole t) (right : IsRightIn whole t s) where
    means : ReadsAt whole t number s.cursor.mcu (from + s.window.at) p
    means = subst (λ (o : Option Place). MeansNext whole t number s.cursor.mcu (from + s.window.at) o s.ended) at right.means

    -- its data in the window are all of it
    all_there : s.window.ends ≡ true → IsStop (drop (from + end) whole) → (rest : List ℕ) × (means.on.rest ≡ data_in s.window ++ rest) × (rest ≡ [])
    all_there ends stop =
        let spells = w.spells in
        let o = on_part (part_of s.window.file) h whole t may number s.window.at read means.before found means.on (omega (arith, there, within)) raw in
        let same = one_stop (take spells.read (drop s.window.at bytes)) (data_in s.window) (take read (drop s.window.at bytes)) found (drop (s.window.at + spells.read) bytes) (drop (s.window.at + read) bytes) spells.spelled raw (sym (split_at bytes s.window.at spells.read) ∙ split_at bytes s.window.at read) (spells.stop ends) (subst (λ (k : ℕ). IsStop (drop k bytes)) there here) in
        (o.on.rest, o.is ∙ ap (λ (x : List ℕ). x ++ o.on.rest) same.0, o.none (subst (λ (k : ℕ). IsStop (drop k whole)) (sym there_whole) stop))

    abbrev left : ℕ
    left = mcus_in h number - s.cursor.mcu

    none_further : (rest : List ℕ) → means.on.rest ≡ data_in s.window ++ rest → (rest ≡ []) ⊎ (16650 ≤ length (left_at (in_window h s) p)) → HasNoFurtherMcu t number s.cursor.mcu
    none_further rest rest_is far =
        let e = may.head in
        none_on whole t number s.cursor.mcu (from + s.window.at) left (data_in s.window) rest p (subst IsValid (sym e) valid) means rest_is (omega (arith, inside, window_long s.window w)) (subst (λ (g : HeadValue). s.cursor.mcu ≤ mcus_in g number) (sym e) is_in.few)
        (subst (λ (g : HeadValue). HasNoMcu (record { number = number; mcus = left; bytes = data_in s.window; head = g }) p) (sym e) none.none) far

    -- if no further MCU is whole, and at least the maximum number of bits of an MCU is left, or the data end there
    pub stuck_true : IsStop (drop (from + end) whole) ⊎ (MCU_BITS ≤ length (left_at (in_window h s) p)) → IsStuckAt whole t number s.cursor.mcu (from + end)
    stuck_true final =
        let o = on_part (part_of s.window.file) h whole t may number s.window.at read means.before found means.on (omega (arith, there, within)) raw in
        let spells = w.spells in
        let near = on_part (part_of s.window.file) h whole t may number s.window.at spells.read means.before (data_in s.window) means.on spells.within spells.spelled in
        record {
          before = means.before ++ found;
          on = subst (λ (k : ℕ). GoesOnAt whole t number k (means.before ++ found)) there_whole o.on;
          no_more = elim final [
            | inr long ↦ none_further near.on.rest near.is (inr long)
            | inl stop ↦ elim none.far [
              | inl ends ↦ let all = all_there ends stop in none_further all.0 all.1 (inl all.2)
              | inr long ↦ none_further near.on.rest near.is (inr long)
            ]
          ];
        }

    -- or if it may become whole
    pub grows_true : length (left_at (in_window h s) p) < MCU_BITS → IsStop (drop (from + end) whole) → MayGrow (interval_of t number) s.cursor.mcu
    grows_true short stop = elim none.far [
      | inl ends ↦
          let all = all_there ends stop in
          let e = may.head in
          grows_on whole t number s.cursor.mcu (from + s.window.at) left (data_in s.window) all.0 p (subst IsValid (sym e) valid) means all.1 all.2 (subst (λ (g : HeadValue). s.cursor.mcu ≤ mcus_in g number) (sym e) is_in.few) (none_further all.0 all.1 (inl all.2)) short
      | inr long ↦ absurd (omega (arith, long, short))
    ]

  -- the interval has ended there
  pub its_end : (whole : List ℕ) (t : ScanValue) (may : MayBe (part_of s.window.file) h whole t) → IsStop (drop (from + end) whole) → s.ended ≡ false → IsRightIn whole t s → (before : List ℕ) × (g : GoesOnAt whole t number (from + end) before) × (g.rest ≡ [])
  its_end whole t may stop on_going right = go s.cursor.place s.ended on_going right.means
    where
      on : (before : List ℕ) (g : GoesOnAt whole t number (from + s.window.at) before) → (b : List ℕ) × (g : GoesOnAt whole t number (from + end) b) × (g.rest ≡ [])
      on before g =
          let o = on_part (part_of s.window.file) h whole t may number s.window.at read before found g (omega (arith, there, within)) raw in
          let n = o.none (subst (λ (k : ℕ). IsStop (drop k whole)) (sym there_whole) stop) in
          subst (λ (k : ℕ). (b : List ℕ) × (g : GoesOnAt whole t number k b) × (g.rest ≡ [])) there_whole (before ++ found, o.on, n)

      go : (o : Option Place) (ended : Bool) → ended ≡ false → MeansNext whole t number s.cursor.mcu (from + s.window.at) o ended → (b : List ℕ) × (g : GoesOnAt whole t number (from + end) b) × (g.rest ≡ [])
      go (Some p) ended e means = on means.before means.on
      go None false e means = on means.before means.on
      go None true e means = absurd (let z : true ≡ false = e in cc)

  -- the next one begins after its marker
  pub next_true : (whole : List ℕ) (t : ScanValue) (may : MayBe (part_of s.window.file) h whole t) → s.ended ≡ false → IsRightIn whole t s → (more : ℕ) → number + 1 < intervals_of h → drop end bytes ≡ marker more (RST0 + number % 8) ++ drop (more + 2) (drop end bytes)
      → end + (more + 2) ≤ length bytes → ReadsAt whole t (number + 1) 0 (from + end + (more + 2)) start_of_interval
  next_true whole t may over right more space starts inside =
      let code = RST0 + number % 8 in
      let rest = drop (more + 2) (drop end bytes) ++ may.more in
      let begins : drop (from + end) whole ≡ marker more code ++ rest = drop_part (part_of s.window.file) h whole t may end within ∙ ap (λ (x : List ℕ). x ++ may.more) starts ∙ append_assoc (marker more code) (drop (more + 2) (drop end bytes)) may.more in
      let sum : from + end + (more + 2) ≡ from + (end + (more + 2)) = omega arith in
      let after_it : drop (from + end + (more + 2)) whole ≡ rest =
      ap (λ (k : ℕ). drop k whole) sum ∙ drop_part (part_of s.window.file) h whole t may (end + (more + 2)) inside ∙ ap (λ (x : List ℕ). x ++ may.more) (sym (drop-drop (more + 2) end bytes)) in
      let stop : IsStop (drop (from + end) whole) = marker_stop (drop (from + end) whole) code (more, rest, begins) (λ e. omega arith) (λ e. omega arith) in
      let there = its_end whole t may stop over right in
      reads_first whole t (number + 1) (from + end + (more + 2)) start_of_interval refl
      (next_on whole t number (from + end) there.0 there.1 there.2 more rest (subst (λ (g : HeadValue). number + 1 < intervals_of g) (sym may.head) space) begins after_it)

  -- or the scan has ended
  pub ended_true : (whole : List ℕ) (t : ScanValue) (may : MayBe (part_of s.window.file) h whole t) → s.ended ≡ false → IsRightIn whole t s → (e : ScanEnd) → IsEnding (intervals_of h) number end (drop end bytes) e → (e ≢ EndOfFile) ⊎ (may.more ≡ []) → HasNoData t (number + 1)
  ended_true whole t may over right e ending final =
      let tail = drop (from + end) whole in
      let there_too : IsEnding (intervals_of h) number end tail e =
      subst (λ (x : List ℕ). IsEnding (intervals_of h) number end x e) (sym (drop_part (part_of s.window.file) h whole t may end within)) (ending_more (intervals_of h) number end (drop end bytes) may.more e final ending) in
      let there = its_end whole t may (ending_stop (intervals_of h) number end tail e there_too) over right in
      ended_on whole t number (from + end) there.0 there.1 there.2 end e (subst (λ (g : HeadValue). IsEnding (intervals_of g) number end tail e) (sym may.head) there_too)

-- the bits of the window starting there
pub window_left : (h : HeadValue) (s : FileSource) (p : Place) → IsWindow s.window → length (left_at (in_window h s) p) ≡ 8 * (s.window.found - s.window.from) - p.bit
window_left h s p w = omega (arith, window_long s.window w, length-drop p.bit (bits (data_in s.window)), length-bits (data_in s.window))
