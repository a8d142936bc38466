-- What is read of an interval from a part of its data is read of all of it.
use Rattle.std.proofs.Common.{◌≡◌, ℕ, ◌+◌, ◌*◌, ◌<◌, ◌≤◌, ◌⊎◌, inl, inr, List, [], ◌++◌, length, drop, get_or, refl, sym, ap, subst, ◌∙◌, length-append, arith}
use Rattle.std.specs.Prelude.{ℤ}
use Rattle.std.specs.List.{All}
use Rattle.std.proofs.lemmas.List.{append-nil}
use Rattle.std.proofs.Math.Nat.{mul-le-mul_left}
use Rattle.jr_code.specs.Bits.{bits}
use Rattle.jr_head.specs.HeadValue.{HeadValue}
use Rattle.jr_head.specs.Geometry.{IsValid, blocks_of, order_of}
use Rattle.jr_head.proofs.SamplingLaws.{length-order}
use Rattle.jr_mcu.specs.Block.{IsInDcRange}
use Rattle.jr_mcu.proofs.LongMcus.{mcus_long}
use Rattle.jr_mcu.proofs.McuLaws.{no_blocks}
use Rattle.jr_scan.specs.declared.place.Place.{Place}
use Rattle.jr_scan.specs.declared.place.RunEnd.TheVariants.{AllRead}
use Rattle.jr_scan.specs.IntervalValue.{IntervalValue}
use Rattle.jr_scan.specs.Run.{HasNoMcu, IsRun, left_at, run_from, start_of_interval, CanReadFrom, FirstMcus}
use Rattle.jr_scan.specs.ScanValue.{ScanValue, interval_of, mcus_in}
use Rattle.jr_scan.specs.Mcus.{Front}
use Rattle.jr_scan.proofs.McuReaders.{front_of_run, no_run}
use Rattle.jr_scan.proofs.ScanLaws.{one_run, runs_meet, shorter_front}
use Rattle.jr_scan.proofs.CursorRuns as runs
use Rattle.jr_arrival.specs.More.{with_more}
use Rattle.jr_arrival.proofs.MoreData.{run_is_final}
use Rattle.jr_arrival.specs.Meaning.{GoesOnAt, HasNoFurtherMcu, ReadsAt, after}
use Rattle.jr_arrival.proofs.After.{left_after, none_after, run_after}
use Rattle.jr_arrival.proofs.Going.{its_data}
use Rattle.jr_arrival.specs.declared.window.TheConstants.{MCU_BITS}
use Rattle.jr_arrival.specs.LongerFile.{MayGrow}
use Rattle.jr_arrival.proofs.Knowing.{rest_left}
use Rattle.jr_arrival.proofs.Longest.{none_in_long}

abbrev interval : (n m : ℕ) → List ℕ → HeadValue → IntervalValue
interval n m bytes h = record { number = n; mcus = m; bytes = bytes; head = h }

-- the numbers of an interval don't matter to its runs
renumbered : (i m j n : ℕ) (bytes : List ℕ) (h : HeadValue) (p q : Place) (k : ℕ) (ys : List (List ℤ)) → IsRun (run_from (interval i m bytes h) p k) ys q AllRead → IsRun (run_from (interval j n bytes h) p k) ys q AllRead
renumbered i m j n bytes h p q k ys a = record { count = a.count; few = a.few; taken = a.taken; mcus = a.mcus; spelled = a.spelled; bit = a.bit; predictions = a.predictions; ends = a.ends }

module _ (whole : List ℕ) (t : ScanValue) (i mcu at left : ℕ) (found rest : List ℕ) (p : Place) (valid : IsValid t.head) (r : ReadsAt whole t i mcu at p) (is : r.on.rest ≡ found ++ rest) where
  abbrev h : HeadValue
  h = t.head

  abbrev near : IntervalValue
  near = interval i left found h

  whole_data : r.before ++ (found ++ rest) ≡ get_or t.intervals i []
  whole_data = ap (λ (x : List ℕ). r.before ++ x) (sym is) ∙ sym (its_data whole t i at r.before r.on)

  -- further MCUs
  pub run_on : (n : ℕ) (ys : List (List ℤ)) (q : Place) → p.bit ≤ 8 * length found → q.bit ≤ 8 * length found → IsRun (run_from near p n) ys q AllRead → IsRun (run_from (interval_of t i) (after r.before p) n) ys (after r.before q) AllRead
  run_on n ys q from to run =
      let before = r.before in
      let longer = run_after (with_more near rest) before p n ys q AllRead (run_is_final (run_from near p n) rest ys q from run) in
      subst (λ (b : List ℕ). IsRun (run_from (interval i (mcus_in h i) b h) (after before p) n) ys (after before q) AllRead) whole_data
      (renumbered i left i (mcus_in h i) (before ++ (found ++ rest)) h (after before p) (after before q) n ys longer)

  pub reads_on : (n : ℕ) (ys : List (List ℤ)) (q : Place) → p.bit ≤ 8 * length found → q.bit ≤ 8 * length found → All IsInDcRange q.predictions → mcu + n ≤ mcus_in h i → IsRun (run_from near p n) ys q AllRead → ReadsAt whole t i (mcu + n) at q
  reads_on n ys q from to in_range few run =
      let all = interval_of t i in
      let before = r.before in
      let there = run_on n ys q from to run in
      let can : CanReadFrom all (after before q) = (omega (arith, to, ap length whole_data, length-append before (found ++ rest), length-append found rest), in_range) in
      let here : FirstMcus (run_from all (after before p) n) n ys = record { to = after before q; run = there; none = λ lt. absurd (omega (arith, lt)) } in
      record { before = before; on = r.on; blocks = r.blocks ++ ys; next = runs.going one_run runs_meet shorter_front all valid mcu r.blocks (after before p) r.next n n ys here few (after before q) there can }

  -- or none
  pub none_on : p.bit ≤ 8 * length found → mcu ≤ mcus_in h i → HasNoMcu near p → (rest ≡ []) ⊎ (16650 ≤ length (left_at near p)) → HasNoFurtherMcu t i mcu
  none_on from few none far =
      let all = interval_of t i in
      let before = r.before in
      let units : length (order_of h) ≤ 10 = omega (arith, length-order 0 h.components, valid.components.blocks) in
      let longer : HasNoMcu (with_more near rest) p = elim far [
        | inl e ↦ subst (λ (x : List ℕ). HasNoMcu (interval i left x h) p) (sym (ap (λ (x : List ℕ). found ++ x) e ∙ append-nil found)) none
        | inr long ↦ none_in_long near rest p units from long none
      ] in
      let there : HasNoMcu all (after before p) =
      subst (λ (b : List ℕ). HasNoMcu (interval i (mcus_in h i) b h) (after before p)) whole_data (none_after (with_more near rest) before p longer) in
      let here : FirstMcus (run_from all (after before p) 1) 0 [] = record { to = after before p; run = no_run all (after before p) (ap length r.next.run.predictions); none = λ lt. there } in
      record {
        front = mcu + 0;
        blocks = r.blocks ++ [];
        few = omega arith;
        longest = runs.longest one_run runs_meet shorter_front all valid mcu r.blocks (after before p) r.next 0 1 [] here (omega (arith, few)) (omega arith);
      }

  -- which may become whole if the data end there and fewer bits are left than the maximum of an MCU
  pub grows_on : rest ≡ [] → mcu ≤ mcus_in h i → HasNoFurtherMcu t i mcu → length (left_at near p) < MCU_BITS → MayGrow (interval_of t i) mcu
  grows_on end few none short =
      let all = interval_of t i in
      let at = after r.before p in
      let front : Front all mcu r.blocks = front_of_run all mcu r.blocks at r.next.run few in
      let left : left_at all at ≡ left_at near p =
      ap (λ (b : List ℕ). drop (8 * length r.before + p.bit) (bits b)) (sym whole_data)
      ∙ left_after (with_more near rest) r.before p
      ∙ ap (λ (x : List ℕ). drop p.bit (bits (found ++ x))) end
      ∙ ap (λ (x : List ℕ). drop p.bit (bits x)) (append-nil found) in
      record {
        blocks = r.blocks;
        longest = record { front = front; longest = λ j ys f. omega (arith, none.longest.longest j ys f, none.few) };
        short = omega (arith, short, ap length (rest_left all mcu r.blocks r.blocks at front r.next.run ∙ left));
      }

-- at the start of an interval
pub reads_first : (whole : List ℕ) (t : ScanValue) (i at : ℕ) (p : Place) → p ≡ start_of_interval → GoesOnAt whole t i at [] → ReadsAt whole t i 0 at p
reads_first whole t i at p e on =
    let start = (runs.at_start (interval_of t i)).next start_of_interval refl in
    subst (ReadsAt whole t i 0 at) (sym e) (record { before = []; on = on; blocks = start.0; next = start.1 })

-- a run of no MCUs ends where it begins
pub nothing_read : (i : IntervalValue) (p q : Place) (ys : List (List ℤ)) → IsValid i.head → length p.predictions ≡ 3 → IsRun (run_from i p 0) ys q AllRead → q ≡ p
nothing_read i p q ys valid three run =
    (one_run (run_from i p 0) (record { blocks = ys; to = q; end = AllRead; is = run }) (record { blocks = []; to = p; end = AllRead; is = no_run i p three }) valid).1

-- an interval without data has no further MCU
pub nothing_whole : (t : ScanValue) (i mcu : ℕ) → 0 < blocks_of t.head → get_or t.intervals i [] ≡ [] → HasNoFurtherMcu t i mcu
nothing_whole t i mcu some none = record {
  front = 0;
  blocks = [];
  few = omega arith;
  longest = record {
    front = record { at_most = omega arith; taken = []; rest = bits (get_or t.intervals i []); mcus = (omega arith, no_blocks t.head _); spelled = refl };
    longest = λ j ys f.
        let long = mcus_long t.head _ j ys f.taken f.mcus in
        let empty : length (bits (get_or t.intervals i [])) ≡ length (bits []) = ap (λ (b : List ℕ). length (bits b)) none in
        let each : j * 1 ≤ j * length (order_of t.head) = mul-le-mul_left {m = 1} {n = length (order_of t.head)} j (omega (arith, some, length-order 0 t.head.components)) in
        omega (arith, long, each, empty, ap length f.spelled, length-append f.taken f.rest);
  };
}
