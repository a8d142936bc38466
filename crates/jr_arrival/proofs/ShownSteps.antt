-- What a row shows after a step over MCUs.
use Rattle.std.proofs.Common.{◌≡◌, ℕ, ◌+◌, ◌-◌, ◌*◌, ◌<◌, ◌≤◌, Some, None, List, length, refl, sym, ap, subst, ◌∙◌, arith}
use Rattle.std.specs.Prelude.{ℤ, Bool, IsTrue}
use Rattle.jr_head.specs.HeadValue.{HeadValue}
use Rattle.jr_head.specs.Geometry.{IsValid, blocks_of, order_of}
use Rattle.jr_head.specs.Intervals.{intervals_of, mcus_in}
use Rattle.jr_head.proofs.SamplingLaws.{length-order}
use Rattle.jr_scan.specs.declared.place.Place.{Place}
use Rattle.jr_scan.specs.declared.place.RunEnd.TheVariants.{AllRead}
use Rattle.jr_scan.specs.IntervalValue.{IntervalValue}
use Rattle.jr_scan.specs.Run.{IsRun, run_from, IsNext}
use Rattle.jr_scan.specs.ScanValue.{ScanValue, interval_of}
use Rattle.jr_scan.specs.declared.cursor.Cursor.{Cursor}
use Rattle.jr_piece.specs.PieceValue.{PieceValue}
use Rattle.jr_piece.specs.Outcome.{IsOutcome, unit_of}
use Rattle.jr_piece.specs.Units.{grey_unit, unit_in_piece}
use Rattle.jr_rows.specs.Cursors.{mcus_to}
use Rattle.jr_rows.specs.Groups.{units_in}
use Rattle.jr_piece.proofs.CodedUnits.{grey_codes, whole_codes}
use Rattle.jr_arrival.proofs.ScanIntervals.{count_is}
use Rattle.jr_arrival.proofs.ShownMcus.{shown_on, shown_there}
use Rattle.jr_arrival.proofs.Steps.{passes_true, run_there}
use Rattle.jr_arrival.proofs.Windows.{window_long}
use Rattle.jr_arrival.specs.declared.file_source.FileSource.{FileSource}
use Rattle.jr_arrival.specs.FileSources.{IsFileSource, IsInside, in_window, source_of}
use Rattle.jr_arrival.specs.Meaning.{after}
use Rattle.jr_arrival.specs.RowMcus.{ExtendsRow, TakesWhole}
use Rattle.jr_arrival.specs.Sources.{HasNoneLeft, ShowsMore, SourceValue, Steps, Walks}

-- the data units of MCUs are those of each outcome of an interval
abbrev pub CodesBy : HeadValue → IntervalValue → (mcu n : ℕ) → (ℕ → List ℕ) → Type 0
CodesBy h i mcu n unit = (o : PieceValue) → o.interval ≡ i → IsOutcome o → (k : ℕ) → k < n * blocks_of h → unit k ≡ unit_in_piece o (mcu * blocks_of h + k)

per_of : (h : HeadValue) → length (order_of h) ≡ blocks_of h
per_of h = length-order 0 h.components

-- so a row has what each board of the scan shows
pub extends_shows : {P : Type 0} (h : HeadValue) (s : SourceValue P) (keeps : Bool) (n done : ℕ) (unit : ℕ → List ℕ) (old new : List (List ℕ)) → 0 < blocks_of h → s.cursor.number < intervals_of h → s.cursor.mcu + n ≤ mcus_in h s.cursor.number
    → (IsTrue keeps → ExtendsRow h done n unit old new)
    → ((whole : List ℕ) (t : ScanValue) → s.may_be h whole t → (t.head ≡ h) × (length t.intervals ≡ intervals_of h) × CodesBy h (interval_of t s.cursor.number) s.cursor.mcu n unit)
    → ShowsMore h s keeps done n old new
extends_shows h s keeps n done unit old new some number few adds codes keep from at whole t may before =
    let it = codes whole t may in
    let e = sym it.0 in
    let c = s.cursor in
    let some_t = subst (λ (g : HeadValue). 0 < blocks_of g) e some in
    let few_t = subst (λ (g : HeadValue). c.mcu + n ≤ mcus_in g c.number) e few in
    let number_t = subst (λ (g : HeadValue). c.number < intervals_of g) e number in
    let at_t = subst (λ (g : HeadValue). mcus_to g c ≡ from + done) e at in
    let adds_t = subst (λ (g : HeadValue). ExtendsRow g done n unit old new) e (adds keep) in
    let codes_t = subst (λ (g : HeadValue). CodesBy g (interval_of t c.number) c.mcu n unit) e it.2 in
    shown_on t (length t.intervals) from done n (mcus_to t.head c) (units_in t.head old) (units_in t.head new) some_t at_t before adds_t.kept
    (shown_there t (length t.intervals) c.number c.mcu n (done * blocks_of t.head) (units_in t.head new) some_t number_t (omega (arith, number, it.1)) few_t (λ o same out k lt. adds_t.each k lt ∙ codes_t o same out k lt))

-- whole MCUs of an interval
pub whole_units : (h : HeadValue) (i : IntervalValue) (mcu n : ℕ) (zs ys : List (List ℤ)) (p q : Place) → IsValid h → i.head ≡ h → IsNext i mcu zs p → IsRun (run_from i p n) ys q AllRead → mcu + n ≤ i.mcus → CodesBy h i mcu n (unit_of h ys)
whole_units h i mcu n zs ys p q valid e next run few =
    subst (λ (g : HeadValue). CodesBy g i mcu n (unit_of g ys)) e
    (λ o same out k lt.
    whole_codes i (subst IsValid (sym e) valid) mcu zs p next n ys q run few o same out k (omega (arith, lt, ap (λ (m : ℕ). n * m) (per_of i.head)))
    ∙ ap (λ (m : ℕ). unit_in_piece o (mcu * m + k)) (per_of i.head))

-- those of a window
module _ (h : HeadValue) (s : FileSource) (p : Place) (is : IsFileSource h s) (at : s.cursor.place ≡ Some p) {j : IntervalValue} {keeps : Bool} {done n : ℕ} {d : Cursor} {old new : List (List ℕ)} (same : j ≡ in_window h s) (taken_j : TakesWhole h j p keeps done n s.cursor d old new) where
  abbrev taken : TakesWhole h (in_window h s) p keeps done n s.cursor d old new
  taken = subst (λ (x : IntervalValue). TakesWhole h x p keeps done n s.cursor d old new) same taken_j

  inside : p.bit ≤ 8 * (s.window.found - s.window.from)
  inside = (let here : IsInside s.window (Some p) = subst (IsInside s.window) at is.inside in here).0

  to : taken.to.bit ≤ 8 * (s.window.found - s.window.from)
  to = omega (arith, taken.can.0, window_long s.window is.window)

  steps : Steps h (source_of s) (source_of (record s { cursor = record { number = s.cursor.number; mcu = s.cursor.mcu + n; place = Some taken.to } })) n
  steps = record {
    at = record { window = is.window; inside = (to, taken.can.1); is_in = record { number = is.is_in.number; few = taken.few }; over = λ ended. absurd (let wrong : Some p ≡ None = sym at ∙ is.over ended in cc) };
    part = refl;
    right = λ whole t may. (may.0, record { from = may.1.from; means = passes_true h s p is at inside taken.valid n taken.to taken.few taken.blocks taken.run to taken.can.1 whole t may.0 may.1 });
    passed = omega arith;
  }

  shows : ShowsMore h (source_of s) keeps done n old new
  shows =
      extends_shows h (source_of s) keeps n done (unit_of h taken.blocks) old new taken.units is.is_in.number taken.few taken.adds (λ whole t may.
      let e = may.0.head in
      let r = run_there h s p is at inside taken.valid n taken.to taken.blocks taken.run to whole t may.0 may.1 in (
        e,
        count_is whole t may.0.scan ∙ ap intervals_of e,
        whole_units h (interval_of t s.cursor.number) s.cursor.mcu n r.1 taken.blocks (after r.0 p) (after r.0 taken.to) taken.valid e r.2 r.3 (subst (λ (g : HeadValue). s.cursor.mcu + n ≤ mcus_in g s.cursor.number) (sym e) taken.few),
      ))

  pub walks_near : Walks h (source_of s) (source_of (record s { cursor = d })) keeps done n old new
  walks_near = subst (λ (k : Cursor). Walks h (source_of s) (source_of (record s { cursor = k })) keeps done n old new) (sym taken.cursor) (record { steps = steps; shows = shows; few = taken.across })

-- grey ones
pub grey_shows : {P : Type 0} (h : HeadValue) (s : SourceValue P) (keeps : Bool) (n done : ℕ) (old new : List (List ℕ)) → 0 < blocks_of h → HasNoneLeft h s → s.cursor.mcu + n ≤ mcus_in h s.cursor.number → (IsTrue keeps → ExtendsRow h done n (λ _. grey_unit) old new) → ShowsMore h s keeps done n old new
grey_shows h s keeps n done old new some none few adds =
    extends_shows h s keeps n done (λ _. grey_unit) old new some none.number few adds (λ whole t may.
    let it = none.none whole t may in
    let i = interval_of t s.cursor.number in
    let m = it.2 in (
      it.0,
      it.1,
      subst (λ (g : HeadValue). CodesBy g i s.cursor.mcu n (λ _. grey_unit)) it.0
          (λ o same out k lt. grey_codes i m.front s.cursor.mcu m.blocks m.few m.longest o same out k ∙ ap (λ (per : ℕ). unit_in_piece o (s.cursor.mcu * per + k)) (per_of t.head)),
    ))
