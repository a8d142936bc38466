-- The number of rows of MCUs that the bytes so far make final, by the position of the reading in the scan.
use Rattle.std.proofs.Common.{◌≡◌, ◌≢◌, ℕ, ◌+◌, ◌-◌, ◌*◌, ◌/◌, ◌<◌, ◌≤◌, ◌⊎◌, min, inl, inr, List, Option, Some, None, refl, sym, ap, subst, ◌∙◌, arith}
use Rattle.std.proofs.lemmas.Bool.{cases_lt}
use Rattle.std.proofs.lemmas.Nat.{div-mul-add}
use Rattle.std.proofs.Math.Nat.{add-mul, div-mul-le_self, mul-le-mul_right}
use Rattle.std.proofs.lemmas.Nat.{le-div}
use Rattle.jr_head.specs.HeadValue.{HeadValue}
use Rattle.jr_head.specs.Geometry.{IsValid, mcus_across, mcus_down, mcus_of, vertical_max}
use Rattle.jr_head.specs.Intervals.{first_mcu_of}
use Rattle.jr_paint.specs.Lines.{line_size}
use Rattle.jr_paint.proofs.Places.{below_div_ceil, in_div_ceil}
use Rattle.jr_cut.specs.declared.scan_end.ScanEnd.{ScanEnd}
use Rattle.jr_cut.specs.declared.scan_end.ScanEnd.TheVariants.{EndOfFile, EndOfImage, OtherMarker, OutOfStep, ExtraRestart}
use Rattle.jr_scan.specs.declared.place.Place.{Place}
use Rattle.jr_scan.specs.PartialScan.{PartialScanValue, HasCome}
use Rattle.jr_scan.specs.ScanValue.{ScanValue, interval_of, intervals_of, mcus_in}
use Rattle.jr_scan.proofs.McuReaders.{front_of_run}
use Rattle.jr_rows.specs.Rows.{first_line}
use Rattle.jr_rows.proofs.PictureRows.{row_inside}
use Rattle.jr_arrival.specs.PartialRows.{PartialRowValue, HasNoMore, IsPartialRow, ReadsTo}
use Rattle.jr_arrival.specs.LongerFile.{IsOver}
use Rattle.jr_arrival.specs.Settled.{ReturnsSettled, HasRows}
use Rattle.jr_arrival.proofs.Knowing.{IsLimit, front_few, limit_of, never_few, not_known}
use Rattle.jr_arrival.proofs.SettledRows.{before_later, has_rows}

-- ---- no MCU is read past the final ones of the interval that has begun last

-- which is not over
is_open : (part : PartialScanValue) (i : ℕ) → part.scan.ended ≡ EndOfFile → i + 1 ≡ part.segments → IsOver part.scan part.segments i → ⊥
is_open part i end last (inl n) = n end
is_open part i end last (inr lt) = absurd (omega (arith, lt, last))

read_few : (part : PartialScanValue) (number mcu limit : ℕ) (place : Option Place) → (IsOver part.scan part.segments number → ⊥) → mcu ≤ mcus_in part.scan.head number → ReadsTo part number mcu place → IsLimit (interval_of part.scan number) limit → mcu ≤ limit
read_few part number mcu limit (Some p) going few r l = front_few (interval_of part.scan number) limit mcu r.0 l (front_of_run (interval_of part.scan number) mcu r.0 p r.1.run few)
read_few part number mcu limit None going few r l = elim r.4.final [
  | inl over ↦ absurd (going over)
  | inr long ↦ never_few (interval_of part.scan number) limit mcu l few r.0 r.1 r.4.longest long
]

module _ (part : PartialScanValue) (v : PartialRowValue) (i limit : ℕ) (c : IsPartialRow part v) (end : part.scan.ended ≡ EndOfFile) (last : i + 1 ≡ part.segments) (far : IsLimit (interval_of part.scan i) limit) where
  abbrev h : HeadValue
  h = part.scan.head

  not_later : v.cursor.number ≤ i
  not_later = elim (cases_lt i v.cursor.number) [ inl l ↦ absurd (is_open part i end last (c.reading.begun i l)) | inr k ↦ k ]

  reaches : i < intervals_of h → v.cursor.number * h.restart + v.cursor.mcu ≤ first_mcu_of h i + limit
  reaches few = elim (cases_lt v.cursor.number i) [
    | inl l ↦ let le = before_later h v.cursor.number i v.cursor.mcu l few c.reading.few in omega (arith, le)
    | inr g ↦
        let same : i ≡ v.cursor.number = omega (arith, g, not_later) in
        let there : IsLimit (interval_of part.scan v.cursor.number) limit = subst (λ (n : ℕ). IsLimit (interval_of part.scan n) limit) same far in
        let le = read_few part v.cursor.number v.cursor.mcu limit v.cursor.place (is_open part v.cursor.number end (omega (arith, same, last))) c.reading.few c.reading.reads there in
        omega (arith, le, ap (λ (n : ℕ). n * h.restart) same)
  ]

  -- if no further MCU is final, all that are have been read
  all_read_there : HasNoMore part v.cursor → v.cursor.number * h.restart + v.cursor.mcu ≡ first_mcu_of h i + limit
  all_read_there none =
      let same : i ≡ v.cursor.number = elim (cases_lt v.cursor.number i) [ inl l ↦ absurd (none.going (inr (omega (arith, l, last)))) | inr k ↦ omega (arith, k, not_later) ] in
      let there : IsLimit (interval_of part.scan v.cursor.number) limit = subst (λ (n : ℕ). IsLimit (interval_of part.scan n) limit) same far in
      let few = read_few part v.cursor.number v.cursor.mcu limit v.cursor.place none.going c.reading.few c.reading.reads there in
      let most : limit ≤ v.cursor.mcu = elim none.next [
        | inl all ↦ omega (arith, all, there.few)
        | inr grows ↦ elim (cases_lt v.cursor.mcu limit) [ inl l ↦ absurd (not_known (interval_of part.scan v.cursor.number) v.cursor.mcu grows (there.before v.cursor.mcu l)) | inr g ↦ g ]
      ] in
      omega (arith, few, most, ap (λ (n : ℕ). n * h.restart) same)

-- ---- the lines that a look returns

ended_or_not : (e : ScanEnd) → (e ≡ EndOfFile) ⊎ (e ≢ EndOfFile)
ended_or_not EndOfFile = inl refl
ended_or_not EndOfImage = inr (λ e. absurd cc)
ended_or_not (OtherMarker code at) = inr (λ e. absurd cc)
ended_or_not (OutOfStep found expected at) = inr (λ e. absurd cc)
ended_or_not (ExtraRestart at) = inr (λ e. absurd cc)

-- a look has returned lines up to those of a row, all that fit or all that are there
pub record HasLooked (part : PartialScanValue) (v : PartialRowValue) (first n most : ℕ) : Type 0 where
  pub lines : v.lines ≡ first + n
  pub few : n ≤ min most (part.scan.head.height - first)
  pub all : n < min most (part.scan.head.height - first) → HasNoMore part v.cursor × (v.done < mcus_across part.scan.head)

module _ (part : PartialScanValue) (v : PartialRowValue) (valid : IsValid part.scan.head) (c : IsPartialRow part v) (first n most : ℕ) (looked : HasLooked part v first n most) where
  abbrev s : ScanValue
  s = part.scan

  abbrev deep : ℕ
  deep = 8 * vertical_max s.head

  positive : 0 < deep
  positive = let some = valid.components.down in omega (arith, some)

  row_high : first_line s.head v.row < s.head.height
  row_high = below_div_ceil v.row s.head.height deep positive c.lies.row

  -- at most the lines of the rows before the position are returned
  lines_few : (rows : ℕ) → (v.row * mcus_across s.head + v.done) / mcus_across s.head ≤ rows → 0 < mcus_across s.head → v.lines ≤ min s.head.height (rows * deep)
  lines_few rows le some = elim (cases_lt v.done (mcus_across s.head)) [
    | inl l ↦
        let row : v.row ≤ rows = omega (arith, le, div-mul-add v.row (mcus_across s.head) v.done l) in
        let high : v.row * deep ≤ rows * deep = mul-le-mul_right {m = v.row} {n = rows} deep row in
        omega (arith, high, c.given.none l, row_high)
    | inr g ↦
        let whole : v.row * mcus_across s.head + v.done ≡ (v.row + 1) * mcus_across s.head + 0 = omega (arith, g, c.lies.within, add-mul v.row 1 (mcus_across s.head)) in
        let count : (v.row * mcus_across s.head + v.done) / mcus_across s.head ≡ v.row + 1 = ap (λ (k : ℕ). k / mcus_across s.head) whole ∙ div-mul-add (v.row + 1) (mcus_across s.head) 0 some in
        let high : (v.row + 1) * deep ≤ rows * deep = mul-le-mul_right {m = v.row + 1} {n = rows} deep (omega (arith, count, le)) in
        omega (arith, high, c.given.to, row_high, add-mul v.row 1 deep)
  ]

  count_is : (lines : ℕ) → lines ≤ s.head.height → v.lines ≤ lines → (n < min most (s.head.height - first) → v.lines ≡ lines) → n ≡ min (lines - first) most
  count_is lines le few all = elim (cases_lt n (min most (s.head.height - first))) [
    | inl l ↦ let same = all l in omega (arith, l, same, looked.lines)
    | inr g ↦ omega (arith, g, looked.few, looked.lines, le, few)
  ]

  -- if these are the lines of final rows
  returned : (bytes : List ℕ) (rows space : ℕ) → most ≡ space / line_size s.head → HasRows bytes s rows → v.lines ≤ min s.head.height (rows * deep) → (n < min most (s.head.height - first) → v.lines ≡ min s.head.height (rows * deep)) → ReturnsSettled bytes s first n space
  returned bytes rows space is has few all = record {
    rows = rows;
    has = has;
    count = count_is (min s.head.height (rows * deep)) (omega arith) few all ∙ ap (λ (k : ℕ). min (min s.head.height (rows * deep) - first) k) is;
  }

  module _ (bytes : List ℕ) (come : HasCome part bytes) (space : ℕ) (some : 0 < mcus_across s.head) (is : most ≡ space / line_size s.head) where
    settled_partial : (i limit : ℕ) → s.ended ≡ EndOfFile → i + 1 ≡ part.segments → i < intervals_of s.head → IsLimit (interval_of s i) limit → ReturnsSettled bytes s first n space
    settled_partial i limit end last inside far =
        let across = mcus_across s.head in
        let place = v.row * across + v.done in
        let all = first_mcu_of s.head i + limit in
        let rows = all / across in
        let mcus : 0 < mcus_of s.head = omega (arith, some, row_inside s.head v.row c.lies.row) in
        let has = has_rows bytes s come.scan i end (omega (arith, last, come.segments)) inside limit far valid some mcus in
        let le = reaches part v i limit c end last far inside in
        let few = lines_few rows (le-div (place / across) all across some (omega (arith, le, c.lies.at, div-mul-le_self place across))) some in
        returned bytes rows space is has few
        (λ lt.
        let none = looked.all lt in
        let at : all ≡ place = sym (all_read_there part v i limit c end last far none.0) ∙ c.lies.at in
        let row : rows ≡ v.row = ap (λ (k : ℕ). k / across) at ∙ div-mul-add v.row across v.done none.1 in
        omega (arith, c.given.none none.1, row_high, ap (λ (k : ℕ). k * deep) row))

    settled_ended : s.ended ≢ EndOfFile → ReturnsSettled bytes s first n space
    settled_ended ended =
        let down : s.head.height ≤ mcus_down s.head * deep = elim (cases_lt (mcus_down s.head * deep) s.head.height) [
          | inl l ↦ absurd (omega (arith, in_div_ceil (mcus_down s.head) s.head.height deep positive l))
          | inr g ↦ g
        ] in
        let has : HasRows bytes s (mcus_down s.head) = record { few = omega arith; settled = λ row lt m from to. inl (come.scan, inl ended); next = λ lt. absurd (omega (arith, lt)) } in
        returned bytes (mcus_down s.head) space is has (omega (arith, down, c.given.to, row_high)) (λ lt. absurd ((looked.all lt).0.going (inl ended)))

    pub returns_settled : (i : ℕ) → i + 1 ≡ part.segments → i < intervals_of s.head → ReturnsSettled bytes s first n space
    returns_settled i last inside = elim (ended_or_not s.ended) [
      | inl end ↦ let far = limit_of (interval_of s i) in settled_partial i far.0 end last inside far.1
      | inr ended ↦ settled_ended ended
    ]
