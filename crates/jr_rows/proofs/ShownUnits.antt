-- What a row of MCUs shows if its first ones are decoded and the others blank.
use Rattle.std.proofs.Common.{◌≡◌, ℕ, ◌+◌, ◌*◌, ◌/◌, ◌%◌, ◌<◌, ◌≤◌, inl, inr, None, List, [], length, replicate, slice_index_or, sym, ap, subst, ◌∙◌, arith}
use Rattle.std.proofs.lemmas.Bool.{cases_lt}
use Rattle.std.proofs.Math.Nat.{add-mul, mod-eq_of_lt, mul-le-mul_right, div-lt_iff_lt-mul}
use Rattle.jr_head.specs.HeadValue.{HeadValue}
use Rattle.jr_head.specs.Geometry.{order_of, blocks_of, mcus_across, mcus_down, mcus_of}
use Rattle.jr_head.proofs.SamplingLaws.{length-order}
use Rattle.jr_scan.specs.ScanValue.{ScanValue}
use Rattle.jr_picture.specs.DecodedScan.{DecodedScan, piece_at}
use Rattle.jr_picture.specs.Headline.{blank_of, interval_number, within_interval}
use Rattle.jr_rows.specs.Bands.{ShowsMcus, unit_shown, unit_shown_of}
use Rattle.jr_rows.specs.Rows.{DecodesFirst, ShowsFirstUnits, coded_before, coded_in, mcus_before}
use Rattle.jr_rows.proofs.IntervalPlaces.{after_first}
use Rattle.jr_rows.proofs.PictureRows.{row_inside}
use Rattle.jr_rows.proofs.ReadRows.{none_there}

-- a data unit of a blank MCU
pub black : (h : HeadValue) (j : ℕ) → j < blocks_of h → replicate 64 (blank_of h.kind (slice_index_or (order_of h) j 0)) ≡ unit_shown_of h j None 0
black h j lt =
    let few : j < length (order_of h) = omega (arith, lt, length-order 0 h.components) in
    ap (λ n. replicate 64 (blank_of h.kind (slice_index_or (order_of h) n 0))) (sym (mod-eq_of_lt few))

-- a row of MCUs of a scan, of which the first n intervals are decoded
module _ (scan : ScanValue) (n row : ℕ) (below : row < mcus_down scan.head) (some : 0 < blocks_of scan.head) where
  abbrev h : HeadValue
  h = scan.head

  abbrev per : ℕ
  per = blocks_of h

  -- its decoded MCUs are its first ones
  first_ones : 0 < coded_in h n row → coded_before h n row ≡ row * mcus_across h
  first_ones positive = omega (arith, positive, add-mul row 1 (mcus_across h))

  -- the others are after all decoded ones
  after : (j : ℕ) → coded_in h n row ≤ j → j < mcus_across h → mcus_before h n ≤ row * mcus_across h + j
  after j le lt = omega (arith, le, lt, add-mul row 1 (mcus_across h))

  module _ (units : List (List ℕ)) (long : length units ≡ mcus_across h * per)
      (decoded : ShowsFirstUnits scan n (coded_before h n row) (coded_in h n row) units)
      (blank : (k : ℕ) → coded_in h n row * per ≤ k → k < length units → slice_index_or units k [] ≡ unit_shown_of h (k % per) None 0) where
    each : (b : DecodedScan) → DecodesFirst scan n b → (k : ℕ) → k < length units → slice_index_or units k [] ≡ unit_shown b (row * mcus_across h + k / per) (k % per)
    each b first k lt = elim (cases_lt k (coded_in h n row * per)) [
      | inl l ↦
          let positive : 0 < coded_in h n row = elim (cases_lt 0 (coded_in h n row)) [
            | inl p ↦ p
            | inr z ↦ let none : coded_in h n row * per ≤ 0 * per = mul-le-mul_right per z in absurd (omega (arith, none, l))
          ] in
          decoded b first k l ∙ ap (λ m. unit_shown b (m + k / per) (k % per)) (first_ones positive)
      | inr g ↦
          let j = k / per in
          let near : j < mcus_across h = (div-lt_iff_lt-mul some).1 (omega (arith, lt, long)) in
          let far : coded_in h n row ≤ j = elim (cases_lt j (coded_in h n row)) [
            | inl l ↦ absurd (omega (arith, g, (div-lt_iff_lt-mul some).0 l))
            | inr le ↦ le
          ] in
          let mcu : row * mcus_across h + j < mcus_of h = omega (arith, near, row_inside h row below) in
          let none = none_there scan n b first (interval_number h (row * mcus_across h + j)) (after_first h n (row * mcus_across h + j) mcu (after j far near)) in
          blank k g lt ∙ ap (λ q. unit_shown_of h (k % per) q (within_interval h (row * mcus_across h + j) * per + k % per)) (sym none)
          ∙ ap (λ (t : ScanValue). unit_shown_of t.head (k % per) (piece_at b (interval_number t.head (row * mcus_across h + j))) (within_interval t.head (row * mcus_across h + j) * blocks_of t.head + k % per)) (sym first.scan_is)
    ]

    -- so the row's data units are those of the decoded scan
    pub row_shown : (b : DecodedScan) → DecodesFirst scan n b → ShowsMcus b (row * mcus_across h) units
    row_shown b first =
        subst (λ (t : ScanValue). (k : ℕ) → k < length units → slice_index_or units k [] ≡ unit_shown b (row * mcus_across h + k / blocks_of t.head) (k % blocks_of t.head)) (sym first.scan_is) (each b first)
