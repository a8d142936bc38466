-- The position at which a row of MCUs begins in its interval.
use Rattle.std.proofs.Common.{◌≡◌, ℕ, ◌+◌, ◌*◌, ◌/◌, ◌%◌, ◌<◌, Bool, true, cond, inl, inr, ap, arith}
use Rattle.std.specs.Int.{div_ceil}
use Rattle.std.proofs.Math.Dec.{leb}
use Rattle.std.proofs.lemmas.Bool.Decides.{eqb_tells}
use Rattle.std.proofs.lemmas.Nat.{div-add-mod'}
use Rattle.jr_head.specs.HeadValue.{HeadValue}
use Rattle.jr_head.specs.Geometry.{mcus_across, mcus_down, mcus_of}
use Rattle.jr_paint.proofs.Places.{in_div_ceil}
use Rattle.jr_scan.specs.ScanValue.{intervals_of}
use Rattle.jr_picture.specs.Headline.{interval_number, within_interval}
use Rattle.jr_rows.specs.Rows.{coded_before, mcus_before}
use Rattle.jr_rows.proofs.PictureRows.{row_inside}
use Rattle.jr_rows.proofs.WholeRows.{across_some}

-- an MCU of the image is in one of its intervals
pub mcu_there : (h : HeadValue) (m : ℕ) → m < mcus_of h → (interval_number h m < intervals_of h) × (interval_number h m * h.restart + within_interval h m ≡ m)
mcu_there h m lt = elim (eqb_tells h.restart 0) [
  | inl t ↦
      let number : interval_number h m ≡ 0 = ap (λ (b : Bool). cond b 0 (m / h.restart)) t.0 in
      let within : within_interval h m ≡ m = ap (λ (b : Bool). cond b m (m % h.restart)) t.0 in
      let count : intervals_of h ≡ 1 = ap (λ (b : Bool). cond b 1 (div_ceil (mcus_of h) h.restart)) t.0 in
      let none : interval_number h m * h.restart ≡ interval_number h m * 0 = ap (λ (k : ℕ). interval_number h m * k) t.1 in
      (omega (arith, number, count), omega (arith, none, within))
  | inr f ↦
      let number : interval_number h m ≡ m / h.restart = ap (λ (b : Bool). cond b 0 (m / h.restart)) f.0 in
      let within : within_interval h m ≡ m % h.restart = ap (λ (b : Bool). cond b m (m % h.restart)) f.0 in
      let some : 0 < h.restart = omega (arith, f.1) in
      let whole = div-add-mod' m h.restart in
      let times : interval_number h m * h.restart ≡ m / h.restart * h.restart = ap (λ (k : ℕ). k * h.restart) number in
      let there = in_div_ceil (m / h.restart) (mcus_of h) h.restart some (omega (arith, whole, lt)) in
      let count : intervals_of h ≡ div_ceil (mcus_of h) h.restart = ap (λ (b : Bool). cond b 1 (div_ceil (mcus_of h) h.restart)) f.0 in
      (omega (arith, number, count, there), omega (arith, times, within, whole))
]

-- all intervals have all MCUs
pub all_mcus : (h : HeadValue) → mcus_before h (intervals_of h) ≡ mcus_of h
all_mcus h = ap (λ (b : Bool). cond b (mcus_of h) (intervals_of h * h.restart)) (le_same (intervals_of h))
  where
    le_same : (n : ℕ) → leb n n ≡ true
    le_same n = search arith

-- the first MCU of a row of MCUs
module _ (h : HeadValue) (row : ℕ) (some : 0 < mcus_of h) (below : row < mcus_down h) where
  pub row_starts : row * mcus_across h < mcus_of h
  row_starts = omega (arith, row_inside h row below, across_some h some)

  pub all_before : coded_before h (intervals_of h) row ≡ row * mcus_across h
  all_before = omega (arith, row_starts, all_mcus h)
