-- Rows of MCUs, and the lines that they cover.
use Rattle.std.proofs.Common.{◌≡◌, ℕ, suc, ◌+◌, ◌-◌, ◌*◌, ◌/◌, ◌<◌, ◌≤◌, min, refl, ap, inl, inr, arith}
use Rattle.std.specs.Int.{div_ceil}
use Rattle.std.proofs.Math.Nat.{div-mul-le_self, lt-div-mul-add, div-lt_iff_lt-mul, le-div_iff_mul-le, mul-div_left, mul-le-mul_right}
use Rattle.std.proofs.lemmas.Bool.{cases_lt}
use Rattle.std.proofs.lemmas.Grind.{div_ceil_times}
use Rattle.jr_head.specs.HeadValue.{HeadValue}
use Rattle.jr_head.specs.Geometry.{vertical_max, mcus_across, mcus_down, mcus_of}
use Rattle.jr_scan.specs.ScanValue.{mcus_in}
use Rattle.jr_damage.specs.declared.lines.Lines.{Lines}
use Rattle.jr_damage.specs.Lines.{first_mcu_of, AreRows, AreLinesOf}

-- a greater number has no lesser quotient
div_le : (a b n : ℕ) → 0 < n → a ≤ b → a / n ≤ b / n
div_le a b n some le = (le-div_iff_mul-le {k = n} {x = a / n} {y = b} some).1 (omega (arith, div-mul-le_self a n, le))

-- the last row begins within the image
pub row_begins : (across high height first count : ℕ) → AreRows across high height first count → (first + count - 1) / across * high < height
row_begins across high height first count r =
    let row = (first + count - 1) / across in
    let few : row < div_ceil height high = (div-lt_iff_lt-mul {k = across} {x = first + count - 1} {y = div_ceil height high} r.across_some).1 (omega (arith, r.within, r.count_some)) in
    let more : suc row * high ≤ div_ceil height high * high = mul-le-mul_right high few in
    let e : suc row * high ≡ row * high + high = omega arith in
    omega (arith, more, e, (div_ceil_times height high r.high_some).1)

pub row_order : (across high height first count : ℕ) → AreRows across high height first count → first / across * high ≤ (first + count - 1) / across * high
row_order across high height first count r = mul-le-mul_right high (div_le first (first + count - 1) across r.across_some (omega (arith, r.count_some)))

-- a line of an MCU is within the lines of the rows
pub line_within : (across high height first count mcu line : ℕ) → AreRows across high height first count → first ≤ mcu → mcu < first + count → mcu / across ≡ line / high
    → (first / across * high ≤ line) × (line < ((first + count - 1) / across + 1) * high)
line_within across high height first count mcu line r from before row =
    let row_last = (first + count - 1) / across in
    let low : first / across * high ≤ mcu / across * high = mul-le-mul_right high (div_le first mcu across r.across_some from) in
    let up : mcu / across * high ≤ row_last * high = mul-le-mul_right high (div_le mcu (first + count - 1) across r.across_some (omega (arith, before))) in
    let same : mcu / across * high ≡ line / high * high = ap (λ (k : ℕ). k * high) row in
    let e : (row_last + 1) * high ≡ row_last * high + high = omega arith in
    (omega (arith, low, same, div-mul-le_self line high), omega (arith, up, same, e, lt-div-mul-add {a = line} {b = high} r.high_some))

-- each of those lines has an MCU
pub record Found (across high first count line : ℕ) : Type 0 where
  pub mcu : ℕ
  pub from : first ≤ mcu
  pub before : mcu < first + count
  pub row : mcu / across ≡ line / high

pub line_found : (across high height first count line : ℕ) → AreRows across high height first count → first / across * high ≤ line → line < ((first + count - 1) / across + 1) * high → Found across high first count line
line_found across high height first count line r low up =
    let q = line / high in
    let row_last = (first + count - 1) / across in
    let above : first / across ≤ q = (le-div_iff_mul-le {k = high} {x = first / across} {y = line} r.high_some).1 low in
    let below : q < row_last + 1 = (div-lt_iff_lt-mul {k = high} {x = line} {y = row_last + 1} r.high_some).1 up in
    let most : q * across ≤ row_last * across = mul-le-mul_right across (omega (arith, below)) in
    let last : row_last * across ≤ first + count - 1 = div-mul-le_self (first + count - 1) across in
    elim (cases_lt (q * across) first) [
      | inr h ↦ record { mcu = q * across; from = h; before = omega (arith, most, last, r.count_some); row = mul-div_left q r.across_some }
      | inl h ↦
          let back : q ≤ first / across = (le-div_iff_mul-le {k = across} {x = q} {y = first} r.across_some).1 (omega (arith, h)) in
          record { mcu = first; from = omega arith; before = omega (arith, r.count_some); row = omega (arith, above, back) }
    ]

-- the rows of an image with this header
pub rows_of : (h : HeadValue) (across high height first count : ℕ) → across ≡ mcus_across h → 0 < across → high ≡ vertical_max h → 0 < high → height ≡ h.height → 0 < count → first + count ≤ mcus_of h → AreRows across (8 * high) height first count
rows_of h across high height first count ea some_across eh some_high ey some within =
    let all : mcus_across h * mcus_down h ≡ across * div_ceil height (8 * high) = rw (ea, eh, ey) refl in
    record {
      across_some = some_across;
      high_some = omega (arith, some_high);
      count_some = some;
      within = omega (arith, within, all);
    }

-- the lines of an interval's MCUs
pub lines_are : (h : HeadValue) (i first count across high height : ℕ) (l : Lines) → first ≡ first_mcu_of h i → count ≡ mcus_in h i → across ≡ mcus_across h → high ≡ 8 * vertical_max h → height ≡ h.height
    → AreRows across high height first count → l.first ≡ first / across * high → l.last + 1 ≡ min (((first + count - 1) / across + 1) * high) height → AreLinesOf h i l
lines_are h i first count across high height l ef ec ea eh ey r start en =
    let begins = row_begins across high height first count r in
    let e : ((first + count - 1) / across + 1) * high ≡ (first + count - 1) / across * high + high = omega arith in
    record {
      within = λ line t.
          let row : t.mcu / across ≡ line / high = rw (ea, eh) t.covers.row in
          let w = line_within across high height first count t.mcu line r (omega (arith, t.from, ef)) (omega (arith, t.before, ef, ec)) row in
          (omega (arith, w.0, start), omega (arith, w.1, t.covers.within, en, ey));
      touched = λ line w.
          let f = line_found across high height first count line r (omega (arith, w.0, start)) (omega (arith, w.1, en, e, begins, r.high_some)) in
          let row : f.mcu / mcus_across h ≡ line / (8 * vertical_max h) = rw (← ea, ← eh) f.row in
          record { mcu = f.mcu; from = omega (arith, f.from, ef); before = omega (arith, f.before, ef, ec); covers = record { row = row; within = omega (arith, w.1, en, e, begins, r.high_some, ey) } };
      some = omega (arith, row_order across high height first count r, begins, en, e, start, r.high_some);
    }
