-- Rows of MCUs and lines of pixels, in numbers.
use Rattle.std.proofs.Common.{◌≡◌, ℕ, ◌+◌, ◌*◌, ◌≤◌, ◌<◌, min, arith, Result, Ok, Err, OnOk}
use Rattle.std.proofs.Math.Nat.{add-mul, mul_comm, mul-le-mul_right}
use Rattle.std.proofs.lemmas.Grind.{div_ceil_times}
use Rattle.jr_head.specs.HeadValue.{HeadValue}
use Rattle.jr_head.specs.Geometry.{IsValid, mcus_across, mcus_down, mcus_of, vertical_max}

-- no line is before the first row
pub no_lines : (h : HeadValue) → min (0 * (8 * vertical_max h)) h.height ≡ 0
no_lines h = omega arith

-- the rows of MCUs have all lines
pub all_lines : (h : HeadValue) → IsValid h → min (mcus_down h * (8 * vertical_max h)) h.height ≡ h.height
all_lines h l =
    let some : 0 < 8 * vertical_max h = omega (arith, l.components.down) in
    omega (arith, (div_ceil_times h.height (8 * vertical_max h) some).0)

-- a row of MCUs is one of the image's
pub row_inside : (h : HeadValue) (row : ℕ) → row < mcus_down h → row * mcus_across h + mcus_across h ≤ mcus_of h
row_inside h row lt =
    let few : (row + 1) * mcus_across h ≤ mcus_down h * mcus_across h = mul-le-mul_right (mcus_across h) (omega (arith, lt)) in
    omega (arith, few, add-mul row 1 (mcus_across h), mul_comm (mcus_down h) (mcus_across h))

-- all rows have all MCUs
pub all_rows : (h : HeadValue) → mcus_down h * mcus_across h ≡ mcus_of h
all_rows h = mul_comm (mcus_down h) (mcus_across h)

pub on_ok : {T E : Type 0} (r : Result T E) (P : Type 0) → P → OnOk r P
on_ok (Ok v) P p = p
on_ok (Err e) P p = tt

pub from_ok : {T E : Type 0} (r : Result T E) (v : T) (P : Type 0) → r ≡ Ok v → OnOk r P → P
from_ok r v P e p = rw e at p
