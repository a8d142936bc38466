-- The data units of an MCU among those of all.
use Rattle.std.proofs.Common.{◌≡◌, ℕ, inl, inr, ◌+◌, ◌*◌, ◌<◌, ◌≤◌, Bool, true, false, List, length, get_or, set, sym, ap, ◌∙◌, arith}
use Rattle.std.proofs.lemmas.List.{get_or-set_other, get_or-set_same}
use Rattle.std.proofs.Math.Nat.{add-mul, mul-le-mul_right}
use Rattle.jr_head.specs.Geometry.{blocks_of}
use Rattle.jr_scan.specs.ScanValue.{ScanValue}
use Rattle.jr_piece.specs.Units.{grey_unit}
use Rattle.jr_view.specs.ViewValue.{ViewValue}
use Rattle.jr_view.specs.Views.{AddsMcu}

-- an MCU whose data units are written, and which counts as seen, shows them, and no other MCU is changed
pub mcu_shown : (old new : ViewValue) (m from per : ℕ) (units us : List (List ℕ)) → per ≡ blocks_of old.scan.head → new.scan ≡ old.scan → new.units ≡ us → new.seen ≡ set old.seen m true → m < length old.seen
    → ((k : ℕ) → k < per → get_or us (m * per + k) grey_unit ≡ get_or units (from + k) grey_unit)
    → ((k : ℕ) → k < m * per → get_or us k grey_unit ≡ get_or old.units k grey_unit)
    → ((k : ℕ) → m * per + per ≤ k → get_or us k grey_unit ≡ get_or old.units k grey_unit) → AddsMcu old m units from new
mcu_shown old new m from per units us blocks scan written marked lt here before after =
    let n = blocks_of old.scan.head in
    let same : blocks_of new.scan.head ≡ n = ap (λ (s : ScanValue). blocks_of s.head) scan in
    let start : m * per ≡ m * n = ap (λ j. m * j) blocks in
    let one : (m + 1) * n ≡ m * n + 1 * n = add-mul m 1 n in
    let at = λ (mcu i : ℕ). ap (λ j. get_or new.units (mcu * j + i) grey_unit) same ∙ ap (λ (vs : List (List ℕ)). get_or vs (mcu * n + i) grey_unit) written in
    record {
      scan = scan;
      seen = ap (λ (bs : List Bool). get_or bs m false) marked ∙ get_or-set_same old.seen m true false lt;
      shown = λ i few. at m i ∙ ap (λ j. get_or us (j + i) grey_unit) (sym start) ∙ here i (omega (arith, few, same, blocks));
      others = λ mcu o. record {
        seen = sym (ap (λ (bs : List Bool). get_or bs mcu false) marked ∙ get_or-set_other old.seen m mcu true false (elim o [ inl below ↦ λ e. omega arith | inr above ↦ λ e. omega arith ]));
        units = λ i few. sym (at mcu i ∙ elim o [
          | inl below ↦
              let next : (mcu + 1) * n ≤ m * n = mul-le-mul_right n (omega (arith, below)) in
              let more : (mcu + 1) * n ≡ mcu * n + 1 * n = add-mul mcu 1 n in
              before (mcu * n + i) (omega (arith, few, next, more, start))
          | inr above ↦
              let next : (m + 1) * n ≤ mcu * n = mul-le-mul_right n (omega (arith, above)) in
              after (mcu * n + i) (omega (arith, next, one, start, blocks))
        ]);
      };
    }

-- the data units of each MCU fit
pub space : (m per n mcus len : ℕ) → per ≡ n → m < mcus → len ≡ mcus * n → m * per + per ≤ len
space m per n mcus len e lt all =
    let one : (m + 1) * n ≡ m * n + 1 * n = add-mul m 1 n in
    let within : (m + 1) * n ≤ mcus * n = mul-le-mul_right n (omega (arith, lt)) in
    let start : m * per ≡ m * n = ap (λ j. m * j) e in
    omega (arith, one, within, start, all, e)
