-- The first damaged interval of a scan.
use Rattle.std.proofs.Common.{arith, subst, ◌≡◌, ℕ, ◌+◌, ◌<◌, inl, inr, length}
use Rattle.std.proofs.lemmas.Bool.{cases_lt}
use Rattle.jr_scan.specs.Mcus.{HasDecoding, HasNoDecoding}
use Rattle.jr_scan.specs.ScanValue.{ScanValue, interval_of}
use Rattle.jr_damage.specs.declared.lines.Lines.{Lines}
use Rattle.jr_damage.specs.Lines.{AreLinesOf}
use Rattle.jr_damage.specs.Verdicts.{DamageTouches, IsHull}

-- none of the first n intervals is damaged
abbrev pub NoneDamaged : ScanValue → ℕ → Type 0
NoneDamaged s n = (i : ℕ) → i < n → HasNoDecoding (interval_of s i) → ⊥

pub none_more : (s : ScanValue) (n : ℕ) → NoneDamaged s n → (HasNoDecoding (interval_of s n) → ⊥) → NoneDamaged s (n + 1)
none_more s n before here i lt damaged = elim (cases_lt i n) [
  | inl less ↦ before i less damaged
  | inr last ↦ (let same : i ≡ n = omega (arith, last, lt) in here (subst (λ (k : ℕ). HasNoDecoding (interval_of s k)) same damaged))
]

pub sound_is_undamaged : (s : ScanValue) (n : ℕ) → HasDecoding (interval_of s n) → HasNoDecoding (interval_of s n) → ⊥
sound_is_undamaged s n decoding damaged = damaged decoding.0 decoding.1

-- an interval above the lines that damage touches is not damaged
pub above_is_undamaged : (s : ScanValue) (n : ℕ) (l touched : Lines) → n < length s.intervals → AreLinesOf s.head n l → IsHull s (length s.intervals) touched → l.last < touched.first → HasNoDecoding (interval_of s n) → ⊥
above_is_undamaged s n l touched below lines hull above damaged =
    let at : DamageTouches s (length s.intervals) l.last = record { interval = n; below = below; damaged = damaged; touches = lines.touched l.last (lines.some, omega arith) } in
    let has = hull.each l.last at in
    omega (arith, has.0, above)
