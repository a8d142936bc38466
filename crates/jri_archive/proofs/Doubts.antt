-- Intervals that have a doubtful MCU, one after the other.
use Rattle.std.proofs.Common.{arith, subst, sym, ◌≡◌, ℕ, ◌+◌, Bool, true, false, List, inl, inr}
use Rattle.std.proofs.lemmas.Bool.{cases_lt, true≢false, false≢true}
use Rattle.jr_cut.specs.declared.file_segments.CodedSpan.{CodedSpan}
use Rattle.jr_scan.specs.ScanValue.{ScanValue, interval_of}
use Rattle.jr_damage.specs.declared.doubtful.DoubtfulMcu.{DoubtfulMcu}
use Rattle.jr_damage.specs.Doubtful.{IsDoubtOf, HasNoDoubtful}
use Rattle.jri_archive.specs.Doubts.{IsDoubtIn}

pub no_doubt : (file : List ℕ) (s : ScanValue) → IsDoubtIn file s 0 false
no_doubt file s = record {
  some = λ e. absurd (false≢true e);
  none = λ e i lt. absurd (omega (arith, lt));
}

pub doubt_before : (file : List ℕ) (s : ScanValue) (n : ℕ) (b : Bool) → IsDoubtIn file s n b → HasNoDoubtful (interval_of s n) → IsDoubtIn file s (n + 1) b
doubt_before file s n b d none = record {
  some = λ e. let h = d.some e in record { interval = h.interval; below = omega (arith, h.below); span = h.span; mcu = h.mcu; is = h.is };
  none = λ e i lt. elim (cases_lt i n) [
    | inl before ↦ d.none e i before
    | inr last ↦ (let same : i ≡ n = omega (arith, last, lt) in subst (λ (k : ℕ). HasNoDoubtful (interval_of s k)) (sym same) none)
  ];
}

pub doubt_here : (file : List ℕ) (s : ScanValue) (n : ℕ) (span : CodedSpan) (mcu : DoubtfulMcu) → IsDoubtOf (interval_of s n) file span mcu → IsDoubtIn file s (n + 1) true
doubt_here file s n span mcu is = record {
  some = λ e. record { interval = n; below = omega arith; span = span; mcu = mcu; is = is };
  none = λ e i lt. absurd (true≢false e);
}
