-- Whether a scan has a doubtful MCU.
use Rattle.std.specs.Prelude.{◌≡◌, ℕ, ◌<◌, Bool, true, false, List}
use Rattle.jr_cut.specs.declared.file_segments.CodedSpan.{CodedSpan}
use Rattle.jr_scan.specs.ScanValue.{ScanValue, interval_of}
use Rattle.jr_damage.specs.declared.doubtful.DoubtfulMcu.{DoubtfulMcu}
use Rattle.jr_damage.specs.Doubtful.{IsDoubtOf, HasNoDoubtful}

-- one of the first n intervals has one, somewhere in the file
pub record HasDoubt (file : List ℕ) (s : ScanValue) (n : ℕ) : Type 0 where
  pub interval : ℕ
  pub below : interval < n
  pub span : CodedSpan
  pub mcu : DoubtfulMcu
  pub is : IsDoubtOf (interval_of s interval) file span mcu

-- exactly if the value is true, one of the first n intervals has a doubtful MCU
pub record IsDoubtIn (file : List ℕ) (s : ScanValue) (n : ℕ) (is_doubtful : Bool) : Type 0 where
  pub some : is_doubtful ≡ true → HasDoubt file s n
  pub none : is_doubtful ≡ false → (i : ℕ) → i < n → HasNoDoubtful (interval_of s i)
