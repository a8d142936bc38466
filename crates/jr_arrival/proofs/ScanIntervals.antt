-- The intervals of a scan, with and without data.
use Rattle.std.proofs.Common.{◌≡◌, ℕ, zero, suc, ◌-◌, List, [], length, replicate, get_or, refl, ap, length-append, arith}
use Rattle.std.proofs.Math.ListN.{length-replicate}
use Rattle.jr_scan.specs.ScanValue.{ScanValue, IsScanOf, intervals_of}
use Rattle.jr_scan.proofs.Scans.{cut_few}

-- a scan has the number of intervals that its header says
pub count_is : (file : List ℕ) (s : ScanValue) → IsScanOf file s → length s.intervals ≡ intervals_of s.head
count_is file s c =
    let few = cut_few _ _ _ c.segments s.ended c.cut in
    omega (arith, few, ap length c.intervals, length-append c.segments (replicate (intervals_of s.head - length c.segments) []), length-replicate {A = List ℕ} (intervals_of s.head - length c.segments) [])

-- each of those after its segments is empty
pub none_in : (n i : ℕ) → get_or (replicate {A = List ℕ} n []) i [] ≡ []
none_in zero i = refl
none_in (suc n) zero = refl
none_in (suc n) (suc i) = none_in n i
