-- The interval that is examined.
use Rattle.std.proofs.Common.{◌≡◌, ◌∙◌, ℕ, List, [], get_or, sym, ap}
use Rattle.jr_head.specs.HeadValue.{HeadValue}
use Rattle.jr_scan.specs.IntervalValue.{IntervalValue}
use Rattle.jr_scan.specs.ScanValue.{ScanValue, interval_of, mcus_in}

abbrev interval_with : (i mcus : ℕ) → List ℕ → HeadValue → IntervalValue
interval_with i mcus bytes h = record { number = i; mcus = mcus; bytes = bytes; head = h }

-- by its number, its data and the header it is interval i of a scan
pub examined : (s : ScanValue) (h : HeadValue) (i mcus : ℕ) (bytes : List ℕ) → s.head ≡ h → mcus ≡ mcus_in h i → get_or s.intervals i [] ≡ bytes → interval_with i mcus bytes h ≡ interval_of s i
examined s h i mcus bytes head count same =
    ap (λ (m : ℕ). interval_with i m bytes h) count ∙ ap (λ (x : HeadValue). interval_with i (mcus_in x i) bytes x) (sym head) ∙ ap (λ (b : List ℕ). interval_with i (mcus_in s.head i) b s.head) (sym same)
