use Rattle.std.proofs.Common.{◌≡◌, ℕ, List, length, ap, refl, subst, ◌∙◌}
use Rattle.jr_scan.specs.IntervalValue.{IntervalValue}
use Rattle.jr_scan.specs.ScanValue.{IsSameScan, ScanValue, interval_of}
use Rattle.jr_picture.specs.Headline.{Shows, mark_in}
use Rattle.jr_wall.proofs.headline.same_scan_has_the_picture.Goals as goal

same_interval : (s t : ScanValue) → IsSameScan s t → (i : ℕ) → interval_of s i ≡ interval_of t i
same_interval s t e i = rw (e.0, e.1) refl

pub returns : goal.returns
returns c s t marks f e p = record {
  count = p.count ∙ ap (λ (is : List (List ℕ)). length is) e.1;
  each = λ i. subst (λ (v : IntervalValue). Shows (mark_in marks i) v f) (same_interval s t e i) (p.each i);
}
