-- Steps of a source, one after the other.
use Rattle.std.proofs.Common.{◌≡◌, ℕ, ◌+◌, ◌*◌, ◌<◌, ◌≤◌, List, length, refl, sym, ap, subst, ◌∙◌, arith}
use Rattle.std.specs.Prelude.{Bool}
use Rattle.jr_head.specs.HeadValue.{HeadValue}
use Rattle.jr_head.specs.Geometry.{mcus_across}
use Rattle.jr_head.specs.Intervals.{mcus_in}
use Rattle.jr_scan.specs.ScanValue.{ScanValue}
use Rattle.jr_rows.specs.Groups.{units_in}
use Rattle.jr_rows.specs.Rows.{ShowsFirstUnits}
use Rattle.jr_arrival.specs.Sources.{SourceValue, Steps, Walks}

module _ {P : Type 0} (h : HeadValue) where
  pub nowhere : (a : SourceValue P) → a.is_at h → Steps h a a 0
  nowhere a at = record { at = at; part = refl; right = λ whole t may. may; passed = omega arith }

  pub steps_after : (a b c : SourceValue P) (m n : ℕ) → Steps h a b m → Steps h b c n → Steps h a c (m + n)
  steps_after a b c m n first second = record {
    at = second.at;
    part = second.part ∙ first.part;
    right = λ whole t may. second.right whole t (first.right whole t may);
    passed = omega (arith, second.passed, first.passed);
  }

  -- a step of the source alone
  pub walks_by : (a b : SourceValue P) (keeps : Bool) (done : ℕ) (groups : List (List ℕ)) → Steps h a b 0 → done ≤ mcus_across h → Walks h a b keeps done 0 groups groups
  walks_by a b keeps done groups steps few = record {
    steps = steps;
    shows = λ keep from at whole t may before.
        let here : done ≡ done + 0 = omega arith in
        subst (λ (k : ℕ). ShowsFirstUnits t (length t.intervals) from k (units_in t.head groups)) here before;
    few = omega (arith, few);
  }

  pub walks_after : (a b c : SourceValue P) (keeps : Bool) (done m n : ℕ) (old mid new : List (List ℕ)) → Walks h a b keeps done m old mid → Walks h b c keeps (done + m) n mid new → Walks h a c keeps done (m + n) old new
  walks_after a b c keeps done m n old mid new first second = record {
    steps = steps_after a b c m n first.steps second.steps;
    shows = λ keep from at whole t may before.
        let sum : done + m + n ≡ done + (m + n) = omega arith in
        subst (λ (k : ℕ). ShowsFirstUnits t (length t.intervals) from k (units_in t.head new)) sum
        (second.shows keep from (omega (arith, first.steps.passed, at)) whole t (first.steps.right whole t may) (first.shows keep from at whole t may before));
    few = omega (arith, second.few);
  }

  -- a step over no MCU before or after
  pub then_walks : (a b c : SourceValue P) (keeps : Bool) (done n : ℕ) (old new : List (List ℕ)) → Steps h a b 0 → Walks h b c keeps done n old new → Walks h a c keeps done n old new
  then_walks a b c keeps done n old new steps walks = record {
    steps = let sum : 0 + n ≡ n = omega arith in subst (Steps h a c) sum (steps_after a b c 0 n steps walks.steps);
    shows = λ keep from at whole t may before. walks.shows keep from (omega (arith, steps.passed, at)) whole t (steps.right whole t may) before;
    few = walks.few;
  }

  pub walks_then : (a b c : SourceValue P) (keeps : Bool) (done n : ℕ) (old new : List (List ℕ)) → n ≡ 0 → Walks h a b keeps done n old new → Steps h b c 0 → Walks h a c keeps done 0 old new
  walks_then a b c keeps done n old new none walks steps =
      let here = subst (λ (k : ℕ). Walks h a b keeps done k old new) none walks in
      record { steps = steps_after a b c 0 0 here.steps steps; shows = here.shows; few = here.few }

  -- a walk over none, and one over some
  pub walks_on : (a b c : SourceValue P) (keeps : Bool) (done n : ℕ) (old mid new : List (List ℕ)) → Walks h a b keeps done 0 old mid → Walks h b c keeps done n mid new → Walks h a c keeps done n old new
  walks_on a b c keeps done n old mid new first second =
      let here : done ≡ done + 0 = omega arith in
      let sum : 0 + n ≡ n = omega arith in
      subst (λ (k : ℕ). Walks h a c keeps done k old new) sum (walks_after a b c keeps done 0 n old mid new first (subst (λ (k : ℕ). Walks h b c keeps k n mid new) here second))

-- all MCUs of a row
pub row_shown : (t : ScanValue) (h : HeadValue) (n row done : ℕ) (units : List (List ℕ)) → t.head ≡ h → done ≡ mcus_across h → ShowsFirstUnits t n (row * mcus_across h) done units → ShowsFirstUnits t n (row * mcus_across t.head) (mcus_across t.head) units
row_shown t h n row done units e all shown =
    subst (λ (g : HeadValue). ShowsFirstUnits t n (row * mcus_across g) (mcus_across g) units) (sym e) (subst (λ (k : ℕ). ShowsFirstUnits t n (row * mcus_across h) k units) all shown)

-- MCUs of the interval are left if there were some
pub left_in : {P : Type 0} (h : HeadValue) (a b : SourceValue P) (n : ℕ) → n ≡ 0 → Steps h a b n → b.cursor.number ≡ a.cursor.number → a.cursor.mcu < mcus_in h a.cursor.number → b.cursor.mcu < mcus_in h b.cursor.number
left_in h a b n none steps number left =
    subst (λ (i : ℕ). b.cursor.mcu < mcus_in h i) (sym number) (omega (arith, none, steps.passed, ap (λ (i : ℕ). i * h.restart) number, left))
