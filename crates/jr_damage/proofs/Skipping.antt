-- A cursor that skips the MCUs of an interval skips all whole ones, and ends where they do.
use Rattle.std.proofs.Common.{◌≡◌, ℕ, ◌+◌, ◌≤◌, ◌∙◌, inl, inr, Option, Some, None, List, refl, sym, subst, arith}
use Rattle.std.specs.Prelude.{ℤ}
use Rattle.std.proofs.lemmas.Bool.{cases_lt}
use Rattle.jr_scan.specs.declared.place.Place.{Place}
use Rattle.jr_scan.specs.IntervalValue.{IntervalValue}
use Rattle.jr_mcu.specs.Mcus.{no_predictions, Mcus}
use Rattle.jr_scan.specs.Mcus.{Front, HasLongestFront, LongestFront}
use Rattle.jr_scan.specs.Run.{left_at, IsNext}
use Rattle.jr_scan.proofs.McuReaders.{front_of_run}
use Rattle.jr_scan.specs.Cursors.{IsPlaceAfter, IsReading, TakesMcus, ReadingValue}
use Rattle.jr_scan.proofs.CursorRuns.{whole}
use Rattle.jr_damage.specs.Fronts.{FrontTo}

-- the position after the first MCUs of an interval
abbrev pub reading : IntervalValue → ℕ → Option Place → ReadingValue
reading i mcu place = record { interval = i; first = mcu; next = place }

-- if all MCUs are skipped, they are the longest prefix
pub all_longest : (i : IntervalValue) (mcu : ℕ) (place : Option Place) → IsReading (reading i mcu place) → i.mcus ≤ mcu → HasLongestFront i mcu
all_longest i mcu None r all = r.longest refl
all_longest i mcu (Some p) r all =
    let next = r.at.next p refl in
    let few = r.at.few in
    (next.0, whole i mcu next.0 (front_of_run i mcu next.0 p next.1.run few) (omega (arith, few, all)))

-- a cursor that has taken further MCUs has skipped these too
pub reads_on : (i : IntervalValue) (first : ℕ) (from : Place) (most n : ℕ) (zs : List (List ℤ)) (mcu : ℕ) (next : Option Place) → mcu ≡ first + n → IsPlaceAfter i mcu next → TakesMcus i first from most n zs next → IsReading (reading i mcu next)
reads_on i first from most n zs mcu next is at t = record { at = at; longest = λ e. subst (HasLongestFront i) (sym is) (t.none e) }

-- ---- the longest prefix, as an interval that has no more MCUs

-- an interval's data with that number of MCUs
abbrev pub cut_to : IntervalValue → ℕ → IntervalValue
cut_to i m = record i { mcus = m }

-- the longest prefix is all of it
module _ (i : IntervalValue) (m : ℕ) (longest : HasLongestFront i m) where
  all : Front (cut_to i m) m longest.0
  all = let f = longest.1.front in record { at_most = omega arith; taken = f.taken; rest = f.rest; mcus = f.mcus; spelled = f.spelled }

  -- so there is a position past it
  pub has_place : (mcu : ℕ) (place : Option Place) → IsPlaceAfter (cut_to i m) mcu place → place ≡ None → ⊥
  has_place mcu place at none = let far = at.none none in omega (arith, far.4.longest m longest.0 all, far.3)

  -- and all its MCUs are taken
  pub all_taken : (from : Place) (n : ℕ) (zs : List (List ℤ)) (next : Option Place) → TakesMcus (cut_to i m) 0 from m n zs next → n ≤ m → n ≡ m
  all_taken from n zs next t few = elim (cases_lt n m) [
    | inl less ↦ let le = (t.last less).1.longest m longest.0 all in absurd (omega (arith, le, less))
    | inr full ↦ omega (arith, full, few)
  ]

  module _ (mcu : ℕ) (zs : List (List ℤ)) (p : Place) (next : IsNext (cut_to i m) mcu zs p) (is : mcu ≡ m) where
    pub front_there : FrontTo i m zs p.bit
    front_there =
        let r = next.run in
        record {
          front = record { at_most = longest.1.front.at_most; taken = r.taken; rest = left_at i p; mcus = subst (λ (n : ℕ). Mcus i.head no_predictions n zs r.taken) (r.ends ∙ is) r.mcus; spelled = r.spelled };
          ends = omega (arith, r.bit);
        }

    pub longest_there : LongestFront i m zs
    longest_there = record { front = front_there.front; longest = longest.1.longest }
