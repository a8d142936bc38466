-- Strips in order are one strip, and make a piece.
use Rattle.std.proofs.Common.{◌≡◌, ℕ, suc, ◌+◌, ◌-◌, ◌*◌, ◌<◌, ◌≤◌, min, Bool, true, List, [], ◌∷◌, ◌++◌, length, slice_get, drop, refl, sym, ap, subst, ◌∙◌, arith}
use Rattle.std.specs.Prelude.{ℤ, Some}
use Rattle.std.specs.List.{All}
use Rattle.std.specs.declared.sync.Arc.{Arc}
use Rattle.std.specs.declared.alloc.Global.{Global}
use Rattle.std.proofs.lemmas.List.{drop_all, length-drop}
use Rattle.std.proofs.lemmas.Option.{get_or_from_slice_get, slice_get_within}
use Rattle.std.proofs.Math.Nat.{add-mul, mul-le-mul_right}
use Rattle.jr_head.specs.Geometry.{order_of}
use Rattle.jr_scan.specs.IntervalValue.{IntervalValue}
use Rattle.jr_scan.specs.Mcus.{Front, ReportsSound}
use Rattle.jr_piece.specs.StripValue.{StripValue}
use Rattle.jr_piece.specs.Outcome.{IsOutcome}
use Rattle.jr_piece.specs.Strips.{AreInOrder, AreOf, Follows, IsStrip, IsStripAt, IsWhole, ReportsEnd, joined, mcus_of_each, piece_of, shared_strips}
use Rattle.jr_piece.specs.DataUnits.{AreEven, units_of_strips}
use Rattle.jr_piece.proofs.Outcomes.{no_samples}

-- the laws of strips
abbrev pub StripsMeet : Type 0
StripsMeet = (a b : StripValue) → Follows a b → IsStrip a → IsStrip b → IsStrip (joined a b)

abbrev pub WholeIsOutcome : Type 0
WholeIsOutcome = (s : StripValue) (t : Bool) → IsStrip s → IsWhole s → ReportsSound t s.interval → IsOutcome (piece_of t s)

-- strip k of an interval's strips
record IsOne (i : IntervalValue) (each front k : ℕ) (s : StripValue) : Type 0 where
  at : IsStripAt each front k s
  is : IsStrip s
  of : s.interval ≡ i

-- strips of an interval starting at strip k
abbrev From : IntervalValue → ℕ → ℕ → ℕ → List StripValue → Type 0
From i each front k ss = (j : ℕ) (s : StripValue) → slice_get ss j ≡ Some s → IsOne i each front (k + j) s

first_of : (i : IntervalValue) (each front k : ℕ) (s : StripValue) (more : List StripValue) → From i each front k (s ∷ more) → IsOne i each front k s
first_of i each front k s more from = subst (λ (n : ℕ). IsOne i each front n s) (omega arith) (from 0 s refl)

rest_of : (i : IntervalValue) (each front k : ℕ) (s : StripValue) (more : List StripValue) → From i each front k (s ∷ more) → From i each front (k + 1) more
rest_of i each front k s more from j t e = subst (λ (n : ℕ). IsOne i each front n t) (omega arith) (from (suc j) t e)

-- a strip has the data units of its MCUs
count : (s : StripValue) → IsStrip s → length s.samples ≡ s.mcus * length (order_of s.interval.head)
count s is =
    let per = length (order_of s.interval.head) in
    let long : length is.are.all ≡ (s.first + s.mcus) * per = is.are.front.mcus.0 in
    omega (arith, is.samples.count, ap (λ (zs : List (List ℤ)). length zs) is.are.last, length-drop (s.first * per) is.are.all, long, add-mul s.first s.mcus per)

count_of : (i : IntervalValue) (each front k : ℕ) (s : StripValue) → IsOne i each front k s → length s.samples ≡ s.mcus * length (order_of i.head)
count_of i each front k s one = subst (λ (v : IntervalValue). length s.samples ≡ s.mcus * length (order_of v.head)) one.of (count s one.is)

even : (i : IntervalValue) (each front k : ℕ) (ss : List StripValue) → From i each front k ss → AreEven (each * length (order_of i.head)) ss
even i each front k [] from = tt
even i each front k (s ∷ []) from =
    let one = first_of i each front k s [] from in
    let few : s.mcus ≤ each = omega (arith, one.at.mcus) in
    omega (arith, count_of i each front k s one, mul-le-mul_right (length (order_of i.head)) few)
even i each front k (s ∷ (t ∷ more)) from =
    let one = first_of i each front k s (t ∷ more) from in
    let rest = rest_of i each front k s (t ∷ more) from in
    let next = first_of i each front (k + 1) t more rest in
    let all : s.mcus ≡ each = omega (arith, one.at.mcus, next.at.some, next.at.mcus, add-mul k 1 each) in
    (count_of i each front k s one ∙ ap (λ (n : ℕ). n * length (order_of i.head)) all, even i each front (k + 1) (t ∷ more) rest)

abbrev strip_of : IntervalValue → ℕ → ℕ → List (List ℕ) → StripValue
strip_of i first mcus us = record { interval = i; first = first; mcus = mcus; samples = us }

-- the MCUs starting at MCU `first` and before `front`, as one strip
abbrev strip_to : IntervalValue → ℕ → ℕ → List StripValue → StripValue
strip_to i front first ss = strip_of i first (front - first) (units_of_strips ss)

-- no MCUs, at `front`
none : (i : IntervalValue) (front : ℕ) (zs : List (List ℤ)) → Front i front zs → IsStrip (strip_to i front front [])
none i front zs f =
    let nothing : drop (front * length (order_of i.head)) zs ≡ [] = drop_all (front * length (order_of i.head)) zs (omega (arith, f.mcus.0)) in
    record {
      blocks = [];
      are = record { all = zs; front = subst (λ (n : ℕ). Front i n zs) (omega arith) f; last = sym nothing };
      samples = no_samples i.head;
    }

together : StripsMeet → (i : IntervalValue) (each front : ℕ) (zs : List (List ℤ)) → Front i front zs → (ss : List StripValue) (k : ℕ) → From i each front k ss → front ≤ (k + length ss) * each → IsStrip (strip_to i front (min front (k * each)) ss)
together meet i each front zs f [] k from all =
    let long : k + 0 ≡ k = omega arith in
    let e : front ≡ min front (k * each) = omega (arith, all, ap (λ (n : ℕ). n * each) long) in
    subst (λ (n : ℕ). IsStrip (strip_to i front n [])) e (none i front zs f)
together meet i each front zs f (s ∷ more) k from all =
    let one = first_of i each front k s more from in
    let next = min front ((k + 1) * each) in
    let long : k + length (s ∷ more) ≡ k + 1 + length more = omega arith in
    let rest = together meet i each front zs f more (k + 1) (rest_of i each front k s more from) (subst (λ (n : ℕ). front ≤ n * each) long all) in
    let start : s.first ≡ min front (k * each) = omega (arith, one.at.first, one.at.some, one.at.mcus) in
    let end : next ≡ s.first + s.mcus = omega (arith, one.at.first, one.at.some, one.at.mcus, add-mul k 1 each) in
    let within : next ≤ front = omega arith in
    let mcus : s.mcus + (front - next) ≡ front - s.first = omega (arith, end, within) in
    let both = meet s (strip_to i front next more) (one.of, end) one.is rest in
    let whole : joined s (strip_to i front next more) ≡ strip_to i front (min front (k * each)) (s ∷ more) = same s.interval i s.first (min front (k * each)) (s.mcus + (front - next)) one.of start (mcus ∙ ap (λ (n : ℕ). front - n) start) (s.samples ++ units_of_strips more) in
    subst IsStrip whole both
  where
    same : (a b : IntervalValue) (p q m : ℕ) → a ≡ b → p ≡ q → m ≡ front - q → (us : List (List ℕ)) → strip_of a p m us ≡ strip_of b q (front - q) us
    same a b p q m e g h us = rw (e, g, h) refl

-- each element of a list whose elements all satisfy the predicate
each_of : (P : StripValue → Type 0) (ss : List StripValue) → All P ss → (j : ℕ) (s : StripValue) → slice_get ss j ≡ Some s → P s
each_of P ss all j s e = subst P (get_or_from_slice_get ss j s s e) (all j s (slice_get_within ss j s e))

from_all : (i : IntervalValue) (front : ℕ) (ss : List StripValue) → AreOf i ss → All IsStrip ss → AreInOrder front ss → From i (mcus_of_each ss) front 0 ss
from_all i front ss of are order j s e = record { at = subst (λ (n : ℕ). IsStripAt (mcus_of_each ss) front n s) (omega arith) (order.at j s e); is = each_of IsStrip ss are j s e; of = each_of (λ t. t.interval ≡ i) ss of j s e }

-- the strips of an interval in order
pub record Ordered (i : IntervalValue) (front : ℕ) (ss : List StripValue) : Type 0 where
  pub of : AreOf i ss
  pub are : All IsStrip ss
  pub order : AreInOrder front ss

-- if the tests of a list of Arcs succeed, the strips of the same list are in order
pub ordered : (i : IntervalValue) (front : ℕ) (strips tested : List (Arc StripValue Global)) (t : Bool) → tested ≡ strips → t ≡ true → (t ≡ true → AreInOrder front (shared_strips tested)) → (t ≡ true → All IsStrip (shared_strips tested))
    → AreOf i (shared_strips strips) → Ordered i front (shared_strips strips)
ordered i front strips tested t e is order are of = record {
  of = of;
  are = subst (λ v. All IsStrip (shared_strips v)) e (are is);
  order = subst (λ v. AreInOrder front (shared_strips v)) e (order is);
}

pub some_mcus : (front : ℕ) (ss : List StripValue) → AreInOrder front ss → 0 < mcus_of_each ss
some_mcus front [] order = omega arith
some_mcus front (s ∷ more) order = (order.at 0 s refl).some

pub are_even : (i : IntervalValue) (front : ℕ) (ss : List StripValue) → Ordered i front ss → AreEven (mcus_of_each ss * length (order_of i.head)) ss
are_even i front ss o = even i (mcus_of_each ss) front 0 ss (from_all i front ss o.of o.are o.order)

pub report_outcome : StripsMeet → WholeIsOutcome → (i : IntervalValue) (front : ℕ) (is_sound : Bool) (ss : List StripValue) → Ordered i front ss → ReportsEnd i front is_sound
    → IsOutcome (record { interval = i; is_sound = is_sound; front = front; samples = units_of_strips ss })
report_outcome meet whole i front is_sound ss o reports =
    let each = mcus_of_each ss in
    let long : length ss ≡ 0 + length ss = omega arith in
    let one : IsStrip (strip_to i front (min front (0 * each)) ss) = together meet i each front reports.0.0 reports.0.1.front ss 0 (from_all i front ss o.of o.are o.order) (subst (λ (n : ℕ). front ≤ n * each) long o.order.all) in
    let start : min front (0 * each) ≡ 0 = omega arith in
    let mcus : front - 0 ≡ front = omega arith in
    let all : IsStrip (strip_of i 0 front (units_of_strips ss)) = subst (λ (n : ℕ). IsStrip (strip_of i 0 n (units_of_strips ss))) mcus (subst (λ (n : ℕ). IsStrip (strip_to i front n ss)) start one) in
    whole (strip_of i 0 front (units_of_strips ss)) is_sound all (refl, reports.0) reports.1
