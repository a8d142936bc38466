-- Strips in order.
use Rattle.std.proofs.Common.{◌≡◌, ℕ, ◌+◌, ◌-◌, ◌*◌, ◌<◌, ◌≤◌, min, nat_eq, inl, inr, List, length, get_or, slice_get, sym, ap, subst, ◌∙◌, arith, refl}
use Rattle.std.specs.Prelude.{Some, IsTrue}
use Rattle.std.specs.Option.{option_map}
use Rattle.std.specs.declared.sync.Arc.{Arc}
use Rattle.std.specs.Arc.{arc_value}
use Rattle.std.specs.declared.alloc.Global.{Global}
use Rattle.std.specs.List.{All}
use Rattle.std.proofs.lemmas.Bool.{cases_lt, eqb-true, eq-eqb}
use Rattle.std.proofs.lemmas.Option.{slice_get-map, slice_get_read, slice_get-get_or, slice_get_within, get_or_from_slice_get}
use Rattle.std.proofs.Math.Nat.{add-mul}
use Rattle.jr_piece.specs.StripValue.{StripValue}
use Rattle.jr_piece.specs.Strips.{AreInOrder, IsStripAt, mcus_of_each, shared_strips}

-- the strip that an Arc of the list shares
pub shared_at : (strips : List (Arc StripValue Global)) (k : ℕ) (strip : Arc StripValue Global) (s : StripValue) → k < length strips → strip ≡ get_or strips k strip → s ≡ arc_value strip → slice_get (shared_strips strips) k ≡ Some s
shared_at strips k strip s lt is value = slice_get-map arc_value strips k ∙ ap (option_map arc_value) (slice_get_read strips (length strips) k strip refl lt is) ∙ ap Some (sym value)

same_at : (ss : List StripValue) (k j : ℕ) (t s : StripValue) → k ≡ j → slice_get ss k ≡ Some t → slice_get ss j ≡ Some s → t ≡ s
same_at ss k j t s e a b = sym (get_or_from_slice_get ss k t s a) ∙ ap (λ (n : ℕ). get_or ss n s) e ∙ get_or_from_slice_get ss j s s b

-- the facts about the strips before strip k, and about strip k
pub one_more : (P : ℕ → StripValue → Type 0) (ss : List StripValue) (k : ℕ) (t : StripValue) → slice_get ss k ≡ Some t → P k t
    → ((j : ℕ) (s : StripValue) → j < k → slice_get ss j ≡ Some s → P j s) → (j : ℕ) (s : StripValue) → j < k + 1 → slice_get ss j ≡ Some s → P j s
one_more P ss k t is last before j s lt at = elim (cases_lt j k) [
  | inl below ↦ before j s below at
  | inr beyond ↦
      let e : k ≡ j = omega (arith, lt, beyond) in
      subst (λ (n : ℕ). P n s) e (subst (P k) (same_at ss k j t s e is at) last)
]

pub all_of : (P : StripValue → Type 0) (ss : List StripValue) (n : ℕ) → length ss ≤ n → ((j : ℕ) (s : StripValue) → j < n → slice_get ss j ≡ Some s → P s) → All P ss
all_of P ss n long each = λ k d lt. each k (get_or ss k d) (omega (arith, lt, long)) (slice_get-get_or ss k d lt)

-- the tests of strip k, if the strips before it end there
abbrev pub IsNext : (each front end : ℕ) (s : StripValue) → Type 0
IsNext each front end s = (0 < s.mcus) × (s.first ≡ end) × (s.mcus ≡ min each (front - end))

pub next_at : (each front k end : ℕ) (s : StripValue) → end ≡ min front (k * each) → IsNext each front end s → IsStripAt each front k s
next_at each front k end s e next =
    let start : end ≡ k * each = omega (arith, e, next.0, next.2) in
    record { some = next.0; first = next.1 ∙ start; mcus = next.2 ∙ ap (λ (n : ℕ). min each (front - n)) start }

pub at_next : (each front k end : ℕ) (s : StripValue) → end ≡ min front (k * each) → IsStripAt each front k s → IsNext each front end s
at_next each front k end s e at =
    let start : end ≡ k * each = omega (arith, e, at.some, at.mcus) in
    (at.some, at.first ∙ sym start, at.mcus ∙ ap (λ (n : ℕ). min each (front - n)) (sym start))

pub next_end : (each front k end : ℕ) → end ≡ min front (k * each) → end + min each (front - end) ≡ min front ((k + 1) * each)
next_end each front k end e = omega (arith, e, add-mul k 1 each)

-- strip k is not the next one
pub refused : (each front k end : ℕ) (ss : List StripValue) (s : StripValue) → each ≡ mcus_of_each ss → end ≡ min front (k * each) → slice_get ss k ≡ Some s → (IsNext each front end s → ⊥) → AreInOrder front ss → ⊥
refused each front k end ss s is e at none o = none (at_next each front k end s e (subst (λ (n : ℕ). IsStripAt n front k s) (sym is) (o.at k s at)))

-- all strips are tested
pub ended : (each front n end : ℕ) (ss : List StripValue) → each ≡ mcus_of_each ss → end ≡ min front (n * each) → length ss ≡ n
    → ((j : ℕ) (s : StripValue) → j < n → slice_get ss j ≡ Some s → IsStripAt each front j s) → (IsTrue (nat_eq end front) → AreInOrder front ss) × (AreInOrder front ss → IsTrue (nat_eq end front))
ended each front n end ss is e long before = (
  λ t. record {
    at = λ j s at. subst (λ (m : ℕ). IsStripAt m front j s) is (before j s (omega (arith, slice_get_within ss j s at, long)) at);
    all = subst (λ (m : ℕ). front ≤ m) (count) (omega (arith, eqb-true end front t, e));
  },
  λ o. eq-eqb end front (omega (arith, e, o.all, count)),
)
  where
    count : n * each ≡ length ss * mcus_of_each ss
    count = ap (λ (m : ℕ). m * each) (sym long) ∙ ap (λ (m : ℕ). length ss * m) is
