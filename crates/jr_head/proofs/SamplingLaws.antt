-- Sampling factors, and the data units of an MCU.
use Rattle.std.proofs.Common.{◌≡◌, ℕ, zero, suc, ◌+◌, ◌*◌, ◌<◌, ◌≤◌, List, [], ◌∷◌, ◌++◌, length, take, replicate, get_or, refl, sym, ap, ◌∙◌, append_assoc, arith, length-append, zero-add, max}
use Rattle.std.proofs.Common.{⊎_elim}
use Rattle.std.proofs.lemmas.Bool.{cases_lt}
use Rattle.std.specs.Prelude.{All, sum_by, slice_index_or}
use Rattle.std.specs.List.{fold, AllByRecursion}
use Rattle.std.specs.Int.{div_ceil}
use Rattle.std.proofs.Math.Nat.{le-max_left, le-max_right, max-le, le_trans, le_refl}
use Rattle.std.proofs.lemmas.Nat.{mul-le}
use Rattle.std.proofs.lemmas.Grind.{div_ceil_times}
use Rattle.std.proofs.lemmas.List.{length-replicate, length-take-le, take_more, append-nil}
use Rattle.std.proofs.lemmas.List.Sums.{sum_by-cons}
use Rattle.std.proofs.lemmas.List.Elements.{All-append, All-replicate, recursion_from_All, All-nil}
use Rattle.jr_base.specs.declared.limits.TheConstants.{MAX_MCUS_ACROSS}
use Rattle.jr_head.specs.declared.component.Component.{Component}
use Rattle.jr_segments.specs.declared.kind.Kind.{Kind}
use Rattle.jr_segments.specs.declared.kind.Kind.TheVariants.{Grey, Rgb, Ycc}
use Rattle.jr_head.specs.Geometry.{no_component, units_of, order_from, component_count, IsSampled}

from_start : (f : Component → ℕ) (m : ℕ) (cs : List Component) → m ≤ fold (λ n c. max n (f c)) m cs
from_start f m [] = le_refl m
from_start f m (c ∷ cs) = le_trans (le-max_left m (f c)) (from_start f (max m (f c)) cs)

pub within_most : (f : Component → ℕ) (m : ℕ) (cs : List Component) (i : ℕ) → i < length cs → f (slice_index_or cs i no_component) ≤ fold (λ n c. max n (f c)) m cs
within_most f m [] i h = absurd (omega (arith, h))
within_most f m (c ∷ cs) zero h = le_trans (le-max_right m (f c)) (from_start f (max m (f c)) cs)
within_most f m (c ∷ cs) (suc i) h = within_most f (max m (f c)) cs i (omega (arith, h))

most_within : (f : Component → ℕ) (b m : ℕ) (cs : List Component) → m ≤ b → AllByRecursion (λ c. f c ≤ b) cs → fold (λ n c. max n (f c)) m cs ≤ b
most_within f b m [] h a = h
most_within f b m (c ∷ cs) h a = most_within f b (max m (f c)) cs (max-le h a.0) a.1

pub most_small : (f : Component → ℕ) (b : ℕ) (cs : List Component) → ((c : Component) → IsSampled c → f c ≤ b) → All IsSampled cs → fold (λ n c. max n (f c)) 0 cs ≤ b
most_small f b cs h a = most_within f b 0 cs (omega arith) (recursion_from_All (λ c. f c ≤ b) cs (λ k d lt. h (slice_index_or cs k d) (a k d lt)))

pub most_some : (f : Component → ℕ) (cs : List Component) → 0 < length cs → ((c : Component) → IsSampled c → 0 < f c) → All IsSampled cs → 0 < fold (λ n c. max n (f c)) 0 cs
most_some f cs some h a =
    let first : 0 < f (slice_index_or cs 0 no_component) = h (slice_index_or cs 0 no_component) (a 0 no_component some) in
    let least = within_most f 0 cs 0 some in
    omega (arith, first, least)

pub length-order : (i : ℕ) (cs : List Component) → length (order_from i cs) ≡ sum_by units_of cs
length-order i [] = refl
length-order i (c ∷ cs) = length-append (replicate (units_of c) i) (order_from (suc i) cs) ∙ rw (length-replicate (units_of c) i, length-order (suc i) cs) (sym (sum_by-cons units_of c cs))

order_below : (n i : ℕ) (cs : List Component) → i + length cs ≤ n → All (λ x. x < n) (order_from i cs)
order_below n i [] h = All-nil (λ x. x < n)
order_below n i (c ∷ cs) h =
    All-append (λ x. x < n) (replicate (units_of c) i) (order_from (suc i) cs)
    (All-replicate (λ x. x < n) (units_of c) i (omega (arith, h)))
    (order_below n (suc i) cs (omega (arith, h)))

pub order_within : (cs : List Component) → All (λ x. x < length cs) (order_from 0 cs)
order_within cs = order_below (length cs) 0 cs (omega arith)

order_from-append : (i : ℕ) (cs : List Component) (c : Component) → order_from i (cs ++ c ∷ []) ≡ order_from i cs ++ replicate (units_of c) (i + length cs)
order_from-append i [] c = append-nil (replicate (units_of c) i) ∙ ap (replicate (units_of c)) (omega arith)
order_from-append i (x ∷ cs) c =
    ap (λ r. replicate (units_of x) i ++ r) (order_from-append (suc i) cs c)
    ∙ sym (append_assoc (replicate (units_of x) i) (order_from (suc i) cs) (replicate (units_of c) (suc i + length cs)))
    ∙ ap (λ n. (replicate (units_of x) i ++ order_from (suc i) cs) ++ replicate (units_of c) n) (omega arith)

length_taken : (cs : List Component) (i : ℕ) → i < length cs → length (take i cs) ≡ i
length_taken cs i h = length-take-le i cs (omega (arith, h))

pub order_more : (cs : List Component) (i : ℕ) → i < length cs → order_from 0 (take (i + 1) cs) ≡ order_from 0 (take i cs) ++ replicate (units_of (get_or cs i no_component)) i
order_more cs i h =
    ap (order_from 0) (take_more cs i no_component h)
    ∙ order_from-append 0 (take i cs) (get_or cs i no_component)
    ∙ ap (λ n. order_from 0 (take i cs) ++ replicate (units_of (get_or cs i no_component)) n) (zero-add (length (take i cs)) ∙ length_taken cs i h)

pub units_some : (cs : List Component) → 0 < length cs → All IsSampled cs → 0 < sum_by units_of cs
units_some [] h a = absurd (omega (arith, h))
units_some (c ∷ cs) h a =
    let s = a 0 no_component (omega arith) in
    let one = mul-le 1 1 c.horizontal c.vertical s.across s.down in
    rw (sum_by-cons units_of c cs) (omega (arith, one))

-- the number of MCUs in a row or in a column of at most 65535 pixels is limited
pub few_across : (n m : ℕ) → n < 65536 → 0 < m → m ≤ 4 → div_ceil n (8 * m) ≤ MAX_MCUS_ACROSS
few_across n m h some few =
    let times = div_ceil_times n (8 * m) (omega arith) in
    ⊎_elim (λ (k : div_ceil n (8 * m) < suc MAX_MCUS_ACROSS). omega (arith, k))
    (λ (k : suc MAX_MCUS_ACROSS ≤ div_ceil n (8 * m)).
    let more = mul-le (suc MAX_MCUS_ACROSS) (8 * m) (div_ceil n (8 * m)) (8 * m) k (omega arith) in
    absurd (omega (arith, times.1, more)))
    (cases_lt (div_ceil n (8 * m)) (suc MAX_MCUS_ACROSS))

positive : (a b n : ℕ) → 0 < n → n ≤ a * b → 0 < a
positive zero b n h k = absurd (omega (arith, h, k))
positive (suc a) b n h k = omega arith

pub some_across : (n m : ℕ) → 0 < n → 0 < m → 0 < div_ceil n (8 * m)
some_across n m h some =
    let times = div_ceil_times n (8 * m) (omega arith) in
    positive (div_ceil n (8 * m)) (8 * m) n h times.0

pub some_there : (kind : Kind) (cs : List Component) → length cs ≡ component_count kind → 0 < length cs
some_there Grey cs h = omega (arith, h)
some_there Rgb cs h = omega (arith, h)
some_there Ycc cs h = omega (arith, h)
