-- A code and its additional bits, read together.
use Rattle.std.proofs.Common.{◌≡◌, ◌≢◌, ℕ, ◌+◌, ◌-◌, ◌/◌, ◌%◌, ◌^◌, ◌<◌, ◌≤◌, Bool, List, [], ◌++◌, length, take, drop, refl, sym, ◌∙◌, ap, subst, arith, length-append, append_assoc, ⊎_elim, inl, inr}
use Rattle.std.specs.Prelude.{◌⊎◌, Option, Some, None, IsSome, ℤ, ⊤}
use Rattle.std.proofs.lemmas.Bool.{cases_lt}
use Rattle.std.proofs.lemmas.List.{append-nil, append_cancel_left, append_cancel_right, drop-append-le, drop-drop, length-drop, length-take-le, take-append-drop, take-append-le, take-take, take_at}
use Rattle.jr_code.specs.Bits.{bits_of, extend, number, value, upper_bits}
use Rattle.jr_code.specs.Code.{Table, IsWord, IsInFront, IsPair, IsPrefixFree, HasNoFirstWord, HasNoExtended, HasNoPlaces, GoesOn, TakesExtended}
use Rattle.jr_code.specs.declared.words.Extended.{Extended}
use Rattle.jr_code.proofs.BitLemmas.{length-bits_of, number-bits_of}
use Rattle.jr_code.proofs.ValueLemmas.{Within, value_within}
use Rattle.jr_code.proofs.RegisterLemmas.{drop-held, first_is, take-front, take-held}

-- a code of n bits, and m additional bits after it
pub taken_apart : (t : Table) (bs : List Bool) (s n m : ℕ) (v : ℤ) → IsWord t (take n bs) s → m ≡ s % 16 → m ≤ length (drop n bs) → v ≡ value (take m (drop n bs))
    → TakesExtended t s v bs (drop (n + m) bs)
taken_apart t bs s n m v is size enough is_value = record {
  word = take n bs;
  extra = take m (drop n bs);
  is = is;
  count = length-take-le m (drop n bs) enough ∙ size;
  value_is = is_value;
  split = sym (take-append-drop n bs) ∙ ap (λ b. take n bs ++ b) (sym (take-append-drop m (drop n bs)) ∙ ap (λ b. take m (drop n bs) ++ b) (drop-drop m n bs));
}

-- a code, after it bits of which the first are its additional bits, and what is left
pub word_apart : (t : Table) (bs mid new : List Bool) (s n m : ℕ) (v : ℤ) → IsWord t (take n bs) s → mid ≡ drop n bs → m ≡ s % 16 → m ≤ length mid → v ≡ value (take m mid) → new ≡ drop m mid
    → TakesExtended t s v bs new
word_apart t bs mid new s n m v is left size enough is_value after = record {
  word = take n bs;
  extra = take m mid;
  is = is;
  count = length-take-le m mid enough ∙ size;
  value_is = is_value;
  split = sym (take-append-drop n bs) ∙ ap (λ b. take n bs ++ b) (sym left ∙ sym (take-append-drop m mid) ∙ ap (λ b. take m mid ++ b) (sym after));
}

-- what the first bits begin with, all bits begin with
pub taken_more : (t : Table) (bs more : List Bool) (s n : ℕ) (v : ℤ) → n ≤ length bs → TakesExtended t s v bs (drop n bs) → TakesExtended t s v (bs ++ more) (drop n (bs ++ more))
taken_more t bs more s n v fits x = record {
  word = x.word;
  extra = x.extra;
  is = x.is;
  count = x.count;
  value_is = x.value_is;
  split = ap (λ b. b ++ more) x.split ∙ append_assoc x.word (x.extra ++ drop n bs) more ∙ ap (λ b. x.word ++ b) (append_assoc x.extra (drop n bs) more)
      ∙ ap (λ b. x.word ++ (x.extra ++ b)) (sym (drop-append-le n bs more fits));
}

-- a code at the start of eleven bits, and its additional bits, if they hold both
pub pair_held : (t : Table) (w s n m : ℕ) (v : ℤ) → IsWord t (take n (bits_of 11 w)) s → m ≡ s % 16 → n + m ≤ 11 → v ≡ extend m (w / 2 ^ (11 - (n + m)) % 2 ^ m)
    → (n + m ≤ 11) × TakesExtended t s v (bits_of 11 w) (drop (n + m) (bits_of 11 w))
pair_held t w s n m v is size short is_value =
    let after = 11 - n in
    let all : bits_of 11 w ++ [] ≡ bits_of 11 w = append-nil (bits_of 11 w) in
    let left : drop n (bits_of 11 w) ≡ bits_of (11 - n) w ++ [] = ap (λ b. drop n b) (sym all) ∙ sym (drop-held n 11 w [] (omega arith)) in
    let e : 11 - n - m ≡ 11 - (n + m) = omega arith in
    let extra : take m (drop n (bits_of 11 w)) ≡ bits_of m (w / 2 ^ (11 - (n + m))) =
    ap (λ b. take m b) left ∙ take-held m (11 - n) w [] (omega arith) ∙ ap (λ k. bits_of m (w / 2 ^ k)) e in
    let enough : m ≤ length (drop n (bits_of 11 w)) = omega (arith, length-drop n (bits_of 11 w), length-bits_of 11 w) in
    let value_is : v ≡ value (take m (drop n (bits_of 11 w))) =
    is_value ∙ sym (ap value extra ∙ ap (λ l. extend l (number (bits_of m (w / 2 ^ (11 - (n + m)))))) (length-bits_of m (w / 2 ^ (11 - (n + m))))
    ∙ ap (λ x. extend m x) (number-bits_of m (w / 2 ^ (11 - (n + m))))) in
    (short, taken_apart t (bits_of 11 w) s n m v is size enough value_is)

-- what bits begin with, others begin with if their first n bits are the same
pub taken_from : (t : Table) (bs cs : List Bool) (s n : ℕ) (v : ℤ) → n ≤ length bs → take n cs ≡ take n bs → TakesExtended t s v bs (drop n bs) → TakesExtended t s v cs (drop n cs)
taken_from t bs cs s n v fits same x =
    let front : take n bs ≡ x.word ++ x.extra =
    append_cancel_right (take n bs) (x.word ++ x.extra) (drop n bs)
    (take-append-drop n bs ∙ x.split ∙ sym (append_assoc x.word x.extra (drop n bs))) in
    record {
      word = x.word;
      extra = x.extra;
      is = x.is;
      count = x.count;
      value_is = x.value_is;
      split = sym (take-append-drop n cs) ∙ ap (λ f. f ++ drop n cs) (same ∙ front) ∙ append_assoc x.word x.extra (drop n cs);
    }

-- the entry of eleven bits is what all bits begin with, if the register has enough bits
pub pair_front : (t : Table) (count held : ℕ) (more : List Bool) (e : Extended) → count < 64 → IsPair t (held / 2 ^ 53) e → e.long ≤ count
    → IsInFront t e count (upper_bits count held ++ more)
pair_front t count held more e few pair long =
    let is = pair (omega (arith, few, long)) in
    let looked_up : bits_of 11 (held / 2 ^ 53) ≡ upper_bits 11 held = sym (first_is 11 held (omega arith)) in
    let same : take e.long (upper_bits count held ++ more) ≡ take e.long (bits_of 11 (held / 2 ^ 53)) =
    take-front e.long count held more long (omega (arith, few)) ∙ sym (ap (λ b. take e.long b) looked_up ∙ take-take e.long 11 (bits_of 64 held) is.0) in
    (long, taken_from t (bits_of 11 (held / 2 ^ 53)) (upper_bits count held ++ more) e.symbol e.long e.value (omega (arith, is.0, length-bits_of 11 (held / 2 ^ 53))) same is.1)

-- without a code there is none with its additional bits
pub no_word_none : (t : Table) (bs : List Bool) → HasNoFirstWord t bs → HasNoExtended t bs
no_word_none t bs none = λ word extra rest s w n e. none word (extra ++ rest) s w e

-- after the one code there are too few bits
pub short_none : (t : Table) → IsPrefixFree t → (old mid word : List Bool) (s : ℕ) → IsWord t word s → old ≡ word ++ mid → length mid < s % 16 → HasNoExtended t old
short_none t free old mid word s w split short = λ u extra rest s' w' count e.
    let same = free word u mid (extra ++ rest) s s' w w' (sym split ∙ e) in
    let left : mid ≡ extra ++ rest = append_cancel_left u mid (extra ++ rest) (subst (λ (b : List Bool). b ++ mid ≡ u ++ (extra ++ rest)) same.0 (sym split ∙ e)) in
    omega (arith, ap length left, length-append extra rest, count, ap (λ n. n % 16) same.1, short)

pub too_few : (size : ℕ) (bs : List Bool) (r : Option ℤ) → r ≡ None → (size ≤ length bs → IsSome r) → length bs < size
too_few size bs (Some v) is found = absurd cc
too_few size bs None is found = elim (cases_lt (length bs) size) [ inl l ↦ l | inr g ↦ let h = found g in absurd cc ]

-- the same of the last bits of a register, with none after them
pub held_apart : (t : Table) (bs mid : List Bool) (s n m : ℕ) (v : ℤ) → n ≤ length bs → IsWord t (take n bs) s → m ≡ s % 16 → mid ≡ drop n (bs ++ []) → m ≤ length mid → v ≡ value (take m mid)
    → (n + m ≤ length bs) × TakesExtended t s v bs (drop (n + m) bs)
held_apart t bs mid s n m v fits is size left enough is_value =
    let e : mid ≡ drop n bs = left ∙ ap (λ b. drop n b) (append-nil bs) in (
      omega (arith, enough, fits, ap length e, length-drop n bs),
      taken_apart t bs s n m v is size (omega (arith, enough, ap length e)) (is_value ∙ ap (λ b. value (take m b)) e),
    )

pub held_short : (t : Table) → IsPrefixFree t → (bs mid : List Bool) (s n : ℕ) → IsWord t (take n bs) s → mid ≡ drop n (bs ++ []) → length mid < s % 16 → HasNoExtended t bs
held_short t free bs mid s n w left short =
    let e : mid ≡ drop n bs = left ∙ ap (λ b. drop n b) (append-nil bs) in
    short_none t free bs (drop n bs) (take n bs) s w (sym (take-append-drop n bs)) (omega (arith, short, ap length e))

-- what a register's bits don't begin with, all bits don't, if the register has enough bits for the longest or no bits follow
held_none_of : (P : ℕ → Type 0) (t : Table) (bs rest : List Bool) → (32 ≤ length bs) ⊎ (rest ≡ []) → ((word extra after : List Bool) (s : ℕ) → IsWord t word s → P s → length extra ≡ s % 16 → bs ≢ word ++ (extra ++ after))
    → (word extra after : List Bool) (s : ℕ) → IsWord t word s → P s → length extra ≡ s % 16 → bs ++ rest ≢ word ++ (extra ++ after)
held_none_of P t bs rest many none = λ word extra after s w is count begins.
    ⊎_elim
    (λ enough.
    let both = word ++ extra in
    let long : length (word ++ extra) ≡ length word + length extra = length-append word extra in
    let fits : length (word ++ extra) ≤ length bs = omega (arith, w.short, count, long, enough) in
    let front : take (length (word ++ extra)) bs ≡ word ++ extra =
    sym (take-append-le (length (word ++ extra)) bs rest fits) ∙ ap (λ b. take (length (word ++ extra)) b) (begins ∙ sym (append_assoc word extra after)) ∙ take_at (word ++ extra) after (length (word ++ extra)) refl in
    none word extra (drop (length (word ++ extra)) bs) s w is count
    (sym (take-append-drop (length (word ++ extra)) bs) ∙ ap (λ f. f ++ drop (length (word ++ extra)) bs) front ∙ append_assoc word extra (drop (length (word ++ extra)) bs)))
    (λ empty. none word extra after s w is count (sym (append-nil bs) ∙ ap (λ r. bs ++ r) (sym empty) ∙ begins))
    many

pub held_none : (t : Table) (bs rest : List Bool) → (32 ≤ length bs) ⊎ (rest ≡ []) → HasNoExtended t bs → HasNoExtended t (bs ++ rest)
held_none t bs rest many none = λ word extra after s w. held_none_of (λ s. ⊤) t bs rest many (λ word extra after s w _. none word extra after s w) word extra after s w tt

pub held_no_places : (t : Table) (bs rest : List Bool) → (32 ≤ length bs) ⊎ (rest ≡ []) → HasNoPlaces t bs → HasNoPlaces t (bs ++ rest)
held_no_places t bs rest many none = λ word extra after s n w goes.
    held_none_of (λ s. (n : ℕ) × GoesOn s n) t bs rest many (λ word extra after s w is. none word extra after s is.0 w is.1) word extra after s w (n, goes)

-- without a code and its additional bits there is no coefficient
pub none_no_places : (t : Table) (bs : List Bool) → HasNoExtended t bs → HasNoPlaces t bs
none_no_places t bs none = λ word extra rest s n w goes. none word extra rest s w

-- the one code that the bits begin with is not that of a coefficient
pub other_no_places : (t : Table) → IsPrefixFree t → (s : ℕ) (v : ℤ) (old new : List Bool) → TakesExtended t s v old new → ((n : ℕ) → GoesOn s n → ⊥) → HasNoPlaces t old
other_no_places t free s v old new x other = λ word extra rest s' n w goes count e.
    let same = free x.word word (x.extra ++ new) (extra ++ rest) s s' x.is w (sym x.split ∙ e) in
    other n (subst (λ q. GoesOn q n) (sym same.1) goes)

-- a coefficient has ten additional bits at most
pub few_extra : (s n : ℕ) → GoesOn s n → s % 16 ≤ 10
few_extra s n (inl end) = omega (arith, end.0)
few_extra s n (inr (inl zeros)) = omega (arith, zeros.0)
few_extra s n (inr (inr some)) = some.1

pub places_value : (t : Table) (s n : ℕ) (v : ℤ) (old new : List Bool) → TakesExtended t s v old new → GoesOn s n → Within 1023 v
places_value t s n v old new x goes = subst (Within 1023) (sym x.value_is) (value_within x.extra 10 1023 (omega (arith, x.count, few_extra s n goes)) (omega arith))
