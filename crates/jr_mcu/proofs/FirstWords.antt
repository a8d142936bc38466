-- Whether bits begin with a code of a code table, and whether its additional bits follow it, is decided.
use Rattle.std.proofs.Common.{◌≡◌, ℕ, zero, suc, ◌+◌, ◌/◌, ◌%◌, ◌<◌, Bool, List, ◌++◌, length, take, drop, refl, sym, ap, ◌∙◌, inl, inr, length-append, arith}
use Rattle.std.specs.Prelude.{◌⊎◌, ℤ, Option, Some, None, slice_get}
use Rattle.std.proofs.lemmas.Bool.{cases_lt, cases_eq}
use Rattle.std.proofs.lemmas.List.{length-take-le, take-append-drop, take_at}
use Rattle.std.proofs.lemmas.Option.{slice_get_within}
use Rattle.jr_code.specs.Bits.{number, value}
use Rattle.jr_code.specs.Code.{Table, IsWord, TakesExtended, HasNoFirstWord, HasNoExtended, lengths, extent, space}
use Rattle.jr_code.proofs.PairLemmas.{taken_apart, no_word_none, short_none}
use Rattle.jr_mcu.proofs.Words.{IsPrefixFree}

-- a code that the bits begin with: its symbol and its length
pub record FirstWord (t : Table) (bs : List Bool) : Type 0 where
  pub symbol : ℕ
  pub long : ℕ
  pub is : IsWord t (take long bs) symbol

-- the bits do not begin with the code at a position of the order
abbrev NoWordAt : Table → List Bool → ℕ → Type 0
NoWordAt t bs place = (word rest : List Bool) (s : ℕ) → (w : IsWord t word s) → w.place ≡ place → bs ≡ word ++ rest → ⊥

-- nor with that at any earlier position
abbrev NoWordBelow : Table → List Bool → ℕ → Type 0
NoWordBelow t bs n = (word rest : List Bool) (s : ℕ) → (w : IsWord t word s) → w.place < n → bs ≡ word ++ rest → ⊥

same_some : (a b : ℕ) (o : Option ℕ) → o ≡ Some a → o ≡ Some b → a ≡ b
same_some a b o p q = cc

not_none : (a : ℕ) (o : Option ℕ) → o ≡ Some a → o ≡ None → ⊥
not_none a o p q = absurd cc

long_at : (t : Table) (place l : ℕ) (word : List Bool) (s : ℕ) (w : IsWord t word s) → slice_get (lengths t.counts) place ≡ Some l → w.place ≡ place → length word ≡ l
long_at t place l word s w long at = same_some (length word) l (slice_get (lengths t.counts) place) (ap (λ p. slice_get (lengths t.counts) p) (sym at) ∙ w.long) long

-- the code at a position has one length and one value, with which the first bits are compared
word_at : (t : Table) (bs : List Bool) (place : ℕ) (symbol long : Option ℕ) → slice_get t.symbols place ≡ symbol → slice_get (lengths t.counts) place ≡ long → FirstWord t bs ⊎ NoWordAt t bs place
word_at t bs place None long known is = inr (λ word rest s w at e. not_none s (slice_get t.symbols place) (ap (λ p. slice_get t.symbols p) (sym at) ∙ w.known) known)
word_at t bs place (Some s) None known is = inr (λ word rest u w at e. not_none (length word) (slice_get (lengths t.counts) place) (ap (λ p. slice_get (lengths t.counts) p) (sym at) ∙ w.long) is)
word_at t bs place (Some s) (Some l) known is =
    elim (cases_lt 16 l) [
      | inl far ↦ inr (λ word rest u w at e. omega (arith, far, w.short, long_at t place l word u w is at))
      | inr short ↦ elim (cases_lt (length bs) l) [
        | inl cut ↦ inr (λ word rest u w at e. omega (arith, cut, long_at t place l word u w is at, ap length e, length-append word rest))
        | inr fits ↦ elim (cases_eq (number (take l bs)) (space (take place (lengths t.counts)) / extent l)) [
          | inl same ↦
              let count : length (take l bs) ≡ l = length-take-le l bs fits in
              inl (record {
                symbol = s;
                long = l;
                is = record {
                  place = place;
                  known = known;
                  long = is ∙ ap (λ n. Some n) (sym count);
                  short = omega arith;
                  written = same ∙ ap (λ n. space (take place (lengths t.counts)) / extent n) (sym count);
                };
              })
          | inr other ↦ inr (λ word rest u w at e.
              let long = long_at t place l word u w is at in
              let front : take l bs ≡ word = ap (λ b. take l b) e ∙ take_at word rest l long in
              other (ap number front ∙ w.written ∙ ap (λ p. space (take p (lengths t.counts)) / extent (length word)) at ∙ ap (λ n. space (take place (lengths t.counts)) / extent n) long))
        ]
      ]
    ]

-- the codes of the first n positions, one after the other
word_below : (t : Table) (bs : List Bool) (n : ℕ) → FirstWord t bs ⊎ NoWordBelow t bs n
word_below t bs zero = inr (λ word rest s w lt e. omega (arith, lt))
word_below t bs (suc m) = and_at (word_below t bs m) (word_at t bs m (slice_get t.symbols m) (slice_get (lengths t.counts) m) refl refl)
  where
    and_at : FirstWord t bs ⊎ NoWordBelow t bs m → FirstWord t bs ⊎ NoWordAt t bs m → FirstWord t bs ⊎ NoWordBelow t bs (suc m)
    and_at (inl found) here = inl found
    and_at (inr below) (inl found) = inl found
    and_at (inr below) (inr here) = inr (λ word rest s w lt e. elim (cases_lt w.place m) [ inl l ↦ below word rest s w l e | inr g ↦ here word rest s w (omega (arith, lt, g)) e ])

pub first_word : (t : Table) (bs : List Bool) → FirstWord t bs ⊎ HasNoFirstWord t bs
first_word t bs = elim (word_below t bs (length t.symbols)) [
  | inl found ↦ inl found
  | inr none ↦ inr (λ word rest s w e. none word rest s w (slice_get_within t.symbols w.place s w.known) e)
]

-- a code with its additional bits that the bits begin with: its symbol, their value, and what is left
pub record FirstExtended (t : Table) (bs : List Bool) : Type 0 where
  pub symbol : ℕ
  pub returned : ℤ
  pub left : List Bool
  pub takes : TakesExtended t symbol returned bs left

pub first_extended : (t : Table) → IsPrefixFree t → (bs : List Bool) → FirstExtended t bs ⊎ HasNoExtended t bs
first_extended t free bs = with_extra (first_word t bs)
  where
    with_extra : FirstWord t bs ⊎ HasNoFirstWord t bs → FirstExtended t bs ⊎ HasNoExtended t bs
    with_extra (inr none) = inr (no_word_none t bs none)
    with_extra (inl f) = elim (cases_lt (length (drop f.long bs)) (f.symbol % 16)) [
      | inl short ↦ inr (short_none t free bs (drop f.long bs) (take f.long bs) f.symbol f.is (sym (take-append-drop f.long bs)) short)
      | inr enough ↦
          inl (record {
            symbol = f.symbol;
            returned = value (take (f.symbol % 16) (drop f.long bs));
            left = drop (f.long + f.symbol % 16) bs;
            takes = taken_apart t bs f.symbol f.long (f.symbol % 16) (value (take (f.symbol % 16) (drop f.long bs))) f.is refl enough refl;
          })
    ]
