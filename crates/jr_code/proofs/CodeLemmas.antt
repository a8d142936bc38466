-- The codes of a code table: their positions, their bits, and that none begins another.
use Rattle.std.specs.Prelude.{◌==◌}
use Rattle.std.specs.Bool.{Decides}
use Rattle.std.specs.Cmp.Lexicographic.{bytes_decides, pointwise}
use Rattle.std.proofs.lemmas.Bool.{and_parts, and_from}
use Rattle.jr_code.specs.Code.{same_table}
use Rattle.std.proofs.Common.{◌≡◌, ℕ, zero, suc, ◌+◌, ◌-◌, ◌*◌, ◌/◌, ◌^◌, ◌<◌, ◌≤◌, Bool, List, [], ◌∷◌, ◌++◌, length, drop, take, get_or, replicate, refl, sym, ◌∙◌, ap, arith, length-append, ⊎_elim, subst}
use Rattle.std.specs.Prelude.{slice_get, Option, Some, sum, sum_by}
use Rattle.std.proofs.lemmas.Bool.{cases_lt, cases_order}
use Rattle.std.proofs.lemmas.Nat.{pow-add, pow_pos}
use Rattle.std.proofs.lemmas.List.{append_assoc, append-nil, take_more, take-take, length-take-le, length-replicate, take-append-drop, drop_more}
use Rattle.std.proofs.lemmas.List.Sums.{sum_by-append, sum_by-cons, sum_by_more, sum_by_more_le, sum_by-take-le}
use Rattle.std.proofs.lemmas.Option.{slice_get_within, get_or_from_slice_get}
use Rattle.std.proofs.Math.Nat.{mul_assoc, mul_comm, add-mul, pow-suc, lt_of_mul-lt-mul_right, mul-div_left, mul-lt-mul_of_pos_right, mod-eq_of_lt}
use Rattle.jr_code.specs.Bits.{number, bits_of}
use Rattle.jr_code.specs.Code.{Table, IsWord, IsValidTable, lengths_from, lengths, extent, space}
use Rattle.jr_code.proofs.BitLemmas.{number_below, length-bits_of, number-bits_of, number-append, slice_get-append_left, slice_get-append_right}

pub length-lengths : (l : ℕ) (cs : List ℕ) → length (lengths_from l cs) ≡ sum cs
length-lengths l [] = refl
length-lengths l (c ∷ cs) =
    omega (arith, length-append (replicate c l) (lengths_from (l + 1) cs), length-replicate c l, length-lengths (l + 1) cs, sum_by-cons (λ x. x) c cs)

pub lengths-append : (l : ℕ) (xs ys : List ℕ) → lengths_from l (xs ++ ys) ≡ lengths_from l xs ++ lengths_from (l + length xs) ys
lengths-append l [] ys = ap (λ n. lengths_from n ys) (omega arith)
lengths-append l (x ∷ xs) ys =
    let e : l + 1 + length xs ≡ l + suc (length xs) = omega arith in
    ap (λ t. replicate x l ++ t) (lengths-append (l + 1) xs ys ∙ ap (λ n. lengths_from (l + 1) xs ++ lengths_from n ys) e)
    ∙ sym (append_assoc (replicate x l) (lengths_from (l + 1) xs) (lengths_from (l + suc (length xs)) ys))

space-replicate : (c l : ℕ) → space (replicate c l) ≡ c * extent l
unfolding space
space-replicate zero l = omega arith
space-replicate (suc c) l =
    let ih : space (replicate c l) ≡ c * extent l = space-replicate c l in
    sum_by-cons extent l (replicate c l) ∙ omega (arith, add-mul 1 c (extent l))

pub space-append : (xs ys : List ℕ) → space (xs ++ ys) ≡ space xs + space ys
unfolding space
space-append xs ys = sum_by-append extent xs ys

-- the codes of one length follow each other, after all shorter ones
pub lengths_split : (cs : List ℕ) (i : ℕ) → i < length cs
    → lengths cs ≡ lengths (take i cs) ++ (replicate (get_or cs i 0) (i + 1) ++ lengths_from (i + 2) (drop (i + 1) cs))
lengths_split cs i h =
    let whole : take i cs ++ (get_or cs i 0 ∷ drop (i + 1) cs) ≡ cs = ap (λ t. take i cs ++ t) (sym (drop_more cs i 0 h)) ∙ take-append-drop i cs in
    let e : 1 + length (take i cs) ≡ i + 1 = omega (arith, length-take-le i cs) in
    let f : i + 1 + 1 ≡ i + 2 = omega arith in
    ap lengths (sym whole) ∙ lengths-append 1 (take i cs) (get_or cs i 0 ∷ drop (i + 1) cs) ∙ rw (e, f) refl

pub space_more : (cs : List ℕ) (i : ℕ) → i < length cs
    → space (lengths (take (i + 1) cs)) ≡ space (lengths (take i cs)) + get_or cs i 0 * extent (i + 1)
space_more cs i h =
    let e : 1 + length (take i cs) ≡ i + 1 = omega (arith, length-take-le i cs) in
    ap (λ t. space (lengths t)) (take_more cs i 0 h)
    ∙ ap space (lengths-append 1 (take i cs) (get_or cs i 0 ∷ []))
    ∙ space-append (lengths (take i cs)) (lengths_from (1 + length (take i cs)) (get_or cs i 0 ∷ []))
    ∙ ap (λ n. space (lengths (take i cs)) + space (lengths_from n (get_or cs i 0 ∷ []))) e
    ∙ ap (λ t. space (lengths (take i cs)) + space t) (append-nil (replicate (get_or cs i 0) (i + 1)))
    ∙ ap (λ n. space (lengths (take i cs)) + n) (space-replicate (get_or cs i 0) (i + 1))

-- the k-th code of i + 1 bits: its position, and the space before it
pub record Lies (cs : List ℕ) (i k place : ℕ) : Type 0 where
  pub long : slice_get (lengths cs) place ≡ Some (i + 1)
  pub before : space (take place (lengths cs)) ≡ space (lengths (take i cs)) + k * extent (i + 1)

take-replicate_front : (k c l : ℕ) (ys : List ℕ) → k ≤ c → take k (replicate c l ++ ys) ≡ replicate k l
take-replicate_front zero c l ys h = refl
take-replicate_front (suc k) zero l ys h = absurd (omega (arith, h))
take-replicate_front (suc k) (suc c) l ys h = ap (λ t. l ∷ t) (take-replicate_front k c l ys (omega (arith, h)))

slice_get-replicate : (k c l : ℕ) → k < c → slice_get (replicate c l) k ≡ Some l
slice_get-replicate k zero l h = absurd (omega (arith, h))
slice_get-replicate zero (suc c) l h = refl
slice_get-replicate (suc k) (suc c) l h = slice_get-replicate k c l (omega (arith, h))

take-append_past : (xs ys : List ℕ) (n k : ℕ) → n ≡ length xs + k → take n (xs ++ ys) ≡ xs ++ take k ys
take-append_past [] ys n k e = ap (λ m. take m ys) (omega (arith, e))
take-append_past (x ∷ xs) ys zero k e = absurd (omega (arith, e))
take-append_past (x ∷ xs) ys (suc n) k e = ap (λ t. x ∷ t) (take-append_past xs ys n k (omega (arith, e)))

pub lies : (cs : List ℕ) (i k place : ℕ) → i < length cs → k < get_or cs i 0 → place ≡ sum (take i cs) + k → Lies cs i k place
lies cs i k place h small e =
    let front = lengths (take i cs) in
    let mid = replicate (get_or cs i 0) (i + 1) in
    let rest = lengths_from (i + 2) (drop (i + 1) cs) in
    let at : place ≡ length (lengths (take i cs)) + k = omega (arith, length-lengths 1 (take i cs)) in
    let inside : k < length (replicate (get_or cs i 0) (i + 1)) = omega (arith, length-replicate (get_or cs i 0) (i + 1)) in
    record {
      long = ap (λ t. slice_get t place) (lengths_split cs i h)
          ∙ slice_get-append_right front (mid ++ rest) place k at
          ∙ slice_get-append_left mid rest k inside
          ∙ slice_get-replicate k (get_or cs i 0) (i + 1) small;
      before = ap (λ t. space (take place t)) (lengths_split cs i h)
          ∙ ap space (take-append_past front (mid ++ rest) place k at)
          ∙ space-append front (take k (mid ++ rest))
          ∙ ap (λ t. space front + space t) (take-replicate_front k (get_or cs i 0) (i + 1) rest (omega arith))
          ∙ ap (λ n. space front + n) (space-replicate k (i + 1));
    }

-- each position is that of some code
pub record Found (cs : List ℕ) (place : ℕ) : Type 0 where
  pub i : ℕ
  pub k : ℕ
  pub within : i < length cs
  pub small : k < get_or cs i 0
  pub at : place ≡ sum (take i cs) + k

pub found : (cs : List ℕ) (place : ℕ) → place < sum cs → Found cs place
found [] place h = absurd (omega (arith, h))
found (c ∷ cs) place h = ⊎_elim
    (λ low. record { i = 0; k = place; within = omega arith; small = low; at = omega arith })
    (λ high.
    let f = found cs (place - c) (omega (arith, sum_by-cons (λ x. x) c cs)) in
    record { i = suc f.i; k = f.k; within = omega (arith, f.within); small = f.small; at = omega (arith, f.at, sum_by-cons (λ x. x) c (take f.i cs)) })
    (cases_lt place c)

-- the space of all shorter codes is a multiple of that of a code of i bits
pub record Whole (cs : List ℕ) (i : ℕ) : Type 0 where
  pub times : ℕ
  pub is : space (lengths (take i cs)) ≡ times * extent i

pub extent_halves : (i : ℕ) → i < 16 → extent i ≡ 2 * extent (i + 1)
extent_halves i h =
    let e : 16 - i ≡ suc (16 - (i + 1)) = omega arith in
    ap (λ n. 2 ^ n) e ∙ pow-suc 2 (16 - (i + 1)) ∙ mul_comm (2 ^ (16 - (i + 1))) 2

pub doubled : (a b c : ℕ) → a * (2 * b) + c * b ≡ (2 * a + c) * b
doubled a b c = omega (arith, mul_assoc a 2 b, add-mul (a * 2) c b, mul_comm a 2)

pub space-nil : space [] ≡ 0
unfolding space
space-nil = refl

pub whole : (cs : List ℕ) (i : ℕ) → i ≤ length cs → i ≤ 16 → Whole cs i
whole cs zero h short = record { times = 0; is = space-nil ∙ omega arith }
whole cs (suc i) h short =
    let w = whole cs i (omega arith) (omega arith) in
    let e : i + 1 ≡ suc i = omega arith in
    record {
      times = 2 * w.times + get_or cs i 0;
      is = rw (← e) (space_more cs i (omega arith)
          ∙ ap (λ n. n + get_or cs i 0 * extent (i + 1)) (w.is ∙ ap (λ n. w.times * n) (extent_halves i (omega arith)))
          ∙ doubled w.times (extent (i + 1)) (get_or cs i 0));
    }

-- ---- the codes

pub extent_pos : (l : ℕ) → 0 < extent l
extent_pos l = pow_pos (16 - l)

-- a code of i + 1 bits, by its number among those
pub record Spelled (t : Table) (word : List Bool) (i k place : ℕ) : Type 0 where
  pub within : i < length t.counts
  pub small : k < get_or t.counts i 0
  pub at : place ≡ sum (take i t.counts) + k
  pub long : length word ≡ i + 1
  pub times : ℕ
  pub before : space (lengths (take i t.counts)) ≡ times * extent i
  pub is : number word ≡ 2 * times + k
  pub exact : number word * extent (length word) ≡ space (take place (lengths t.counts))

pub div_extent : (n l : ℕ) → n * extent l / extent l ≡ n
div_extent n l = mul-div_left n (extent_pos l)

pub same_times : (a b r : ℕ) → 0 < r → a * r ≡ b * r → a ≡ b
same_times a b r h e = sym (mul-div_left a h) ∙ ap (λ n. n / r) e ∙ mul-div_left b h

same_some : (a b : ℕ) (o : Option ℕ) → o ≡ Some a → o ≡ Some b → a ≡ b
same_some a b o p q = cc

pub spelled : (t : Table) (word : List Bool) (s : ℕ) (w : IsWord t word s) → (i : ℕ) × (k : ℕ) × Spelled t word i k w.place
spelled t word s w =
    let inside : w.place < sum t.counts = omega (arith, slice_get_within (lengths t.counts) w.place (length word) w.long, length-lengths 1 t.counts) in
    let f = found t.counts w.place inside in
    let st = lies t.counts f.i f.k w.place f.within f.small f.at in
    let long : length word ≡ f.i + 1 = same_some (length word) (f.i + 1) (slice_get (lengths t.counts) w.place) w.long st.long in
    let wh = whole t.counts f.i (omega (arith, f.within)) (omega (arith, long, w.short)) in
    let sum_is : space (take w.place (lengths t.counts)) ≡ (2 * wh.times + f.k) * extent (f.i + 1) =
    st.before ∙ ap (λ n. n + f.k * extent (f.i + 1)) (wh.is ∙ ap (λ n. wh.times * n) (extent_halves f.i (omega (arith, long, w.short))))
    ∙ doubled wh.times (extent (f.i + 1)) f.k in
    let is : number word ≡ 2 * wh.times + f.k =
    w.written ∙ ap (λ n. n / extent (length word)) sum_is ∙ ap (λ l. (2 * wh.times + f.k) * extent (f.i + 1) / extent l) long
    ∙ div_extent (2 * wh.times + f.k) (f.i + 1) in (
      f.i,
      f.k,
      record {
        within = f.within;
        small = f.small;
        at = f.at;
        long = long;
        times = wh.times;
        before = wh.is;
        is = is;
        exact = ap (λ l. number word * extent l) long ∙ ap (λ n. n * extent (f.i + 1)) is ∙ sym sum_is;
      },
    )

-- a code's space lies before each later position
space_later : (ls : List ℕ) (p q l : ℕ) → p < q → slice_get ls p ≡ Some l → space (take p ls) + extent l ≤ space (take q ls)
unfolding space
space_later ls p q l h e =
    let inside : p < length ls = slice_get_within ls p l e in
    let more : sum_by extent (take (p + 1) ls) ≡ sum_by extent (take p ls) + extent (get_or ls p 0) = sum_by_more extent ls p 0 inside in
    let here : extent (get_or ls p 0) ≡ extent l = ap extent (get_or_from_slice_get ls p l 0 e) in
    let front : take (p + 1) (take q ls) ≡ take (p + 1) ls = take-take (p + 1) q ls (omega arith) in
    let le : sum_by extent (take (p + 1) (take q ls)) ≤ sum_by extent (take q ls) = sum_by-take-le extent (take q ls) (p + 1) in
    omega (arith, ap (λ t. sum_by extent t) front)

-- the space of a code is a multiple of that of a longer one
extent_inside : (a z : ℕ) → a + z ≤ 16 → extent a ≡ 2 ^ z * extent (a + z)
extent_inside a z h =
    let e : 16 - a ≡ z + (16 - (a + z)) = omega arith in
    ap (λ n. 2 ^ n) e ∙ pow-add 2 z (16 - (a + z))

pub extent_all : (l : ℕ) → l ≤ 16 → 65536 ≡ 2 ^ l * extent l
extent_all l h =
    let e : 0 + l ≡ l = omega arith in
    extent_inside 0 l (omega arith) ∙ ap (λ n. 2 ^ l * extent n) e

-- where the space of the longer code begins
number_inside : (a z : List Bool) → length a + length z ≤ 16
    → (number (a ++ z) * extent (length (a ++ z)) ≡ number a * extent (length a) + number z * extent (length a + length z))
    × (number z * extent (length a + length z) < extent (length a))
number_inside a z h =
    let r = extent (length a + length z) in
    let e : length (a ++ z) ≡ length a + length z = length-append a z in
    let whole_extent : extent (length a) ≡ 2 ^ length z * extent (length a + length z) = extent_inside (length a) (length z) h in
    let small : number z * extent (length a + length z) < 2 ^ length z * extent (length a + length z) = mul-lt-mul_of_pos_right (number_below z) (extent_pos (length a + length z)) in (
      ap (λ l. number (a ++ z) * extent l) e
          ∙ ap (λ n. n * r) (number-append a z)
          ∙ add-mul (number a * 2 ^ length z) (number z) r
          ∙ ap (λ n. n + number z * r) (mul_assoc (number a) (2 ^ length z) r ∙ ap (λ n. number a * n) (sym whole_extent)),
      omega arith,
    )

-- a code that begins another has the same position
same_place : (t : Table) (a z : List Bool) (s u : ℕ) (v : IsWord t a s) (w : IsWord t (a ++ z) u) → v.place ≡ w.place
same_place t a z s u v w =
    let long : length a + length z ≤ 16 = omega (arith, w.short, length-append a z) in
    let n = number_inside a z long in
    let first = (spelled t a s v).2 in
    let second = (spelled t (a ++ z) u w).2 in
    ⊎_elim (λ e. e) (λ o. ⊎_elim
    (λ lt. absurd (omega (arith, n.0, n.1, first.exact, second.exact, space_later (lengths t.counts) v.place w.place (length a) lt v.long)))
    (λ gt. absurd (omega (arith, n.0, n.1, first.exact, second.exact, extent_pos (length (a ++ z)), space_later (lengths t.counts) w.place v.place (length (a ++ z)) gt w.long)))
    o)
    (cases_order v.place w.place)

-- of two prefixes of one list, the longer one begins with the shorter
go_on : {X : Type 0} (a b x y : List X) → length a ≤ length b → a ++ x ≡ b ++ y → b ≡ a ++ drop (length a) b
go_on [] b x y h e = refl
go_on (p ∷ a) [] x y h e = absurd (omega (arith, h))
go_on (p ∷ a) (q ∷ b) x y h e =
    let heads : p ≡ q = cc in
    let tails : a ++ x ≡ b ++ y = cc in
    let ih : b ≡ a ++ drop (length a) b = go_on a b x y (omega (arith, h)) tails in
    ap (λ t. q ∷ t) ih ∙ ap (λ t. t ∷ (a ++ drop (length a) b)) (sym heads)

length_zero : {X : Type 0} (a z : List X) → length (a ++ z) ≡ length a → a ++ z ≡ a
length_zero a [] e = append-nil a
length_zero a (x ∷ z) e = absurd (omega (arith, e, length-append a (x ∷ z)))

-- one position has one code and one symbol
same_word : (t : Table) (a b : List Bool) (s u : ℕ) (v : IsWord t a s) (w : IsWord t b u) → v.place ≡ w.place → (length a ≡ length b) × (s ≡ u)
same_word t a b s u v w e = (
  same_some (length a) (length b) (slice_get (lengths t.counts) w.place) (ap (λ p. slice_get (lengths t.counts) p) (sym e) ∙ v.long) w.long,
  same_some s u (slice_get t.symbols w.place) (ap (λ p. slice_get t.symbols p) (sym e) ∙ v.known) w.known,
)

-- no code begins another, if the first is no longer
one_word_ordered : (t : Table) (a b x y : List Bool) (s u : ℕ) → IsWord t a s → IsWord t b u → length a ≤ length b → a ++ x ≡ b ++ y → (a ≡ b) × (s ≡ u)
one_word_ordered t a b x y s u v w le e =
    let on : b ≡ a ++ drop (length a) b = go_on a b x y le e in
    let z = drop (length a) b in
    let w' : IsWord t (a ++ drop (length a) b) u = subst (λ (d : List Bool). IsWord t d u) on w in
    let place : v.place ≡ w'.place = same_place t a (drop (length a) b) s u v w' in
    let same = same_word t a (a ++ drop (length a) b) s u v w' place in
    (sym (on ∙ length_zero a (drop (length a) b) (sym same.0)), same.1)

-- what begins with two codes begins with one
pub one_word : (t : Table) (a b x y : List Bool) (s u : ℕ) → IsWord t a s → IsWord t b u → a ++ x ≡ b ++ y → (a ≡ b) × (s ≡ u)
one_word t a b x y s u v w e = ⊎_elim
    (λ le. one_word_ordered t a b x y s u v w (omega (arith, le)) e)
    (λ ge. let r = one_word_ordered t b a y x u s w v ge (sym e) in (sym r.0, sym r.1))
    (cases_lt (length a) (length b))

-- each position of a valid table has a code
pub word_exists : (t : Table) (place s : ℕ) → IsValidTable t.counts t.symbols → slice_get t.symbols place ≡ Some s
    → (word : List Bool) × (w : IsWord t word s) × (w.place ≡ place)
unfolding space
word_exists t place s valid known =
    let inside : place < sum t.counts = omega (arith, slice_get_within t.symbols place s known, valid.each) in
    let f = found t.counts place inside in
    let st = lies t.counts f.i f.k place f.within f.small f.at in
    let short : f.i < 16 = omega (arith, f.within, valid.sixteen) in
    let wh = whole t.counts f.i (omega (arith, f.within)) (omega (arith, short)) in
    let v = 2 * wh.times + f.k in
    let r = extent (f.i + 1) in
    let sum_is : sum_by extent (take place (lengths t.counts)) ≡ v * extent (f.i + 1) =
    st.before ∙ ap (λ n. n + f.k * extent (f.i + 1)) (wh.is ∙ ap (λ n. wh.times * n) (extent_halves f.i short))
    ∙ doubled wh.times (extent (f.i + 1)) f.k in
    let there : place < length (lengths t.counts) = slice_get_within (lengths t.counts) place (f.i + 1) st.long in
    let own : extent (get_or (lengths t.counts) place 0) ≡ extent (f.i + 1) = ap extent (get_or_from_slice_get (lengths t.counts) place (f.i + 1) 0 st.long) in
    let le : sum_by extent (take place (lengths t.counts)) + extent (get_or (lengths t.counts) place 0) ≤ sum_by extent (lengths t.counts) = sum_by_more_le extent (lengths t.counts) place 0 there in
    let all : 65536 ≡ 2 ^ (f.i + 1) * extent (f.i + 1) = extent_all (f.i + 1) (omega (arith, short)) in
    let below : v * extent (f.i + 1) < 2 ^ (f.i + 1) * extent (f.i + 1) = omega (arith, valid.ample, extent_pos (f.i + 1)) in
    let fits : v < 2 ^ (f.i + 1) = lt_of_mul-lt-mul_right (extent (f.i + 1)) below in
    let long : length (bits_of (f.i + 1) v) ≡ f.i + 1 = length-bits_of (f.i + 1) v in (
      bits_of (f.i + 1) v,
      record {
        place = place;
        known = known;
        long = st.long ∙ ap (λ n. Some n) (sym long);
        short = omega (arith, long, short);
        written = number-bits_of (f.i + 1) v ∙ mod-eq_of_lt fits
            ∙ sym (ap (λ n. n / extent (length (bits_of (f.i + 1) v))) sum_is ∙ ap (λ l. v * extent (f.i + 1) / extent l) long ∙ div_extent v (f.i + 1));
      },
      refl,
    )

-- the test of two tables decides whether they are one
pub tables_decide : (s t : Table) → Decides (same_table s t) (s ≡ t)
tables_decide s t =
    let c = bytes_decides s.counts t.counts in
    let y = bytes_decides s.symbols t.symbols in (
      λ e. let b = and_parts (pointwise ◌==◌ s.counts t.counts) (pointwise ◌==◌ s.symbols t.symbols) e in
          let p : s.counts ≡ t.counts = c.0 b.0 in
          let q : s.symbols ≡ t.symbols = y.0 b.1 in
          λ i. record { counts = p i; symbols = q i },
      λ e. and_from (pointwise ◌==◌ s.counts t.counts) (pointwise ◌==◌ s.symbols t.symbols) (c.1 (ap (λ (x : Table). x.counts) e)) (y.1 (ap (λ (x : Table). x.symbols) e)),
    )
