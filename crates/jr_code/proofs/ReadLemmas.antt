-- How the codes of a code table are read: by a window of eight bits, and by length.
use Rattle.std.proofs.Common.{false, ◌≡◌, ℕ, ◌+◌, ◌-◌, ◌*◌, ◌/◌, ◌%◌, ◌^◌, ◌<◌, ◌≤◌, Bool, List, [], ◌++◌, length, drop, take, get_or, replicate, refl, sym, ◌∙◌, ap, arith, length-append, lit<, ⊎_elim, subst}
use Rattle.std.specs.Prelude.{◌⊎◌, slice_get, Option, Some, None, IfSome, IfNone, sum}
use Rattle.std.proofs.lemmas.Bool.{cases_order}
use Rattle.std.proofs.lemmas.Nat.{mul-le, shr_below}
use Rattle.std.proofs.lemmas.List.{append-nil, take-take, length-take-le, take-append-drop, take_at, take-append-le}
use Rattle.std.proofs.lemmas.List.Sums.{sum_by_more_le}
use Rattle.std.proofs.lemmas.Option.{slice_get_read}
use Rattle.std.proofs.Math.Nat.{mul_assoc, mul_comm, le-mul_of_pos_right, pow-le-pow_right, mod-eq_of_lt}
use Rattle.jr_code.specs.Bits.{number, bits_of, window_of}
use Rattle.jr_code.specs.Code.{IsEntry, Table, HasNoFirstWord, IsFirstWordWhereWhole, IsWord, IsValidTable, lengths_from, lengths, extent, space}
use Rattle.jr_code.proofs.BitLemmas.{length-bits_of, number-bits_of}
use Rattle.jr_code.proofs.RegisterLemmas.{take-held}
use Rattle.jr_code.proofs.CodeLemmas.{lengths-append, space-append, space_more, lies, extent_halves, doubled, whole, extent_pos, div_extent, same_times, spelled, one_word}

-- ---- the codes of one length

-- `code` is the number of the first i + 1 bits; `end` is past the greatest code of i bits
pub word_found : (t : Table) (bs : List Bool) (i code end k s : ℕ) → i < 16 → i < length t.counts → i < length bs
    → end * extent i ≡ space (lengths (take i t.counts)) → number (take (i + 1) bs) ≡ code → code ≡ 2 * end + k → k < get_or t.counts i 0
    → slice_get t.symbols (sum (take i t.counts) + k) ≡ Some s → IsWord t (take (i + 1) bs) s
word_found t bs i code end k s short within enough full is split small known =
    let place = sum (take i t.counts) + k in
    let st = lies t.counts i k place within small refl in
    let long : length (take (i + 1) bs) ≡ i + 1 = length-take-le (i + 1) bs (omega arith) in
    let sum_is : space (take place (lengths t.counts)) ≡ (2 * end + k) * extent (i + 1) =
    st.before ∙ ap (λ n. n + k * extent (i + 1)) (sym full ∙ ap (λ n. end * n) (extent_halves i short)) ∙ doubled end (extent (i + 1)) k in
    record {
      place = place;
      known = known;
      long = st.long ∙ ap (λ n. Some n) (sym long);
      short = omega arith;
      written = is ∙ split ∙ sym (ap (λ n. n / extent (length (take (i + 1) bs))) sum_is ∙ ap (λ l. (2 * end + k) * extent (i + 1) / extent l) long ∙ div_extent (2 * end + k) (i + 1));
    }

-- no prefix of i + 1 bits is a code, if their number is past the greatest of them
pub none_here : (t : Table) (bs word rest : List Bool) (i code end s : ℕ)
    → end * extent i ≡ space (lengths (take i t.counts)) → number (take (i + 1) bs) ≡ code → ((k : ℕ) → k < get_or t.counts i 0 → code ≡ 2 * end + k → ⊥)
    → IsWord t word s → bs ≡ word ++ rest → i < length word → i + 1 < length word
none_here t bs word rest i code end s full is past w begins longer =
    ⊎_elim (λ e.
    let sp = spelled t word s w in
    let same : sp.0 ≡ i = omega (arith, sp.2.long, e) in
    let front : take (i + 1) bs ≡ word = ap (λ b. take (i + 1) b) begins ∙ take_at word rest (i + 1) (sym e) in
    let times : end ≡ sp.2.times = same_times end sp.2.times (extent i) (extent_pos i) (full ∙ ap (λ n. space (lengths (take n t.counts))) (sym same) ∙ sp.2.before ∙ ap (λ n. sp.2.times * extent n) same) in
    absurd (past sp.1 (omega (arith, sp.2.small, ap (λ n. get_or t.counts n 0) same)) (omega (arith, is, sp.2.is, ap number front, times))))
    (λ o. ⊎_elim (λ lt. lt) (λ gt. absurd (omega (arith, gt, longer))) o)
    (cases_order (i + 1) (length word))

pub word_not_empty : (t : Table) (word : List Bool) (s : ℕ) → IsWord t word s → 0 < length word
word_not_empty t word s w = omega (arith, (spelled t word s w).2.long)

-- the symbol at a code's position
pub known_there : (t : Table) (symbols : List ℕ) (i k at s : ℕ) → symbols ≡ t.symbols → sum t.counts ≡ length t.symbols → i < length t.counts
    → k < get_or t.counts i 0 → at ≡ sum (take i t.counts) + k → s ≡ get_or symbols at s → slice_get t.symbols (sum (take i t.counts) + k) ≡ Some s
known_there t symbols i k at s same each within small place read =
    let more : sum (take i t.counts) + get_or t.counts i 0 ≤ sum t.counts = sum_by_more_le (λ n. n) t.counts i 0 within in
    let inside : at < length symbols = omega (arith, ap length same) in
    rw (← place, ← same) (slice_get_read symbols (length symbols) at s refl inside read)

pub full_more : (t : Table) (i end count after : ℕ) → i < 16 → i < length t.counts → end * extent i ≡ space (lengths (take i t.counts)) → count ≡ get_or t.counts i 0
    → after ≡ 2 * end + count → after * extent (i + 1) ≡ space (lengths (take (i + 1) t.counts))
full_more t i end count after short within full is e =
    ap (λ n. n * extent (i + 1)) e ∙ sym (doubled end (extent (i + 1)) count)
    ∙ ap (λ n. end * n + count * extent (i + 1)) (sym (extent_halves i short))
    ∙ ap (λ n. n + count * extent (i + 1)) full
    ∙ ap (λ n. space (lengths (take i t.counts)) + n * extent (i + 1)) is
    ∙ sym (space_more t.counts i within)

-- a count shifted is the space of its codes
pub shifted : (count i : ℕ) → count ≤ 255 → i < 16 → (count * 2 ^ (15 - i) % 4294967296 ≡ count * extent (i + 1)) × (count * extent (i + 1) ≤ 8355840)
shifted count i small h =
    let e : 15 - i ≡ 16 - (i + 1) = omega arith in
    let few : 15 - i ≤ 15 = omega arith in
    let pow : 2 ^ (15 - i) ≤ 2 ^ 15 = pow-le-pow_right (lit< tt) few in
    let same : count * 2 ^ (15 - i) ≡ count * extent (i + 1) = ap (λ n. count * 2 ^ n) e in
    let le : count * 2 ^ (15 - i) ≤ 255 * 2 ^ 15 = mul-le count (2 ^ (15 - i)) 255 (2 ^ 15) small pow in
    (mod-eq_of_lt (omega arith) ∙ same, omega arith)

-- ---- windows: the next n bits, with zeros instead of those that are missing

take-window : (k n : ℕ) (bs : List Bool) → k ≤ n → k ≤ length bs → take k (window_of n bs) ≡ take k bs
take-window k n bs h e = take-take k n (bs ++ replicate n false) h ∙ take-append-le k bs (replicate n false) e

-- a code that begins what is left, and is no longer than the window, begins the window
begins_window : (n : ℕ) (bs word rest : List Bool) → bs ≡ word ++ rest → length word ≤ n → window_of n bs ≡ word ++ drop (length word) (window_of n bs)
begins_window n bs word rest e h =
    let fits : length word ≤ length bs = omega (arith, ap length e, length-append word rest) in
    let front : take (length word) (window_of n bs) ≡ word = take-window (length word) n bs h fits ∙ ap (λ b. take (length word) b) e ∙ take_at word rest (length word) refl in
    sym (take-append-drop (length word) (window_of n bs)) ∙ ap (λ f. f ++ drop (length word) (window_of n bs)) front

-- the bits begin with a window's code if it is whole; if it is cut off they begin with none, for no code begins another
pub window_word : (n : ℕ) (t : Table) (bs : List Bool) (w s long : ℕ) → bits_of n w ≡ window_of n bs → long ≤ n → IsWord t (take long (bits_of n w)) s → IsFirstWordWhereWhole t bs s long
window_word n t bs w s long e h is = (
  λ fits. rw (← take-window long n bs h fits, ← e) is,
  λ cut word rest u v begins.
      let fits : length word ≤ length bs = omega (arith, ap length begins, length-append word rest) in
      let same = one_word t (take long (bits_of n w)) word (drop long (bits_of n w)) (drop (length word) (window_of n bs)) s u is v
      (take-append-drop long (bits_of n w) ∙ e ∙ begins_window n bs word rest begins (omega arith)) in
      let full : length (take long (bits_of n w)) ≡ long = length-take-le long (bits_of n w) (omega (arith, h, length-bits_of n w)) in
      omega (arith, ap length same.0),
)

-- the bits begin with no short code and with no long one
pub window_none : (t : Table) (bs : List Bool) (byte w : ℕ) → bits_of 8 byte ≡ window_of 8 bs → IsEntry t byte None → bits_of 16 w ≡ window_of 16 bs
    → ((word rest : List Bool) (s : ℕ) → IsWord t word s → bits_of 16 w ≡ word ++ rest → length word ≤ 8) → HasNoFirstWord t bs
window_none t bs byte w e none f short = λ word rest s is begins.
    let few : length word ≤ 8 = short word (drop (length word) (window_of 16 bs)) s is (f ∙ begins_window 16 bs word rest begins is.short) in
    none word (drop (length word) (window_of 8 bs)) s is (e ∙ begins_window 8 bs word rest begins few)

-- the number of a window's first n bits
pub number_window : (n w : ℕ) → n ≤ 16 → w < 65536 → number (take n (bits_of 16 w)) ≡ w / 2 ^ (16 - n)
number_window n w h small =
    let e : n + (16 - n) ≡ 16 = omega arith in
    ap number (ap (λ t. take n t) (sym (append-nil (bits_of 16 w))) ∙ take-held n 16 w [] h) ∙ number-bits_of n (w / 2 ^ (16 - n))
    ∙ mod-eq_of_lt (shr_below w n (16 - n) (omega (arith, small, ap (λ k. 2 ^ k) e)))

-- the window begins with no code of 9 to 8 + k bits
pub record Longer (t : Table) (window k : ℕ) : Type 0 where
  pub none : (word rest : List Bool) (s : ℕ) → IsWord t word s → bits_of 16 window ≡ word ++ rest → 8 < length word → 8 + k < length word

-- the least code of i + 1 bits is twice the end of those of i bits
first_is : (t : Table) (i first : ℕ) → i < 16 → i < length t.counts → first * extent (i + 1) ≡ space (lengths (take i t.counts))
    → (end : ℕ) × (first ≡ 2 * end) × (end * extent i ≡ space (lengths (take i t.counts)))
first_is t i first short within e =
    let wh = whole t.counts i (omega (arith, within)) (omega (arith, short)) in
    let r = extent (i + 1) in
    let twice : first * extent (i + 1) ≡ 2 * wh.times * extent (i + 1) =
    e ∙ wh.is ∙ ap (λ n. wh.times * n) (extent_halves i short) ∙ sym (mul_assoc wh.times 2 (extent (i + 1))) ∙ ap (λ n. n * extent (i + 1)) (mul_comm wh.times 2) in
    (wh.times, same_times first (2 * wh.times) (extent (i + 1)) (extent_pos (i + 1)) twice, sym wh.is)

-- twice that end is the least code of the next length
pub first_of : (t : Table) (k end : ℕ) → k < 8 → end * extent (k + 8) ≡ space (lengths (take (k + 8) t.counts)) → 2 * end * extent (k + 9) ≡ space (lengths (take (k + 8) t.counts))
first_of t k end short e =
    let nine : k + 8 + 1 ≡ k + 9 = omega arith in
    ap (λ n. n * extent (k + 9)) (mul_comm 2 end) ∙ mul_assoc end 2 (extent (k + 9)) ∙ ap (λ l. end * (2 * extent l)) (sym nine)
    ∙ ap (λ n. end * n) (sym (extent_halves (k + 8) (omega (arith, short)))) ∙ e

pub long_found : (t : Table) (w k first m s : ℕ) → w < 65536 → k < 8 → k + 8 < length t.counts → first * extent (k + 9) ≡ space (lengths (take (k + 8) t.counts))
    → w / 2 ^ (7 - k) ≡ first + m → m < get_or t.counts (k + 8) 0 → slice_get t.symbols (sum (take (k + 8) t.counts) + m) ≡ Some s
    → IsWord t (take (k + 9) (bits_of 16 w)) s
long_found t w k first m s fits short within e code small known =
    let nine : k + 8 + 1 ≡ k + 9 = omega arith in
    let shift : 16 - (k + 9) ≡ 7 - k = omega arith in
    let f = first_is t (k + 8) first (omega (arith, short)) within (ap (λ l. first * extent l) nine ∙ e) in
    let number_is : number (take (k + 8 + 1) (bits_of 16 w)) ≡ first + m =
    ap (λ l. number (take l (bits_of 16 w))) nine ∙ number_window (k + 9) w (omega (arith, short)) fits ∙ ap (λ j. w / 2 ^ j) shift ∙ code in
    subst (λ l. IsWord t (take l (bits_of 16 w)) s) nine
    (word_found t (bits_of 16 w) (k + 8) (first + m) f.0 m s (omega (arith, short)) within (omega (arith, short, length-bits_of 16 w)) f.2 number_is (omega (arith, f.1)) small known)

pub long_none : (t : Table) (w k first : ℕ) → w < 65536 → k < 8 → k + 8 < length t.counts → first * extent (k + 9) ≡ space (lengths (take (k + 8) t.counts))
    → ((m : ℕ) → m < get_or t.counts (k + 8) 0 → w / 2 ^ (7 - k) ≡ first + m → ⊥)
    → (word rest : List Bool) (s : ℕ) → IsWord t word s → bits_of 16 w ≡ word ++ rest → 8 + k < length word → 8 + (k + 1) < length word
long_none t w k first fits short within e past word rest s is begins longer =
    let nine : k + 8 + 1 ≡ k + 9 = omega arith in
    let shift : 16 - (k + 9) ≡ 7 - k = omega arith in
    let f = first_is t (k + 8) first (omega (arith, short)) within (ap (λ l. first * extent l) nine ∙ e) in
    let number_is : number (take (k + 8 + 1) (bits_of 16 w)) ≡ w / 2 ^ (7 - k) =
    ap (λ l. number (take l (bits_of 16 w))) nine ∙ number_window (k + 9) w (omega (arith, short)) fits ∙ ap (λ j. w / 2 ^ j) shift in
    omega (
      arith,
      none_here t (bits_of 16 w) word rest (k + 8) (w / 2 ^ (7 - k)) f.0 s f.2 number_is
          (λ m small same. past m small (omega (arith, same, f.1))) is begins (omega (arith, longer)),
    )

pub long_word : (t : Table) (bs : List Bool) (w : ℕ) (r : Option (ℕ × ℕ)) → bits_of 16 w ≡ window_of 16 bs → IfSome r (λ f. (f.1 ≤ 16) × IsWord t (take f.1 (bits_of 16 w)) f.0)
    → IfSome r (λ f. IsFirstWordWhereWhole t bs f.0 f.1)
long_word t bs w None e is = is
long_word t bs w (Some f) e is = window_word 16 t bs w f.0 f.1 e is.0 is.1

pub no_word : (t : Table) (bs : List Bool) (byte w : ℕ) (r : Option (ℕ × ℕ)) → bits_of 8 byte ≡ window_of 8 bs → IsEntry t byte None → bits_of 16 w ≡ window_of 16 bs
    → IfNone r ((word rest : List Bool) (s : ℕ) → IsWord t word s → bits_of 16 w ≡ word ++ rest → length word ≤ 8) → IfNone r (HasNoFirstWord t bs)
no_word t bs byte w None e none f short = window_none t bs byte w e none f short
no_word t bs byte w (Some g) e none f short = short

-- the bits begin with a byte's code if there are eight bits or more
pub entry_word : (t : Table) (bs : List Bool) (byte count : ℕ) (r : Option (ℕ × ℕ)) → bits_of 8 byte ≡ window_of 8 bs → 8 ≤ count → count ≤ length bs → IsEntry t byte r
    → IfSome r (λ f. (f.1 ≤ count) × IsWord t (take f.1 bs) f.0)
entry_word t bs byte count None e many all entry = tt
entry_word t bs byte count (Some f) e many all entry =
    (omega (arith, entry.0, many), (window_word 8 t bs byte f.0 f.1 e entry.0 entry.1).0 (omega (arith, entry.0, many, all)))

-- if a register's bits begin with no code, all bits don't, if the register has enough bits for the longest or no bits follow
pub held_none : (t : Table) (bs rest : List Bool) → (16 ≤ length bs) ⊎ (rest ≡ []) → HasNoFirstWord t bs → HasNoFirstWord t (bs ++ rest)
held_none t bs rest many none = λ word after s w begins.
    ⊎_elim
    (λ enough.
    let front : take (length word) bs ≡ word =
    sym (take-append-le (length word) bs rest (omega (arith, w.short))) ∙ ap (λ b. take (length word) b) begins ∙ take_at word after (length word) refl in
    none word (drop (length word) bs) s w (sym (take-append-drop (length word) bs) ∙ ap (λ f. f ++ drop (length word) bs) front))
    (λ empty. none word after s w (sym (append-nil bs) ∙ ap (λ r. bs ++ r) (sym empty) ∙ begins))
    many

pub nil_none : (t : Table) (bs : List Bool) → HasNoFirstWord t (bs ++ []) → HasNoFirstWord t bs
nil_none t bs none = subst (λ b. HasNoFirstWord t b) (append-nil bs) none

pub nil_word : (t : Table) (bs : List Bool) (s long : ℕ) → IsFirstWordWhereWhole t (bs ++ []) s long → IsFirstWordWhereWhole t bs s long
nil_word t bs s long is = subst (λ b. IsFirstWordWhereWhole t b s long) (append-nil bs) is

pub if_none : {X : Type 0} (P : Type 0) (r : Option X) → P → IfNone r P
if_none P None p = p
if_none P (Some x) p = tt

-- a code's position among the symbols
pub place_within : (t : Table) (i shorter k : ℕ) → sum t.counts ≡ length t.symbols → i < length t.counts → shorter ≡ sum (take i t.counts) → k < get_or t.counts i 0
    → shorter + k < length t.symbols
place_within t i shorter k each within is small = omega (arith, each, is, small, sum_by_more_le (λ n. n) t.counts i 0 within)

pub end_below : (t : Table) (i end : ℕ) → IsValidTable t.counts t.symbols → end * extent i ≡ space (lengths (take i t.counts)) → end ≤ 65536
end_below t i end valid full =
    let split : space (lengths t.counts) ≡ space (lengths (take i t.counts)) + space (lengths_from (1 + length (take i t.counts)) (drop i t.counts)) =
    ap (λ c. space (lengths c)) (sym (take-append-drop i t.counts)) ∙ ap space (lengths-append 1 (take i t.counts) (drop i t.counts))
    ∙ space-append (lengths (take i t.counts)) (lengths_from (1 + length (take i t.counts)) (drop i t.counts)) in
    omega (arith, valid.ample, le-mul_of_pos_right end (extent_pos i))
