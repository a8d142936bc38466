-- The windows that begin with a code, and the codes of one length.
use Rattle.std.proofs.Common.{◌≡◌, ◌≢◌, ℕ, ◌+◌, ◌-◌, ◌*◌, ◌/◌, ◌^◌, ◌<◌, ◌≤◌, Bool, List, [], length, drop, take, get_or, replicate, refl, sym, ◌∙◌, ap, arith, subst, length-append, ⊎_elim, get_or-set_same, get_or-set_other}
use Rattle.std.specs.Prelude.{slice_get, slice_index_or, slice_set, Option, Some, None, sum}
use Rattle.std.proofs.lemmas.Nat.{pow-add, pow_pos, shr_high, shr_below}
use Rattle.std.proofs.lemmas.Bool.{cases_eq}
use Rattle.std.proofs.lemmas.Option.{slice_get_within}
use Rattle.std.proofs.lemmas.List.{get_or-replicate, length-take, length-take-le, append-nil, take_all, take-append-drop, take_at}
use Rattle.std.proofs.Math.Nat.{mul_comm, mul-div_left, mul-le-mul_right, le_of_mul-le-mul_right, add-mul, mod-eq_of_lt}
use Rattle.jr_code.specs.Bits.{number, bits_of}
use Rattle.jr_code.specs.Code.{Table, IsWord, IsValidTable, IsEntryTo, AreEntriesTo, AreEntries, IsEntry, ArePairs, IsPackedPair, nothing, outside, lengths_from, lengths, extent, space}
use Rattle.jr_code.specs.declared.packed.Packed.{Packed}
use Rattle.jr_code.proofs.BitLemmas.{length-bits_of, number-bits_of, slice_get-append_left, slice_get-append_right}
use Rattle.jr_code.proofs.RegisterLemmas.{take-held}
use Rattle.jr_code.proofs.CodeLemmas.{lengths-append, space-append, extent_all, extent_pos, same_times, spelled}
use Rattle.jr_code.proofs.ReadLemmas.{word_found, word_not_empty, full_more}

-- the number of the windows of n bits that begin with a code
pub windows_of : (n long : ℕ) → long ≤ n → 2 ^ n / 2 ^ long ≡ 2 ^ (n - long)
windows_of n long h =
    let e : n - long + long ≡ n = omega arith in
    ap (λ k. 2 ^ k / 2 ^ long) (sym e) ∙ ap (λ x. x / 2 ^ long) (pow-add 2 (n - long) long) ∙ mul-div_left (2 ^ (n - long)) (pow_pos long)

-- they follow each other, starting at the code's first one
pub begins : (k b code : ℕ) → code * 2 ^ k ≤ b → b < code * 2 ^ k + 2 ^ k → b / 2 ^ k ≡ code
begins k b code from to =
    let e : b ≡ code * 2 ^ k + (b - code * 2 ^ k) = omega arith in
    ap (λ n. n / 2 ^ k) e ∙ shr_high code k (b - code * 2 ^ k) (omega arith)

pub begins_only : (k b code : ℕ) → b / 2 ^ k ≡ code → (code * 2 ^ k ≤ b) × (b < code * 2 ^ k + 2 ^ k)
begins_only k b code e =
    let pos = pow_pos k in
    let same : 2 ^ k * (b / 2 ^ k) ≡ code * 2 ^ k = ap (λ n. 2 ^ k * n) e ∙ mul_comm (2 ^ k) code in
    (omega arith, omega arith)

pub windows_fit : (n long code : ℕ) → long ≤ n → code < 2 ^ long → code * 2 ^ (n - long) + 2 ^ (n - long) ≤ 2 ^ n
windows_fit n long code h below =
    let e : long + (n - long) ≡ n = omega arith in
    let all : 2 ^ n ≡ 2 ^ long * 2 ^ (n - long) = ap (λ k. 2 ^ k) (sym e) ∙ pow-add 2 long (n - long) in
    let next : code + 1 ≤ 2 ^ long = omega arith in
    omega (arith, mul-le-mul_right (2 ^ (n - long)) next, add-mul code 1 (2 ^ (n - long)))

-- the first bits of a window are the last ones of what is left of it
pub take-bits_of : (long n b : ℕ) → long ≤ n → take long (bits_of n b) ≡ bits_of long (b / 2 ^ (n - long))
take-bits_of long n b h = ap (λ t. take long t) (sym (append-nil (bits_of n b))) ∙ take-held long n b [] h

-- ---- the codes of i + 1 bits, if `end` is past the greatest of i bits

-- the codes of the first i lengths fit into the code space
extent_within : (t : Table) (i : ℕ) → IsValidTable t.counts t.symbols → space (lengths (take i t.counts)) ≤ 65536
extent_within t i valid =
    let split : space (lengths t.counts) ≡ space (lengths (take i t.counts)) + space (lengths_from (1 + length (take i t.counts)) (drop i t.counts)) =
    ap (λ c. space (lengths c)) (sym (take-append-drop i t.counts)) ∙ ap space (lengths-append 1 (take i t.counts) (drop i t.counts))
    ∙ space-append (lengths (take i t.counts)) (lengths_from (1 + length (take i t.counts)) (drop i t.counts)) in
    omega (arith, valid.ample)

pub words_fit : (t : Table) (i end : ℕ) → IsValidTable t.counts t.symbols → i < 16 → end * extent i ≡ space (lengths (take i t.counts)) → 2 * end + get_or t.counts i 0 ≤ 2 ^ (i + 1)
words_fit t i end valid short full =
    let after = 2 * end + get_or t.counts i 0 in
    let more : (2 * end + get_or t.counts i 0) * extent (i + 1) ≡ space (lengths (take (i + 1) t.counts)) =
    full_more t i end (get_or t.counts i 0) (2 * end + get_or t.counts i 0) short (omega (arith, valid.sixteen)) full refl refl in
    let all : 65536 ≡ 2 ^ (i + 1) * extent (i + 1) = extent_all (i + 1) (omega arith) in
    let le : (2 * end + get_or t.counts i 0) * extent (i + 1) ≤ 2 ^ (i + 1) * extent (i + 1) = omega (arith, extent_within t (i + 1) valid) in
    le_of_mul-le-mul_right le (extent_pos (i + 1))

pub word_of : (t : Table) (i end k s : ℕ) → IsValidTable t.counts t.symbols → i < 16 → end * extent i ≡ space (lengths (take i t.counts)) → k < get_or t.counts i 0
    → slice_get t.symbols (sum (take i t.counts) + k) ≡ Some s → IsWord t (bits_of (i + 1) (2 * end + k)) s
word_of t i end k s valid short full small known =
    let bs = bits_of (i + 1) (2 * end + k) in
    let long : length (bits_of (i + 1) (2 * end + k)) ≡ i + 1 = length-bits_of (i + 1) (2 * end + k) in
    let same : take (i + 1) (bits_of (i + 1) (2 * end + k)) ≡ bits_of (i + 1) (2 * end + k) = take_all (i + 1) (bits_of (i + 1) (2 * end + k)) (omega (arith, long)) in
    let below : 2 * end + k < 2 ^ (i + 1) = omega (arith, words_fit t i end valid short full) in
    subst (λ b. IsWord t b s) same
    (word_found t bs i (2 * end + k) end k s short (omega (arith, valid.sixteen)) (omega (arith, long)) full
    (ap number same ∙ number-bits_of (i + 1) (2 * end + k) ∙ mod-eq_of_lt below) refl small known)

pub word_among : (t : Table) (i end : ℕ) → end * extent i ≡ space (lengths (take i t.counts)) → (word : List Bool) (s : ℕ) → IsWord t word s → length word ≡ i + 1
    → (k : ℕ) × (k < get_or t.counts i 0) × (number word ≡ 2 * end + k)
word_among t i end full word s w long =
    let sp = spelled t word s w in
    let same : sp.0 ≡ i = omega (arith, sp.2.long, long) in
    let times : end ≡ sp.2.times = same_times end sp.2.times (extent i) (extent_pos i) (full ∙ ap (λ n. space (lengths (take n t.counts))) (sym same) ∙ sp.2.before ∙ ap (λ n. sp.2.times * extent n) same) in
    (sp.1, omega (arith, sp.2.small, ap (λ n. get_or t.counts n 0) same), omega (arith, sp.2.is, times))

-- an element of a part of a list
pub slice_get-part : (xs : List ℕ) (a n k s : ℕ) → a ≤ length xs → slice_get (take n (drop a xs)) k ≡ Some s → (k < n) × (slice_get xs (a + k) ≡ Some s)
slice_get-part xs a n k s h e =
    let ys = drop a xs in
    let inside : k < length (take n (drop a xs)) = slice_get_within (take n (drop a xs)) k s e in
    let from : a + k ≡ length (take a xs) + k = omega (arith, length-take-le a xs h) in (
      omega (arith, length-take n (drop a xs)),
      ap (λ l. slice_get l (a + k)) (sym (take-append-drop a xs))
          ∙ slice_get-append_right (take a xs) ys (a + k) k from
          ∙ ap (λ l. slice_get l k) (sym (take-append-drop n ys))
          ∙ slice_get-append_left (take n ys) (drop n ys) k inside ∙ e,
    )

-- ---- the table for bytes

pub entries_none : (t : Table) → AreEntriesTo t 0 (replicate 256 None)
entries_none t = λ byte h. rw (get_or-replicate {A = Option (ℕ × ℕ)} 256 byte None None h) (λ word rest s w e. word_not_empty t word s w)

-- one more code is entered
pub entries_more : (t : Table) (i code s : ℕ) (old new : List (Option (ℕ × ℕ))) → i < 8 → IsWord t (bits_of (i + 1) code) s
    → ((b : ℕ) → b / 2 ^ (8 - (i + 1)) ≡ code → slice_index_or new b None ≡ Some (s, i + 1))
    → ((b : ℕ) → b / 2 ^ (8 - (i + 1)) ≢ code → slice_index_or new b None ≡ slice_index_or old b None)
    → AreEntriesTo t i old → AreEntriesTo t i new
entries_more t i code s old new short w inside outside all = λ b h. ⊎_elim
    (λ is.
    let front : take (i + 1) (bits_of 8 b) ≡ bits_of (i + 1) code = take-bits_of (i + 1) 8 b (omega arith) ∙ ap (λ n. bits_of (i + 1) n) is in
    let le : i + 1 ≤ 8 = omega arith in
    rw (inside b is) (le, subst (λ bs. IsWord t bs s) (sym front) w))
    (λ other. rw (outside b other) (all b h))
    (cases_eq (b / 2 ^ (8 - (i + 1))) code)

-- a byte without an entry begins with none of the codes that were entered
pub passed_more : (i first k s : ℕ) (old new : List (Option (ℕ × ℕ)))
    → ((b : ℕ) → b / 2 ^ (8 - (i + 1)) ≡ first + k → slice_index_or new b None ≡ Some (s, i + 1))
    → ((b : ℕ) → b / 2 ^ (8 - (i + 1)) ≢ first + k → slice_index_or new b None ≡ slice_index_or old b None)
    → ((b : ℕ) → b < 256 → slice_index_or old b None ≡ None → (m : ℕ) → m < k → b / 2 ^ (8 - (i + 1)) ≢ first + m)
    → (b : ℕ) → b < 256 → slice_index_or new b None ≡ None → (m : ℕ) → m < k + 1 → b / 2 ^ (8 - (i + 1)) ≢ first + m
passed_more i first k s old new inside outside passed b h none m lt is = ⊎_elim
    (λ here. let some = inside b here in absurd cc)
    (λ other.
    let before : m < k = ⊎_elim (λ same. absurd (other (omega arith))) (λ ne. omega arith) (cases_eq m k) in
    passed b h (sym (outside b other) ∙ none) m before is)
    (cases_eq (b / 2 ^ (8 - (i + 1))) (first + k))

number_begins : (n long b : ℕ) → long ≤ n → b < 2 ^ n → number (take long (bits_of n b)) ≡ b / 2 ^ (n - long)
number_begins n long b h small =
    let e : long + (n - long) ≡ n = omega arith in
    ap number (take-bits_of long n b h) ∙ number-bits_of long (b / 2 ^ (n - long))
    ∙ mod-eq_of_lt (shr_below b long (n - long) (omega (arith, small, ap (λ k. 2 ^ k) e)))

entry_next : (t : Table) (i first count b : ℕ) (o : Option (ℕ × ℕ)) → i < 8 → b < 256
    → ((word : List Bool) (s : ℕ) → IsWord t word s → length word ≡ i + 1 → (k : ℕ) × (k < count) × (number word ≡ first + k))
    → IsEntryTo t i b o → (o ≡ None → (m : ℕ) → m < count → b / 2 ^ (8 - (i + 1)) ≢ first + m) → IsEntryTo t (i + 1) b o
entry_next t i first count b (Some e) short small all entry passed = entry
entry_next t i first count b None short small all entry passed = λ word rest s w e.
    let longer : i < length word = entry word rest s w e in
    ⊎_elim
    (λ same.
    let k = all word s w same in
    let front : take (i + 1) (bits_of 8 b) ≡ word = ap (λ l. take (i + 1) l) e ∙ take_at word rest (i + 1) same in
    let is : b / 2 ^ (8 - (i + 1)) ≡ first + k.0 = sym (number_begins 8 (i + 1) b (omega arith) small) ∙ ap number front ∙ k.2 in
    absurd (passed refl k.0 k.1 is))
    (λ ne. omega arith)
    (cases_eq (length word) (i + 1))

-- all codes of i + 1 bits are entered
pub entries_next : (t : Table) (i first count : ℕ) (entries : List (Option (ℕ × ℕ))) → i < 8
    → ((word : List Bool) (s : ℕ) → IsWord t word s → length word ≡ i + 1 → (k : ℕ) × (k < count) × (number word ≡ first + k))
    → AreEntriesTo t i entries
    → ((b : ℕ) → b < 256 → slice_index_or entries b None ≡ None → (m : ℕ) → m < count → b / 2 ^ (8 - (i + 1)) ≢ first + m) → AreEntriesTo t (i + 1) entries
entries_next t i first count entries short all entered passed = λ b h. entry_next t i first count b (slice_index_or entries b None) short h all (entered b h) (passed b h)

entry_all : (t : Table) (b : ℕ) (o : Option (ℕ × ℕ)) → IsEntryTo t 8 b o → IsEntry t b o
entry_all t b (Some e) entry = entry
entry_all t b None entry = λ word rest s w e. omega (arith, entry word rest s w e, ap length e, length-append word rest, length-bits_of 8 b)

pub entries_all : (t : Table) (entries : List (Option (ℕ × ℕ))) → AreEntriesTo t 8 entries → AreEntries t entries
entries_all t entries entered = λ b h. entry_all t b (slice_index_or entries b None) (entered b h)

-- ---- the table for eleven bits

pub pairs_none : (t : Table) → ArePairs t (replicate 2048 nothing)
pairs_none t = λ window h. rw (get_or-replicate 2048 window nothing outside h) ((λ short. absurd (omega (arith, short))), (λ short. absurd (omega (arith, short))))

pub pairs_more : (t : Table) (pairs : List Packed) (i : ℕ) (p : Packed) → length pairs ≡ 2048 → i < 2048 → IsPackedPair t i p → ArePairs t pairs → ArePairs t (slice_set pairs i p)
pairs_more t pairs i p all within pair entered = λ window h. ⊎_elim
    (λ same.
    let lt : i < length pairs = omega arith in
    subst (λ n. IsPackedPair t n (slice_index_or (slice_set pairs i p) n outside)) (sym same) (rw (get_or-set_same pairs i p outside lt) pair))
    (λ ne. rw (get_or-set_other pairs i window p outside ne) (entered window h))
    (cases_eq window i)

-- the window's first bits are the code's
pub word_ahead : (t : Table) (long window code s : ℕ) → long ≤ 11 → code * (2048 / 2 ^ long) ≤ window → window < code * (2048 / 2 ^ long) + 2048 / 2 ^ long
    → IsWord t (bits_of long code) s → IsWord t (take long (bits_of 11 window)) s
word_ahead t long window code s h from to w =
    let each : 2048 / 2 ^ long ≡ 2 ^ (11 - long) = windows_of 11 long h in
    let times : code * (2048 / 2 ^ long) ≡ code * 2 ^ (11 - long) = ap (λ n. code * n) each in
    let is : window / 2 ^ (11 - long) ≡ code = begins (11 - long) window code (omega arith) (omega arith) in
    subst (λ bs. IsWord t bs s) (sym (take-bits_of long 11 window h ∙ ap (λ n. bits_of long n) is)) w
