-- The bits of a register: with bytes after them, their first bits, and the rest of them.
use Rattle.std.proofs.Common.{Bool, false, ◌≡◌, ℕ, zero, suc, ◌+◌, ◌-◌, ◌*◌, ◌/◌, ◌%◌, ◌^◌, ◌<◌, ◌≤◌, ◌==◌, List, [], ◌∷◌, ◌++◌, length, drop, take, get_or, replicate, refl, sym, ◌∙◌, ap, arith, length-append}
use Rattle.std.specs.Prelude.{bit_and, bit_or}
use Rattle.std.specs.Int.{w64, from_be_bytes}
use Rattle.std.proofs.lemmas.Nat.{and_mask, div-add-mod', field_of, mod-pow-add, mod_low, one_shl, or_shifted, pow-add, pow_pos, shl-shr, shl_below, shl_whole, shr-shr, shr_below, shr_high}
use Rattle.std.proofs.lemmas.List.{append_assoc, append-nil, drop_more, length-drop, length-take-le, take-append-drop, take-append-le, take-replicate, take-take, take_all, take_at}
use Rattle.std.proofs.lemmas.List.Concat.{flat_map-append}
use Rattle.std.proofs.Math.Pow.{mod-mod-pow}
use Rattle.std.proofs.Math.Nat.{add-mul, mul_assoc, mul-mod_left, mod-eq_of_lt}
use Rattle.std.proofs.Math.Seq.{drop-append_seam}
use Rattle.jr_code.specs.Bits.{number, bits_of, bits, upper_bits, window_of}
use Rattle.jr_code.proofs.BitLemmas.{same_bits, length-bits_of, length-bits, number-bits_of, number-append, bits_of-number}

-- bits are those of the number below 2 ^ k
pub bits_of-congr : (k m n : ℕ) → m % 2 ^ k ≡ n % 2 ^ k → bits_of k m ≡ bits_of k n
bits_of-congr k m n e = same_bits (bits_of k m) (bits_of k n) (length-bits_of k m ∙ sym (length-bits_of k n)) (number-bits_of k m ∙ e ∙ sym (number-bits_of k n))

pub bits_of-mod : (j k n : ℕ) → bits_of k (n % 2 ^ (j + k)) ≡ bits_of k n
bits_of-mod j k n = bits_of-congr k (n % 2 ^ (j + k)) n (mod-mod-pow n j k)

pub bits_of-split : (a b n : ℕ) → bits_of (a + b) n ≡ bits_of a (n / 2 ^ b) ++ bits_of b n
bits_of-split a b n =
    let long : length (bits_of a (n / 2 ^ b) ++ bits_of b n) ≡ a + b = omega (arith, length-append (bits_of a (n / 2 ^ b)) (bits_of b n), length-bits_of a (n / 2 ^ b), length-bits_of b n) in
    same_bits (bits_of (a + b) n) (bits_of a (n / 2 ^ b) ++ bits_of b n) (length-bits_of (a + b) n ∙ sym long)
    (number-bits_of (a + b) n ∙ mod-pow-add n a b
    ∙ sym (number-append (bits_of a (n / 2 ^ b)) (bits_of b n)
    ∙ ap (λ l. number (bits_of a (n / 2 ^ b)) * 2 ^ l + number (bits_of b n)) (length-bits_of b n)
    ∙ ap (λ x. x * 2 ^ b + number (bits_of b n)) (number-bits_of a (n / 2 ^ b))
    ∙ ap (λ x. n / 2 ^ b % 2 ^ a * 2 ^ b + x) (number-bits_of b n)))

-- a number after another
pub bits_of-join : (a b x y : ℕ) → y < 2 ^ b → bits_of (a + b) (x * 2 ^ b + y) ≡ bits_of a x ++ bits_of b y
bits_of-join a b x y h =
    bits_of-split a b (x * 2 ^ b + y)
    ∙ ap (λ n. bits_of a n ++ bits_of b (x * 2 ^ b + y)) (shr_high x b y h)
    ∙ ap (λ t. bits_of a x ++ t) (bits_of-congr b (x * 2 ^ b + y) y (mod_low x b y h ∙ sym (mod-eq_of_lt h)))

-- k bits more after those of a register of 64: bits above its count mean nothing
pub bits_of-push : (count k held w : ℕ) → count + k ≤ 64 → w < 2 ^ k → bits_of (count + k) (bit_or (held * 2 ^ k % 2 ^ 64) w) ≡ bits_of count held ++ bits_of k w
bits_of-push count k held w fits small =
    let whole : 64 - k + k ≡ 64 = omega arith in
    let above : 64 - k - count + count ≡ 64 - k = omega arith in
    let shifted : held * 2 ^ k % 2 ^ 64 ≡ held % 2 ^ (64 - k) * 2 ^ k =
    ap (λ n. held * 2 ^ k % 2 ^ n) (sym whole) ∙ mod-pow-add (held * 2 ^ k) (64 - k) k
    ∙ ap (λ n. n % 2 ^ (64 - k) * 2 ^ k + held * 2 ^ k % 2 ^ k) (shl-shr held k)
    ∙ ap (λ n. held % 2 ^ (64 - k) * 2 ^ k + n) (mul-mod_left held (2 ^ k)) ∙ omega arith in
    ap (λ n. bits_of (count + k) (bit_or n w)) shifted
    ∙ ap (λ n. bits_of (count + k) n) (or_shifted (held % 2 ^ (64 - k)) k w small)
    ∙ bits_of-join count k (held % 2 ^ (64 - k)) w small
    ∙ ap (λ n. bits_of count (held % 2 ^ n) ++ bits_of k w) (sym above)
    ∙ ap (λ t. t ++ bits_of k w) (bits_of-mod (64 - k - count) count held)

-- one more byte
pub push_byte : (count held byte : ℕ) (rest : List ℕ) → count ≤ 56 → byte < 256
    → bits_of (count + 8) (bit_or (held * 2 ^ 8 % 2 ^ 64) byte) ++ bits rest ≡ bits_of count held ++ bits (byte ∷ rest)
push_byte count held byte rest few small =
    ap (λ t. t ++ bits rest) (bits_of-push count 8 held byte (omega arith) small)
    ∙ append_assoc (bits_of count held) (bits_of 8 byte) (bits rest)

-- a number with the byte at k after it, and the bytes after that
next_byte : (count n k : ℕ) (bytes : List ℕ) → k < length bytes → get_or bytes k 0 < 256
    → bits_of (count + 8) (n * 2 ^ 8 + get_or bytes k 0) ++ bits (drop (k + 1) bytes) ≡ bits_of count n ++ bits (drop k bytes)
next_byte count n k bytes within small =
    ap (λ t. t ++ bits (drop (k + 1) bytes)) (bits_of-join count 8 n (get_or bytes k 0) small)
    ∙ append_assoc (bits_of count n) (bits_of 8 (get_or bytes k 0)) (bits (drop (k + 1) bytes))
    ∙ ap (λ t. bits_of count n ++ bits t) (sym (drop_more bytes k 0 within))

word_of : (a b c d e f g h : ℕ) → from_be_bytes w64 (a ∷ b ∷ c ∷ d ∷ e ∷ f ∷ g ∷ h ∷ [])
    ≡ ((((((a * 2 ^ 8 + b) * 2 ^ 8 + c) * 2 ^ 8 + d) * 2 ^ 8 + e) * 2 ^ 8 + f) * 2 ^ 8 + g) * 2 ^ 8 + h
word_of a b c d e f g h = omega arith

-- the bits of a big-endian word are those of its bytes
pub first_word : (n : ℕ) (bytes : List ℕ) → 8 ≤ length bytes → ((i : ℕ) → get_or bytes i 0 < 256)
    → n ≡ from_be_bytes w64 (get_or bytes 0 0 ∷ get_or bytes 1 0 ∷ get_or bytes 2 0 ∷ get_or bytes 3 0 ∷ get_or bytes 4 0 ∷ get_or bytes 5 0 ∷ get_or bytes 6 0 ∷ get_or bytes 7 0 ∷ [])
    → bits_of 64 n ++ bits (drop 8 bytes) ≡ bits bytes
first_word n bytes long small is =
    ap (λ n. bits_of 64 n ++ bits (drop 8 bytes)) (is ∙ word_of (get_or bytes 0 0) (get_or bytes 1 0) (get_or bytes 2 0) (get_or bytes 3 0) (get_or bytes 4 0) (get_or bytes 5 0) (get_or bytes 6 0) (get_or bytes 7 0))
    ∙ next_byte 56 _ 7 bytes (omega (arith, long)) (small 7)
    ∙ next_byte 48 _ 6 bytes (omega (arith, long)) (small 6)
    ∙ next_byte 40 _ 5 bytes (omega (arith, long)) (small 5)
    ∙ next_byte 32 _ 4 bytes (omega (arith, long)) (small 4)
    ∙ next_byte 24 _ 3 bytes (omega (arith, long)) (small 3)
    ∙ next_byte 16 _ 2 bytes (omega (arith, long)) (small 2)
    ∙ next_byte 8 (get_or bytes 0 0) 1 bytes (omega (arith, long)) (small 1)
    ∙ ap bits (sym (drop_more bytes 0 0 (omega (arith, long))))

-- the first n bits of a register, and what follows them
split_at : (n count held : ℕ) → n ≤ count → bits_of count held ≡ bits_of n (held / 2 ^ (count - n)) ++ bits_of (count - n) held
split_at n count held h =
    let e : n + (count - n) ≡ count = omega arith in
    ap (λ k. bits_of k held) (sym e) ∙ bits_of-split n (count - n) held

pub take-held : (n count held : ℕ) (rest : List ℕ) → n ≤ count → take n (bits_of count held ++ bits rest) ≡ bits_of n (held / 2 ^ (count - n))
take-held n count held rest h =
    let front = bits_of n (held / 2 ^ (count - n)) in
    ap (λ t. take n (t ++ bits rest)) (split_at n count held h)
    ∙ ap (λ t. take n t) (append_assoc front (bits_of (count - n) held) (bits rest))
    ∙ take_at front (bits_of (count - n) held ++ bits rest) n (length-bits_of n (held / 2 ^ (count - n)))

pub drop-held : (n count held : ℕ) (rest : List ℕ) → n ≤ count → bits_of (count - n) held ++ bits rest ≡ drop n (bits_of count held ++ bits rest)
drop-held n count held rest h =
    let front = bits_of n (held / 2 ^ (count - n)) in
    let long : length front ≡ n = length-bits_of n (held / 2 ^ (count - n)) in
    sym (ap (λ t. drop n (t ++ bits rest)) (split_at n count held h)
    ∙ ap (λ t. drop n t) (append_assoc front (bits_of (count - n) held) (bits rest))
    ∙ ap (λ k. drop k (front ++ (bits_of (count - n) held ++ bits rest))) (sym long)
    ∙ drop-append_seam front (bits_of (count - n) held ++ bits rest))

mask_of : (n : ℕ) → n ≤ 16 → 1 * 2 ^ n % 2 ^ 64 ≡ 2 ^ n
mask_of n h = one_shl n 64 (omega arith)

pub masked : (v n : ℕ) → n ≤ 16 → bit_and v (1 * 2 ^ n % 2 ^ 64 - 1) ≡ v % 2 ^ n
masked v n h = ap (λ m. bit_and v (m - 1)) (mask_of n h) ∙ and_mask v n

bits_of-zero : (k : ℕ) → bits_of k 0 ≡ replicate k false
unfolding bits_of
bits_of-zero zero = refl
bits_of-zero (suc k) =
    let z : 0 / 2 ^ k ≡ 0 = omega arith in
    ap (λ n. (n % 2 == 1) ∷ bits_of k 0) z ∙ ap (λ t. false ∷ t) (bits_of-zero k)

-- ---- the first bits of a number of 64

pub first_is : (k n : ℕ) → k ≤ 64 → upper_bits k n ≡ bits_of k (n / 2 ^ (64 - k))
first_is k n h = ap (λ t. take k t) (sym (append-nil (bits_of 64 n))) ∙ take-held k 64 n [] h

pub length-first : (k n : ℕ) → k ≤ 64 → length (upper_bits k n) ≡ k
length-first k n h = ap length (first_is k n h) ∙ length-bits_of k (n / 2 ^ (64 - k))

pub length-held : (count held : ℕ) (rest : List ℕ) → count ≤ 64 → length (upper_bits count held ++ bits rest) ≡ count + 8 * length rest
length-held count held rest h = omega (arith, length-append (upper_bits count held) (bits rest), length-first count held h, length-bits rest)

pub take-front : (n count held : ℕ) (more : List Bool) → n ≤ count → count ≤ 64 → take n (upper_bits count held ++ more) ≡ upper_bits n held
take-front n count held more h few =
    take-append-le n (upper_bits count held) more (omega (arith, h, length-first count held few)) ∙ take-take n count (bits_of 64 held) h

pub number_front : (n count held : ℕ) (rest : List ℕ) → n ≤ count → count ≤ 64 → held < 2 ^ 64
    → held / 2 ^ (64 - n) ≡ number (take n (upper_bits count held ++ bits rest))
number_front n count held rest h few small =
    let e : n + (64 - n) ≡ 64 = omega arith in
    let below : held / 2 ^ (64 - n) < 2 ^ n = shr_below held n (64 - n) (omega (arith, small, ap (λ k. 2 ^ k) e)) in
    sym (ap number (take-front n count held (bits rest) h few ∙ first_is n held (omega (arith, h, few))) ∙ number-bits_of n (held / 2 ^ (64 - n)) ∙ mod-eq_of_lt below)

-- a window that is whole
pub window_whole : (n v count held : ℕ) (rest : List ℕ) → n ≤ count → count ≤ 64 → v ≡ number (take n (upper_bits count held ++ bits rest))
    → bits_of n v ≡ window_of n (upper_bits count held ++ bits rest)
window_whole n v count held rest h few e =
    let bs = upper_bits count held ++ bits rest in
    let enough : n ≤ length bs = omega (arith, h, length-held count held rest few) in
    let long : length (take n bs) ≡ n = length-take-le n bs enough in
    ap (λ m. bits_of n m) e ∙ bits_of-number n (take n bs) long ∙ sym (take-append-le n bs (replicate n false) enough)

zeros_after : (count held : ℕ) → count ≤ 64 → held % 2 ^ (64 - count) ≡ 0 → drop count (bits_of 64 held) ≡ replicate (64 - count) false
zeros_after count held few clean =
    let none : 0 % 2 ^ (64 - count) ≡ 0 = mod-eq_of_lt (pow_pos (64 - count)) in
    ap (λ t. drop count t) (sym (append-nil (bits_of 64 held))) ∙ sym (drop-held count 64 held [] few)
    ∙ append-nil (bits_of (64 - count) held) ∙ bits_of-congr (64 - count) held 0 (clean ∙ sym none) ∙ bits_of-zero (64 - count)

take_zeros : (xs : List Bool) (n a b : ℕ) → n ≤ length xs + a → n ≤ length xs + b → take n (xs ++ replicate a false) ≡ take n (xs ++ replicate b false)
take_zeros [] n a b h k = take-replicate n a false (omega (arith, h)) ∙ sym (take-replicate n b false (omega (arith, k)))
take_zeros (x ∷ xs) zero a b h k = refl
take_zeros (x ∷ xs) (suc n) a b h k = ap (λ t. x ∷ t) (take_zeros xs n a b (omega (arith, h)) (omega (arith, k)))

-- a window at the end of all bits
pub window_is : (n count held : ℕ) (rest : List ℕ) → n ≤ 16 → count ≤ 64 → held % 2 ^ (64 - count) ≡ 0 → rest ≡ []
    → bits_of n (held / 2 ^ (64 - n)) ≡ window_of n (upper_bits count held ++ bits rest)
window_is n count held rest short few clean none =
    let all : upper_bits count held ++ bits rest ≡ upper_bits count held = ap (λ r. upper_bits count held ++ bits r) none ∙ append-nil (upper_bits count held) in
    let whole : bits_of 64 held ≡ upper_bits count held ++ replicate (64 - count) false =
    sym (take-append-drop count (bits_of 64 held)) ∙ ap (λ t. upper_bits count held ++ t) (zeros_after count held few clean) in
    sym (first_is n held (omega (arith, short)))
    ∙ ap (λ t. take n t) whole
    ∙ take_zeros (upper_bits count held) n (64 - count) n (omega (arith, length-first count held few, short, few)) (omega arith)
    ∙ ap (λ t. take n (t ++ replicate n false)) (sym all)

-- ---- bits that are read

shifted_out : (n count held : ℕ) → n ≤ count → count ≤ 64 → held * 2 ^ n % 2 ^ 64 / 2 ^ (64 - (count - n)) ≡ held / 2 ^ (64 - count) % 2 ^ (count - n)
shifted_out n count held h few =
    let whole : count - n + (64 - (count - n)) ≡ 64 = omega arith in
    let more : n + (64 - count) ≡ 64 - (count - n) = omega arith in
    ap (λ k. held * 2 ^ n % 2 ^ k / 2 ^ (64 - (count - n))) (sym whole)
    ∙ field_of (held * 2 ^ n) (count - n) (64 - (count - n))
    ∙ ap (λ k. held * 2 ^ n / 2 ^ k % 2 ^ (count - n)) (sym more)
    ∙ ap (λ m. m % 2 ^ (count - n)) (sym (shr-shr (held * 2 ^ n) n (64 - count)) ∙ ap (λ m. m / 2 ^ (64 - count)) (shl-shr held n))

pub front_after : (n count held : ℕ) (rest : List ℕ) → n ≤ count → count ≤ 64
    → upper_bits (count - n) (held * 2 ^ n % 2 ^ 64) ++ bits rest ≡ drop n (upper_bits count held ++ bits rest)
front_after n count held rest h few =
    let g : 0 + (count - n) ≡ count - n = omega arith in
    let left : upper_bits (count - n) (held * 2 ^ n % 2 ^ 64) ≡ bits_of (count - n) (held / 2 ^ (64 - count)) =
    first_is (count - n) (held * 2 ^ n % 2 ^ 64) (omega (arith, few))
    ∙ ap (λ m. bits_of (count - n) m) (shifted_out n count held h few)
    ∙ ap (λ k. bits_of (count - n) (held / 2 ^ (64 - count) % 2 ^ k)) (sym g)
    ∙ bits_of-mod 0 (count - n) (held / 2 ^ (64 - count)) in
    ap (λ t. t ++ bits rest) left
    ∙ drop-held n count (held / 2 ^ (64 - count)) rest h
    ∙ ap (λ t. drop n (t ++ bits rest)) (sym (first_is count held few))

pub clean_after : (n count held : ℕ) → n ≤ count → count ≤ 64 → held % 2 ^ (64 - count) ≡ 0 → held * 2 ^ n % 2 ^ 64 % 2 ^ (64 - (count - n)) ≡ 0
clean_after n count held h few clean =
    let whole : count - n + (64 - (count - n)) ≡ 64 = omega arith in
    let more : 64 - count + n ≡ 64 - (count - n) = omega arith in
    ap (λ k. held * 2 ^ n % 2 ^ k % 2 ^ (64 - (count - n))) (sym whole)
    ∙ mod-mod-pow (held * 2 ^ n) (count - n) (64 - (count - n))
    ∙ ap (λ k. held * 2 ^ n % 2 ^ k) (sym more)
    ∙ mod-pow-add (held * 2 ^ n) (64 - count) n
    ∙ ap (λ m. m % 2 ^ (64 - count) * 2 ^ n + held * 2 ^ n % 2 ^ n) (shl-shr held n)
    ∙ ap (λ m. m * 2 ^ n + held * 2 ^ n % 2 ^ n) clean
    ∙ ap (λ m. 0 * 2 ^ n + m) (mul-mod_left held (2 ^ n)) ∙ omega arith

-- ---- bits that are added

held_is : (count held : ℕ) → held % 2 ^ (64 - count) ≡ 0 → held ≡ held / 2 ^ (64 - count) * 2 ^ (64 - count)
held_is count held clean = omega (arith, div-add-mod' held (2 ^ (64 - count)), clean)

-- k bits after the first count
with_bits : (count k held w : ℕ) → count + k ≤ 64 → held % 2 ^ (64 - count) ≡ 0
    → held + w * 2 ^ (64 - (count + k)) ≡ (held / 2 ^ (64 - count) * 2 ^ k + w) * 2 ^ (64 - (count + k))
with_bits count k held w fits clean =
    let e : k + (64 - (count + k)) ≡ 64 - count = omega arith in
    let pow : 2 ^ (64 - count) ≡ 2 ^ k * 2 ^ (64 - (count + k)) = ap (λ n. 2 ^ n) (sym e) ∙ pow-add 2 k (64 - (count + k)) in
    ap (λ h. h + w * 2 ^ (64 - (count + k))) (held_is count held clean ∙ ap (λ p. held / 2 ^ (64 - count) * p) pow ∙ sym (mul_assoc (held / 2 ^ (64 - count)) (2 ^ k) (2 ^ (64 - (count + k)))))
    ∙ sym (add-mul (held / 2 ^ (64 - count) * 2 ^ k) w (2 ^ (64 - (count + k))))

push_bits : (count k held w : ℕ) → count + k ≤ 64 → held % 2 ^ (64 - count) ≡ 0 → w < 2 ^ k
    → upper_bits (count + k) (held + w * 2 ^ (64 - (count + k))) ≡ upper_bits count held ++ bits_of k w
push_bits count k held w fits clean small =
    first_is (count + k) (held + w * 2 ^ (64 - (count + k))) fits
    ∙ ap (λ m. bits_of (count + k) (m / 2 ^ (64 - (count + k)))) (with_bits count k held w fits clean)
    ∙ ap (λ m. bits_of (count + k) m) (shl-shr (held / 2 ^ (64 - count) * 2 ^ k + w) (64 - (count + k)))
    ∙ bits_of-join count k (held / 2 ^ (64 - count)) w small
    ∙ ap (λ t. t ++ bits_of k w) (sym (first_is count held (omega (arith, fits))))

push_clean : (count k held w : ℕ) → count + k ≤ 64 → held % 2 ^ (64 - count) ≡ 0 → (held + w * 2 ^ (64 - (count + k))) % 2 ^ (64 - (count + k)) ≡ 0
push_clean count k held w fits clean =
    ap (λ m. m % 2 ^ (64 - (count + k))) (with_bits count k held w fits clean) ∙ mul-mod_left (held / 2 ^ (64 - count) * 2 ^ k + w) (2 ^ (64 - (count + k)))

-- the first bits of a word, moved there
pub word_or : (count unused held word : ℕ) → count + unused ≤ 64 → held % 2 ^ (64 - count) ≡ 0 → word < 2 ^ 64
    → bit_or held (word / 2 ^ count / 2 ^ unused * 2 ^ unused % 2 ^ 64) ≡ held + word / 2 ^ (count + unused) * 2 ^ unused
word_or count unused held word fits clean small =
    let w = word / 2 ^ (count + unused) in
    let left = 64 - (count + unused) in
    let whole : left + (count + unused) ≡ 64 = omega arith in
    let below : w < 2 ^ left = shr_below word left (count + unused) (omega (arith, small, ap (λ k. 2 ^ k) whole)) in
    let f : left + unused ≡ 64 - count = omega arith in
    let inside : w * 2 ^ unused < 2 ^ (64 - count) = omega (arith, shl_below w left unused below, ap (λ k. 2 ^ k) f) in
    ap (λ m. bit_or held (m * 2 ^ unused % 2 ^ 64)) (shr-shr word count unused)
    ∙ ap (λ m. bit_or held m) (shl_whole w left unused 64 below (omega arith))
    ∙ ap (λ h. bit_or h (w * 2 ^ unused)) (held_is count held clean)
    ∙ or_shifted (held / 2 ^ (64 - count)) (64 - count) (w * 2 ^ unused) inside
    ∙ ap (λ h. h + w * 2 ^ unused) (sym (held_is count held clean))

-- the first b bytes of that word
first_bytes : (b word : ℕ) (rest : List ℕ) → b ≤ 8 → 8 ≤ length rest → bits_of 64 word ++ bits (drop 8 rest) ≡ bits rest
    → bits_of (8 * b) (word / 2 ^ (64 - 8 * b)) ++ bits (drop b rest) ≡ bits rest
first_bytes b word rest few long is =
    let whole : bits (take b rest) ++ bits (drop b rest) ≡ bits rest = sym (flat_map-append (bits_of 8) (take b rest) (drop b rest)) ∙ ap bits (take-append-drop b rest) in
    let size : length (bits (take b rest)) ≡ 8 * b = length-bits (take b rest) ∙ ap (λ n. 8 * n) (length-take-le b rest (omega (arith, few, long))) in
    let front : bits_of (8 * b) (word / 2 ^ (64 - 8 * b)) ≡ bits (take b rest) =
    sym (take-held (8 * b) 64 word (drop 8 rest) (omega (arith, few))) ∙ ap (λ t. take (8 * b) t) (is ∙ sym whole) ∙ take_at (bits (take b rest)) (bits (drop b rest)) (8 * b) size in
    ap (λ t. t ++ bits (drop b rest)) front ∙ whole

-- the last bytes are appended
pub push_last : (count all held number : ℕ) (first rest : List ℕ) → count ≤ 56 → all ≡ count + 8 * length first → all ≤ 64
    → ((k : ℕ) → k + 8 * length first ≤ 64 → bits_of (k + 8 * length first) number ≡ bits_of k (held / 2 ^ 8 / 2 ^ (56 - count)) ++ bits first)
    → upper_bits all (number * 2 ^ (64 - all) % 2 ^ 64) ++ bits rest ≡ upper_bits count held ++ bits (first ++ rest)
push_last count all held number first rest few e fits is =
    let whole : all + (64 - all) ≡ 64 = omega arith in
    let f : 8 + (56 - count) ≡ 64 - count = omega arith in
    let g : 0 + all ≡ all = omega arith in
    let front : upper_bits all (number * 2 ^ (64 - all) % 2 ^ 64) ≡ upper_bits count held ++ bits first =
    first_is all (number * 2 ^ (64 - all) % 2 ^ 64) fits
    ∙ ap (λ k. bits_of all (number * 2 ^ (64 - all) % 2 ^ k / 2 ^ (64 - all))) (sym whole)
    ∙ ap (λ m. bits_of all m) (field_of (number * 2 ^ (64 - all)) all (64 - all))
    ∙ ap (λ m. bits_of all (m % 2 ^ all)) (shl-shr number (64 - all))
    ∙ ap (λ k. bits_of all (number % 2 ^ k)) (sym g)
    ∙ bits_of-mod 0 all number
    ∙ ap (λ k. bits_of k number) e
    ∙ is count (omega (arith, e, fits))
    ∙ ap (λ m. bits_of count m ++ bits first) (shr-shr held 8 (56 - count) ∙ ap (λ k. held / 2 ^ k) f)
    ∙ ap (λ t. t ++ bits first) (sym (first_is count held (omega (arith, few)))) in
    ap (λ t. t ++ bits rest) front
    ∙ append_assoc (upper_bits count held) (bits first) (bits rest)
    ∙ ap (λ t. upper_bits count held ++ t) (sym (flat_map-append (bits_of 8) first rest))

pub last_clean : (all number : ℕ) → all ≤ 64 → number * 2 ^ (64 - all) % 2 ^ 64 % 2 ^ (64 - all) ≡ 0
last_clean all number fits =
    let whole : all + (64 - all) ≡ 64 = omega arith in
    ap (λ k. number * 2 ^ (64 - all) % 2 ^ k % 2 ^ (64 - all)) (sym whole)
    ∙ mod-mod-pow (number * 2 ^ (64 - all)) all (64 - all)
    ∙ mul-mod_left number (2 ^ (64 - all))

-- a register refilled by the bytes of a word that fit into 63 bits
pub refilled_bits : (count held word after_held : ℕ) (rest after : List ℕ) → count < 64 → held % 2 ^ (64 - count) ≡ 0 → word < 2 ^ 64 → 8 ≤ length rest
    → bits_of 64 word ++ bits (drop 8 rest) ≡ bits rest → after ≡ take (length rest - (63 - count) / 8) (drop ((63 - count) / 8) rest)
    → after_held ≡ held + word / 2 ^ (count + (8 - count % 8)) * 2 ^ (8 - count % 8)
    → upper_bits (count % 8 + 56) after_held ++ bits after ≡ upper_bits count held ++ bits rest
refilled_bits count held word after_held rest after short clean small long is after_is held_is =
    let b = (63 - count) / 8 in
    let fits : count + 8 * b ≤ 64 = omega (arith, short) in
    let all : count % 8 + 56 ≡ count + 8 * b = omega (arith, short) in
    let unused : 8 - count % 8 ≡ 64 - (count + 8 * b) = omega (arith, short) in
    let shift : count + (8 - count % 8) ≡ 64 - 8 * b = omega (arith, short) in
    let w = word / 2 ^ (64 - 8 * b) in
    let whole : 8 * b + (64 - 8 * b) ≡ 64 = omega arith in
    let below : w < 2 ^ (8 * b) = shr_below word (8 * b) (64 - 8 * b) (omega (arith, small, ap (λ k. 2 ^ k) whole)) in
    ap (λ n. upper_bits n after_held ++ bits after) all
    ∙ ap (λ h. upper_bits (count + 8 * b) h ++ bits after) (held_is ∙ ap (λ n. held + word / 2 ^ n * 2 ^ (8 - count % 8)) shift ∙ ap (λ n. held + w * 2 ^ n) unused)
    ∙ ap (λ r. upper_bits (count + 8 * b) (held + w * 2 ^ (64 - (count + 8 * b))) ++ bits r) (after_is ∙ take_all (length rest - b) (drop b rest) (omega (arith, length-drop b rest)))
    ∙ ap (λ t. t ++ bits (drop b rest)) (push_bits count (8 * b) held w fits clean below)
    ∙ append_assoc (upper_bits count held) (bits_of (8 * b) w) (bits (drop b rest))
    ∙ ap (λ t. upper_bits count held ++ t) (first_bytes b word rest (omega arith) long is)

pub refilled_clean : (count held word after_held : ℕ) → count < 64 → held % 2 ^ (64 - count) ≡ 0
    → after_held ≡ held + word / 2 ^ (count + (8 - count % 8)) * 2 ^ (8 - count % 8) → after_held % 2 ^ (64 - (count % 8 + 56)) ≡ 0
refilled_clean count held word after_held short clean held_is =
    let b = (63 - count) / 8 in
    let fits : count + 8 * b ≤ 64 = omega (arith, short) in
    let all : 64 - (count % 8 + 56) ≡ 64 - (count + 8 * b) = omega (arith, short) in
    let unused : 8 - count % 8 ≡ 64 - (count + 8 * b) = omega (arith, short) in
    ap (λ n. after_held % 2 ^ n) all
    ∙ ap (λ h. h % 2 ^ (64 - (count + 8 * b))) (held_is ∙ ap (λ n. held + word / 2 ^ (count + (8 - count % 8)) * 2 ^ n) unused)
    ∙ push_clean count (8 * b) held (word / 2 ^ (count + (8 - count % 8))) fits clean
