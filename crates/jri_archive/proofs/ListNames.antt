-- The names of a list, one after the other.
use Rattle.std.proofs.Common.{arith, refl, sym, ap, ◌∙◌, ◌≡◌, ◌≢◌, ℕ, suc, Bool, true, false, cond, List, [], ◌∷◌, Option, Some, None, length, take, ◌-◌, ◌<◌}
use Rattle.std.proofs.lemmas.Bool.{lt-ltb}
use Rattle.std.specs.Prelude.{◌==◌, nat_lt, slice_index, IfSome}
use Rattle.std.specs.Io.BufRead.{take_through, drop_through, first_piece, strip_last, DropsThrough}
use Rattle.std.specs.Io.KnownBytes.{IsAtEnd}
use Rattle.jri_archive.specs.declared.given.ListedName.{ListedName}
use Rattle.jri_archive.specs.Names.{IsNextListed, begin_with, names_in}

-- bytes without the one of this number, if it is 0 and the last one
abbrev strip_at : ℕ → List ℕ → List ℕ
strip_at n xs = cond (slice_index xs n == 0) (take n xs) xs

strip_is : (x : ℕ) (xs : List ℕ) → strip_last 0 (x ∷ xs) ≡ strip_at (length xs) (x ∷ xs)
strip_is x xs =
    let e : length (x ∷ xs) - 1 ≡ length xs = omega arith in
    let some : nat_lt 0 (length (x ∷ xs)) ≡ true = lt-ltb 0 (length (x ∷ xs)) (omega arith) in
    rw (e, some) refl

strip_suc : (b n : ℕ) (xs : List ℕ) (t : Bool) → (slice_index xs n == 0) ≡ t → cond t (take (suc n) (b ∷ xs)) (b ∷ xs) ≡ b ∷ cond t (take n xs) xs
strip_suc b n xs true e = refl
strip_suc b n xs false e = refl

strip_more : (b : ℕ) (xs : List ℕ) → xs ≢ [] → strip_last 0 (b ∷ xs) ≡ b ∷ strip_last 0 xs
strip_more b [] some = absurd (some refl)
strip_more b (x ∷ xs) some =
    let l : length (x ∷ xs) ≡ suc (length xs) = omega arith in
    strip_is b (x ∷ xs) ∙ ap (λ (n : ℕ). strip_at n (b ∷ x ∷ xs)) l
    ∙ strip_suc b (length xs) (x ∷ xs) (slice_index (x ∷ xs) (length xs) == 0) refl
    ∙ ap (λ (t : List ℕ). b ∷ t) (sym (strip_is x xs))

some_through : (c : ℕ) (cs : List ℕ) (t : Bool) → (c == 0) ≡ t → take_through 0 (c ∷ cs) ≢ []
some_through c cs true e h = absurd (let k = rw e at h in cc)
some_through c cs false e h = absurd (let k = rw e at h in cc)

single : (b : ℕ) → (b == 0) ≡ false → strip_last 0 (b ∷ []) ≡ b ∷ []
single b e = strip_is b [] ∙ ap (λ (t : Bool). cond t [] (b ∷ [])) e

ended : (b : ℕ) → (b == 0) ≡ true → strip_last 0 (b ∷ []) ≡ []
ended b e = strip_is b [] ∙ ap (λ (t : Bool). cond t [] (b ∷ [])) e

-- what the first piece of a list is, if it begins with this byte
begins : (b : ℕ) (bs : List ℕ) (t : Bool) → (b == 0) ≡ t → (bs ≢ [] → names_in bs ≡ first_piece 0 bs ∷ names_in (drop_through 0 bs))
    → names_in (b ∷ bs) ≡ first_piece 0 (b ∷ bs) ∷ names_in (drop_through 0 (b ∷ bs))
begins b bs true e go = rw e (ap (λ (p : List ℕ). p ∷ names_in bs) (sym (ended b e)))
begins b [] false e go = rw e (ap (λ (p : List ℕ). p ∷ []) (sym (single b e)))
begins b (c ∷ cs) false e go =
    let some : (c ∷ cs) ≢ [] = λ h. cc in
    let t = take_through 0 (c ∷ cs) in
    rw e (ap (begin_with b) (go some) ∙ ap (λ (p : List ℕ). p ∷ names_in (drop_through 0 (c ∷ cs))) (sym (strip_more b t (some_through c cs (c == 0) refl))))

pub next_piece : (bytes : List ℕ) → bytes ≢ [] → names_in bytes ≡ first_piece 0 bytes ∷ names_in (drop_through 0 bytes)
next_piece [] some = absurd (some refl)
next_piece (b ∷ bs) some = begins b bs (b == 0) refl (λ more. next_piece bs more)

-- a name that was read from a list without its NUL byte is the list's next one
pub listed_is : (old new : Option (List ℕ)) (read : List ℕ) (listed : ListedName) → IfSome old (λ bytes. read ≡ take_through 0 bytes) → DropsThrough old new 0 → 0 < length read
    → listed.name.items ≡ strip_last 0 read → IsNextListed old (Some listed) new
listed_is None new read listed same rest some is = tt
listed_is (Some bytes) new read listed same rest some is =
    let there : bytes ≢ [] = λ none. omega (arith, some, ap length (same ∙ ap (take_through 0) none)) in
    (drop_through 0 bytes, rest, next_piece bytes there ∙ ap (λ (p : List ℕ). p ∷ names_in (drop_through 0 bytes)) (sym (is ∙ ap (strip_last 0) same)))

pub none_listed : (old new : Option (List ℕ)) → IsAtEnd old → IsNextListed old None new
none_listed None new end = tt
none_listed (Some bytes) new end = end
