-- Names that are taken one after the other.
use Rattle.std.proofs.Common.{arith, false, get_or, subst, sym, ap, refl, ◌∙◌, ◌≡◌, ℕ, suc, List, [], ◌∷◌, ◌++◌, Option, Some, None, length, map, drop, ◌+◌, ◌<◌, ◌≤◌, append-nil, unwrap_or}
use Rattle.std.specs.Global.{Vec}
use Rattle.std.proofs.lemmas.List.{get_or-map, length-map}
use Rattle.std.proofs.lemmas.Option.{none-some}
use Rattle.std.proofs.Math.Seq.{drop-cons}
use Rattle.std.proofs.Math.ListN.{drop_of_length-le}
use Rattle.std.specs.Prelude.{IfSome, IfNone, option_map}
use Rattle.jri_archive.specs.declared.given.ListedName.{ListedName}
use Rattle.jri_machine.specs.declared.walking.NamedFile.{NamedFile}
use Rattle.jri_machine.specs.declared.entries.ReadError.{ReadError}
use Rattle.jri_archive.specs.Names.{names_in, names_left, IsNamed, IsNextFile, IsNextGiven, IsNextListed, IsNoText}

abbrev bytes_of : Vec ℕ → List ℕ
bytes_of w = w.items

names_split : (words : List (Vec ℕ)) (taken : ℕ) (w name : Vec ℕ) → taken < length words → w ≡ get_or words taken w → name.items ≡ w.items
    → drop taken (map bytes_of words) ≡ name.items ∷ drop (taken + 1) (map bytes_of words)
names_split words taken w name lt at same =
    let e : taken + 1 ≡ suc taken = omega arith in
    let long : taken < length (map bytes_of words) = omega (arith, length-map words bytes_of) in
    drop-cons (map bytes_of words) taken [] long
    ∙ ap (λ (x : List ℕ). x ∷ drop (suc taken) (map bytes_of words)) (get_or-map bytes_of words taken w [] lt ∙ ap bytes_of (sym at) ∙ sym same)
    ∙ ap (λ (k : ℕ). name.items ∷ drop k (map bytes_of words)) (sym e)

-- the next name is the first of the words that are left, whatever follows them
split_names : (words : List (Vec ℕ)) (taken : ℕ) (w name : Vec ℕ) (others names : List (List ℕ)) → taken < length words → w ≡ get_or words taken w → name.items ≡ w.items
    → Some (drop taken (map bytes_of words) ++ others) ≡ Some names → IsNextGiven names (Some name) (Some (drop (taken + 1) (map bytes_of words) ++ others))
split_names words taken w name others names lt at same e =
    subst (λ (ns : List (List ℕ)). IsNextGiven ns (Some name) (Some (drop (taken + 1) (map bytes_of words) ++ others)))
    (sym (ap (λ (ns : List (List ℕ)). ns ++ others) (names_split words taken w name lt at same)) ∙ ap (λ (o : Option (List (List ℕ))). unwrap_or o []) e)
    (refl, (name, refl, refl))

word_before : (words : List (Vec ℕ)) (taken : ℕ) (left : Option (List ℕ)) (w name : Vec ℕ) → taken < length words → w ≡ get_or words taken w → name.items ≡ w.items
    → (names : List (List ℕ)) → option_map (λ bytes. drop taken (map bytes_of words) ++ names_in bytes) left ≡ Some names
    → IsNextGiven names (Some name) (option_map (λ bytes. drop (taken + 1) (map bytes_of words) ++ names_in bytes) left)
word_before words taken None w name lt at same names e = absurd (none-some names e)
word_before words taken (Some bytes) w name lt at same names e = split_names words taken w name (names_in bytes) names lt at same e

pub next_word : {L : Type 0} (remaining : L → Option (List ℕ)) (words : List (Vec ℕ)) (taken : ℕ) (list : Option L) (w name : Vec ℕ) → taken < length words → w ≡ get_or words taken w → name.items ≡ w.items
    → (names : List (List ℕ)) → names_left remaining words taken list ≡ Some names → IsNextGiven names (Some name) (names_left remaining words (taken + 1) list)
next_word remaining words taken None w name lt at same names e =
    let plain = split_names words taken w name [] names lt at same (ap Some (append-nil (drop taken (map bytes_of words))) ∙ e) in
    subst (λ (ns : List (List ℕ)). IsNextGiven names (Some name) (Some ns)) (append-nil (drop (taken + 1) (map bytes_of words))) plain
next_word remaining words taken (Some list) w name lt at same names e = word_before words taken (remaining list) w name lt at same names e

-- no word is left
none_left : (words : List (Vec ℕ)) (taken : ℕ) → length words ≤ taken → drop taken (map bytes_of words) ≡ []
none_left words taken all = drop_of_length-le (map bytes_of words) (omega (arith, all, length-map words bytes_of))

listed_next : (words : List (Vec ℕ)) (taken : ℕ) (old new : Option (List ℕ)) (listed : ListedName) → length words ≤ taken → IsNextListed old (Some listed) new
    → (names : List (List ℕ)) → option_map (λ bytes. drop taken (map bytes_of words) ++ names_in bytes) old ≡ Some names
    → IsNextGiven names (Some listed.name) (option_map (λ bytes. drop taken (map bytes_of words) ++ names_in bytes) new)
listed_next words taken None new listed all next names e = absurd (none-some names e)
listed_next words taken (Some bytes) new listed all next names e =
    let none = none_left words taken all in
    let are : listed.name.items ∷ names_in next.0 ≡ names = sym next.2 ∙ sym (ap (λ (ns : List (List ℕ)). ns ++ names_in bytes) none) ∙ ap (λ (o : Option (List (List ℕ))). unwrap_or o []) e in
    let left : Some (names_in next.0) ≡ option_map (λ bytes. drop taken (map bytes_of words) ++ names_in bytes) new =
    sym (ap (option_map (λ bytes. drop taken (map bytes_of words) ++ names_in bytes)) next.1 ∙ ap (λ (ns : List (List ℕ)). Some (ns ++ names_in next.0)) none) in
    subst (λ (o : Option (List (List ℕ))). IsNextGiven names (Some listed.name) o) left
    (subst (λ (ns : List (List ℕ)). IsNextGiven ns (Some listed.name) (Some (names_in next.0))) are (refl, (listed.name, refl, refl)))

pub next_listed : {L : Type 0} (remaining : L → Option (List ℕ)) (words : List (Vec ℕ)) (taken : ℕ) (old new : L) (listed : ListedName) → length words ≤ taken → IsNextListed (remaining old) (Some listed) (remaining new)
    → (names : List (List ℕ)) → names_left remaining words taken (Some old) ≡ Some names → IsNextGiven names (Some listed.name) (names_left remaining words taken (Some new))
next_listed remaining words taken old new listed all next names e = listed_next words taken (remaining old) (remaining new) listed all next names e

no_listed : (words : List (Vec ℕ)) (taken : ℕ) (old new : Option (List ℕ)) → length words ≤ taken → IsNextListed old None new
    → (names : List (List ℕ)) → option_map (λ bytes. drop taken (map bytes_of words) ++ names_in bytes) old ≡ Some names → IsNextGiven names None (Some (drop taken (map bytes_of words)))
no_listed words taken None new all next names e = absurd (none-some names e)
no_listed words taken (Some bytes) new all next names e =
    let none = none_left words taken all in
    let are : [] ≡ names = sym (ap (λ (ns : List (List ℕ)). ns ++ names_in bytes) none ∙ ap names_in next) ∙ ap (λ (o : Option (List (List ℕ))). unwrap_or o []) e in
    subst (λ (ns : List (List ℕ)). IsNextGiven ns None (Some (drop taken (map bytes_of words)))) are (refl, ap Some none)

pub none_next : {L : Type 0} (remaining : L → Option (List ℕ)) (words : List (Vec ℕ)) (taken : ℕ) (old new : L) → length words ≤ taken → IsNextListed (remaining old) None (remaining new)
    → (names : List (List ℕ)) → names_left remaining words taken (Some old) ≡ Some names → IsNextGiven names None (names_left remaining words taken None)
none_next remaining words taken old new all next names e = no_listed words taken (remaining old) (remaining new) all next names e

-- the number of names that are left, if no list follows
pub none_after : {L : Type 0} (remaining : L → Option (List ℕ)) (words : List (Vec ℕ)) (taken : ℕ) → length words ≤ taken
    → (names : List (List ℕ)) → names_left remaining words taken None ≡ Some names → IsNextGiven names None (names_left remaining words taken None)
none_after remaining words taken all names e =
    let none = none_left words taken all in
    subst (λ (ns : List (List ℕ)). IsNextGiven ns None (Some (drop taken (map bytes_of words)))) (sym none ∙ ap (λ (o : Option (List (List ℕ))). unwrap_or o []) e) (refl, ap Some none)

pub next_file : (names : List (List ℕ)) (name : Option (Vec ℕ)) (file : Option NamedFile) (left : Option (List (List ℕ))) → IsNextGiven names name left
    → IfNone name (file ≡ None) → IfSome name (λ n. (f : NamedFile) × (file ≡ Some f) × IsNamed f n.items) → IsNextFile names file left
next_file [] name file left next none some = (subst (λ (o : Option (Vec ℕ)). IfNone o (file ≡ None)) next.0 none, next.1)
next_file (n ∷ ns) name file left next none some =
    let f = subst (λ (o : Option (Vec ℕ)). IfSome o (λ n. (f : NamedFile) × (file ≡ Some f) × IsNamed f n.items)) next.1.1 some in
    (next.0, (f.0, f.1, subst (λ (bytes : List ℕ). IsNamed f.0 bytes) next.1.2 f.2))

pub file_named : (name : Vec ℕ) (error : Option ReadError) → ((e : ReadError) → error ≡ Some e → IsNoText name.items e)
    → (f : NamedFile) × (Some (record { name = name; error = error; is_skipped = false }) ≡ Some f) × IsNamed f name.items
file_named name error is = (record { name = name; error = error; is_skipped = false }, refl, record { name_is = refl; error = is; kept = refl })
