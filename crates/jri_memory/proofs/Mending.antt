-- Copies that lie one after another, and a list of choices.
use Rattle.std.proofs.Common.{◌≡◌, ◌∙◌, ◌<◌, ℕ, suc, ◌+◌, List, [], ◌∷◌, ◌++◌, length, map, take, drop, get_or, set, refl, sym, ap, subst, append_assoc, arith}
use Rattle.std.proofs.lemmas.List.{drop-drop, drop_more, length-map, length-take-le, map-append, map_more}
use Rattle.std.proofs.Math.Seq.{get_or-append_seam, set-append_seam}
use Rattle.jr_mend.specs.declared.choice.Choice.{Choice}
use Rattle.jr_mend.specs.Copies.{CopyValue}
use Rattle.jri_memory.specs.declared.mend_report.ChoiceEntry.{ChoiceEntry}
use Rattle.jri_memory.specs.Mends.{choice_entry, files_of}

-- there is a file for each size
pub files_long : (sizes bytes : List ℕ) → length (files_of sizes bytes) ≡ length sizes
files_long [] bytes = refl
files_long (size ∷ sizes) bytes = ap suc (files_long sizes (drop size bytes))

-- the first k copies are read, and the next one begins at an offset
module _ (sizes bytes : List ℕ) (copies : List CopyValue) (k at : ℕ) (lt : k < length sizes) (count : length copies ≡ k)
    (read : map (λ (c : CopyValue). c.file) copies ++ files_of (drop k sizes) (drop at bytes) ≡ files_of sizes bytes) where
  abbrev pub next : List ℕ
  next = take (get_or sizes k 0) (drop at bytes)

  abbrev pub rest : List (List ℕ)
  rest = files_of (drop (k + 1) sizes) (drop (at + get_or sizes k 0) bytes)

  parts : files_of (drop k sizes) (drop at bytes) ≡ next ∷ rest
  parts = ap (λ (l : List ℕ). files_of l (drop at bytes)) (drop_more sizes k 0 lt) ∙ ap (λ (l : List ℕ). next ∷ files_of (drop (k + 1) sizes) l) (drop-drop (get_or sizes k 0) at bytes)

  whole : files_of sizes bytes ≡ map (λ (c : CopyValue). c.file) copies ++ (next ∷ rest)
  whole = sym read ∙ ap (λ (l : List (List ℕ)). map (λ (c : CopyValue). c.file) copies ++ l) parts

  long : length (map (λ (c : CopyValue). c.file) copies) ≡ k
  long = length-map copies (λ (c : CopyValue). c.file) ∙ count

  -- that one is file k
  pub file_is : get_or (files_of sizes bytes) k [] ≡ next
  file_is = ap (λ (l : List (List ℕ)). get_or l k []) whole ∙ subst (λ n. get_or (map (λ (c : CopyValue). c.file) copies ++ (next ∷ rest)) n [] ≡ next) long (get_or-append_seam (map (λ (c : CopyValue). c.file) copies) next rest [])

  -- it is read
  pub read_more : (c : CopyValue) → c.file ≡ next → map (λ (c : CopyValue). c.file) (copies ++ c ∷ []) ++ rest ≡ files_of sizes bytes
  read_more c is = ap (λ (l : List (List ℕ)). l ++ rest) (map-append (λ (c : CopyValue). c.file) copies (c ∷ []))
      ∙ append_assoc (map (λ (c : CopyValue). c.file) copies) (c.file ∷ []) rest
      ∙ ap (λ (l : List ℕ). map (λ (c : CopyValue). c.file) copies ++ (l ∷ rest)) is
      ∙ sym whole

-- a list whose first entries are choices has one more
pub entry_more : (chosen : List Choice) (old : List ChoiceEntry) (k : ℕ) (d : Choice) → k < length chosen → k < length old
    → set (map choice_entry (take k chosen) ++ drop k old) k (choice_entry (get_or chosen k d)) ≡ map choice_entry (take (k + 1) chosen) ++ drop (k + 1) old
entry_more chosen old k d there space =
    let first = map choice_entry (take k chosen) in
    let long : length first ≡ k = length-map (take k chosen) choice_entry ∙ length-take-le k chosen (omega (arith, there)) in
    let rest = drop (k + 1) old in
    let e = choice_entry (get_or chosen k d) in
    let split : drop k old ≡ get_or old k e ∷ rest = drop_more old k e space in
    let store : set (first ++ (get_or old k e ∷ rest)) k e ≡ first ++ (e ∷ rest) = subst (λ n. set (first ++ (get_or old k e ∷ rest)) n e ≡ first ++ (e ∷ rest)) long (set-append_seam first (get_or old k e) rest e) in
    let more = map_more choice_entry chosen k d there in
    ap (λ (l : List ChoiceEntry). set (first ++ l) k e) split ∙ store ∙ sym (ap (λ (l : List ChoiceEntry). l ++ rest) more ∙ append_assoc first (e ∷ []) rest)
