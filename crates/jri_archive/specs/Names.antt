-- The names of the files that are to be checked.
use Rattle.std.specs.Prelude.{◌≡◌, ℕ, ◌==◌, false, List, [], ◌∷◌, ◌++◌, drop, map, Option, Some, None, if◌then◌else◌}
use Rattle.std.specs.Prelude.{option_map}
use Rattle.std.specs.Global.{Vec}
use Rattle.std.specs.Str.{IsUtf8}
use Rattle.jri_archive.specs.declared.given.ListedName.{ListedName}
use Rattle.jri_machine.specs.declared.walking.NamedFile.{NamedFile}
use Rattle.jri_machine.specs.declared.entries.ReadError.{ReadError}
use Rattle.jri_machine.specs.declared.entries.ReadError.TheVariants.{NameIsNoText}

-- the byte, and then the first of these names
abbrev pub begin_with : ℕ → List (List ℕ) → List (List ℕ)
begin_with b [] = (b ∷ []) ∷ []
begin_with b (n ∷ ns) = (b ∷ n) ∷ ns

-- the names of a list: each ends at a NUL byte, the last one also with the list
abbrev pub names_in : List ℕ → List (List ℕ)
names_in [] = []
names_in (b ∷ bs) = if b == 0 then [] ∷ names_in bs else begin_with b (names_in bs)

-- the names among the arguments after the first ones, and those of the bytes that a list has left, if these are known
abbrev pub names_left : {L : Type 0} → (L → Option (List ℕ)) → List (Vec ℕ) → ℕ → Option L → Option (List (List ℕ))
names_left remaining words taken None = Some (drop taken (map (λ w. w.items) words))
names_left remaining words taken (Some list) = option_map (λ bytes. drop taken (map (λ w. w.items) words) ++ names_in bytes) (remaining list)

-- the same if directories are searched
abbrev pub known_names : {W : Type 0} → Option (List (List ℕ)) → Option W → Option (List (List ℕ))
known_names given None = given
known_names given (Some walk) = None

-- the next name of a list that has these bytes left, if they are known, and what it then has left
abbrev pub IsNextListed : Option (List ℕ) → Option ListedName → Option (List ℕ) → Type 0
IsNextListed None listed left = Unit {0}
IsNextListed (Some bytes) None left = bytes ≡ []
IsNextListed (Some bytes) (Some listed) left = (rest : List ℕ) × (left ≡ Some rest) × (names_in bytes ≡ listed.name.items ∷ names_in rest)

-- the next of these names, and those that are left
abbrev pub IsNextGiven : List (List ℕ) → Option (Vec ℕ) → Option (List (List ℕ)) → Type 0
IsNextGiven [] name left = (name ≡ None) × (left ≡ Some [])
IsNextGiven (n ∷ ns) name left = (left ≡ Some ns) × ((taken : Vec ℕ) × (name ≡ Some taken) × (taken.items ≡ n))

-- a file is not opened since its name is not UTF-8
abbrev pub IsNoText : List ℕ → ReadError → Type 0
IsNoText name e = (e ≡ NameIsNoText) × (IsUtf8 name → ⊥)

-- a file has that name, is not opened only if the name is not UTF-8, and is not skipped
pub record IsNamed (file : NamedFile) (name : List ℕ) : Type 0 where
  pub name_is : file.name.items ≡ name
  pub error : (e : ReadError) → file.error ≡ Some e → IsNoText file.name.items e
  pub kept : file.is_skipped ≡ false

-- the file of the next of these names, and those that are left
abbrev pub IsNextFile : List (List ℕ) → Option NamedFile → Option (List (List ℕ)) → Type 0
IsNextFile [] file left = (file ≡ None) × (left ≡ Some [])
IsNextFile (n ∷ ns) file left = (left ≡ Some ns) × ((f : NamedFile) × (file ≡ Some f) × IsNamed f n)
