-- What notes know of the cells that they are of, whatever these hold.
use Rattle.std.specs.Prelude.{◌≡◌, ◌≢◌, ℕ, ◌+◌, List, [], ◌∷◌, map, slice_index_or, Option, Some, None}
use Rattle.once_cell.specs.declared.race.note.Note.{Note}

-- the names of the cells
abbrev pub names_of : {X : Type 0} → List (Note X) → List ℕ
names_of ns = map (λ n. n.cell) ns

-- what they know of each
abbrev pub known_of : {X : Type 0} → List (Note X) → List (Option X)
known_of ns = map (λ n. n.known) ns

-- they know what the cell at this index holds
abbrev pub KnowAt : {X : Type 0} → List (Note X) → ℕ → X → Type 0
KnowAt ns at x = slice_index_or (known_of ns) at None ≡ Some x

-- they know of nothing there
abbrev pub KnowNothingAt : {X : Type 0} → List (Note X) → ℕ → Type 0
KnowNothingAt ns at = slice_index_or (known_of ns) at None ≡ None

-- the new notes know all that the old ones knew
abbrev pub KeepAll : {X : Type 0} → List (Note X) → List (Note X) → Type 0
KeepAll {X} old new = (i : ℕ) (x : X) → KnowAt old i x → KnowAt new i x

-- except at this index the new ones know what the old ones knew
abbrev pub KeepOthers : {X : Type 0} → ℕ → List (Note X) → List (Note X) → Type 0
KeepOthers at old new = (i : ℕ) → i ≢ at → slice_index_or (known_of new) i None ≡ slice_index_or (known_of old) i None

-- both agree on each cell of which both know what it holds
abbrev pub NotesAgree : {X : Type 0} → List (Note X) → List (Note X) → Type 0
NotesAgree {X} one two = (i : ℕ) (x y : X) → KnowAt one i x → KnowAt two i y → x ≡ y

-- what is known of the cells starting at an index, as far as it counts there
abbrev pub counted : {X V : Type 0} → (ℕ → Option X → Option V) → ℕ → List (Option X) → List (Option V)
counted counts place [] = []
counted counts place (k ∷ ks) = counts place k ∷ counted counts (place + 1) ks
