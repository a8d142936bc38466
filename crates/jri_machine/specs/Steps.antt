-- The steps of a run in the directories of its machine.
use Rattle.std.specs.Prelude.{◌≡◌, ℕ, List, [], ◌∷◌, ◌++◌, Option, Some, None, ⊤, Bool, true, false, ◌⊎◌}
use Rattle.jri_machine.specs.declared.devices.Existing.{Existing}
use Rattle.jri_machine.specs.declared.devices.Existing.TheVariants.{Replaced, Kept}

-- a new file of this name is there; what was written to it is on the disk; it has another name, and replaces what had that name; it has
-- another name, which nothing had; a file is removed, or was to be; a device of this name is open; a new directory of this name is there
pub data Step : Type 0 where
  Created : List ℕ → Step
  Synced : List ℕ → Step
  Renamed : List ℕ → List ℕ → Step
  Named : List ℕ → List ℕ → Step
  Removed : List ℕ → Step
  Opened : List ℕ → Step
  Made : List ℕ → Step

-- a file gets another name, and what has that name is replaced or keeps it
abbrev pub placed : Existing → List ℕ → List ℕ → Step
placed Replaced from to = Renamed from to
placed Kept from to = Named from to

-- known steps are followed by these
abbrev pub Follow : Option (List Step) → Option (List Step) → List Step → Type 0
Follow None new steps = ⊤
Follow (Some xs) None steps = ⊥
Follow (Some xs) (Some ys) steps = ys ≡ xs ++ steps

-- a device that has this name is open
pub record OpensDevice (are_devices : List ℕ → Type 0) (name : List ℕ) (old new : Option (List Step)) : Type 0 where
  pub is : are_devices name
  pub opened : Follow old new (Opened name ∷ [])

-- a part is made, is written to the disk, and takes the name of its file
abbrev pub PlacesPart : Existing → List ℕ → Option (List Step) → Option (List Step) → Type 0
PlacesPart existing name old new = (part : List ℕ) × Follow old new (Created part ∷ Synced part ∷ placed existing part name ∷ [])

-- the last steps of a part that takes no name
abbrev pub Removes : List ℕ → Option (List Step) → Option (List Step) → Type 0
Removes part old new = Follow old new (Removed part ∷ []) ⊎ Follow old new (Synced part ∷ Removed part ∷ [])

-- a part is made and removed
abbrev pub RemovesPart : Option (List Step) → Option (List Step) → Type 0
RemovesPart old new = (part : List ℕ) × (mid : Option (List Step)) × Follow old mid (Created part ∷ []) × Removes part mid new

-- What a run does with an image's file: a device of that name is open; or a part is made, which takes the file's name if the image is
-- written, and is otherwise removed; or, if no image is written, nothing.
abbrev pub LeavesFile : (are_devices : List ℕ → Type 0) → Existing → List ℕ → Option (List Step) → Option (List Step) → Bool → Type 0
LeavesFile are_devices existing name old new true = OpensDevice are_devices name old new ⊎ PlacesPart existing name old new
LeavesFile are_devices existing name old new false = Follow old new [] ⊎ OpensDevice are_devices name old new ⊎ RemovesPart old new

-- the name of a file in a directory: the directory's, a slash, and something
abbrev pub IsInDirectory : List ℕ → List ℕ → Type 0
IsInDirectory directory name = (rest : List ℕ) × (name ≡ directory ++ (47 ∷ rest))
