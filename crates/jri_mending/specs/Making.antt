-- What is made in a directory.
use Rattle.std.specs.Prelude.{◌≡◌, ℕ, List, [], ◌∷◌, Option, Bool, ◌⊎◌}
use Rattle.std.specs.List.{AllByRecursion}
use Rattle.jri_machine.specs.declared.devices.Existing.TheVariants.{Kept}
use Rattle.jri_machine.specs.Steps.{Step, Made, Follow, LeavesFile, IsInDirectory}

-- a directory of that name is made; or a part, which takes the name if nothing has it, or is removed; or nothing
abbrev pub MakesNew : List ℕ → Option (List Step) → Option (List Step) → Type 0
MakesNew name old new = Follow old new (Made name ∷ []) ⊎ ((is_written : Bool) × LeavesFile (λ _. ⊥) Kept name old new is_written)

-- the same of several names, one after another
abbrev pub MakesEach : List (List ℕ) → Option (List Step) → Option (List Step) → Type 0
MakesEach [] old new = old ≡ new
MakesEach (n ∷ ns) old new = (mid : Option (List Step)) × MakesNew n old mid × MakesEach ns mid new

-- all that is made has names in a directory, and replaces nothing
pub record MakesWithin (directory : List ℕ) (old new : Option (List Step)) : Type 0 where
  pub names : List (List ℕ)
  pub within : AllByRecursion (IsInDirectory directory) names
  pub made : MakesEach names old new
