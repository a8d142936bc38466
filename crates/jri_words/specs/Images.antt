-- What a run does with the files of images.
use Rattle.std.specs.Prelude.{◌≡◌, ℕ, List, [], ◌∷◌, Option, Bool, true, false, ◌==◌, ◌||◌, ◌⊎◌, length, if◌then◌else◌}
use Rattle.std.specs.List.{AllByRecursion}
use Rattle.std.specs.String.{string_bytes}
use Rattle.clap.specs.Words.{Text}
use Rattle.jri_machine.specs.declared.devices.Existing.TheVariants.{Replaced, Kept}
use Rattle.jri_machine.specs.Steps.{Step, Follow, IsInDirectory, LeavesFile}
use Rattle.jri_words.specs.CommandLine.{IsTargetOf, is_taken}
use Rattle.jri_words.specs.declared.answers.Target.{Target}
use Rattle.jri_words.specs.declared.answers.Target.TheVariants as target

-- what it does with the target of an image: nothing with a file if that is standard output
abbrev pub Leaves : (are_devices : List ℕ → Type 0) → Target → Option (List Step) → Option (List Step) → Bool → Type 0
Leaves are_devices target.Output old new is_written = Follow old new []
Leaves are_devices target.AnyOutput old new is_written = Follow old new []
Leaves are_devices (target.File name) old new is_written = LeavesFile are_devices Replaced (string_bytes name) old new is_written

-- the exit statuses of images that are written
abbrev pub is_picture_status : ℕ → Bool
is_picture_status status = (status == 0) || (status == 3)

-- nothing is done with files; arguments that the command line takes then have no status of an image
pub record AsksNothing (words : List Text) (old new : Option (List Step)) (status : ℕ) : Type 0 where
  pub unmoved : Follow old new []
  pub unwritten : is_taken words ≡ true → is_picture_status status ≡ false

-- what a run with these arguments does with files: what belongs to the target that they name, or nothing
abbrev pub LeavesNamed : (are_devices : List ℕ → Type 0) → List Text → Option (List Step) → Option (List Step) → ℕ → Type 0
LeavesNamed are_devices words old new status =
    AsksNothing words old new status ⊎ ((t : Target) × IsTargetOf words t × Leaves are_devices t old new (is_picture_status status))

-- how the decoding of one file of many ended: the name of its image, and its exit status
pub record ImageEnd : Type 0 where
  pub name : List ℕ
  pub status : ℕ

-- the statuses of two files as one: the first that applies of 1, 2, 3 and 0
abbrev pub worse : ℕ → ℕ → ℕ
worse a b =
    if (a == 1) || (b == 1) then 1 else
    if (a == 2) || (b == 2) then 2 else
    if (a == 3) || (b == 3) then 3 else 0

-- the same of those before and of many
abbrev pub worst_of : ℕ → List ImageEnd → ℕ
worst_of before [] = before
worst_of before (e ∷ es) = worst_of (worse before e.status) es

-- images are made one after another, each by a part that takes its name if it is written and nothing has the name, and is otherwise removed
abbrev pub LeavesEach : List ImageEnd → Option (List Step) → Option (List Step) → Type 0
LeavesEach [] old new = old ≡ new
LeavesEach (e ∷ es) old new = (mid : Option (List Step)) × LeavesFile (λ _. ⊥) Kept e.name old mid (is_picture_status e.status) × LeavesEach es mid new

-- the images of `files` files are made in a directory
pub record DecodesEach (directory : List ℕ) (files : ℕ) (old new : Option (List Step)) (status : ℕ) : Type 0 where
  pub ends : List ImageEnd
  pub count : length ends ≡ files
  pub within : AllByRecursion (λ e. IsInDirectory directory e.name) ends
  pub left : LeavesEach ends old new
  pub worst : status ≡ worst_of 0 ends
