-- What is made in a directory, one after another.
use Rattle.std.proofs.Common.{◌≡◌, ℕ, Bool, false, inl, inr, List, [], ◌∷◌, ◌++◌, Option, Result, Ok, Err, OnOk, OnErr, refl, sym, subst}
use Rattle.std.specs.List.{AllByRecursion}
use Rattle.jri_machine.specs.declared.devices.Existing.TheVariants.{Kept}
use Rattle.jri_machine.specs.Steps.{Step, Made, Follow, LeavesFile, IsInDirectory}
use Rattle.jri_mending.specs.Making.{MakesNew, MakesEach, MakesWithin}

pub makes_none : (directory : List ℕ) (a : Option (List Step)) → MakesWithin directory a a
makes_none directory a = record { names = []; within = tt; made = refl }

all_more : (P : List ℕ → Type 0) (ms ns : List (List ℕ)) → AllByRecursion P ms → AllByRecursion P ns → AllByRecursion P (ms ++ ns)
all_more P [] ns p q = q
all_more P (m ∷ ms) ns p q = (p.0, all_more P ms ns p.1 q)

each_more : (ms ns : List (List ℕ)) (a b c : Option (List Step)) → MakesEach ms a b → MakesEach ns b c → MakesEach (ms ++ ns) a c
each_more [] ns a b c p q = subst (λ (o : Option (List Step)). MakesEach ns o c) (sym p) q
each_more (m ∷ ms) ns a b c p q = (p.0, p.1, each_more ms ns p.0 b c p.2 q)

pub makes_more : (directory : List ℕ) (a b c : Option (List Step)) → MakesWithin directory a b → MakesWithin directory b c → MakesWithin directory a c
makes_more directory a b c p q =
    record {
      names = p.names ++ q.names;
      within = all_more (IsInDirectory directory) p.names q.names p.within q.within;
      made = each_more p.names q.names a b c p.made q.made;
    }

makes_one : (directory name : List ℕ) (a b : Option (List Step)) → IsInDirectory directory name → MakesNew name a b → MakesWithin directory a b
makes_one directory name a b is p = record { names = name ∷ []; within = (is, tt); made = (b, p, refl) }

pub makes_directory : (directory name : List ℕ) (a b : Option (List Step)) → IsInDirectory directory name → Follow a b (Made name ∷ []) → MakesWithin directory a b
makes_directory directory name a b is p = makes_one directory name a b is (inl p)

pub makes_file : (directory name : List ℕ) (a b : Option (List Step)) (is_written : Bool) → IsInDirectory directory name → LeavesFile (λ _. ⊥) Kept name a b is_written → MakesWithin directory a b
makes_file directory name a b is_written is p = makes_one directory name a b is (inr (is_written, p))

pub makes_nothing : (directory name : List ℕ) (a b : Option (List Step)) → IsInDirectory directory name → Follow a b [] → MakesWithin directory a b
makes_nothing directory name a b is p = makes_file directory name a b false is (inl p)

-- a directory is made, or that fails
pub makes_directory_or_nothing : {T E : Type 0} (directory name : List ℕ) (a b : Option (List Step)) (r : Result T E) → IsInDirectory directory name
    → OnOk r (Follow a b (Made name ∷ [])) → OnErr r (Follow a b []) → MakesWithin directory a b
makes_directory_or_nothing directory name a b (Ok x) is p q = makes_directory directory name a b is p
makes_directory_or_nothing directory name a b (Err x) is p q = makes_nothing directory name a b is q
