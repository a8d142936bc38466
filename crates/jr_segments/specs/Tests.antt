-- Tests in their order: each says whether it fails, and which refusal that is.
use Rattle.std.specs.Prelude.{◌≡◌, ◌≢◌, Bool, List, [], ◌∷◌, Option, Some, None, Result, Ok, Err, if◌then◌else◌}
use Rattle.jr_segments.specs.declared.refusal.Refusal.{Refusal}
use Rattle.jr_segments.specs.declared.refusal.Refusal.TheVariants.{Memory}

pub record Test : Type 0 where
  pub fails : Bool
  pub refusal : Refusal

infix 5 ◌when◌
abbrev pub ◌when◌ : Refusal → Bool → Test
r when b = record { fails = b; refusal = r }

-- the refusal of the first test that fails
abbrev pub first_fault : List Test → Option Refusal
first_fault [] = None
first_fault (t ∷ ts) = if t.fails then Some t.refusal else first_fault ts

-- the function returns what the tests say, unless memory ran out
abbrev pub Obeys : {X : Type 0} → Result X Refusal → List Test → Type 0
Obeys (Ok x) ts = first_fault ts ≡ None
Obeys (Err e) ts = e ≢ Memory → first_fault ts ≡ Some e
