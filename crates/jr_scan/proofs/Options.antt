-- What holds for bits that are read if there are enough.
use Rattle.std.proofs.Common.{◌≡◌, ℕ, ◌≤◌, Bool, List, length, take, drop, Option, Some, None}
use Rattle.std.specs.Prelude.{IsSome, IfSome}
use Rattle.jr_code.specs.Bits.{number}

pub taken_any : (n : ℕ) (old new : List Bool) (r : Option ℕ) → (n ≤ length old → IsSome r) → IfSome r (λ v. (v ≡ number (take n old)) × (new ≡ drop n old)) → n ≤ length old → new ≡ drop n old
taken_any n old new (Some v) found taken le = taken.1
taken_any n old new None found taken le = let h = found le in absurd cc
