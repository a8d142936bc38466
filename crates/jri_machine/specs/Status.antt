-- Exit statuses of arguments that ask for nothing further.
use Rattle.std.specs.Prelude.{ℕ, Bool, if◌then◌else◌}
use Rattle.jri_machine.specs.declared.unasked.Unasked.{Unasked}
use Rattle.jri_machine.specs.declared.unasked.Unasked.TheVariants.{Help, Wrong, Memory}

-- the status of a program whose failures have the status `failed`
abbrev pub unasked_status : (failed : ℕ) → Unasked → ℕ
unasked_status failed (Help text) = 0
unasked_status failed (Wrong text) = 2
unasked_status failed Memory = failed

-- the same if writing the help or the version may have failed
abbrev pub answered_status : (failed : ℕ) → Unasked → Bool → ℕ
answered_status failed (Help text) has_failed = if has_failed then failed else 0
answered_status failed (Wrong text) has_failed = 2
answered_status failed Memory has_failed = failed

-- the arguments ask for the help or the version
abbrev pub AsksForHelp : Unasked → Type 0
AsksForHelp (Help text) = Unit {0}
AsksForHelp (Wrong text) = ⊥
AsksForHelp Memory = ⊥
