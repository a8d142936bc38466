-- What a clause reads of a `Noted`.
use Rattle.std.specs.Prelude.{Bool}
use Rattle.jri_machine.specs.declared.noted.Noted.{Noted}

-- the reader or writer
abbrev pub noted_in : {T : Type 0} → Noted T → T
noted_in n = n.inner

-- a flush succeeded, and nothing was written after it
abbrev pub has_flushed : {T : Type 0} → Noted T → Bool
has_flushed n = n.is_flushed
