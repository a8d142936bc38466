-- What a clause reads of a `Tally`.
use Rattle.std.specs.Prelude.{◌≡◌, ℕ, Bool, true, ◌&&◌, ◌==◌, nat_lt, List, ◌++◌, length, Option, Result, Ok, Err}
use Rattle.std.specs.Io.KnownBytes.{Appends}
use Rattle.jr_base.specs.declared.tally.Tally.{Tally}

abbrev pub inner_of : {T : Type 0} → Tally T → T
inner_of t = t.inner

-- `t.failed()`
abbrev pub has_failed : {T : Type 0} → Tally T → Bool
has_failed t = t.has_failed

-- the bytes that are known of what is inside
abbrev pub known_in : {T : Type 0} → (T → Option (List ℕ)) → Tally T → Option (List ℕ)
known_in known t = known t.inner

-- a write returned an error, or took none of at least one byte
abbrev pub took_none : {E : Type 0} → Result ℕ E → List ℕ → Bool
took_none (Ok n) buf = (n == 0) && nat_lt 0 (length buf)
took_none (Err e) buf = true

-- known bytes grow by a beginning of bs
pub record AppendsBeginning (old new : Option (List ℕ)) (bs : List ℕ) : Type 0 where
  pub sent : List ℕ
  pub left : List ℕ
  pub whole : bs ≡ sent ++ left
  pub appended : Appends old new sent

-- these bytes are written after what is known of a writer
abbrev pub Writes : {T : Type 0} → (T → Option (List ℕ)) → Tally T → Tally T → List ℕ → Type 0
Writes known old new bs = Appends (known_in known old) (known_in known new) bs

-- a beginning of these bytes is
abbrev pub WritesBeginning : {T : Type 0} → (T → Option (List ℕ)) → Tally T → Tally T → List ℕ → Type 0
WritesBeginning known old new bs = AppendsBeginning (known_in known old) (known_in known new) bs
