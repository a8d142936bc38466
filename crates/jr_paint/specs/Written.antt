-- What is written of a text, and what is held back.
use Rattle.std.specs.Prelude.{◌≡◌, ℕ, List, ◌++◌, Option, Result, OnOk, OnErr, is_err}
use Rattle.std.specs.Io.KnownBytes.{Appends}
use Rattle.jr_base.specs.declared.tally.Tally.{Tally}
use Rattle.jr_base.specs.Tally.{Writes, WritesBeginning, has_failed, known_in}

-- a prefix of the bytes `before`, which were held back, is written after what is known of a writer: `after` are left
pub record WritesUpTo {T : Type 0} (known : T → Option (List ℕ)) (old new : Tally T) (before after : List ℕ) : Type 0 where
  pub sent : List ℕ
  pub whole : before ≡ sent ++ after
  pub appended : Appends (known_in known old) (known_in known new) sent

-- by a call with this result the text is written, or a beginning of it, and then the writer has failed
pub record IsSent {T U E : Type 0} (known : T → Option (List ℕ)) (old new : Tally T) (result : Result U E) (text : List ℕ) : Type 0 where
  pub ok : OnOk result (Writes known old new text)
  pub err : OnErr result (WritesBeginning known old new text)
  pub failed : has_failed new ≡ is_err result
