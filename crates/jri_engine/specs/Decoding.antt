-- What the decoding of a file writes: its image with the restart markers as they are, or with them in step.
use Rattle.std.specs.Prelude.{◌≡◌, ℕ, Bool, true, false, List, Option}
use Rattle.jr_segments.specs.declared.refusal.Refusal.{Refusal}
use Rattle.jr_head.specs.Heads.{RefusalOf}
use Rattle.jri_file.specs.Files.{OfFile}
use Rattle.jri_engine.specs.declared.resync.ResyncedReport.{ResyncedReport}
use Rattle.jri_engine.specs.Files.{BeginsImage, Paints}
use Rattle.jri_engine.specs.Resync.{BeginsResynced, PaintsResynced, RefusesResync}

-- the image of what a reader has left was appended, and this is its report
abbrev pub PaintsBy : (is_resync : Bool) → Option (List ℕ) → Option ℕ → ResyncedReport → Option (List ℕ) → Option (List ℕ) → Type 0
PaintsBy false remaining first r old new = Paints remaining first r.report old new
PaintsBy true remaining first r old new = OfFile remaining (λ file. PaintsResynced file first r old new)

-- a beginning of it was
abbrev pub BeginsBy : (is_resync : Bool) → Option (List ℕ) → Option ℕ → Option (List ℕ) → Option (List ℕ) → Type 0
BeginsBy false remaining first old new = BeginsImage remaining first old new
BeginsBy true remaining first old new = OfFile remaining (λ file. BeginsResynced file first old new)

-- the file is refused
abbrev pub RefusesBy : (is_resync : Bool) → Option (List ℕ) → Refusal → Type 0
RefusesBy false remaining f = OfFile remaining (λ file. RefusalOf file f)
RefusesBy true remaining f = OfFile remaining (λ file. RefusesResync file f)
