-- What is written of a decoded scan is written of an image of it.
use Rattle.std.proofs.Common.{◌≡◌, ℕ, ◌≤◌, List, length, Option, Result, Ok, Err}
use Rattle.jr_base.specs.declared.tally.Tally.{Tally}
use Rattle.jr_base.proofs.Appending.{from_err}
use Rattle.jr_head.specs.Geometry.{IsValid}
use Rattle.jr_scan.specs.IntervalValue.{IntervalValue}
use Rattle.jr_scan.specs.ScanValue.{ScanValue}
use Rattle.jr_piece.specs.Outcome.{HasOutcome}
use Rattle.jr_picture.specs.declared.counts.Counts.{Counts}
use Rattle.jr_picture.specs.DecodedScan.{marks_of}
use Rattle.jr_picture.specs.Samples.{samples_of}
use Rattle.jr_picture.specs.Writing.{WritesPicture, BeginsPicture}
use Rattle.jr_rows.specs.Stream.{SendsPicture, HasCounts}
use Rattle.jr_rows.proofs.FirstDecoded.{first_decoded, shows_first}
use Rattle.jr_rows.proofs.PictureRows.{from_ok}

module _ {T U E : Type 0} (known : T → Option (List ℕ)) (old new : Tally T) (r : Result U E) (each : (i : IntervalValue) → HasOutcome i) (scan : ScanValue) (valid : IsValid scan.head) (n : ℕ) (few : n ≤ length scan.intervals) (sends : SendsPicture known old new r scan n) where
  pub painted_picture : (m : U) → r ≡ Ok m → (c : Counts) → HasCounts scan n c → WritesPicture known old new scan n c
  painted_picture m e c counts =
      let board = first_decoded each scan n few in
      record {
        marks = marks_of board.0;
        f = samples_of board.0;
        shows = shows_first scan n board.0 board.1 valid;
        text = from_ok r m _ e (sends board.0 board.1).ok;
        counted = counts board.0 board.1;
      }

  pub begun_picture : (x : E) → r ≡ Err x → BeginsPicture known old new scan n
  begun_picture x e =
      let board = first_decoded each scan n few in
      record {
        marks = marks_of board.0;
        f = samples_of board.0;
        shows = shows_first scan n board.0 board.1 valid;
        front = from_err r x _ e (sends board.0 board.1).err;
      }
