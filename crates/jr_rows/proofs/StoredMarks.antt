-- The marks that are written into a buffer.
use Rattle.std.proofs.Common.{◌≡◌, ℕ, ◌+◌, ◌<◌, ◌≤◌, Bool, cond, inl, inr, List, length, map, get_or, refl, sym, ap, ◌∙◌, arith}
use Rattle.std.specs.Prelude.{slice_index}
use Rattle.std.proofs.Math.ListN.{get_or-map}
use Rattle.std.proofs.lemmas.Bool.{cases_lt}
use Rattle.std.proofs.lemmas.Grind.{same_number_lists}
use Rattle.std.proofs.lemmas.List.{length-map}
use Rattle.jr_scan.specs.ScanValue.{ScanValue, interval_of}
use Rattle.jr_piece.specs.PieceValue.{PieceValue}
use Rattle.jr_piece.specs.Outcome.{IsOutcome}
use Rattle.jr_picture.specs.declared.mark.Mark.{Mark}
use Rattle.jr_picture.specs.declared.mark.Mark.TheVariants.{Blank, Sound, Damaged}
use Rattle.jr_picture.specs.DecodedScan.{mark_of}
use Rattle.jr_picture.specs.Headline.{mark_in}
use Rattle.jr_picture.proofs.DecodedPictures.{marks_at}
use Rattle.jr_rows.specs.MarkBytes.{StoresMarks, mark_byte}
use Rattle.jr_rows.proofs.ReadRows.{mark_there}

-- none is written
pub stores_none : (scan : ScanValue) (n from to : ℕ) (bytes : List ℕ) → from ≡ to → StoresMarks scan n from to bytes bytes
stores_none scan n from to bytes e = record {
  long = refl;
  store = λ b first some k le lt. absurd (omega (arith, e, le, lt));
  kept = λ k lt. refl;
}

-- that of one interval is written
pub stores_one : (scan : ScanValue) (n number : ℕ) (old new : List ℕ) → number < n → (t : Bool) → ((p : PieceValue) → IsOutcome p → p.interval ≡ interval_of scan number → p.is_sound ≡ t)
    → length new ≡ length old → (0 < length old → slice_index new number ≡ mark_byte (cond t Sound Damaged)) → ((k : ℕ) → k < number → slice_index new k ≡ slice_index old k)
    → StoresMarks scan n number (number + 1) old new
stores_one scan n number old new decoded t reports long at kept = record {
  long = long;
  store = λ b first some k le lt.
      let is : k ≡ number = omega (arith, le, lt) in
      let mark = marks_at b.pieces number ∙ mark_there scan n number decoded t reports b first in
      ap (slice_index new) is ∙ at some ∙ ap mark_byte (sym mark) ∙ ap (λ (i : ℕ). mark_byte (mark_in (map mark_of b.pieces) i)) (sym is);
  kept = kept;
}

-- those of two parts are written
pub stores_both : (scan : ScanValue) (n from at to : ℕ) (old mid new : List ℕ) → from ≤ at → StoresMarks scan n from at old mid → StoresMarks scan n at to mid new → StoresMarks scan n from to old new
stores_both scan n from at to old mid new le a c = record {
  long = c.long ∙ a.long;
  store = λ b first some k after lt. elim (cases_lt k at) [
    | inl l ↦ c.kept k l ∙ a.store b first some k after l
    | inr r ↦ c.store b first (omega (arith, some, a.long)) k r lt
  ];
  kept = λ k lt. c.kept k (omega (arith, lt, le)) ∙ a.kept k lt;
}

-- bytes that are those of marks
pub are_marks : (marks : List Mark) (bytes : List ℕ) → length bytes ≡ length marks → ((k : ℕ) → k < length marks → get_or bytes k 0 ≡ mark_byte (mark_in marks k)) → bytes ≡ map mark_byte marks
are_marks marks bytes long each =
    same_number_lists bytes (map mark_byte marks) (long ∙ sym (length-map marks mark_byte)) (λ k p. each k (omega (arith, p, long)) ∙ sym (get_or-map mark_byte marks k Blank))
