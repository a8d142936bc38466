-- A source that has moved from a position between two rows of MCUs to a later one.
use Rattle.std.proofs.Common.{◌≡◌, ℕ, ◌+◌, ◌*◌, ◌<◌, ◌≤◌, List, length, refl, sym, ap, subst, ◌∙◌, arith}
use Rattle.std.specs.Prelude.{true}
use Rattle.jr_head.specs.HeadValue.{HeadValue}
use Rattle.jr_head.specs.Geometry.{mcus_across, mcus_down}
use Rattle.jr_scan.specs.ScanValue.{ScanValue}
use Rattle.jr_rows.specs.Cursors.{mcus_to}
use Rattle.jr_rows.specs.Groups.{units_in}
use Rattle.jr_arrival.specs.declared.file_source.FileSource.{FileSource}
use Rattle.jr_arrival.specs.declared.file_bytes.FileBytes.{FileBytes}
use Rattle.jr_arrival.specs.declared.place.RowPlace.{RowPlace}
use Rattle.jr_arrival.specs.FileSources.{IsFileSource, IsRightIn, Waits, source_of}
use Rattle.jr_arrival.specs.Meaning.{IsPlaceIn, MayBe}
use Rattle.jr_arrival.specs.Places.{IsIn, IsPlaceOf}
use Rattle.jr_arrival.specs.Shown.{LeavesRowAt, ShowsRow}
use Rattle.jr_arrival.specs.Sources.{Steps, Walks}
use Rattle.jr_arrival.specs.Parts.{last_part, part_of}
use Rattle.jr_arrival.proofs.Parts.{may_end}
use Rattle.jr_arrival.proofs.SourceSteps.{row_shown}
use Rattle.jr_arrival.proofs.Waiting.{row_waits}

pub record HasCome (h : HeadValue) (f : FileBytes) (start p : RowPlace) (s : FileSource) : Type 0 where
  pub at : IsFileSource h s
  pub file : s.window.file ≡ f
  pub before : mcus_to h s.cursor ≡ p.row * mcus_across h
  pub lies : IsPlaceOf h p
  pub on : start.row ≤ p.row
  pub none : p.row ≡ start.row → p ≡ start
  pub place : (whole : List ℕ) (t : ScanValue) → MayBe (part_of f) h whole t → IsPlaceIn (part_of f) whole t start → IsRightIn whole t s × IsPlaceIn (part_of f) whole t p

pub comes_first : (h : HeadValue) (f : FileBytes) (p : RowPlace) (s : FileSource) → IsPlaceOf h p → IsFileSource h s → s.window.file ≡ f → mcus_to h s.cursor ≡ p.row * mcus_across h
    → ((whole : List ℕ) (t : ScanValue) → MayBe (part_of f) h whole t → IsPlaceIn (part_of f) whole t p → IsRightIn whole t s) → HasCome h f p p s
comes_first h f p s lies is file before there = record { at = is; file = file; before = before; lies = lies; on = omega arith; none = λ same. refl; place = λ whole t may is. (there whole t may is, is) }

module _ (h : HeadValue) (f : FileBytes) (start p : RowPlace) (s : FileSource) (come : HasCome h f start p s) (inside : p.row < mcus_down h) where
  -- a file that the bytes may be is one that those of the source may be
  may_come : (whole : List ℕ) (t : ScanValue) → MayBe (part_of f) h whole t → MayBe (part_of s.window.file) h whole t
  may_come whole t = subst (λ (g : FileBytes). MayBe (part_of g) h whole t) (sym come.file)

  pub leaves_at : (d : FileSource) (n : ℕ) → Steps h (source_of s) (source_of d) n → n < mcus_across h → Waits h d → LeavesRowAt (part_of f) h start p.row
  leaves_at d n steps lt waits so_far t may is =
      row_waits h s d p.row n steps come.before lt inside waits so_far t (subst (λ (g : FileBytes). MayBe (last_part (part_of g)) h so_far t) (sym come.file) may) (come.place so_far t (may_end (part_of f) h so_far t may) is).0

  -- the row that it has walked over is the image's
  pub shows_row : (d : FileSource) (n : ℕ) (old new : List (List ℕ)) → Walks h (source_of s) (source_of d) true 0 n old new → n ≡ mcus_across h → (whole : List ℕ) (t : ScanValue) → MayBe (part_of f) h whole t → IsPlaceIn (part_of f) whole t start → ShowsRow t p.row new
  shows_row d n old new walks all whole t may is =
      let shown = walks.shows refl (p.row * mcus_across h) (omega (arith, come.before)) whole t (may_come whole t may, (come.place whole t may is).0) (λ b first k lt. absurd (omega (arith, lt))) in
      row_shown t h (length t.intervals) p.row (0 + n) (units_in t.head new) may.head (omega (arith, all)) shown

  -- past the next row of MCUs, to the position after it
  pub comes_on : (d e : FileSource) (n : ℕ) (new : RowPlace) → Steps h (source_of s) (source_of d) n → n ≡ mcus_across h → Steps h (source_of d) (source_of e) 0 → new.row ≡ p.row + 1 → new.interval ≡ e.cursor.number → new.mcu ≡ e.cursor.mcu
      → ((whole : List ℕ) (t : ScanValue) → IsFileSource h d → MayBe (part_of d.window.file) h whole t → IsRightIn whole t d → IsPlaceIn (part_of d.window.file) whole t new) → HasCome h f start new e
  comes_on d e n new over all stays next number mcu place =
      let row : (p.row + 1) * mcus_across h ≡ new.row * mcus_across h = ap (λ (k : ℕ). k * mcus_across h) (sym next) in
      let before : mcus_to h e.cursor ≡ new.row * mcus_across h = omega (arith, stays.passed, over.passed, come.before, all, row) in
      record {
        at = stays.at;
        file = stays.part ∙ over.part ∙ come.file;
        before = before;
        lies = record {
          row = omega (arith, next, inside);
          is_in = subst (λ (k : ℕ). IsIn h k new.mcu) (sym number) (subst (IsIn h e.cursor.number) (sym mcu) stays.at.is_in);
          at = omega (arith, ap (λ (k : ℕ). k * h.restart) number, mcu, before);
        };
        on = omega (arith, next, come.on);
        none = λ same. absurd (omega (arith, next, same, come.on));
        place = λ whole t may is.
            let right = over.right whole t (may_come whole t may, (come.place whole t may is).0) in
            let there = stays.right whole t right in
            (there.1, subst (λ (g : FileBytes). IsPlaceIn (part_of g) whole t new) (over.part ∙ come.file) (place whole t over.at right.0 right.1));
      }
