-- Buffers whose first bytes are written.
use Rattle.std.proofs.Common.{◌≡◌, ◌<◌, ◌≤◌, ℕ, List, ◌++◌, length, take, drop, None, inl, inr, sym, ap, ◌∙◌, arith}
use Rattle.std.proofs.lemmas.Bool.{cases_lt}
use Rattle.std.proofs.lemmas.List.{length-take-le, take-append-drop}
use Rattle.jri_memory.specs.Calls.{over}
use Rattle.jri_file.specs.Files.{IsScanOfFile, IsPictureOf}
use Rattle.jr_scan.specs.ScanValue.{ScanValue}
use Rattle.jr_picture.specs.declared.mark.Mark.{Mark}
use Rattle.jr_picture.specs.Headline.{ShowsFirst}

-- bytes at the start of a buffer, and after them what was there
pub filled : (bytes front old : List ℕ) (n : ℕ) → bytes ≡ front → length bytes ≡ n → bytes ++ drop n old ≡ over front old
filled bytes front old n is long = ap (λ (k : ℕ). bytes ++ drop k old) (sym long) ∙ ap (λ (z : List ℕ). over z old) is

-- what a scan of the file shows, all of whose intervals are marked, is an image of the file
pub picture_shown : (file : List ℕ) (scan : ScanValue) (marks : List Mark) (f : ℕ → ℕ → ℕ → ℕ) → IsScanOfFile file scan → ShowsFirst scan (length scan.intervals) marks f → IsPictureOf file None scan marks f
picture_shown file scan marks f is shows = record { is_scan = is; picture = shows.picture; decoded = shows.first }

-- a buffer whose first bytes are written back unchanged
pub unwritten : (front old : List ℕ) (n : ℕ) → front ≡ take n old → front ++ drop n old ≡ old
unwritten front old n is = ap (λ (z : List ℕ). z ++ drop n old) is ∙ take-append-drop n old

-- the requested marks fit
pub asked_few : (len count asked : ℕ) → (0 < len → asked ≡ count) → (len ≡ 0 → asked ≡ 0) → (0 < len → count ≤ len) → asked ≤ len
asked_few len count asked all none few = elim (cases_lt 0 len) [ inl some ↦ omega (arith, all some, few some) | inr past ↦ omega (arith, none (omega (arith, past))) ]

-- if some are requested, all are
pub asked_all : (len count asked : ℕ) → (0 < len → asked ≡ count) → (len ≡ 0 → asked ≡ 0) → 0 < asked → asked ≡ count
asked_all len count asked all none some = elim (cases_lt 0 len) [ inl more ↦ all more | inr past ↦ omega (arith, none (omega (arith, past)), some) ]

-- the requested marks, as a part of the buffer of all
module _ (marks : List ℕ) (count asked : ℕ) (all : 0 < length marks → asked ≡ count) (none : length marks ≡ 0 → asked ≡ 0) (few : 0 < length marks → count ≤ length marks) where
  pub asked_long : length (take asked marks) ≡ asked
  asked_long = length-take-le asked marks (asked_few (length marks) count asked all none few)

  pub asked_space : (n : ℕ) → count ≡ n → 0 < length (take asked marks) → length (take asked marks) ≡ n
  asked_space n is there = asked_long ∙ asked_all (length marks) count asked all none (omega (arith, there, asked_long)) ∙ is
