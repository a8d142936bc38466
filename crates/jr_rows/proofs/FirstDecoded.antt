-- A scan whose first intervals are decoded.
use Rattle.std.proofs.Common.{◌≡◌, ◌≢◌, ℕ, ◌+◌, ◌<◌, ◌≤◌, Bool, true, false, cond, inl, inr, length, map, Option, Some, None, refl, sym, ap, subst, ◌∙◌, arith}
use Rattle.std.specs.List.{count_by, range_with_len}
use Rattle.std.proofs.Math.Dec.{leb}
use Rattle.std.proofs.lemmas.Bool.{cases_lt}
use Rattle.std.proofs.lemmas.Bool.Decides.{leb_tells}
use Rattle.std.proofs.lemmas.List.{get_or_past, length-map}
use Rattle.std.proofs.lemmas.List.FromFn.{get_or-map-range_with_len, length-map-range_with_len}
use Rattle.std.proofs.lemmas.Option.{none-some}
use Rattle.jr_head.specs.Geometry.{IsValid}
use Rattle.jr_scan.specs.IntervalValue.{IntervalValue}
use Rattle.jr_scan.specs.ScanValue.{ScanValue, IsSameScan, interval_of}
use Rattle.jr_scan.specs.FirstIntervalsValue.{least}
use Rattle.jr_piece.specs.PieceValue.{PieceValue}
use Rattle.jr_piece.specs.Outcome.{HasOutcome}
use Rattle.jr_picture.specs.declared.mark.Mark.TheVariants.{Blank, Sound, Damaged}
use Rattle.jr_picture.specs.DecodedScan.{DecodedScan, IsPieceOf, IsDecodedScan, piece_at, mark_of, marks_of, mark_at}
use Rattle.jr_picture.specs.Headline.{AreCounts, ShowsFirst, is_sound, is_damaged}
use Rattle.jr_picture.specs.Samples.{samples_of}
use Rattle.jr_picture.proofs.DecodedPictures.{first_marked, picture, same_picture}
use Rattle.jr_rows.specs.Rows.{DecodesFirst}

-- no more intervals are to be decoded than there are
pub least_few : (first : Option ℕ) (n : ℕ) → least first n ≤ n
least_few None n = omega arith
least_few (Some k) n = omega arith

pub not_blank : (t : Bool) → cond t Sound Damaged ≢ Blank
not_blank true e = absurd cc
not_blank false e = absurd cc

-- the result that T.81 defines for each of the first n intervals is posted
module _ (each : (i : IntervalValue) → HasOutcome i) (scan : ScanValue) (n : ℕ) where
  abbrev outcome_at : ℕ → PieceValue
  outcome_at i = (each (interval_of scan i)).0

  abbrev posted_at : ℕ → Option PieceValue
  posted_at i = cond (leb n i) None (Some (outcome_at i))

  abbrev board : DecodedScan
  board = record { scan = scan; pieces = map posted_at (range_with_len 0 (length scan.intervals)) }

  is_piece : (i : ℕ) → i < length scan.intervals → IsPieceOf scan i (outcome_at i)
  is_piece i lt =
      let is = (each (interval_of scan i)).1 in
      let number : (outcome_at i).interval.number ≡ i = ap (λ (v : IntervalValue). v.number) is in
      record {
        number = number;
        interval = (subst (λ (k : ℕ). k < length scan.intervals) (sym number) lt, is ∙ sym (ap (interval_of scan) number));
        outcome = (each (interval_of scan i)).2;
      }

  there : (i : ℕ) → i < length scan.intervals → piece_at board i ≡ posted_at i
  there i lt = get_or-map-range_with_len posted_at 0 (length scan.intervals) i i None lt (omega arith)

  past : (i : ℕ) → length scan.intervals ≤ i → piece_at board i ≡ None
  past i le = get_or_past board.pieces i None (omega (arith, le, length-map-range_with_len posted_at 0 (length scan.intervals)))

  posted : (i : ℕ) → i < n → posted_at i ≡ Some (outcome_at i)
  posted i lt = elim (leb_tells n i) [
    | inl t ↦ absurd (omega (arith, t.1, lt))
    | inr f ↦ ap (λ (b : Bool). cond b None (Some (outcome_at i))) f.0
  ]

  not_posted : (i : ℕ) → n ≤ i → posted_at i ≡ None
  not_posted i le = elim (leb_tells n i) [
    | inl t ↦ ap (λ (b : Bool). cond b None (Some (outcome_at i))) t.0
    | inr f ↦ absurd (omega (arith, f.1, le))
  ]

  each_piece : (i : ℕ) (p : PieceValue) → piece_at board i ≡ Some p → IsPieceOf scan i p
  each_piece i p e = elim (cases_lt i (length scan.intervals)) [
    | inr le ↦ absurd (none-some p (sym (past i le) ∙ e))
    | inl lt ↦ elim (cases_lt i n) [
      | inr le ↦ absurd (none-some p (sym (there i lt ∙ not_posted i le) ∙ e))
      | inl less ↦
          let found : Some (outcome_at i) ≡ Some p = sym (there i lt ∙ posted i less) ∙ e in
          let same : outcome_at i ≡ p = cc in
          subst (IsPieceOf scan i) same (is_piece i lt)
    ]
  ]

  valid : IsDecodedScan board
  valid = record { places = length-map-range_with_len posted_at 0 (length scan.intervals); each = each_piece }

  blank_at : (i : ℕ) → n ≤ i → mark_at board i ≡ Blank
  blank_at i le = elim (cases_lt i (length scan.intervals)) [
    | inl lt ↦ ap mark_of (there i lt ∙ not_posted i le)
    | inr beyond ↦ ap mark_of (past i beyond)
  ]

  -- the scan with its first n intervals decoded
  pub first_decoded : n ≤ length scan.intervals → (b : DecodedScan) × DecodesFirst scan n b
  first_decoded few =
      let marked : (i : ℕ) → i < n → mark_at board i ≢ Blank = λ i lt e. not_blank (outcome_at i).is_sound (sym (ap mark_of (there i (omega (arith, lt, few)) ∙ posted i lt)) ∙ e) in
      (board, record { scan_is = refl; valid = valid; first = first_marked board n marked blank_at })

-- its samples are an image of the scan
module _ (scan : ScanValue) (n : ℕ) (b : DecodedScan) (f : DecodesFirst scan n b) where
  same_scan : IsSameScan b.scan scan
  same_scan = (ap (λ (s : ScanValue). s.head) f.scan_is, ap (λ (s : ScanValue). s.intervals) f.scan_is)

  pub shows_first : IsValid scan.head → ShowsFirst scan n (marks_of b) (samples_of b)
  shows_first l =
      let head : IsValid b.scan.head = subst IsValid (sym same_scan.0) l in
      record { valid = l; picture = same_picture b.scan scan (marks_of b) (samples_of b) same_scan (picture b f.valid head); first = f.first }

  -- a mark for each interval
  pub marks_there : length (marks_of b) ≡ length scan.intervals
  marks_there = length-map b.pieces mark_of ∙ f.valid.places ∙ ap (λ (s : ScanValue). length s.intervals) f.scan_is

  pub counts_of : (s d k : ℕ) → s ≡ count_by is_sound (marks_of b) → d ≡ count_by is_damaged (marks_of b) → s + d + k ≡ length scan.intervals → AreCounts (marks_of b) s d k
  counts_of s d k sound damaged all = record { sound = sound; damaged = damaged; blank = all ∙ sym marks_there }
