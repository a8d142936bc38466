-- Posting the piece of a blank interval to a board of its scan, and the marks of a sweep.
use Rattle.std.proofs.Common.{◌≡◌, ◌≢◌, ℕ, ◌+◌, ◌<◌, ◌≤◌, Bool, refl, subst, true, false, cond, List, Option, Some, None, Result, Ok, Err, IfOk, replicate, length, get_or, length-set, get_or-set_same, get_or-set_other, sym, ap, ◌∙◌, arith}
use Rattle.std.specs.declared.sync.Arc.{Arc}
use Rattle.std.specs.declared.alloc.Global.{Global}
use Rattle.std.specs.Arc.{arc_value}
use Rattle.std.proofs.lemmas.Bool.{false≢true}
use denote.Enum.Bare.{sameb}
use mathlib.Core.Logic.{dite}
use native.Mathlib.Decide.{ℕ_discrete}
use Rattle.jr_scan.specs.IntervalValue.{IntervalValue}
use Rattle.jr_scan.specs.ScanValue.{ScanValue, IsSameScan, interval_of}
use Rattle.jr_piece.specs.PieceValue.{PieceValue}
use Rattle.jr_picture.specs.declared.mark.Mark.{Mark}
use Rattle.jr_picture.specs.contracts.mark.Mark.{the_type}
use Rattle.jr_picture.specs.declared.mark.Mark.TheVariants.{Blank, Sound, Damaged}
use Rattle.jr_picture.specs.DecodedScan.{DecodedScan, mark_at, mark_of, IsFor}
use Rattle.jr_picture.specs.Headline.{is_damaged, is_sound}
use Rattle.jr_picture.proofs.DecodedPictures.{marks_at, same_interval}
use Rattle.jr_wall.proofs.Pieces.{no_piece}
use Rattle.jr_wall.specs.Decoded.{IsDecoded, IsRefused, Posts}
use Rattle.jr_wall.specs.declared.board.Unposted.{Unposted}
use Rattle.jr_wall.specs.declared.board.Unposted.TheVariants.{Foreign, AlreadyMarked}

-- the piece of a scan's interval is for a board of the same scan
pub is_for : (b : DecodedScan) (s : ScanValue) (p : PieceValue) (i : ℕ) → IsSameScan b.scan s → p.interval ≡ interval_of s i → i < length s.intervals → IsFor p.interval b.scan
is_for b s p i same e lt =
    let number : p.interval.number ≡ i = ap (λ (v : IntervalValue). v.number) e in
    (omega (arith, lt, number, ap length same.1), e ∙ sym (same_interval b.scan s i same) ∙ ap (interval_of b.scan) (sym number))

-- such a piece is not refused if its interval is blank
pub not_refused : (b : DecodedScan) (p : Arc PieceValue Global) (e : Unposted) → IsFor (arc_value p).interval b.scan → mark_at b (arc_value p).interval.number ≡ Blank → IsRefused b p e → ⊥
not_refused b p (Foreign back) for blank r = r.1 for
not_refused b p (AlreadyMarked back) for blank r = r.2 (marks_at b.pieces (arc_value p).interval.number ∙ blank)

-- equal scans have equal headers and data
pub same_scan : (s t : ScanValue) → s ≡ t → IsSameScan s t
same_scan s t e = (ap (λ (v : ScanValue). v.head) e, ap (λ (v : ScanValue). v.intervals) e)

-- a board without a piece is blank
pub all_blank : (b : DecodedScan) (n : ℕ) → b.pieces ≡ replicate n None → (i : ℕ) → mark_at b i ≡ Blank
all_blank b n e i = ap (λ (ps : List (Option PieceValue)). mark_of (get_or ps i None)) e ∙ ap mark_of (no_piece n i)

-- the same of a new board, if memory sufficed
pub new_same : {E : Type 0} (r : Result DecodedScan E) (s t : ScanValue) → s ≡ t → IfOk r (λ b. b.scan ≡ s) → IfOk r (λ b. IsSameScan b.scan t)
new_same (Ok b) s t e is = same_scan b.scan t (is ∙ e)
new_same (Err x) s t e is = tt

pub new_blank : {E : Type 0} (r : Result DecodedScan E) (n m : ℕ) → IfOk r (λ b. b.pieces ≡ replicate n None) → IfOk r (λ b. (i : ℕ) → m ≤ i → mark_at b i ≡ Blank)
new_blank (Ok b) n m is = λ i le. all_blank b n is i
new_blank (Err x) n m is = tt

marked : (p : PieceValue) → mark_of (Some p) ≢ Blank
marked p e = by p.is_sound e
  where
    by : (b : Bool) → cond b Sound Damaged ≢ Blank
    by true e = false≢true (sym (ap is_sound e))
    by false e = false≢true (sym (ap is_damaged e))

module _ (old new : DecodedScan) (p : PieceValue) (i : ℕ) (number : p.interval.number ≡ i) (posts : Posts old p new) where
  pub posted_scan : new.scan ≡ old.scan
  posted_scan = ap (λ (b : DecodedScan). b.scan) posts.posted

  pub posted_places : length new.pieces ≡ length old.pieces
  posted_places = ap (λ (b : DecodedScan). length b.pieces) posts.posted ∙ length-set old.pieces p.interval.number (Some p)

  pub posted_mark : i < length old.pieces → mark_at new i ≢ Blank
  posted_mark lt blank =
      let there = get_or-set_same old.pieces p.interval.number (Some p) None (omega (arith, lt, number)) in
      let at : mark_at new p.interval.number ≡ mark_of (Some p) = ap (λ (b : DecodedScan). mark_at b p.interval.number) posts.posted ∙ ap mark_of there in
      marked p (sym at ∙ ap (mark_at new) number ∙ blank)

  pub posted_others : (k : ℕ) → k ≢ i → mark_at new k ≡ mark_at old k
  posted_others k other =
      ap (λ (b : DecodedScan). mark_at b k) posts.posted ∙ ap mark_of (get_or-set_other old.pieces p.interval.number k (Some p) None (λ e. other (e ∙ number)))

-- the result of the comparison of a mark with Blank
pub was_blank : (m : Mark) → true ≡ sameb the_type m Blank → m ≡ Blank
was_blank Blank e = refl
was_blank Sound e = absurd (false≢true (sym e))
was_blank Damaged e = absurd (false≢true (sym e))

pub not_blank : (m n : Mark) (b : Bool) → b ≡ false → b ≡ sameb the_type m Blank → m ≡ n → n ≢ Blank
not_blank m n b f e is blank = false≢true (sym f ∙ e ∙ ap (λ (k : Mark). sameb the_type k Blank) (is ∙ blank))

-- the first i intervals of the scan are marked, and none at number n or later
pub record IsSwept (s : ScanValue) (n i : ℕ) (b : DecodedScan) : Type 0 where
  pub scan : IsSameScan b.scan s
  pub places : length b.pieces ≡ length s.intervals
  pub marked : (k : ℕ) → k < i → mark_at b k ≢ Blank
  pub blank : (k : ℕ) → n ≤ k → mark_at b k ≡ Blank

-- one more interval is marked, and no other
pub swept_more : (s : ScanValue) (n i : ℕ) (old new : DecodedScan) → IsSwept s n i old → i < n → new.scan ≡ old.scan → length new.pieces ≡ length old.pieces → mark_at new i ≢ Blank
    → ((k : ℕ) → k ≢ i → mark_at new k ≡ mark_at old k) → IsSwept s n (i + 1) new
swept_more s n i old new was lt scan places marked others = record {
  scan = subst (λ (t : ScanValue). IsSameScan t s) (sym scan) was.scan;
  places = places ∙ was.places;
  marked = λ k le blank. dite (ℕ_discrete k i) (λ same. marked (ap (mark_at new) (sym same) ∙ blank)) (λ apart. was.marked k (omega arith) (sym (others k apart) ∙ blank));
  blank = λ k le. others k (λ same. omega (arith, same, le, lt)) ∙ was.blank k le;
}

-- one more interval is marked already
pub swept_on : (s : ScanValue) (n i : ℕ) (b : DecodedScan) → IsSwept s n i b → mark_at b i ≢ Blank → IsSwept s n (i + 1) b
swept_on s n i b was marked = record {
  scan = was.scan;
  places = was.places;
  marked = λ k le blank. dite (ℕ_discrete k i) (λ same. marked (ap (mark_at b) (sym same) ∙ blank)) (λ apart. was.marked k (omega arith) blank);
  blank = was.blank;
}

-- the same of an equal scan and number
pub decoded_of : {E : Type 0} (r : Result DecodedScan E) (s t : ScanValue) (n m : ℕ) → s ≡ t → n ≡ m → IfOk r (λ b. IsDecoded s n b) → IfOk r (λ b. IsDecoded t m b)
decoded_of r s t n m e f h = subst (λ (u : ScanValue). IfOk r (λ b. IsDecoded u m b)) e (subst (λ (k : ℕ). IfOk r (λ b. IsDecoded s k b)) f h)
