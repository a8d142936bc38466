-- What is read of a scan's rows, and what is counted of them.
use Rattle.std.proofs.Common.{◌≡◌, ℕ, zero, suc, ◌+◌, ◌-◌, ◌*◌, ◌/◌, ◌%◌, ◌<◌, ◌≤◌, Bool, true, false, cond, inl, inr, Option, Some, None, List, [], ◌∷◌, length, take, get_or, slice_index_or, refl, sym, ap, subst, ◌∙◌, arith}
use Rattle.std.specs.Prelude.{ℤ}
use Rattle.std.specs.List.{count_by}
use Rattle.std.proofs.lemmas.Bool.{cases_lt}
use Rattle.std.proofs.lemmas.List.Sums.{sum_by-cons}
use Rattle.std.proofs.Math.Nat.{div-lt_iff_lt-mul, add-mul, mul-add-div_right, mul-add-mod_self_right}
use Rattle.std.proofs.lemmas.Nat.{div-add-mod'}
use Rattle.jr_head.specs.HeadValue.{HeadValue}
use Rattle.jr_head.specs.Geometry.{order_of, quantiser_of, blocks_of}
use Rattle.jr_head.proofs.SamplingLaws.{length-order}
use Rattle.jr_scan.specs.IntervalValue.{IntervalValue}
use Rattle.jr_mcu.specs.Mcus.{component}
use Rattle.jr_scan.specs.ScanValue.{ScanValue, IsSameScan, interval_of, intervals_of, mcus_in}
use Rattle.jr_idct.specs.Transform.{samples}
use Rattle.jr_scan.specs.Mcus.{units_before}
use Rattle.jr_scan.specs.declared.cursor.Cursor.{Cursor}
use Rattle.jr_piece.specs.PieceValue.{PieceValue}
use Rattle.jr_piece.specs.Outcome.{IsOutcome, unit_of}
use Rattle.jr_piece.specs.Units.{CodesUnits, unit_in_piece}
use Rattle.jr_picture.specs.declared.mark.Mark.{Mark}
use Rattle.jr_picture.specs.declared.mark.Mark.TheVariants.{Blank, Sound, Damaged}
use Rattle.jr_picture.specs.DecodedScan.{DecodedScan, piece_at, mark_of, marks_of}
use Rattle.jr_picture.specs.Headline.{is_sound, is_damaged, interval_number, within_interval}
use Rattle.jr_picture.proofs.DecodedPictures.{marks_at, interval_is}
use Rattle.jr_rows.proofs.FirstDecoded.{marks_there, not_blank}
use Rattle.jr_rows.proofs.IntervalPlaces.{interval_at}
use Rattle.jr_rows.specs.Bands.{unit_shown_of}
use Rattle.jr_rows.specs.Cursors.{mcus_to}
use Rattle.jr_rows.specs.Rows.{DecodesFirst, CountsMarks, ReturnsAfter}
use Rattle.jr_rows.specs.declared.marked.Marked.{Marked}

-- a count after one more mark
pub count_next : (f : Mark → Bool) (ms : List Mark) (n : ℕ) (m : Mark) → n < length ms → get_or ms n Blank ≡ m → count_by f (take (n + 1) ms) ≡ count_by f (take n ms) + cond (f m) 1 0
count_next f [] n m lt e = absurd (omega (arith, lt))
count_next f (x ∷ xs) zero m lt e =
    sum_by-cons (λ (t : Mark). cond (f t) 1 0) x [] ∙ omega (arith, ap (λ (t : Mark). cond {A = ℕ} (f t) 1 0) e)
count_next f (x ∷ xs) (suc n) m lt e =
    let rest = count_next f xs n m (omega (arith, lt)) e in
    let more : count_by f (take (suc n + 1) (x ∷ xs)) ≡ cond (f x) 1 0 + count_by f (take (n + 1) xs) = ap (λ (k : ℕ). count_by f (take k (x ∷ xs))) {y = suc (n + 1)} (omega arith) ∙ sum_by-cons (λ (t : Mark). cond (f t) 1 0) x (take (n + 1) xs) in
    omega (arith, rest, more, sum_by-cons (λ (t : Mark). cond (f t) 1 0) x (take n xs))

same_scans : (a s : ScanValue) → a ≡ s → IsSameScan a s
same_scans a s e = (ap (λ (t : ScanValue). t.head) e, ap (λ (t : ScanValue). t.intervals) e)

-- what is posted of a decoded interval
pub record IsThere (scan : ScanValue) (b : DecodedScan) (number : ℕ) : Type 0 where
  pub piece : PieceValue
  pub at : piece_at b number ≡ Some piece
  pub outcome : IsOutcome piece
  pub interval : piece.interval ≡ interval_of scan number

there : (scan : ScanValue) (n : ℕ) (b : DecodedScan) → DecodesFirst scan n b → (number : ℕ) → number < n → (q : Option PieceValue) → piece_at b number ≡ q → IsThere scan b number
there scan n b first number lt None e = absurd (first.first.marked number lt (marks_at b.pieces number ∙ ap mark_of e))
there scan n b first number lt (Some p) e = record {
  piece = p;
  at = e;
  outcome = (first.valid.each number p e).outcome;
  interval = interval_is b scan number p first.valid (same_scans b.scan scan first.scan_is) e;
}

pub posted_there : (scan : ScanValue) (n : ℕ) (b : DecodedScan) → DecodesFirst scan n b → (number : ℕ) → number < n → IsThere scan b number
posted_there scan n b first number lt = there scan n b first number lt (piece_at b number) refl

none : (scan : ScanValue) (n : ℕ) (b : DecodedScan) → DecodesFirst scan n b → (number : ℕ) → n ≤ number → (q : Option PieceValue) → piece_at b number ≡ q → q ≡ None
none scan n b first number le None e = refl
none scan n b first number le (Some p) e = absurd (not_blank p.is_sound (sym (marks_at b.pieces number ∙ ap mark_of e) ∙ first.first.blank number le))

-- nothing is posted of the others
pub none_there : (scan : ScanValue) (n : ℕ) (b : DecodedScan) → DecodesFirst scan n b → (number : ℕ) → n ≤ number → piece_at b number ≡ None
none_there scan n b first number le = none scan n b first number le (piece_at b number) refl

-- no mark
pub counts_none : (scan : ScanValue) (n from to : ℕ) (m : Marked) → m.sound ≡ 0 → m.damaged ≡ 0 → from ≡ to → CountsMarks scan n from to m
counts_none scan n from to m s d e = record {
  few = omega (arith, s, d, e);
  sound = λ b first. let same = ap (λ (k : ℕ). count_by is_sound (take k (marks_of b))) e in omega (arith, s, same);
  damaged = λ b first. let same = ap (λ (k : ℕ). count_by is_damaged (take k (marks_of b))) e in omega (arith, d, same);
}

-- the mark of a decoded interval, if its outcome is known
pub mark_there : (scan : ScanValue) (n number : ℕ) → number < n → (t : Bool) → ((p : PieceValue) → IsOutcome p → p.interval ≡ interval_of scan number → p.is_sound ≡ t)
    → (b : DecodedScan) → DecodesFirst scan n b → mark_of (piece_at b number) ≡ cond t Sound Damaged
mark_there scan n number decoded t reports b first =
    let p = posted_there scan n b first number decoded in
    ap mark_of p.at ∙ ap (λ (s : Bool). cond s Sound Damaged) (reports p.piece p.outcome p.interval)

-- the mark of one interval
module _ (scan : ScanValue) (n number : ℕ) (m : Marked) (decoded : number < n) (few : number < length scan.intervals) where
  one_more : (f : Mark → Bool) (b : DecodedScan) (first : DecodesFirst scan n b) (k : Mark) → mark_of (piece_at b number) ≡ k → count_by f (take (number + 1) (marks_of b)) ≡ count_by f (take number (marks_of b)) + cond (f k) 1 0
  one_more f b first k e =
      let inside : number < length (marks_of b) = omega (arith, few, marks_there scan n b first) in
      count_next f (marks_of b) number k inside (marks_at b.pieces number ∙ e)

  pub counts_one : (t : Bool) → m.sound ≡ cond t 1 0 → m.damaged ≡ cond t 0 1 → ((p : PieceValue) → IsOutcome p → p.interval ≡ interval_of scan number → p.is_sound ≡ t) → CountsMarks scan n number (number + 1) m
  counts_one true s d reports = record {
    few = omega (arith, s, d);
    sound = λ b first. let e = one_more is_sound b first Sound (mark_there scan n number decoded true reports b first) in omega (arith, s, e);
    damaged = λ b first. let e = one_more is_damaged b first Sound (mark_there scan n number decoded true reports b first) in omega (arith, d, e);
  }
  counts_one false s d reports = record {
    few = omega (arith, s, d);
    sound = λ b first. let e = one_more is_sound b first Damaged (mark_there scan n number decoded false reports b first) in omega (arith, s, e);
    damaged = λ b first. let e = one_more is_damaged b first Damaged (mark_there scan n number decoded false reports b first) in omega (arith, d, e);
  }

-- the marks of two parts
pub counts_both : (scan : ScanValue) (n from at to : ℕ) (k m r : Marked) → CountsMarks scan n from at k → CountsMarks scan n at to m → r.sound ≡ k.sound + m.sound → r.damaged ≡ k.damaged + m.damaged → CountsMarks scan n from to r
counts_both scan n from at to k m r a c s d = record {
  few = omega (arith, a.few, c.few, s, d);
  sound = λ b first. omega (arith, a.sound b first, c.sound b first, s);
  damaged = λ b first. omega (arith, a.damaged b first, c.damaged b first, d);
}

-- the blocks of MCUs of an interval have the samples of the decoded scan
module _ (scan : ScanValue) (limit : ℕ) (r : Cursor) (mcus done : ℕ) (sub new : List (List ℤ)) (some : 0 < blocks_of scan.head) (number : r.number < intervals_of scan.head) (decoded : r.number < limit) (few : r.mcu + mcus ≤ mcus_in scan.head r.number)
    (long : length sub ≡ mcus * blocks_of scan.head)
    (codes : (p : PieceValue) → IsOutcome p → p.interval ≡ interval_of scan r.number → CodesUnits p (units_before (interval_of scan r.number) r.mcu) sub)
    (part : (k : ℕ) → k < length sub → slice_index_or new (done * blocks_of scan.head + k) [] ≡ slice_index_or sub k []) where
  abbrev h : HeadValue
  h = scan.head

  abbrev n : ℕ
  n = blocks_of h

  same_component : (k : ℕ) → component h (done * n + k) ≡ component h k
  same_component k =
      let per : length (order_of h) ≡ n = length-order 0 h.components in
      ap (λ (j : ℕ). slice_index_or (order_of h) j 0) (ap (λ (m : ℕ). (done * m + k) % length (order_of h)) (sym per) ∙ mul-add-mod_self_right done (length (order_of h)) k)

  pub returns_there : ReturnsAfter scan limit (mcus_to h r) (done * n) mcus new
  returns_there b first k lt =
      let j = k / n in
      let here : k < length sub = omega (arith, lt, long) in
      let near : j < mcus = (div-lt_iff_lt-mul some).1 lt in
      let place = interval_at h r.number (r.mcu + j) number (omega (arith, near, few)) in
      let mcu : mcus_to h r + j ≡ r.number * h.restart + (r.mcu + j) = omega arith in
      let p = posted_there scan limit b first r.number decoded in
      let head : p.piece.interval.head ≡ h = ap (λ (i : IntervalValue). i.head) p.interval in
      let unit : unit_of h sub k ≡ unit_in_piece p.piece (r.mcu * length (order_of h) + k) = subst (λ (g : HeadValue). unit_of g sub k ≡ unit_in_piece p.piece (r.mcu * length (order_of h) + k)) head (codes p.piece p.outcome p.interval k here) in
      let per : r.mcu * length (order_of h) + k ≡ (r.mcu + j) * n + k % n = ap (λ (m : ℕ). r.mcu * m + k) (length-order 0 h.components) ∙ omega (arith, div-add-mod' k n, add-mul r.mcu j n) in
      let turned : unit_shown_of h (k % n) (Some p.piece) ((r.mcu + j) * n + k % n) ≡ unit_shown_of h (k % n) (piece_at b (interval_number h (mcus_to h r + j))) (within_interval h (mcus_to h r + j) * n + k % n) =
      ap (λ q. unit_shown_of h (k % n) q ((r.mcu + j) * n + k % n)) (sym p.at)
      ∙ ap (λ m. unit_shown_of h (k % n) (piece_at b r.number) (m * n + k % n)) (sym (ap (within_interval h) mcu ∙ place.1))
      ∙ ap (λ i. unit_shown_of h (k % n) (piece_at b i) (within_interval h (mcus_to h r + j) * n + k % n)) (sym (ap (interval_number h) mcu ∙ place.0)) in
      ap (λ z. samples z (quantiser_of h (component h (done * n + k)))) (part k here) ∙ ap (λ c. samples (slice_index_or sub k []) (quantiser_of h c)) (same_component k)
      ∙ unit ∙ ap (unit_in_piece p.piece) per ∙ turned
      ∙ ap (λ (g : HeadValue). unit_shown_of g (k % n) (piece_at b (interval_number g (mcus_to h r + j))) (within_interval g (mcus_to h r + j) * blocks_of g + k % n)) (ap (λ (t : ScanValue). t.head) (sym first.scan_is))

-- the data units of more MCUs after those of the first
pub shown_more : (n done some start : ℕ) (f : ℕ → ℕ → List ℕ) (old new : ℕ → List ℕ) → 0 < n → ((k : ℕ) → k < done * n → old k ≡ f (start + k / n) (k % n)) → ((k : ℕ) → k < done * n → new k ≡ old k)
    → ((k : ℕ) → k < some * n → new (done * n + k) ≡ f (start + done + k / n) (k % n)) → (k : ℕ) → k < (done + some) * n → new k ≡ f (start + k / n) (k % n)
shown_more n done some start f old new positive before kept after k lt = elim (cases_lt k (done * n)) [
  | inl l ↦ kept k l ∙ before k l
  | inr r ↦
      let j = k - done * n in
      let there : k ≡ done * n + j = omega (arith, r) in
      let near : j < some * n = omega (arith, lt, there, add-mul done some n) in
      let number : start + done + j / n ≡ start + k / n = omega (arith, ap (λ m. m / n) there ∙ mul-add-div_right positive done j) in
      let part : j % n ≡ k % n = sym (ap (λ m. m % n) there ∙ mul-add-mod_self_right done n j) in
      ap new there ∙ after j near ∙ ap (λ m. f m (j % n)) number ∙ ap (f (start + k / n)) part
]
