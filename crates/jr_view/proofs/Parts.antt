-- A view that is a part of its image stays one if MCUs of its own scan are shown.
use Rattle.std.proofs.Common.{◌≡◌, ℕ, inl, inr, ◌+◌, ◌-◌, ◌*◌, ◌/◌, ◌<◌, ◌≤◌, min, Bool, true, false, cond, List, length, take, get_or, slice_index_or, sym, ap, subst, ◌∙◌, arith}
use Rattle.std.specs.Int.{div_ceil}
use Rattle.std.proofs.lemmas.Bool.{cases_lt}
use Rattle.std.proofs.lemmas.Bool.Decides.{eqb_tells}
use Rattle.std.proofs.lemmas.List.{get_or-drop, get_or-take}
use Rattle.std.proofs.lemmas.Nat.{div-mul-add}
use Rattle.std.proofs.Math.Nat.{add-mul, mul-le-mul_right}
use Rattle.jr_head.specs.HeadValue.{HeadValue}
use Rattle.jr_head.specs.Geometry.{blocks_of, mcus_of, order_of}
use Rattle.jr_head.specs.Intervals.{interval_number, intervals_of, mcus_in}
use Rattle.jr_head.proofs.SamplingLaws.{length-order}
use Rattle.jr_scan.specs.IntervalValue.{IntervalValue}
use Rattle.jr_scan.specs.ScanValue.{HasInterval, ScanValue, interval_of}
use Rattle.jr_scan.proofs.ScanLaws.{one_decoding, one_front, shorter_front}
use Rattle.jr_piece.specs.PieceValue.{PieceValue}
use Rattle.jr_piece.specs.StripValue.{StripValue}
use Rattle.jr_piece.specs.Strips.{IsStrip}
use Rattle.jr_piece.specs.Units.{grey_unit}
use Rattle.jr_piece.proofs.Outcomes.{one_outcome}
use Rattle.jr_piece.proofs.Strips.{final}
use Rattle.jr_picture.specs.DecodedScan.{IsPieceOf}
use Rattle.jr_view.specs.ViewValue.{ViewValue}
use Rattle.jr_view.specs.Views.{AddsMcus, IsAmong, IsSameAt, first_mcu_of, first_of_strip, has_seen, size_of, unit_at}
use Rattle.jr_view.specs.Parts.{IsPartOfPicture, ShowsOwn}
use Rattle.jr_view.proofs.Showing.{reports}

abbrev view_of : ScanValue → List (List ℕ) → List Bool → ViewValue
view_of scan units seen = record { scan = scan; units = units; seen = seen }

-- these data units are those of the scan's own piece of each of these MCUs
abbrev pub AreOwn : ScanValue → (first count : ℕ) → List (List ℕ) → Type 0
AreOwn scan first count units =
    (mcu : ℕ) → IsAmong scan.head first count mcu → (p : PieceValue) → IsPieceOf scan (interval_number scan.head mcu) p → (k : ℕ) → k < blocks_of scan.head
    → slice_index_or units ((mcu - first) * blocks_of scan.head + k) grey_unit ≡ slice_index_or p.samples ((mcu - first_mcu_of scan.head p.interval.number) * blocks_of scan.head + k) grey_unit

module _ (scan : ScanValue) (us vs : List (List ℕ)) (bs cs : List Bool) (first count : ℕ) (units : List (List ℕ)) (a : AddsMcus (view_of scan us bs) first count units (view_of scan vs cs)) where
  -- an MCU that is unchanged shows its own
  same_own : (mcu : ℕ) → IsSameAt (view_of scan us bs) (view_of scan vs cs) mcu → ShowsOwn (view_of scan us bs) mcu → ShowsOwn (view_of scan vs cs) mcu
  same_own mcu s own = record {
    seen = λ t p is k lt. sym (s.units k lt) ∙ own.seen (s.seen ∙ t) p is k lt;
    unseen = λ f k lt. sym (s.units k lt) ∙ own.unseen (s.seen ∙ f) k lt;
  }

  -- and so does an MCU that is shown
  more_own : AreOwn scan first count units → (mcu : ℕ) → IsAmong scan.head first count mcu → ShowsOwn (view_of scan us bs) mcu → ShowsOwn (view_of scan vs cs) mcu
  more_own are mcu among own = elim (reports (has_seen (view_of scan us bs) mcu)) [
    | inl t ↦ same_own mcu (a.kept mcu t) own
    | inr f ↦ record {
      seen = λ t p is k lt. a.shown mcu among f k lt ∙ are mcu among p is k lt;
      unseen = λ g.
          let never : true ≡ false = sym (a.seen mcu among) ∙ g in
          absurd (cc never);
    }
  ]

  own_there : AreOwn scan first count units → (mcu : ℕ) → mcu < mcus_of scan.head → ShowsOwn (view_of scan us bs) mcu → ShowsOwn (view_of scan vs cs) mcu
  own_there are mcu lt own = elim (cases_lt mcu first) [
    | inl below ↦ same_own mcu (a.others mcu (inl below)) own
    | inr from ↦ elim (cases_lt mcu (first + count)) [
      | inl before ↦ more_own are mcu (record { picture = lt; from = from; before = before }) own
      | inr after ↦ same_own mcu (a.others mcu (inr after)) own
    ]
  ]

  pub part_more : AreOwn scan first count units → IsPartOfPicture (view_of scan us bs) → IsPartOfPicture (view_of scan vs cs)
  part_more are p = record { intervals = p.intervals; each = λ mcu lt. own_there are mcu lt (p.each mcu lt) }

-- the MCUs of an interval are in no other
number_is : (h : HeadValue) (i mcu : ℕ) → i < intervals_of h → i * h.restart ≤ mcu → mcu < i * h.restart + size_of h → interval_number h mcu ≡ i
number_is h i mcu few from before = elim (eqb_tells h.restart 0) [
  | inl t ↦
      let one : i < 1 = subst (λ (b : Bool). i < cond b 1 (div_ceil (mcus_of h) h.restart)) t.0 few in
      let here : interval_number h mcu ≡ 0 = ap (λ (b : Bool). cond b 0 (mcu / h.restart)) t.0 in
      omega (arith, one, here)
  | inr f ↦
      let some : 0 < h.restart = omega (arith, f.1) in
      let size : size_of h ≡ h.restart = ap (λ (b : Bool). cond b (mcus_of h) h.restart) f.0 in
      let rest = mcu - i * h.restart in
      let sum : mcu ≡ i * h.restart + rest = omega (arith, from) in
      let short : rest < h.restart = omega (arith, before, size, sum) in
      ap (λ (b : Bool). cond b 0 (mcu / h.restart)) f.0 ∙ ap (λ k. k / h.restart) sum ∙ div-mul-add i h.restart rest short
]

-- an interval has at most that number of MCUs
few_in : (h : HeadValue) (i : ℕ) → mcus_in h i ≤ size_of h
few_in h i = elim (eqb_tells h.restart 0) [
  | inl t ↦ subst (λ (b : Bool). cond b (mcus_of h) (min h.restart (mcus_of h - i * h.restart)) ≤ cond b (mcus_of h) h.restart) (sym t.0) (omega arith)
  | inr f ↦ subst (λ (b : Bool). cond b (mcus_of h) (min h.restart (mcus_of h - i * h.restart)) ≤ cond b (mcus_of h) h.restart) (sym f.0) (omega arith)
]

-- the pieces of one interval number are of one interval
same_interval : (scan : ScanValue) (i j : IntervalValue) → HasInterval scan i → HasInterval scan j → i.number ≡ j.number → i ≡ j
same_interval scan i j p q e = p.1 ∙ ap (interval_of scan) e ∙ sym q.1

-- the data units of a strip of the scan are its own
module _ (scan : ScanValue) (s : StripValue) (counts : length scan.intervals ≡ intervals_of scan.head) (is : IsStrip s) (has : HasInterval scan s.interval) where
  within : (mcu : ℕ) → IsAmong scan.head (first_of_strip scan.head s) s.mcus mcu → interval_number scan.head mcu ≡ s.interval.number
  within mcu among =
      let i = s.interval.number in
      let fits : s.first + s.mcus ≤ s.interval.mcus = is.are.front.at_most in
      let mcus : s.interval.mcus ≡ mcus_in scan.head i = ap (λ (v : IntervalValue). v.mcus) has.1 in
      number_is scan.head i mcu (omega (arith, has.0, counts)) (omega (arith, among.from)) (omega (arith, among.before, fits, mcus, few_in scan.head i))

  pub strip_own : AreOwn scan (first_of_strip scan.head s) s.mcus s.samples
  strip_own mcu among p of k lt =
      let h = scan.head in
      let n = blocks_of h in
      let number : p.interval.number ≡ s.interval.number = of.number ∙ within mcu among in
      let same : p.interval ≡ s.interval = same_interval scan p.interval s.interval of.interval has number in
      let shows = final one_front shorter_front p s same of.outcome is in
      let per : length (order_of s.interval.head) ≡ n = ap (λ (v : IntervalValue). length (order_of v.head)) has.1 ∙ length-order 0 h.components in
      let d = mcu - first_of_strip h s in
      let before : d < s.mcus = omega (arith, among.from, among.before) in
      let start : s.first * length (order_of s.interval.head) ≡ s.first * n = ap (λ j. s.first * j) per in
      let end : (s.first + s.mcus) * length (order_of s.interval.head) ≡ (s.first + s.mcus) * n = ap (λ j. (s.first + s.mcus) * j) per in
      let split : (s.first + d) * n ≡ s.first * n + d * n = add-mul s.first d n in
      let one : (s.first + d + 1) * n ≡ (s.first + d) * n + 1 * n = add-mul (s.first + d) 1 n in
      let most : (s.first + d + 1) * n ≤ (s.first + s.mcus) * n = mul-le-mul_right n (omega (arith, before)) in
      let place : mcu - first_mcu_of h p.interval.number ≡ s.first + d = omega (arith, ap (λ j. j * h.restart) number, among.from) in
      let at : s.first * length (order_of s.interval.head) + (d * n + k) ≡ (mcu - first_mcu_of h p.interval.number) * n + k = omega (arith, start, split, ap (λ j. j * n) place) in
      ap (λ (us : List (List ℕ)). get_or us (d * n + k) grey_unit) shows.samples
      ∙ get_or-drop (s.first * length (order_of s.interval.head)) (take ((s.first + s.mcus) * length (order_of s.interval.head)) p.samples) (d * n + k) grey_unit
      ∙ get_or-take ((s.first + s.mcus) * length (order_of s.interval.head)) p.samples (s.first * length (order_of s.interval.head) + (d * n + k)) grey_unit (omega (arith, start, end, split, one, most, lt))
      ∙ ap (λ j. get_or p.samples j grey_unit) at

-- so are those of a piece of it
pub piece_own : (scan : ScanValue) (p : PieceValue) → length scan.intervals ≡ intervals_of scan.head → IsPieceOf scan p.interval.number p → AreOwn scan (first_mcu_of scan.head p.interval.number) (size_of scan.head) p.samples
piece_own scan p counts is mcu among q of k lt =
    let h = scan.head in
    let here : interval_number h mcu ≡ p.interval.number = number_is h p.interval.number mcu (omega (arith, is.interval.0, counts)) among.from among.before in
    let same : p ≡ q = one_outcome one_decoding one_front p q (same_interval scan p.interval q.interval is.interval of.interval (sym (of.number ∙ here))) is.outcome of.outcome in
    ap (λ (r : PieceValue). slice_index_or r.samples ((mcu - first_mcu_of h r.interval.number) * blocks_of h + k) grey_unit) same

-- showing data units of a view's own scan keeps it a part of its image
adds_own : (old new : ViewValue) (first count : ℕ) (units : List (List ℕ)) → AddsMcus old first count units new → AreOwn old.scan first count units → IsPartOfPicture old → IsPartOfPicture new
adds_own old new first count units a are p =
    let one : AddsMcus old first count units (view_of old.scan new.units new.seen) = subst (λ (s : ScanValue). AddsMcus old first count units (view_of s new.units new.seen)) a.scan a in
    subst (λ (s : ScanValue). IsPartOfPicture (view_of s new.units new.seen)) (sym a.scan) (part_more old.scan old.units new.units old.seen new.seen first count units one are p)

pub strip_part : (old new : ViewValue) (s : StripValue) → AddsMcus old (first_of_strip old.scan.head s) s.mcus s.samples new → IsStrip s → IsPartOfPicture old → HasInterval old.scan s.interval → IsPartOfPicture new
strip_part old new s a is p has = adds_own old new (first_of_strip old.scan.head s) s.mcus s.samples a (strip_own old.scan s p.intervals is has) p

pub piece_part : (old new : ViewValue) (p : PieceValue) → AddsMcus old (first_mcu_of old.scan.head p.interval.number) (size_of old.scan.head) p.samples new → IsPieceOf old.scan p.interval.number p → IsPartOfPicture old → IsPartOfPicture new
piece_part old new p a is part = adds_own old new (first_mcu_of old.scan.head p.interval.number) (size_of old.scan.head) p.samples a (piece_own old.scan p part.intervals is) part

-- a view of which nothing was seen is a part of each image
pub new_part : (v : ViewValue) → length v.scan.intervals ≡ intervals_of v.scan.head → ((mcu : ℕ) → has_seen v mcu ≡ false) → ((mcu k : ℕ) → unit_at v mcu k ≡ grey_unit) → IsPartOfPicture v
new_part v counts unseen grey = record {
  intervals = counts;
  each = λ mcu lt. record {
    seen = λ t.
        let never : true ≡ false = sym t ∙ unseen mcu in
        absurd (cc never);
    unseen = λ f k few. grey mcu k;
  };
}
