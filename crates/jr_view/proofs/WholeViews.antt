-- A view that is a part of its image and has seen all of it shows that image.
use Rattle.std.proofs.Common.{◌≡◌, ◌≢◌, ℕ, inl, inr, ◌+◌, ◌-◌, ◌*◌, ◌/◌, ◌%◌, ◌<◌, ◌≤◌, Bool, true, false, cond, Option, Some, None, List, length, get_or, map, sym, ap, subst, ◌∙◌, arith}
use Rattle.std.specs.Prelude.{slice_get, slice_index}
use Rattle.std.specs.List.{range_with_len}
use Rattle.std.specs.Int.{div_ceil}
use Rattle.std.proofs.lemmas.Bool.{cases_lt}
use Rattle.std.proofs.lemmas.Bool.Decides.{eqb_tells}
use Rattle.std.proofs.lemmas.List.{get_or-replicate, get_or_past}
use Rattle.std.proofs.lemmas.List.FromFn.{get_or-map-range_with_len, length-map-range_with_len}
use Rattle.std.proofs.lemmas.Option.{none-some, slice_get-get_or, slice_get_past}
use Rattle.std.proofs.lemmas.Nat.{div-add-mod', mod_below, mul-add-lt}
use Rattle.jr_head.specs.HeadValue.{HeadValue}
use Rattle.jr_head.specs.Geometry.{blocks_of, components_of, horizontal_max, horizontal_of, mcus_of, vertical_max, vertical_of}
use Rattle.jr_head.specs.Geometry as heads
use Rattle.jr_head.specs.Intervals.{interval_number, intervals_of, within_interval}
use Rattle.jr_scan.specs.IntervalValue.{IntervalValue}
use Rattle.jr_scan.specs.ScanValue.{ScanValue, interval_of}
use Rattle.jr_paint.specs.Geometry.{place_in, samples_across, samples_down, spot_of}
use Rattle.jr_paint.specs.Text.{text_of}
use Rattle.jr_paint.proofs.Factors.{sampled_at}
use Rattle.jr_paint.proofs.Places.{in_div_ceil, mcu_inside}
use Rattle.jr_piece.specs.PieceValue.{PieceValue}
use Rattle.jr_piece.specs.Units.{grey_unit}
use Rattle.jr_piece.proofs.EachOutcome.{outcome}
use Rattle.jr_picture.specs.declared.mark.Mark.{Mark}
use Rattle.jr_picture.specs.declared.mark.Mark.TheVariants.{Blank, Damaged, Sound}
use Rattle.jr_picture.specs.DecodedScan.{DecodedScan, IsDecodedScan, IsPieceOf, mark_of, marks_of, piece_at}
use Rattle.jr_picture.specs.Headline.{AreFirst, Holds, IsPicture, Shows, ShowsFirst, unit_number}
use Rattle.jr_picture.specs.Samples.{sample_in, sample_of_piece, samples_of}
use Rattle.jr_picture.proofs.DecodedPictures.{block_there, first_marked, picture, shown_is}
use Rattle.jr_picture.proofs.Pictures.{one_picture}
use Rattle.jr_view.specs.ViewValue.{ViewValue}
use Rattle.jr_view.specs.Views.{sample_in_view}
use Rattle.jr_view.specs.Parts.{HasSeenAll, IsPartOfPicture}

-- the result that T.81 gives for interval i
abbrev pub own : ScanValue → ℕ → PieceValue
own scan i = (outcome (interval_of scan i)).0

-- a board with all of them
abbrev pub whole : ScanValue → DecodedScan
whole scan = record { scan = scan; pieces = map (λ i. Some (own scan i)) (range_with_len 0 (length scan.intervals)) }

own_at : (scan : ScanValue) (i : ℕ) → i < length scan.intervals → piece_at (whole scan) i ≡ Some (own scan i)
own_at scan i lt = get_or-map-range_with_len (λ j. Some (own scan j)) 0 (length scan.intervals) i i None lt (omega arith)

none_past : (scan : ScanValue) (i : ℕ) → length scan.intervals ≤ i → piece_at (whole scan) i ≡ None
none_past scan i le = get_or_past (whole scan).pieces i None (omega (arith, le, length-map-range_with_len (λ j. Some (own scan j)) 0 (length scan.intervals)))

own_is : (scan : ScanValue) (i : ℕ) → i < length scan.intervals → IsPieceOf scan i (own scan i)
own_is scan i lt =
    let o = outcome (interval_of scan i) in
    let number : o.0.interval.number ≡ i = ap (λ (v : IntervalValue). v.number) o.1 in
    record {
      number = number;
      interval = (omega (arith, lt, number), o.1 ∙ ap (interval_of scan) (sym number));
      outcome = o.2;
    }

abbrev value_or : PieceValue → Option PieceValue → PieceValue
value_or d None = d
value_or d (Some p) = p

valid : (scan : ScanValue) → IsDecodedScan (whole scan)
valid scan = record {
  places = length-map-range_with_len (λ j. Some (own scan j)) 0 (length scan.intervals);
  each = λ i p e. elim (cases_lt i (length scan.intervals)) [
    | inl lt ↦ subst (IsPieceOf scan i) (ap (value_or (own scan i)) (sym (own_at scan i lt) ∙ e)) (own_is scan i lt)
    | inr ge ↦ absurd (none-some p (sym (none_past scan i ge) ∙ e))
  ];
}

marked : (b : Bool) → cond b Sound Damaged ≢ Blank
marked true = λ e. absurd (cc e)
marked false = λ e. absurd (cc e)

all_first : (scan : ScanValue) → AreFirst (length scan.intervals) (marks_of (whole scan))
all_first scan =
    first_marked (whole scan) (length scan.intervals)
    (λ i lt e. marked (own scan i).is_sound (sym (ap mark_of (own_at scan i lt)) ∙ e))
    (λ i le. ap mark_of (none_past scan i le))

-- a sample of the image lies in an MCU of it
mcu_there : (h : HeadValue) (c x y : ℕ) → heads.IsValid h → c < components_of h → x < samples_across h c → y < samples_down h c → (spot_of h c x y).mcu < mcus_of h
mcu_there h c x y l p q r =
    let s = sampled_at h c l p in
    let column = mcu_inside x h.width (horizontal_of h c) (horizontal_max h) s.across l.components.across q in
    let line = mcu_inside y h.height (vertical_of h c) (vertical_max h) s.down l.components.down r in
    mul-add-lt _ _ _ _ line column

-- and the MCU in an interval of it
interval_there : (h : HeadValue) (mcu : ℕ) → mcu < mcus_of h → interval_number h mcu < intervals_of h
interval_there h mcu lt = elim (eqb_tells h.restart 0) [
  | inl t ↦ subst (λ (b : Bool). cond b 0 (mcu / h.restart) < cond b 1 (div_ceil (mcus_of h) h.restart)) (sym t.0) (omega arith)
  | inr f ↦
      let there : mcu / h.restart < div_ceil (mcus_of h) h.restart = in_div_ceil (mcu / h.restart) (mcus_of h) h.restart (omega (arith, f.1)) (omega (arith, lt, div-add-mod' mcu h.restart)) in
      subst (λ (b : Bool). cond b 0 (mcu / h.restart) < cond b 1 (div_ceil (mcus_of h) h.restart)) (sym f.0) there
]

-- the MCU's number in its interval
within_is : (h : HeadValue) (mcu : ℕ) → mcu - interval_number h mcu * h.restart ≡ within_interval h mcu
within_is h mcu = elim (eqb_tells h.restart 0) [
  | inl t ↦ subst (λ (b : Bool). mcu - cond b 0 (mcu / h.restart) * h.restart ≡ cond b mcu (mcu % h.restart)) (sym t.0) (omega arith)
  | inr f ↦ subst (λ (b : Bool). mcu - cond b 0 (mcu / h.restart) * h.restart ≡ cond b mcu (mcu % h.restart)) (sym f.0) (omega (arith, div-add-mod' mcu h.restart))
]

-- a sample of a piece's data unit, as a board and a view show it
unit_shown : (us : List (List ℕ)) (unit place : ℕ) → place < 64 → sample_in (slice_get us unit) place ≡ slice_index (get_or us unit grey_unit) place
unit_shown us unit place below = elim (cases_lt unit (length us)) [
  | inl lt ↦ ap (λ (o : Option (List ℕ)). sample_in o place) (slice_get-get_or us unit grey_unit lt)
  | inr ge ↦
      ap (λ (o : Option (List ℕ)). sample_in o place) (slice_get_past us unit ge)
      ∙ sym (ap (λ (u : List ℕ). slice_index u place) (get_or_past us unit grey_unit ge) ∙ get_or-replicate 64 place 128 0 below)
]

module _ (v : ViewValue) (head : heads.IsValid v.scan.head) (part : IsPartOfPicture v) (all : HasSeenAll v) where
  -- a view shows the board's samples
  shows_board : (c x y : ℕ) → c < components_of v.scan.head → x < samples_across v.scan.head c → y < samples_down v.scan.head c → samples_of (whole v.scan) c x y ≡ sample_in_view v c x y
  unfolding sample_in_view
  shows_board c x y p q r =
      let h = v.scan.head in
      let spot = spot_of h c x y in
      let mcu = spot.mcu in
      let i = interval_number h mcu in
      let there = mcu_there h c x y head p q r in
      let few : i < length v.scan.intervals = omega (arith, interval_there h mcu there, part.intervals) in
      let o = own v.scan i in
      let is = own_is v.scan i few in
      let place : place_in spot < 64 = omega (arith, mod_below x 8 (omega arith), mod_below y 8 (omega arith)) in
      let unit : (mcu - o.interval.number * h.restart) * blocks_of h + spot.block ≡ unit_number h spot =
      ap (λ n. (mcu - n * h.restart) * blocks_of h + spot.block) is.number ∙ ap (λ n. n * blocks_of h + spot.block) (within_is h mcu) in
      shown_is (whole v.scan) c x y
      ∙ ap (λ (s : Option PieceValue). sample_of_piece h.kind c s (unit_number h spot) (place_in spot)) (own_at v.scan i few)
      ∙ unit_shown o.samples (unit_number h spot) (place_in spot) place
      ∙ sym (ap (λ (u : List ℕ). slice_index u (place_in spot)) ((part.each mcu there).seen (all mcu there) o is spot.block (block_there h c x y head p) ∙ ap (λ n. get_or o.samples n grey_unit) unit))

  -- what shows the same samples is also an image
  moved : (f g : ℕ → ℕ → ℕ → ℕ) (i : IntervalValue) (m : Mark) → ((c x y : ℕ) → Holds i c x y → g c x y ≡ f c x y) → Shows m i f → Shows m i g
  moved f g i Sound same s = record { blocks = s.blocks; decodes = s.decodes; samples = λ c x y held. same c x y held ∙ s.samples c x y held }
  moved f g i Damaged same s = record {
    undecodable = s.undecodable;
    front = s.front;
    blocks = s.blocks;
    longest = s.longest;
    within = λ c x y held few. same c x y held ∙ s.within c x y held few;
    after = λ c x y held past. same c x y held ∙ s.after c x y held past;
  }
  moved f g i Blank same s = λ c x y held. same c x y held ∙ s c x y held

  view_picture : IsPicture v.scan (marks_of (whole v.scan)) (sample_in_view v)
  view_picture =
      let p = picture (whole v.scan) (valid v.scan) head in
      record {
        count = p.count;
        each = λ i. moved (samples_of (whole v.scan)) (sample_in_view v) (interval_of v.scan i) _ (λ c x y held. sym (shows_board c x y held.component held.column held.line)) (p.each i);
      }

  pub shows_first : ShowsFirst v.scan (length v.scan.intervals) (marks_of (whole v.scan)) (sample_in_view v)
  shows_first = record { valid = head; picture = view_picture; first = all_first v.scan }

pub view_text : (v : ViewValue) (marks : List Mark) (f : ℕ → ℕ → ℕ → ℕ) → IsPartOfPicture v → HasSeenAll v → ShowsFirst v.scan (length v.scan.intervals) marks f → text_of v.scan.head (sample_in_view v) ≡ text_of v.scan.head f
view_text v marks f part all s = (one_picture v.scan (length v.scan.intervals)).text _ marks (sample_in_view v) f (shows_first v s.valid part all) s
