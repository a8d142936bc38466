-- A decoded scan is an image.
use Rattle.std.proofs.Common.{◌≡◌, ◌≢◌, ℕ, zero, suc, ◌+◌, ◌-◌, ◌*◌, ◌/◌, ◌%◌, ◌<◌, ◌≤◌, min, Bool, true, false, cond, inl, inr, Option, Some, None, List, [], ◌∷◌, map, length, get_or, refl, sym, ap, subst, ◌∙◌, arith}
use Rattle.std.specs.Prelude.{ℤ, slice_get, slice_index}
use Rattle.std.specs.List.{count_by}
use Rattle.std.proofs.lemmas.Bool.Decides.{eqb_tells}
use Rattle.std.proofs.lemmas.List.{length-map}
use Rattle.std.proofs.lemmas.List.Sums.{sum_by-cons}
use Rattle.std.proofs.lemmas.Option.{slice_get-get_or, slice_get_past}
use Rattle.std.proofs.lemmas.Nat.{div-add-mod', mod_below, mul-add-lt}
use Rattle.std.proofs.Math.Nat.{mul-le-mul_right}
use Rattle.jr_head.specs.HeadValue.{HeadValue}
use Rattle.jr_head.specs.Geometry.{order_of, blocks_of, mcus_of, components_of, horizontal_of, vertical_of, horizontal_max, vertical_max}
use Rattle.jr_head.specs.Geometry as heads
use Rattle.jr_head.proofs.SamplingLaws.{length-order}
use Rattle.jr_paint.specs.Geometry.{samples_across, samples_down}
use Rattle.jr_paint.specs.declared.geometry.Spot.{Spot}
use Rattle.jr_paint.proofs.Factors.{sampled_at}
use Rattle.jr_paint.proofs.Places.{mcu_inside, block_inside, place_of_lies}
use Rattle.jr_scan.specs.IntervalValue.{IntervalValue}
use Rattle.jr_scan.specs.ScanValue.{ScanValue, IsSameScan, mcus_in}
use Rattle.jr_scan.specs.ScanValue as scans
use Rattle.jr_scan.specs.Mcus.{Decodes}
use Rattle.jr_piece.specs.PieceValue.{PieceValue}
use Rattle.jr_piece.specs.Outcome.{AreSamples, IsDamaged, unit_of}
use Rattle.jr_picture.specs.declared.mark.Mark.{Mark}
use Rattle.jr_picture.specs.declared.mark.Mark.TheVariants.{Blank, Sound, Damaged}
use Rattle.jr_picture.specs.DecodedScan.{DecodedScan, IsDecodedScan, piece_at, mark_at, mark_of, marks_of, is_sound_piece, is_damaged_piece}
use Rattle.jr_picture.specs.Headline.{interval_number, within_interval, spot_of, unit_number, place_in, Holds, Shows, mark_in, IsPicture, AreFirst, is_sound, is_damaged}
use Rattle.jr_picture.specs.Samples.{sample_in, sample_of_piece, samples_of}

-- a sample of the image lies in an MCU of it, in a data unit of that
mcu_there : (h : HeadValue) (c x y : ℕ) → heads.IsValid h → c < components_of h → x < samples_across h c → y < samples_down h c → (spot_of h c x y).mcu < mcus_of h
mcu_there h c x y l p q r =
    let s = sampled_at h c l p in
    let column = mcu_inside x h.width (horizontal_of h c) (horizontal_max h) s.across l.components.across q in
    let line = mcu_inside y h.height (vertical_of h c) (vertical_max h) s.down l.components.down r in
    mul-add-lt _ _ _ _ line column

pub block_there : (h : HeadValue) (c x y : ℕ) → heads.IsValid h → c < components_of h → (spot_of h c x y).block < blocks_of h
block_there h c x y l p =
    let s = sampled_at h c l p in
    let there = place_of_lies (horizontal_of h c) (vertical_of h c) x y s.across s.down in
    block_inside h c _ _ p there.block_down there.block_across

-- an MCU of the image is one of its interval
within_few : (h : HeadValue) (mcu : ℕ) → mcu < mcus_of h → within_interval h mcu < mcus_in h (interval_number h mcu)
within_few h mcu lt = elim (eqb_tells h.restart 0) [
  | inl t ↦ subst (λ (b : Bool). cond b mcu (mcu % h.restart) < cond b (mcus_of h) (min h.restart (mcus_of h - cond b 0 (mcu / h.restart) * h.restart))) (sym t.0) lt
  | inr f ↦
      let some : 0 < h.restart = omega (arith, f.1) in
      let rest : mcu % h.restart < min h.restart (mcus_of h - mcu / h.restart * h.restart) = omega (arith, div-add-mod' mcu h.restart, mod_below mcu h.restart some, lt) in
      subst (λ (b : Bool). cond b mcu (mcu % h.restart) < cond b (mcus_of h) (min h.restart (mcus_of h - cond b 0 (mcu / h.restart) * h.restart))) (sym f.0) rest
]

-- a data unit of an MCU of the image is one of its interval
pub unit_few : (h : HeadValue) (s : Spot) → s.mcu < mcus_of h → s.block < blocks_of h → length (order_of h) ≡ blocks_of h → unit_number h s < mcus_in h (interval_number h s.mcu) * length (order_of h)
unit_few h s mcu block e =
    let within = within_few h s.mcu mcu in
    let whole : (within_interval h s.mcu + 1) * blocks_of h ≤ mcus_in h (interval_number h s.mcu) * blocks_of h = mul-le-mul_right (blocks_of h) (omega (arith, within)) in
    let here : unit_number h s < mcus_in h (interval_number h s.mcu) * blocks_of h = omega (arith, whole, block) in
    subst (λ (k : ℕ). unit_number h s < mcus_in h (interval_number h s.mcu) * k) (sym e) here

-- a unit of the samples of a decoded scan
unit_shown : (h : HeadValue) (zs : List (List ℤ)) (us : List (List ℕ)) (unit place : ℕ) → AreSamples h zs us → unit < length zs → sample_in (slice_get us unit) place ≡ slice_index (unit_of h zs unit) place
unit_shown h zs us unit place s few =
    ap (λ (o : Option (List ℕ)). sample_in o place) (slice_get-get_or us unit [] (omega (arith, s.count, few))) ∙ ap (λ (l : List ℕ). slice_index l place) (s.each unit few)

grey_shown : (h : HeadValue) (zs : List (List ℤ)) (us : List (List ℕ)) (unit place : ℕ) → AreSamples h zs us → length zs ≤ unit → sample_in (slice_get us unit) place ≡ 128
grey_shown h zs us unit place s past = ap (λ (o : Option (List ℕ)). sample_in o place) (slice_get_past us unit (omega (arith, s.count, past)))

abbrev interval_by : ℕ → HeadValue → List (List ℕ) → IntervalValue
interval_by i h data_of = record { number = i; mcus = mcus_in h i; bytes = get_or data_of i []; head = h }

-- scans with equal headers and data have equal intervals
pub same_interval : (a s : ScanValue) (i : ℕ) → IsSameScan a s → scans.interval_of a i ≡ scans.interval_of s i
same_interval a s i same = ap (λ (h : HeadValue). interval_by i h a.intervals) same.0 ∙ ap (interval_by i s.head) same.1

-- the interval of a piece of a decoded scan
pub interval_is : (b : DecodedScan) (s : ScanValue) (i : ℕ) (p : PieceValue) → IsDecodedScan b → IsSameScan b.scan s → piece_at b i ≡ Some p → p.interval ≡ scans.interval_of s i
interval_is b s i p valid same e =
    let of = valid.each i p e in
    of.interval.1 ∙ ap (scans.interval_of b.scan) of.number ∙ same_interval b.scan s i same

-- the sample at the position that a header defines
abbrev pub shown_by : HeadValue → List (Option PieceValue) → ℕ → ℕ → ℕ → ℕ
shown_by h ps c x y = sample_of_piece h.kind c (get_or ps (interval_number h (spot_of h c x y).mcu) None) (unit_number h (spot_of h c x y)) (place_in (spot_of h c x y))

pub shown_is : (b : DecodedScan) (c x y : ℕ) → samples_of b c x y ≡ shown_by b.scan.head b.pieces c x y
unfolding samples_of
shown_is b c x y = refl

-- the samples of interval i, from its posted piece or none
shown_there : (b : DecodedScan) (c x y i : ℕ) (q : Option PieceValue) → interval_number b.scan.head (spot_of b.scan.head c x y).mcu ≡ i → piece_at b i ≡ q
    → samples_of b c x y ≡ sample_of_piece b.scan.head.kind c q (unit_number b.scan.head (spot_of b.scan.head c x y)) (place_in (spot_of b.scan.head c x y))
shown_there b c x y i q e f =
    let h = b.scan.head in
    let spot = spot_of h c x y in
    shown_is b c x y ∙ ap (λ (n : ℕ). sample_of_piece h.kind c (get_or b.pieces n None) (unit_number h spot) (place_in spot)) e
    ∙ ap (λ (p : Option PieceValue). sample_of_piece h.kind c p (unit_number h spot) (place_in spot)) f

module _ (b : DecodedScan) (valid : IsDecodedScan b) (head : heads.IsValid b.scan.head) where
  -- a sample that an interval holds lies in one of its data units
  unit_there : (i c x y : ℕ) → Holds (scans.interval_of b.scan i) c x y → unit_number b.scan.head (spot_of b.scan.head c x y) < mcus_in b.scan.head i * length (order_of b.scan.head)
  unit_there i c x y held =
      let h = b.scan.head in
      let there = unit_few h (spot_of h c x y) (mcu_there h c x y head held.component held.column held.line) (block_there h c x y head held.component) (length-order 0 h.components) in
      subst (λ (n : ℕ). unit_number h (spot_of h c x y) < mcus_in h n * length (order_of h)) held.interval there

  shows_piece : (i : ℕ) (p : PieceValue) → piece_at b i ≡ Some p → (t : Bool) → p.is_sound ≡ t → Shows (cond t Sound Damaged) (scans.interval_of b.scan i) (samples_of b)
  shows_piece i p e true t =
      let v = scans.interval_of b.scan i in
      let is = interval_is b b.scan i p valid (refl, refl) e in
      let s = (valid.each i p e).outcome.sound t in
      let d : Decodes v s.blocks = subst (λ (j : IntervalValue). Decodes j s.blocks) is s.decodes in
      let shows : AreSamples v.head s.blocks p.samples = subst (λ (j : IntervalValue). AreSamples j.head s.blocks p.samples) is s.samples in
      record {
        blocks = s.blocks;
        decodes = d;
        samples = λ c x y held.
            shown_there b c x y i (Some p) held.interval e
            ∙ unit_shown v.head s.blocks p.samples (unit_number v.head (spot_of v.head c x y)) (place_in (spot_of v.head c x y)) shows (omega (arith, d.mcus.0, unit_there i c x y held));
      }
  shows_piece i p e false t =
      let v = scans.interval_of b.scan i in
      let is = interval_is b b.scan i p valid (refl, refl) e in
      let s = subst (λ (j : IntervalValue). IsDamaged j p.front p.samples) is ((valid.each i p e).outcome.damaged t) in
      record {
        undecodable = s.undecodable;
        front = p.front;
        blocks = s.blocks;
        longest = s.longest;
        within = λ c x y held few.
            shown_there b c x y i (Some p) held.interval e
            ∙ unit_shown v.head s.blocks p.samples (unit_number v.head (spot_of v.head c x y)) (place_in (spot_of v.head c x y)) s.samples few;
        after = λ c x y held past.
            shown_there b c x y i (Some p) held.interval e
            ∙ grey_shown v.head s.blocks p.samples (unit_number v.head (spot_of v.head c x y)) (place_in (spot_of v.head c x y)) s.samples past;
      }

  shows : (i : ℕ) (q : Option PieceValue) → piece_at b i ≡ q → Shows (mark_of q) (scans.interval_of b.scan i) (samples_of b)
  shows i None e = λ c x y held. shown_there b c x y i None held.interval e
  shows i (Some p) e = shows_piece i p e p.is_sound refl

pub marks_at : (ps : List (Option PieceValue)) (i : ℕ) → get_or (map mark_of ps) i Blank ≡ mark_of (get_or ps i None)
marks_at [] i = refl
marks_at (p ∷ ps) zero = refl
marks_at (p ∷ ps) (suc i) = marks_at ps i

-- the samples of a decoded scan are an image of it
pub picture : (b : DecodedScan) → IsDecodedScan b → heads.IsValid b.scan.head → IsPicture b.scan (marks_of b) (samples_of b)
picture b l h = record {
  count = length-map b.pieces mark_of ∙ l.places;
  each = λ i. subst (λ (m : Mark). Shows m (scans.interval_of b.scan i) (samples_of b)) (sym (marks_at b.pieces i)) (shows b l h i (piece_at b i) refl);
}

-- an image of a scan is one of each equal scan
pub same_picture : (a s : ScanValue) (marks : List Mark) (f : ℕ → ℕ → ℕ → ℕ) → IsSameScan a s → IsPicture a marks f → IsPicture s marks f
same_picture a s marks f same p = record {
  count = p.count ∙ ap (λ (l : List (List ℕ)). length l) same.1;
  each = λ i. subst (λ (v : IntervalValue). Shows (mark_in marks i) v f) (same_interval a s i same) (p.each i);
}

sound_bit : (b : Bool) → cond {A = ℕ} (is_sound (cond b Sound Damaged)) 1 0 ≡ cond b 1 0
sound_bit true = refl
sound_bit false = refl

damaged_bit : (b : Bool) → cond {A = ℕ} (is_damaged (cond b Sound Damaged)) 1 0 ≡ cond (cond b false true) 1 0
damaged_bit true = refl
damaged_bit false = refl

sound_one : (p : Option PieceValue) → cond {A = ℕ} (is_sound (mark_of p)) 1 0 ≡ cond (is_sound_piece p) 1 0
sound_one None = refl
sound_one (Some p) = sound_bit p.is_sound

damaged_one : (p : Option PieceValue) → cond {A = ℕ} (is_damaged (mark_of p)) 1 0 ≡ cond (is_damaged_piece p) 1 0
damaged_one None = refl
damaged_one (Some p) = damaged_bit p.is_sound

-- the counts of the marks are those of the pieces
pub sound_counts : (ps : List (Option PieceValue)) → count_by is_sound (map mark_of ps) ≡ count_by is_sound_piece ps
sound_counts [] = refl
sound_counts (p ∷ ps) =
    omega (arith, sound_one p, sound_counts ps, sum_by-cons (λ (m : Mark). cond (is_sound m) 1 0) (mark_of p) (map mark_of ps), sum_by-cons (λ (q : Option PieceValue). cond (is_sound_piece q) 1 0) p ps)

pub damaged_counts : (ps : List (Option PieceValue)) → count_by is_damaged (map mark_of ps) ≡ count_by is_damaged_piece ps
damaged_counts [] = refl
damaged_counts (p ∷ ps) =
    omega (arith, damaged_one p, damaged_counts ps, sum_by-cons (λ (m : Mark). cond (is_damaged m) 1 0) (mark_of p) (map mark_of ps), sum_by-cons (λ (q : Option PieceValue). cond (is_damaged_piece q) 1 0) p ps)

-- marks by the pieces at their positions
pub first_marked : (b : DecodedScan) (n : ℕ) → ((i : ℕ) → i < n → mark_at b i ≢ Blank) → ((i : ℕ) → n ≤ i → mark_at b i ≡ Blank) → AreFirst n (marks_of b)
first_marked b n marked blank = record {
  marked = λ i lt. subst (λ (m : Mark). m ≢ Blank) (sym (marks_at b.pieces i)) (marked i lt);
  blank = λ i le. marks_at b.pieces i ∙ blank i le;
}
