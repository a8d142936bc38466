-- What a view of a file that is still arriving shows, as bytes and lines come.
use Rattle.std.proofs.Common.{◌≡◌, ◌≢◌, ℕ, ◌+◌, ◌-◌, ◌*◌, ◌/◌, ◌<◌, ◌≤◌, ◌⊎◌, inl, inr, List, [], ◌∷◌, ◌++◌, length, length-append, get_or, take, drop, replicate, refl, sym, ap, ap₂, subst, ◌∙◌, append_assoc, arith}
use Rattle.std.specs.Prelude.{All}
use Rattle.std.proofs.lemmas.Bool.{cases_lt}
use Rattle.std.proofs.lemmas.List.{append-nil, drop-drop, drop-replicate, drop_at, get_or_default, length-drop, length-replicate, length-take-le, nil_from_length, take-append-drop, take-append-le, take-take, take_all}
use Rattle.std.proofs.lemmas.List.Elements.{All-append}
use Rattle.std.proofs.lemmas.Nat.{le-div}
use borrow.Rule.Slice.PartMut.{put_mid}
use Rattle.std.proofs.Math.Nat.{add-mul, div-mul-le_self, mul-le-mul_right}
use Rattle.jr_base.specs.declared.limits.TheConstants.{MAX_FILE_BYTES}
use Rattle.jr_head.specs.HeadValue.{HeadValue}
use Rattle.jr_head.specs.Heads.{HeadOf}
use Rattle.jr_head.proofs.OneHeadLaws.{one_head_or_one_fault}
use Rattle.jr_paint.specs.Lines.{line_size, next_lines_of}
use Rattle.jr_paint.proofs.PixelLaws.{next_lines_more}
use Rattle.jr_scan.specs.ScanValue.{ScanValue}
use Rattle.jr_picture.specs.declared.mark.Mark.{Mark}
use Rattle.jr_picture.specs.Headline.{ShowsFirst}
use Rattle.jr_rows.specs.declared.marked.Marked.{Marked}
use Rattle.jr_rows.specs.SomeLines.{PaintsLines}
use Rattle.jr_arrival.specs.Arrival.{CanBecome}
use Rattle.jr_arrival.specs.PartialFile.{PartialFileValue, IsPartialFile, given_of}
use Rattle.jr_arrival.specs.LongerFile.{HasScan}
use Rattle.jr_arrival.specs.Settled.{AreFinal, ReturnsNext, NextLines}
use Rattle.jr_arrival.proofs.HeadsStay.{head_stays}
use Rattle.jr_arrival.proofs.LinesOfPictures.{one_lines}
use Rattle.jr_view.specs.PartialViews.{PartialViewValue, AreSettled, ViewHasLines, AreScanLines, IsSeen, KeepsLines, ViewShowsLines, lines_shown, view_of}

-- lines that are final for some bytes are final for more bytes
pub final_stays : (bytes more : List ℕ) (first count : ℕ) (pixels : List ℕ) → AreFinal bytes first count pixels → AreFinal (bytes ++ more) first count pixels
final_stays bytes more first count pixels are file t marks f can has shows =
    are file t marks f (record { more = more ++ can.more; is = can.is ∙ append_assoc bytes more can.more; are_bytes = can.are_bytes; small = can.small }) has shows

-- bytes have one header
pub one_head : (bytes : List ℕ) (g h : HeadValue) → All (λ b. b < 256) bytes → HeadOf bytes g → HeadOf bytes h → g ≡ h
one_head bytes g h each a b = elim (one_head_or_one_fault bytes each) [ inl one ↦ one.only g a ∙ sym (one.only h b) | inr fault ↦ absurd (fault.no_head g a) ]

-- the first 0 lines are final, whatever the bytes
pub no_lines : (bytes pixels : List ℕ) (line : ℕ) → AreFinal bytes 0 0 (take (0 * line) pixels)
no_lines bytes pixels line file t marks f can has shows = let zero : 0 * line ≡ 0 = omega arith in ap (λ (k : ℕ). take k pixels) zero

-- ---- more bytes

lines_stay : (bytes more : List ℕ) (h : HeadValue) (lines : ℕ) (pixels : List ℕ) → ViewShowsLines bytes h lines pixels → ViewShowsLines (bytes ++ more) h lines pixels
lines_stay bytes more h lines pixels s = record { size = s.size; few = s.few; shown = final_stays bytes more 0 lines (take (lines * line_size h) pixels) s.shown; grey = s.grey }

pub seen_more : (a b : PartialFileValue) (pixels : List ℕ) (space : ℕ) (bytes more : List ℕ) → All (λ b. b < 256) more → given_of b.partial_image ≡ given_of a.partial_image → IsPartialFile b (bytes ++ more)
    → IsSeen (record { partial_file = a; pixels = pixels; space = space }) bytes → IsSeen (record { partial_file = b; pixels = pixels; space = space }) (bytes ++ more)
seen_more a b pixels space bytes more each lines come seen = record {
  are_bytes = All-append (λ b. b < 256) bytes more seen.are_bytes each;
  partial_file = come;
  none = λ e. lines ∙ seen.none e;
  some = λ some small.
      let long = length-append bytes more in
      let has = seen.some some (omega (arith, small, long)) in
      record {
        head = has.head;
        is_head = head_stays bytes more small has.head has.is_head;
        lines = subst (λ (n : ℕ). ViewShowsLines (bytes ++ more) has.head n pixels) (sym lines) (lines_stay bytes more has.head (given_of a.partial_image) pixels has.lines);
        space = has.space;
      };
}

-- each element of a slice of bytes is a byte
pub all_bytes : (xs : List ℕ) → ((k : ℕ) → get_or xs k 0 < 256) → All (λ b. b < 256) xs
all_bytes xs each k d l = subst (λ (b : ℕ). b < 256) (get_or_default xs k 0 d l) (each k)

none_or_some : (xs : List ℕ) → (xs ≡ []) ⊎ (xs ≢ [])
none_or_some [] = inl refl
none_or_some (x ∷ xs) = inr (λ e. absurd cc)

pub not_empty : (old new : List ℕ) → length new ≡ length old → old ≢ [] → new ≢ []
not_empty old new long some e = some (nil_from_length old (sym long ∙ ap (λ (l : List ℕ). length l) e))

-- ---- the header is there

grey_shown : (bytes : List ℕ) (h : HeadValue) (pixels : List ℕ) → pixels ≡ replicate (h.height * line_size h) 128 → ViewShowsLines bytes h 0 pixels
grey_shown bytes h pixels grey =
    let zero : 0 * line_size h ≡ 0 = omega arith in
    let all : h.height - 0 ≡ h.height = omega arith in
    record {
      size = ap (λ (l : List ℕ). length l) grey ∙ length-replicate (h.height * line_size h) 128;
      few = omega arith;
      shown = no_lines bytes pixels (line_size h);
      grey = ap (λ (k : ℕ). drop k pixels) zero ∙ grey ∙ ap (λ (k : ℕ). replicate (k * line_size h) 128) (sym all);
    }

pub seen_grey : (a b : PartialFileValue) (h : HeadValue) (old pixels : List ℕ) (space next : ℕ) (bytes : List ℕ) → old ≡ [] → given_of b.partial_image ≡ given_of a.partial_image → IsPartialFile b bytes → (length bytes ≤ MAX_FILE_BYTES → HeadOf bytes h)
    → pixels ≡ replicate (h.height * line_size h) 128 → line_size h ≤ next → IsSeen (record { partial_file = a; pixels = old; space = space }) bytes → IsSeen (record { partial_file = b; pixels = pixels; space = next }) bytes
seen_grey a b h old pixels space next bytes empty lines come head grey wide seen =
    let zero : given_of b.partial_image ≡ 0 = lines ∙ seen.none empty in
    record {
      are_bytes = seen.are_bytes;
      partial_file = come;
      none = λ e. zero;
      some = λ some small. record {
        head = h;
        is_head = head small;
        lines = subst (λ (n : ℕ). ViewShowsLines bytes h n pixels) (sym zero) (grey_shown bytes h pixels grey);
        space = wide;
      };
    }

-- the file after a look shows the same
pub seen_same : (a b : PartialFileValue) (pixels : List ℕ) (space next : ℕ) (bytes : List ℕ) → given_of b.partial_image ≡ given_of a.partial_image → IsPartialFile b bytes → next ≡ space
    → IsSeen (record { partial_file = a; pixels = pixels; space = space }) bytes → IsSeen (record { partial_file = b; pixels = pixels; space = next }) bytes
seen_same a b pixels space next bytes lines come same seen = record {
  are_bytes = seen.are_bytes;
  partial_file = come;
  none = λ e. lines ∙ seen.none e;
  some = λ some small.
      let has = seen.some some small in
      record {
        head = has.head;
        is_head = has.is_head;
        lines = subst (λ (n : ℕ). ViewShowsLines bytes has.head n pixels) (sym lines) has.lines;
        space = omega (arith, has.space, same);
      };
}

-- ---- further lines

-- lines of `line` bytes each are written after those that are shown
pub record Stores (old new row : List ℕ) (first n line : ℕ) : Type 0 where
  pub long : length new ≡ length old
  pub before : take (first * line) new ≡ take (first * line) old
  pub store : take ((first + n) * line) new ≡ take (first * line) old ++ take (n * line) row
  pub after : drop ((first + n) * line) new ≡ drop ((first + n) * line) old

more_lines : (bytes : List ℕ) (h : HeadValue) (first n : ℕ) (old new row : List ℕ) → first + n ≤ h.height → Stores old new row first n (line_size h) → AreFinal bytes first n (take (n * line_size h) row)
    → ViewShowsLines bytes h first old → ViewShowsLines bytes h (first + n) new
more_lines bytes h first n old new row high stores are s =
    let line = line_size h in
    let rest = h.height - (first + n) in
    let sum = add-mul first n line in
    let left : h.height - first ≡ n + rest = omega (arith, high) in
    let size : (h.height - first) * line - n * line ≡ rest * line = let e : (h.height - first) * line ≡ (n + rest) * line = ap (λ (k : ℕ). k * line) left in let d = add-mul n rest line in omega (arith, e, d) in
    let at : first * line + n * line ≡ (first + n) * line = sym sum in
    record {
      size = stores.long ∙ s.size;
      few = high;
      shown = λ file t marks f can has shows.
          let zero : 0 + first ≡ first = omega arith in
          stores.store ∙ ap₂ (λ (x y : List ℕ). x ++ y) (s.shown file t marks f can has shows) (are file t marks f can has shows ∙ ap (λ (k : ℕ). next_lines_of t.head f k n) (sym zero)) ∙ sym (next_lines_more t.head f 0 first n);
      grey = stores.after ∙ ap (λ (k : ℕ). drop k old) (sym at) ∙ sym (drop-drop (n * line) (first * line) old) ∙ ap (λ (l : List ℕ). drop (n * line) l) s.grey
          ∙ drop-replicate (n * line) ((h.height - first) * line) 128 ∙ ap (λ (k : ℕ). replicate k 128) size;
    }

module _ (a b : PartialFileValue) (old row : List ℕ) (space n : ℕ) (bytes : List ℕ) (some : old ≢ []) (wide : length row ≡ space) (lines : given_of b.partial_image ≡ given_of a.partial_image + n) (come : IsPartialFile b bytes)
    (next : ReturnsNext bytes (given_of a.partial_image) n row) (seen : IsSeen (record { partial_file = a; pixels = old; space = space }) bytes) where
  -- the view's header is the bytes'
  there : (x : NextLines bytes (given_of a.partial_image) n row) → ViewHasLines (record { partial_file = a; pixels = old; space = space }) bytes
  there x = seen.some some x.scan.head.small

  is_theirs : (x : NextLines bytes (given_of a.partial_image) n row) → x.settled.scan.head ≡ (there x).head
  is_theirs x = one_head bytes x.settled.scan.head (there x).head seen.are_bytes x.scan.head (there x).is_head

  pub seen_row : (new : List ℕ) (g : HeadValue) → 0 < n → (length bytes ≤ MAX_FILE_BYTES → HeadOf bytes g) → Stores old new row (given_of a.partial_image) n (line_size g) → IsSeen (record { partial_file = b; pixels = new; space = length row }) bytes
  seen_row new g more head stores = elim next [
    | inl none ↦ absurd (omega (arith, none.0, more))
    | inr x ↦
        let first = given_of a.partial_image in
        let has = there x in
        let h = has.head in
        let theirs = is_theirs x in
        let same : g ≡ h = one_head bytes g h seen.are_bytes (head x.scan.head.small) has.is_head in
        let few : first + n ≤ x.settled.scan.head.height = omega (arith, x.count, more) in
        let high : first + n ≤ h.height = subst (λ (v : HeadValue). first + n ≤ v.height) theirs few in
        let are : AreFinal bytes first n (take (n * line_size h) row) = subst (λ (v : HeadValue). AreFinal bytes first n (take (n * line_size v) row)) theirs x.are in
        let puts' : Stores old new row first n (line_size h) = subst (λ (v : HeadValue). Stores old new row first n (line_size v)) same stores in
        record {
          are_bytes = seen.are_bytes;
          partial_file = come;
          none = λ e. absurd (not_empty old new stores.long some e);
          some = λ is small. record {
            head = h;
            is_head = has.is_head;
            lines = subst (λ (k : ℕ). ViewShowsLines bytes h k new) (sym lines) (more_lines bytes h first n old new row high puts' are has.lines);
            space = omega (arith, has.space, wide);
          };
        }
  ]

  -- they fit
  pub row_fits : (g : HeadValue) → 0 < n → (length bytes ≤ MAX_FILE_BYTES → HeadOf bytes g) → (n * line_size g ≤ length row) × ((given_of a.partial_image + n) * line_size g ≤ length old)
  row_fits g more head = elim next [
    | inl none ↦ absurd (omega (arith, none.0, more))
    | inr x ↦
        let first = given_of a.partial_image in
        let has = there x in
        let h = has.head in
        let line = line_size h in
        let same : g ≡ h = one_head bytes g h seen.are_bytes (head x.scan.head.small) has.is_head in
        let count : n ≤ length row / line = subst (λ (v : HeadValue). n ≤ length row / line_size v) (is_theirs x) (omega (arith, x.count)) in
        let few : first + n ≤ x.settled.scan.head.height = omega (arith, x.count, more) in
        let high : first + n ≤ h.height = subst (λ (v : HeadValue). first + n ≤ v.height) (is_theirs x) few in
        let space : n * line ≤ length row = omega (arith, mul-le-mul_right {m = n} {n = length row / line} line count, div-mul-le_self (length row) line) in
        let inside : (first + n) * line ≤ length old = omega (arith, mul-le-mul_right {m = first + n} {n = h.height} line high, has.lines.size) in
        subst (λ (v : HeadValue). (n * line_size v ≤ length row) × ((first + n) * line_size v ≤ length old)) (sym same) (space, inside)
  ]

  -- if no line is returned, all that are final are shown
  pub all_settled : n ≡ 0 → AreSettled bytes (given_of b.partial_image)
  all_settled none = elim next [
    | inl w ↦ inl w.1
    | inr x ↦
        let has = there x in
        let h = has.head in
        let line = line_size h in
        let theirs = is_theirs x in
        let some_line : 0 < line = elim (cases_lt 0 line) [
          | inl l ↦ l
          | inr g ↦
              let z : line ≡ 0 = omega (arith, g) in
              let size : h.height * line ≡ 0 = ap (λ (k : ℕ). h.height * k) z ∙ omega arith in
              absurd (some (nil_from_length old (has.lines.size ∙ size)))
        ] in
        let one : 1 ≤ length row / line = le-div 1 (length row) line some_line (omega (arith, has.space, wide)) in
        let one' : 1 ≤ length row / line_size x.settled.scan.head = subst (λ (v : HeadValue). 1 ≤ length row / line_size v) (sym theirs) one in
        inr (x.settled, x.scan, x.rows, omega (arith, x.count, none, lines, one'))
  ]

-- what was shown stays unchanged
pub row_keeps : (old new : List ℕ) (first : ℕ) (bytes : List ℕ) (g h : HeadValue) → All (λ b. b < 256) bytes → HeadOf bytes g → HeadOf bytes h → take (first * line_size g) new ≡ take (first * line_size g) old
    → take (first * line_size h) new ≡ take (first * line_size h) old
row_keeps old new first bytes g h each is_g is_h before = let same = one_head bytes g h each is_g is_h in subst (λ (v : HeadValue). take (first * line_size v) new ≡ take (first * line_size v) old) same before

pub still_kept : (first later line : ℕ) (old now new : List ℕ) → first ≤ later → take (first * line) now ≡ take (first * line) old → take (later * line) new ≡ take (later * line) now → take (first * line) new ≡ take (first * line) old
still_kept first later line old now new le before after =
    let less : first * line ≤ later * line = mul-le-mul_right {m = first} {n = later} line le in
    sym (take-take (first * line) (later * line) new less) ∙ ap (λ (l : List ℕ). take (first * line) l) after ∙ take-take (first * line) (later * line) now less ∙ before

pub keeps_more : (old now new : PartialViewValue) → ((bytes : List ℕ) → IsSeen old bytes → IsSeen now bytes) → lines_shown old ≤ lines_shown now → KeepsLines old now → KeepsLines now new → KeepsLines old new
keeps_more old now new on le before after bytes h seen is = still_kept (lines_shown old) (lines_shown now) (line_size h) old.pixels now.pixels new.pixels le (before bytes h seen is) (after bytes h (on bytes seen) is)

-- space for further lines keeps the lines that are shown
pub keeps_open : (a b : PartialFileValue) (old new row next : List ℕ) → (old ≢ [] → new ≡ old) → KeepsLines (view_of a old row) (view_of b new next)
keeps_open a b old new row next same bytes h seen is = elim (none_or_some old) [
  | inl e ↦
      let zero : given_of a.partial_image * line_size h ≡ 0 = ap (λ (n : ℕ). n * line_size h) (seen.none e) ∙ omega arith in
      ap (λ (k : ℕ). take k new) zero ∙ ap (λ (k : ℕ). take k old) (sym zero)
  | inr some ↦ ap (λ (l : List ℕ). take (given_of a.partial_image * line_size h) l) (same some)
]

-- a list whose elements are all written back is the new one
pub with_items_is : (v : ℕ) (old new : List ℕ) → v ≡ length old → length new ≡ length old → take v (new ++ drop (length new) old) ≡ new
with_items_is v old new is long = take-append-le v new (drop (length new) old) (omega (arith, is, long)) ∙ take_all v new (omega (arith, is, long))

-- a view by the slices of its lines
pub seen_as : (b : PartialFileValue) (pixels row ps rs : List ℕ) → ps ≡ pixels → rs ≡ row → (bytes : List ℕ) → IsSeen (view_of b pixels row) bytes → IsSeen (view_of b ps rs) bytes
seen_as b pixels row ps rs ep er bytes seen = subst (λ (l : List ℕ). IsSeen (view_of b l rs) bytes) (sym ep) (subst (λ (l : List ℕ). IsSeen (view_of b pixels l) bytes) (sym er) seen)

pub keeps_as : (b d : PartialFileValue) (pixels row ps rs ps' rs' pixels' row' : List ℕ) → ps ≡ pixels → rs ≡ row → pixels' ≡ ps' → row' ≡ rs' → KeepsLines (view_of b ps rs) (view_of d ps' rs') → KeepsLines (view_of b pixels row) (view_of d pixels' row')
keeps_as b d pixels row ps rs ps' rs' pixels' row' ep er ep' er' keeps =
    subst (λ (l : List ℕ). KeepsLines (view_of b pixels row) (view_of d l row')) (sym ep')
    (subst (λ (l : List ℕ). KeepsLines (view_of b pixels row) (view_of d ps' l)) (sym er')
    (subst (λ (l : List ℕ). KeepsLines (view_of b l row) (view_of d ps' rs')) ep (subst (λ (l : List ℕ). KeepsLines (view_of b ps l) (view_of d ps' rs')) er keeps)))

-- ---- nothing more comes

-- what is written after the first elements
pub store_after : (a : ℕ) (xs ys : List ℕ) → a ≤ length xs → drop a (put_mid a (length xs - a) xs ys) ≡ ys
store_after a xs ys le =
    let post = drop (length xs - a) (drop a xs) in
    let none : length post ≡ 0 = length-drop (length xs - a) (drop a xs) ∙ ap (λ (n : ℕ). n - (length xs - a)) (length-drop a xs) ∙ omega arith in
    drop_at (take a xs) (ys ++ post) a (length-take-le a xs le) ∙ ap (λ (l : List ℕ). ys ++ l) (nil_from_length post none) ∙ append-nil ys

-- further lines of one image are those of another
pub rest_same : (scan : ScanValue) (first count : ℕ) (tail : List ℕ) (m : Marked) → first + count ≤ scan.head.height → PaintsLines scan first count tail m → (marks : List Mark) (f : ℕ → ℕ → ℕ → ℕ) → ShowsFirst scan (length scan.intervals) marks f
    → tail ≡ next_lines_of scan.head f first count
rest_same scan first count tail m high p marks f shows = p.lines ∙ one_lines scan (length scan.intervals) p.marks marks p.f f first count high p.shows shows

module _ (a : PartialFileValue) (old : List ℕ) (space : ℕ) (bytes : List ℕ) (scan : ScanValue) (has : HasScan bytes scan) (seen : IsSeen (record { partial_file = a; pixels = old; space = space }) bytes) where
  -- the lines that are shown are lines of the scan's image
  shown_there : old ≢ [] → ViewShowsLines bytes scan.head (given_of a.partial_image) old
  shown_there some =
      let there = seen.some some has.head.small in
      subst (λ (h : HeadValue). ViewShowsLines bytes h (given_of a.partial_image) old) (one_head bytes there.head scan.head seen.are_bytes there.is_head has.head) there.lines

  pub few_shown : given_of a.partial_image ≤ scan.head.height
  few_shown = elim (none_or_some old) [ inl e ↦ omega (arith, seen.none e) | inr some ↦ (shown_there some).few ]

  pub size_whole : (whole : List ℕ) → (old ≢ [] → whole ≡ old) → (old ≡ [] → length whole ≡ scan.head.height * line_size scan.head) → length whole ≡ scan.head.height * line_size scan.head
  size_whole whole there none = elim (none_or_some old) [ inl e ↦ none e | inr some ↦ ap (λ (l : List ℕ). length l) (there some) ∙ (shown_there some).size ]

  shown_final : (whole : List ℕ) → (old ≢ [] → whole ≡ old) → AreFinal bytes 0 (given_of a.partial_image) (take (given_of a.partial_image * line_size scan.head) whole)
  shown_final whole there = elim (none_or_some old) [
    | inl e ↦ subst (λ (n : ℕ). AreFinal bytes 0 n (take (n * line_size scan.head) whole)) (sym (seen.none e)) (no_lines bytes whole (line_size scan.head))
    | inr some ↦ subst (λ (l : List ℕ). AreFinal bytes 0 (given_of a.partial_image) (take (given_of a.partial_image * line_size scan.head) l)) (sym (there some)) (shown_there some).shown
  ]

  -- with the others they are the image
  pub whole_picture : (whole painted : List ℕ) → (old ≢ [] → whole ≡ old) → take (given_of a.partial_image * line_size scan.head) painted ≡ take (given_of a.partial_image * line_size scan.head) whole
      → ((marks : List Mark) (f : ℕ → ℕ → ℕ → ℕ) → ShowsFirst scan (length scan.intervals) marks f → drop (given_of a.partial_image * line_size scan.head) painted ≡ next_lines_of scan.head f (given_of a.partial_image) (scan.head.height - given_of a.partial_image))
      → AreScanLines scan painted
  whole_picture whole painted there before rest marks f shows =
      let h = scan.head in
      let first = given_of a.partial_image in
      let size = first * line_size h in
      let left = h.height - first in
      let itself : CanBecome bytes bytes = record { more = []; is = sym (append-nil bytes); are_bytes = seen.are_bytes; small = has.head.small } in
      let front : take size painted ≡ next_lines_of h f 0 first = before ∙ shown_final whole there bytes scan marks f itself has shows in
      let zero : 0 + first ≡ first = omega arith in
      let all : first + left ≡ h.height = let few = few_shown in omega (arith, few) in
      sym (take-append-drop size painted) ∙ ap₂ (λ (x y : List ℕ). x ++ y) front (rest marks f shows ∙ ap (λ (k : ℕ). next_lines_of h f k left) (sym zero)) ∙ sym (next_lines_more h f 0 first left) ∙ ap (next_lines_of h f 0) all
