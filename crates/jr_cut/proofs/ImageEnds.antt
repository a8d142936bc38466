-- The offset at which the bytes after an EOI marker begin.
use Rattle.std.proofs.Common.{◌≡◌, ◌≢◌, ℕ, zero, suc, ◌+◌, ◌-◌, ◌%◌, ◌<◌, List, [], ◌∷◌, ◌++◌, length, replicate, take, get_or, refl, sym, ap, subst, ◌∙◌, length-append, arith}
use Rattle.jr_base.specs.declared.marker.TheConstants.{EOI, PREFIX, RST0}
use Rattle.jr_cut.specs.declared.scan_end.ScanEnd.{ScanEnd}
use Rattle.jr_cut.specs.declared.scan_end.ScanEnd.TheVariants.{EndOfImage}
use Rattle.jr_cut.specs.Cut.{marker, IsEnding, CutFrom}
use Rattle.jr_cut.specs.PartialCut.{AreSegments, PartialCutValue, HasCut}
use Rattle.jr_cut.specs.ImageEnd.{HasCutToRest, IsImageEnd}
use Rattle.jr_cut.proofs.Cuts.{cut_last, cut_last_tail, cut_next, cut_next_tail}
use Rattle.jr_cut.proofs.Segments.{length_marker, longer}

-- ---- the segments, and what follows them

record CutTo (n k at : ℕ) (bytes : List ℕ) (ds : List (List ℕ)) (end : ScanEnd) (tail : List ℕ) : Type 0 where
  pub cut : CutFrom n k at bytes ds end
  pub after : cut.tail ≡ tail

cut_to : (n k j at : ℕ) (ds : List (List ℕ)) (read tail : List ℕ) (end : ScanEnd) → AreSegments k read ds → suc j ≡ k + length ds → j < n → IsEnding n j (at + length read) tail end → CutTo n k at (read ++ tail) ds end tail
cut_to n k j at [] read tail end a e few ends = absurd a
cut_to n k j at (d ∷ []) read tail end a e few ends =
    let same : j ≡ k = omega (arith, e) in
    let within : k < n = omega (arith, same, few) in
    let here = subst (λ (i : ℕ). IsEnding n i (at + length read) tail end) same ends in
    record { cut = cut_last n k at (read ++ tail) read d tail end within a refl here; after = cut_last_tail n k at (read ++ tail) read d tail end within a refl here }
cut_to n k j at (d ∷ f ∷ ds) read tail end (raw, more, others, is, first, a) e few ends =
    let m = marker more (RST0 + k % 8) in
    let next = at + length raw + more + 2 in
    let place : at + length read ≡ next + length others = omega (arith, ap length is, length-append raw (m ++ others), length-append m others, length_marker more (RST0 + k % 8)) in
    let rest = cut_to n (suc k) j next (f ∷ ds) others tail end a (omega (arith, e)) few (subst (λ (i : ℕ). IsEnding n j i tail end) place ends) in
    let whole = longer raw m others tail read is in
    record {
      cut = cut_next n k at next more (read ++ tail) raw d (others ++ tail) (f ∷ ds) end first whole refl rest.cut;
      after = cut_next_tail n k at next more (read ++ tail) raw d (others ++ tail) (f ∷ ds) end first whole refl rest.cut ∙ rest.after;
    }

all_cut : (start : ℕ) (bytes : List ℕ) (c : PartialCutValue) (h : HasCut start bytes c) → CutTo c.intervals 0 start bytes c.segments c.ended h.tail
all_cut start bytes c h =
    let j : suc (length c.segments - 1) ≡ 0 + length c.segments = omega (arith, some c.segments h.read h.are) in
    subst (λ (x : List ℕ). CutTo c.intervals 0 start x c.segments c.ended h.tail) (sym h.spelled) (cut_to c.intervals 0 (length c.segments - 1) start c.segments h.read h.tail c.ended h.are j (omega (arith, h.count, j)) h.ends)
  where
    some : (ds : List (List ℕ)) (read : List ℕ) → AreSegments 0 read ds → 0 < length ds
    some [] read a = absurd a
    some (d ∷ ds) read a = omega arith

-- ---- the marker

-- the number of FF bytes before the code is that of the marker
fill_of_marker : (n more code : ℕ) (xs after : List ℕ) → code ≢ PREFIX → take n xs ≡ replicate n PREFIX → (n < length xs → get_or xs n 0 ≢ PREFIX) → xs ≡ marker more code ++ after → n ≡ more + 1
fill_of_marker zero more code xs after not_ff full next e = absurd (subst (λ (x : List ℕ). 0 < length x → get_or x 0 0 ≢ PREFIX) e next (omega arith) refl)
fill_of_marker (suc zero) zero code xs after not_ff full next e = omega arith
fill_of_marker (suc zero) (suc more) code xs after not_ff full next e = absurd (subst (λ (x : List ℕ). 1 < length x → get_or x 1 0 ≢ PREFIX) e next (omega arith) refl)
fill_of_marker (suc (suc n)) zero code xs after not_ff full next e =
    let same : take (suc (suc n)) (marker 0 code ++ after) ≡ replicate (suc (suc n)) PREFIX = ap (take (suc (suc n))) (sym e) ∙ full in
    absurd (not_ff (ap (λ (x : List ℕ). get_or x 1 0) same))
fill_of_marker (suc (suc n)) (suc more) code [] after not_ff full next e = absurd cc
fill_of_marker (suc (suc n)) (suc more) code (x ∷ xs) after not_ff full next e =
    let f : take (suc n) xs ≡ replicate (suc n) PREFIX = cc in
    let r : xs ≡ marker more code ++ after = cc in
    omega (arith, fill_of_marker (suc n) more code xs after not_ff f (λ lt. next (omega (arith, lt))) r)

-- `fill` FF bytes and EOI are not read yet, and then what follows the image
pub record AfterFill (c : PartialCutValue) (start : ℕ) (bytes : List ℕ) (fill : ℕ) : Type 0 where
  pub within : fill < length c.rest
  pub is : IsImageEnd c.intervals start bytes (c.at + fill + 1)

pub after_fill : (start : ℕ) (bytes : List ℕ) (c : PartialCutValue) (fill : ℕ) → HasCutToRest start bytes c → c.ended ≡ EndOfImage → take fill c.rest ≡ replicate fill PREFIX → (fill < length c.rest → get_or c.rest fill 0 ≢ PREFIX) → AfterFill c start bytes fill
after_fill start bytes c fill h ended full next =
    let m = subst (λ (end : ScanEnd). IsEnding c.intervals (length c.segments - 1) (start + length h.cut.read) h.cut.tail end) ended h.cut.ends in
    let at_rest : c.rest ≡ marker m.0 EOI ++ m.1 = sym h.rest ∙ m.2 in
    let count = fill_of_marker fill m.0 EOI c.rest m.1 (λ e. omega (arith, e)) full next at_rest in
    let sum : length c.rest ≡ m.0 + 2 + length m.1 = omega (arith, ap length at_rest, length-append (marker m.0 EOI) m.1, length_marker m.0 EOI) in
    let cut = subst (λ (end : ScanEnd). CutTo c.intervals 0 start bytes c.segments end h.cut.tail) ended (all_cut start bytes c h.cut) in
    record {
      within = omega (arith, count, sum);
      is = record {
        datas = c.segments;
        cut = cut.cut;
        more = m.0;
        after = m.1;
        ended = cut.after ∙ m.2;
        begins = omega (arith, h.all, count, sum);
      };
    }
