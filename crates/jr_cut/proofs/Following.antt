-- What follows a segment in the bytes of a scan: the next one, or what ends the scan.
use Rattle.std.proofs.Common.{◌≡◌, ℕ, zero, suc, ◌+◌, ◌%◌, ◌<◌, ◌≤◌, List, [], ◌∷◌, ◌++◌, length, replicate, drop, refl, sym, ap, subst, ◌∙◌, length-append, length-drop, add-one, arith}
use Rattle.std.specs.List.{AllByRecursion}
use Rattle.jr_base.specs.declared.marker.TheConstants.{EOI, PREFIX, RST0}
use Rattle.jr_cut.specs.declared.scan_end.ScanEnd.{ScanEnd}
use Rattle.jr_cut.specs.declared.scan_end.ScanEnd.TheVariants.{EndOfFile, EndOfImage, ExtraRestart, OtherMarker, OutOfStep}
use Rattle.jr_cut.specs.Cut.{IsRaw, marker, CodedSegment, with_markers, HasMarker, IsEnding, CutFrom}
use Rattle.jr_cut.specs.PartialSegments.{BeginsWithRestart}
use Rattle.jr_cut.proofs.CutLaw.{ending_not_next}
use Rattle.jr_cut.proofs.Endings.{after_marker, bytes_of, next_marker}
use Rattle.jr_cut.proofs.Segments.{length_marker}
use Rattle.jr_cut.proofs.Spellings.{nothing_spelled}

-- a restart marker lies within the bytes
pub restart_within : (bytes : List ℕ) (end k count : ℕ) → end ≤ length bytes → BeginsWithRestart k (drop end bytes) count → end + count ≤ length bytes
restart_within bytes end k count within b =
    let code = RST0 + k % 8 in
    omega (arith, within, b.long, ap length b.spelled, length-append (marker b.more code) (drop count (drop end bytes)), length_marker b.more code, length-drop count (drop end bytes), length-drop end bytes)

-- the segment after one without data, and those that follow it
pub record NextCut (n i at : ℕ) (bytes : List ℕ) (others : List (List ℕ)) (end : ScanEnd) : Type 0 where
  pub first : List ℕ
  pub after : List (List ℕ)
  pub are : others ≡ first ∷ after
  pub cut : CutFrom n (i + 1) at bytes (first ∷ after) end

module _ (n i at : ℕ) (tail : List ℕ) (others : List (List ℕ)) (end : ScanEnd) (c : CutFrom n i at tail ([] ∷ others) end) where
  no_raw : c.raw ≡ []
  no_raw = let first : c.first ≡ [] = cc in nothing_spelled c.raw c.first c.is_raw (ap length first)
    where
      means : [] ∷ others ≡ c.first ∷ bytes_of c.segments
      means = c.means

  are : others ≡ bytes_of c.segments
  are = let means : [] ∷ others ≡ c.first ∷ bytes_of c.segments = c.means in cc

  spelled : tail ≡ with_markers i c.segments ++ c.tail
  spelled = c.spelled ∙ ap (λ (x : List ℕ). x ++ (with_markers i c.segments ++ c.tail)) no_raw

  pub next_cut : (more : ℕ) (rest : List ℕ) → i + 1 < n → tail ≡ marker more (RST0 + i % 8) ++ rest → NextCut n i (at + (more + 2)) rest others end
  next_cut more rest space starts = go c.segments are spelled c.each c.few c.ends
    where
      go : (ps : List CodedSegment) → others ≡ bytes_of ps → tail ≡ with_markers i ps ++ c.tail → AllByRecursion (λ p. IsRaw p.raw p.bytes) ps → i + length ps < n → IsEnding n (i + length ps) (at + length (c.raw ++ with_markers i ps)) c.tail end → NextCut n i (at + (more + 2)) rest others end
      go [] are spelled each few ends =
          let here : i + 0 ≡ i = omega arith in
          absurd (ending_not_next n i (at + length (c.raw ++ [])) c.tail end (subst (λ (k : ℕ). IsEnding n k (at + length (c.raw ++ [])) c.tail end) here ends) (subst (λ (x : List ℕ). HasMarker x (RST0 + i % 8)) spelled (more, rest, starts)) space)
      go (p ∷ ps) are spelled each few ends =
          let m = after_marker i more rest p ps c.tail (sym starts ∙ spelled) in
          let long : at + length (c.raw ++ with_markers i (p ∷ ps)) ≡ at + (more + 2) + length (p.raw ++ with_markers (suc i) ps) =
          omega (arith, m.0, ap length no_raw, length-append c.raw (with_markers i (p ∷ ps)), length-append (marker p.more (RST0 + i % 8)) (p.raw ++ with_markers (suc i) ps), length_marker p.more (RST0 + i % 8)) in
          let number : i + length (p ∷ ps) ≡ suc i + length ps = omega arith in
          let cut : CutFrom n (suc i) (at + (more + 2)) rest (p.bytes ∷ bytes_of ps) end = record {
            raw = p.raw;
            first = p.bytes;
            segments = ps;
            tail = c.tail;
            is_raw = each.0;
            each = each.1;
            few = omega (arith, few);
            spelled = m.1;
            means = refl;
            ends = subst (λ (o : ℕ). IsEnding n (suc i + length ps) o c.tail end) long (subst (λ (k : ℕ). IsEnding n k (at + length (c.raw ++ with_markers i (p ∷ ps))) c.tail end) number ends);
          } in
          record { first = p.bytes; after = bytes_of ps; are = are; cut = subst (λ (k : ℕ). CutFrom n k (at + (more + 2)) rest (p.bytes ∷ bytes_of ps) end) (sym (add-one i)) cut }

  pub last_cut : (o : ℕ) (e : ScanEnd) → IsEnding n i o tail e → others ≡ []
  last_cut o e ending = go c.segments are spelled c.few
    where
      go : (ps : List CodedSegment) → others ≡ bytes_of ps → tail ≡ with_markers i ps ++ c.tail → i + length ps < n → others ≡ []
      go [] are spelled few = are
      go (p ∷ ps) are spelled few = absurd (ending_not_next n i o tail e ending (subst (λ (x : List ℕ). HasMarker x (RST0 + i % 8)) (sym spelled) (next_marker i p ps c.tail)) (omega (arith, few)))

-- if only fill bytes follow a segment without data, the file ends
fill_no_marker : (n more code : ℕ) (rest : List ℕ) → replicate n PREFIX ≡ marker more code ++ rest → code ≡ PREFIX
fill_no_marker zero more code rest e = absurd cc
fill_no_marker (suc zero) zero code rest e = absurd cc
fill_no_marker (suc (suc n)) zero code rest e = cc
fill_no_marker (suc n) (suc more) code rest e = fill_no_marker n more code rest (let next : replicate n PREFIX ≡ marker more code ++ rest = cc in next)

fill_ends : (n k at fill : ℕ) (tail : List ℕ) (end : ScanEnd) → tail ≡ replicate fill PREFIX → IsEnding n k at tail end → end ≡ EndOfFile
fill_ends n k at fill tail EndOfFile all h = refl
fill_ends n k at fill tail EndOfImage all h = absurd (let e = fill_no_marker fill h.0 EOI h.1 (sym all ∙ h.2) in omega (arith, e))
fill_ends n k at fill tail (ExtraRestart o) all h = absurd (let m = h.2 in let e = fill_no_marker fill m.0 (RST0 + h.0) m.1 (sym all ∙ m.2) in omega (arith, e, h.1))
fill_ends n k at fill tail (OutOfStep f x o) all h = absurd (let m = h.1 in let e = fill_no_marker fill m.0 (RST0 + f) m.1 (sym all ∙ m.2) in omega (arith, e, h.0))
fill_ends n k at fill tail (OtherMarker c o) all h = absurd (let m = h.2 in let e = fill_no_marker fill m.0 c m.1 (sym all ∙ m.2) in omega (arith, e, h.1))

pub only_fill : (n i at : ℕ) (tail : List ℕ) (fill : ℕ) (end : ScanEnd) → CutFrom n i at tail ([] ∷ []) end → tail ≡ replicate fill PREFIX → end ≡ EndOfFile
only_fill n i at tail fill end c all = go c.segments (are n i at tail [] end c) (spelled n i at tail [] end c) c.ends
  where
    go : (ps : List CodedSegment) → [] ≡ bytes_of ps → tail ≡ with_markers i ps ++ c.tail → IsEnding n (i + length ps) (at + length (c.raw ++ with_markers i ps)) c.tail end → end ≡ EndOfFile
    go [] none is ends = fill_ends n (i + 0) (at + length (c.raw ++ [])) fill c.tail end (sym is ∙ all) ends
    go (p ∷ ps) none is ends = absurd cc
