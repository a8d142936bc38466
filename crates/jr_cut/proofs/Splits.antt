-- What spells a prefix of a segment's data is cut off from it.
use Rattle.std.proofs.Common.{◌≡◌, ℕ, ◌+◌, List, [], ◌∷◌, ◌++◌, length, map, refl, ap, subst, ◌∙◌, length-append, arith}
use Rattle.jr_cut.specs.declared.scan_end.ScanEnd.{ScanEnd}
use Rattle.jr_cut.specs.Cut.{IsRaw, CodedSegment, with_markers, IsEnding, CutFrom, IsStop}
use Rattle.jr_cut.proofs.CutLaw.{markers_stop}
use Rattle.jr_cut.proofs.Spellings.{begins_stopped}

-- the rest of the first segment, and the others
pub record SplitCut (n k at : ℕ) (found tail : List ℕ) (datas : List (List ℕ)) (end : ScanEnd) : Type 0 where
  pub rest : List ℕ
  pub others : List (List ℕ)
  pub is : datas ≡ (found ++ rest) ∷ others
  pub cut : CutFrom n k at tail (rest ∷ others) end
  pub none : IsStop tail → rest ≡ []

pub split_cut : (n k at : ℕ) (raw found tail : List ℕ) (datas : List (List ℕ)) (end : ScanEnd) → IsRaw raw found → CutFrom n k at (raw ++ tail) datas end → SplitCut n k (at + length raw) found tail datas end
split_cut n k at raw found tail datas end is c =
    let after = with_markers k c.segments ++ c.tail in
    let stop = markers_stop n (k + length c.segments) k (at + length (c.raw ++ with_markers k c.segments)) c.segments c.tail end c.ends in
    let f = begins_stopped raw found c.raw c.first tail after is c.is_raw c.spelled stop in
    let offset : at + length (c.raw ++ with_markers k c.segments) ≡ at + length raw + length (f.raw ++ with_markers k c.segments) =
    omega (arith, length-append c.raw (with_markers k c.segments), length-append f.raw (with_markers k c.segments), ap length c.spelled, length-append raw tail, length-append c.raw after, ap length f.spelled, length-append f.raw after) in
    record {
      rest = f.added;
      others = map (λ (p : CodedSegment). p.bytes) c.segments;
      is = c.means ∙ ap (λ (x : List ℕ). x ∷ map (λ (p : CodedSegment). p.bytes) c.segments) f.is;
      cut = record {
        raw = f.raw;
        first = f.added;
        segments = c.segments;
        tail = c.tail;
        is_raw = f.raw_is;
        each = c.each;
        few = c.few;
        spelled = f.spelled;
        means = refl;
        ends = subst (λ (o : ℕ). IsEnding n (k + length c.segments) o c.tail end) offset c.ends;
      };
      none = λ stopped. (f.none stopped).0;
    }
