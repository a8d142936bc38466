-- How a scan continues: from an offset of the file to a later one.
use Rattle.std.proofs.Common.{◌≡◌, ◌≢◌, ℕ, ◌+◌, ◌-◌, ◌%◌, ◌<◌, ◌≤◌, ◌⊎◌, inl, inr, List, [], ◌∷◌, ◌++◌, length, replicate, take, drop, get_or, sym, ap, subst, ◌∙◌, append_assoc, arith}
use Rattle.std.proofs.lemmas.List.{append-nil, drop-drop, get_or-drop}
use Rattle.jr_base.specs.declared.marker.TheConstants.{PREFIX, RST0}
use Rattle.jr_cut.specs.declared.scan_end.ScanEnd.{ScanEnd}
use Rattle.jr_cut.specs.declared.scan_end.ScanEnd.TheVariants.{EndOfFile}
use Rattle.jr_cut.specs.Cut.{IsRaw, marker, IsEnding, CutFrom, IsStop}
use Rattle.jr_cut.proofs.PartialSegments.{ending_more as marked_more}
use Rattle.jr_scan.specs.ScanValue.{ScanValue, IsScanOf, intervals_of}
use Rattle.jr_cut.proofs.Following.{last_cut, next_cut, only_fill}
use Rattle.jr_cut.proofs.Slices.{length_front, split_at}
use Rattle.jr_arrival.proofs.ScanIntervals.{none_in}
use Rattle.jr_arrival.specs.Meaning.{GoesOnAt, HasNoData}
use Rattle.jr_cut.proofs.Splits.{split_cut}

-- ---- what follows a segment

pub ending_more : (n k at : ℕ) (tail more : List ℕ) (end : ScanEnd) → (end ≢ EndOfFile) ⊎ (more ≡ []) → IsEnding n k at tail end → IsEnding n k at (tail ++ more) end
ending_more n k at tail more end (inl not_file) h = marked_more n k at tail more end not_file h
ending_more n k at tail more end (inr none) h = subst (λ (t : List ℕ). IsEnding n k at t end) (sym (ap (λ (x : List ℕ). tail ++ x) none ∙ append-nil tail)) h

-- ---- how a scan continues

-- what is left after data that is spelled
pub record OnBy (whole : List ℕ) (t : ScanValue) (i at : ℕ) (before found rest : List ℕ) : Type 0 where
  pub on : GoesOnAt whole t i at (before ++ found)
  pub is : rest ≡ found ++ on.rest
  pub none : IsStop (drop at whole) → on.rest ≡ []

pub on_by : (whole : List ℕ) (t : ScanValue) (i at read : ℕ) (before found : List ℕ) → (g : GoesOnAt whole t i at before) → at + read ≤ length whole → IsRaw (take read (drop at whole)) found → OnBy whole t i (at + read) before found g.rest
on_by whole t i at read before found g within raw =
    let n = intervals_of t.head in
    let first = take read (drop at whole) in
    let e : drop at whole ≡ first ++ drop (at + read) whole = split_at whole at read in
    let s = split_cut n i at first found (drop (at + read) whole) (g.rest ∷ g.others) t.ended raw (subst (λ (b : List ℕ). CutFrom n i at b (g.rest ∷ g.others) t.ended) e g.cut) in
    let both : g.rest ∷ g.others ≡ (found ++ s.rest) ∷ s.others = s.is in
    let rest : g.rest ≡ found ++ s.rest = cc in
    let others : g.others ≡ s.others = cc in
    let long : at + length first ≡ at + read = ap (λ (k : ℕ). at + k) (length_front whole at read within) in
    record {
      on = record {
        rest = s.rest;
        others = s.others;
        empty = g.empty;
        cut = subst (λ (o : ℕ). CutFrom n i o (drop (at + read) whole) (s.rest ∷ s.others) t.ended) long s.cut;
        datas = g.datas ∙ ap (λ (x : List ℕ). (before ++ x) ∷ (g.others ++ replicate g.empty [])) rest ∙ ap (λ (x : List ℕ). x ∷ (g.others ++ replicate g.empty [])) (sym (append_assoc before found s.rest))
            ∙ ap (λ (x : List (List ℕ)). ((before ++ found) ++ s.rest) ∷ (x ++ replicate g.empty [])) others;
        count = λ c. omega (arith, g.count c, ap length others);
      };
      is = rest;
      none = s.none;
    }

-- the data of the interval
pub its_data : (whole : List ℕ) (t : ScanValue) (i at : ℕ) (before : List ℕ) (g : GoesOnAt whole t i at before) → get_or t.intervals i [] ≡ before ++ g.rest
its_data whole t i at before g =
    let here : i + 0 ≡ i = omega arith in
    ap (λ (k : ℕ). get_or t.intervals k []) (sym here) ∙ sym (get_or-drop i t.intervals 0 []) ∙ ap (λ (l : List (List ℕ)). get_or l 0 []) g.datas

module _ (whole : List ℕ) (t : ScanValue) (i at : ℕ) (before : List ℕ) (g : GoesOnAt whole t i at before) (none : g.rest ≡ []) where
  cut_there : CutFrom (intervals_of t.head) i at (drop at whole) ([] ∷ g.others) t.ended
  cut_there = subst (λ (x : List ℕ). CutFrom (intervals_of t.head) i at (drop at whole) (x ∷ g.others) t.ended) none g.cut

  after_it : drop (i + 1) t.intervals ≡ g.others ++ replicate g.empty []
  after_it = sym (drop-drop 1 i t.intervals) ∙ ap (drop 1) g.datas

  -- to the next segment
  pub next_on : (more : ℕ) (rest : List ℕ) → i + 1 < intervals_of t.head → drop at whole ≡ marker more (RST0 + i % 8) ++ rest → drop (at + (more + 2)) whole ≡ rest → GoesOnAt whole t (i + 1) (at + (more + 2)) []
  next_on more rest space starts there =
      let c = next_cut (intervals_of t.head) i at (drop at whole) g.others t.ended cut_there more rest space starts in
      record {
        rest = c.first;
        others = c.after;
        empty = g.empty;
        cut = subst (λ (b : List ℕ). CutFrom (intervals_of t.head) (i + 1) (at + (more + 2)) b (c.first ∷ c.after) t.ended) (sym there) c.cut;
        datas = after_it ∙ ap (λ (x : List (List ℕ)). x ++ replicate g.empty []) c.are;
        count = λ d. omega (arith, g.count d, ap length c.are);
      }

  -- at the end of the bytes none follows, and no marker has ended the scan
  pub waits_on : (fill : ℕ) → drop at whole ≡ replicate fill PREFIX → (t.ended ≡ EndOfFile) × ((c : IsScanOf whole t) → length c.segments ≡ i + 1)
  waits_on fill all =
      let n = intervals_of t.head in
      let others = last_cut n i at (drop at whole) g.others t.ended cut_there at EndOfFile (fill, all) in
      (only_fill n i at (drop at whole) fill t.ended (subst (λ (x : List (List ℕ)). CutFrom n i at (drop at whole) ([] ∷ x) t.ended) others cut_there) all, λ c. omega (arith, g.count c, ap length others))

  -- or to the scan's end
  pub ended_on : (o : ℕ) (e : ScanEnd) → IsEnding (intervals_of t.head) i o (drop at whole) e → HasNoData t (i + 1)
  ended_on o e ending j le =
      let others = last_cut (intervals_of t.head) i at (drop at whole) g.others t.ended cut_there o e ending in
      let there : i + 1 + (j - (i + 1)) ≡ j = omega (arith, le) in
      ap (λ (k : ℕ). get_or t.intervals k []) (sym there) ∙ sym (get_or-drop (i + 1) t.intervals (j - (i + 1)) []) ∙ ap (λ (l : List (List ℕ)). get_or l (j - (i + 1)) []) (after_it ∙ ap (λ (x : List (List ℕ)). x ++ replicate g.empty []) others)
      ∙ none_in g.empty (j - (i + 1))
