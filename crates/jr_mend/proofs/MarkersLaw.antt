-- The markers in a segment's bytes, and in the bytes that start at a marker.
use Rattle.std.proofs.Common.{◌≡◌, ◌≢◌, ℕ, zero, suc, ◌+◌, ◌-◌, ◌<◌, ◌≤◌, Bool, true, false, cond, min, List, [], ◌∷◌, ◌++◌, length, take, drop, get_or, replicate, refl, sym, ap, subst, ◌∙◌, inl, inr, append_assoc, length-append, Option, arith}
use Rattle.std.specs.Prelude.{not, ◌&&◌, ◌||◌, ◌==◌}
use Rattle.std.specs.List.{AllByRecursion, flat_map}
use Rattle.std.proofs.lemmas.Bool.{and_left, and_parts, and_right, and_from, cases_Bool, cond-true, cond-false, eq-eqb, ne_eqb, eqb-true}
use Rattle.jr_base.specs.declared.marker.TheConstants.{EOI, PREFIX}
use Rattle.std.proofs.lemmas.List.{take-append-drop}
use Rattle.std.proofs.Math.ListN.{length-take}
use Rattle.jr_cut.proofs.Cuts.{all_fill, fill_next, marker_read, rest_is}
use Rattle.jr_cut.specs.Cut.{IsRaw, IsSpelling, IsStop, Spelling, marker, spelling}
use Rattle.jr_cut.specs.Cut.Spelling.{Plain, Stuffed}
use Rattle.jr_mend.specs.declared.markers.ScanMarker.{ScanMarker}
use Rattle.jr_mend.specs.declared.outlook.Outlook.{Outlook}
use Rattle.jr_mend.specs.Reading.{IsOutlook}
use Rattle.jr_mend.specs.declared.markers.TheConstants.{TEM}
use Rattle.jr_mend.specs.Markers.{as_read, counted_back, goes_on, has_end, is_back, is_false_end, is_over, is_restart, markers_in, most_missing, restarts, scan_markers}
use Rattle.jr_mend.specs.Resync.{MeansIn}
use Rattle.jr_mend.proofs.ResyncLaw.{means, not_end}

-- FF and a byte other than 00 and FF are a marker
abbrev pub is_marker : (prefix code : ℕ) → Bool
is_marker prefix code = (prefix == PREFIX) && (not (code == 0) && not (code == PREFIX))

-- ---- bytes without markers

-- a byte other than FF, before others
pub plain_on : (before b : ℕ) (bytes : List ℕ) → b ≢ PREFIX → markers_in before (b ∷ bytes) ≡ markers_in (suc before) bytes
plain_on before b [] ne = refl
plain_on before b (c ∷ bytes) ne =
    cond-false (is_marker b c) _ _ (and_left (b == PREFIX) (not (c == 0) && not (c == PREFIX)) (ne_eqb b PREFIX ne))

-- FF bytes before an FF
pub fill_on : (before more : ℕ) (bytes : List ℕ) → markers_in before (replicate more PREFIX ++ (PREFIX ∷ bytes)) ≡ markers_in (before + more) (PREFIX ∷ bytes)
fill_on before zero bytes = let e : before ≡ before + 0 = omega arith in ap (λ (n : ℕ). markers_in n (PREFIX ∷ bytes)) e
fill_on before (suc zero) bytes = let e : suc before ≡ before + 1 = omega arith in ap (λ (n : ℕ). markers_in n (PREFIX ∷ bytes)) e
fill_on before (suc (suc more)) bytes = let e : suc before + suc more ≡ before + suc (suc more) = omega arith in fill_on (suc before) (suc more) bytes ∙ ap (λ (n : ℕ). markers_in n (PREFIX ∷ bytes)) e

-- FF bytes alone
pub fill_none : (before more : ℕ) → markers_in before (replicate more PREFIX) ≡ []
fill_none before zero = refl
fill_none before (suc zero) = refl
fill_none before (suc (suc more)) = fill_none (suc before) (suc more)

replicate_last : (more : ℕ) (bytes : List ℕ) → PREFIX ∷ (replicate more PREFIX ++ bytes) ≡ replicate more PREFIX ++ (PREFIX ∷ bytes)
replicate_last zero bytes = refl
replicate_last (suc more) bytes = ap (λ (x : List ℕ). PREFIX ∷ x) (replicate_last more bytes)

spelling_on : (before : ℕ) (p : Spelling) (bytes : List ℕ) → IsSpelling p → markers_in before (spelling p ++ bytes) ≡ markers_in (before + length (spelling p)) bytes
spelling_on before (Plain b) bytes is = let e : suc before ≡ before + 1 = omega arith in plain_on before b bytes is ∙ ap (λ (n : ℕ). markers_in n bytes) e
spelling_on before (Stuffed more) bytes is =
    let begins : PREFIX ∷ ((replicate more PREFIX ++ 0 ∷ []) ++ bytes) ≡ replicate more PREFIX ++ (PREFIX ∷ (0 ∷ bytes)) = ap (λ (x : List ℕ). PREFIX ∷ x) (append_assoc (replicate more PREFIX) (0 ∷ []) bytes) ∙ replicate_last more (0 ∷ bytes) in
    let e : suc (suc (before + more)) ≡ before + length (spelling (Stuffed more)) = omega (arith, length-append (replicate more PREFIX) (0 ∷ []), long more) in
    ap (markers_in before) begins ∙ fill_on before more (0 ∷ bytes) ∙ plain_on (suc (before + more)) 0 bytes (λ z. omega arith) ∙ ap (λ (n : ℕ). markers_in n bytes) e
  where
    long : (m : ℕ) → length (replicate m PREFIX) ≡ m
    long zero = refl
    long (suc m) = ap suc (long m)

spellings_on : (before : ℕ) (ps : List Spelling) (bytes : List ℕ) → AllByRecursion IsSpelling ps → markers_in before (flat_map spelling ps ++ bytes) ≡ markers_in (before + length (flat_map spelling ps)) bytes
spellings_on before [] bytes each = let e : before ≡ before + 0 = omega arith in ap (λ (n : ℕ). markers_in n bytes) e
spellings_on before (p ∷ ps) bytes each =
    let here = spelling p in
    let rest = flat_map spelling ps in
    let e : before + length here + length rest ≡ before + length (here ++ rest) = omega (arith, length-append here rest) in
    ap (markers_in before) (append_assoc here rest bytes) ∙ spelling_on before p (rest ++ bytes) each.0 ∙ spellings_on (before + length here) ps bytes each.1 ∙ ap (λ (n : ℕ). markers_in n bytes) e

pub raw_on : (before : ℕ) (raw found bytes : List ℕ) → IsRaw raw found → markers_in before (raw ++ bytes) ≡ markers_in (before + length raw) bytes
raw_on before raw found bytes is =
    ap (λ (x : List ℕ). markers_in before (x ++ bytes)) is.spelled ∙ spellings_on before is.parts bytes is.each ∙ ap (λ (x : List ℕ). markers_in (before + length x) bytes) (sym is.spelled)

-- ---- a marker

pub marker_on : (before more code : ℕ) (bytes : List ℕ) → code ≢ 0 → code ≢ PREFIX → markers_in before (marker more code ++ bytes) ≡ (record { before = before + more; code = code }) ∷ markers_in 0 bytes
marker_on before more code bytes some other =
    let begins : PREFIX ∷ ((replicate more PREFIX ++ code ∷ []) ++ bytes) ≡ replicate more PREFIX ++ (PREFIX ∷ (code ∷ bytes)) = ap (λ (x : List ℕ). PREFIX ∷ x) (append_assoc (replicate more PREFIX) (code ∷ []) bytes) ∙ replicate_last more (code ∷ bytes) in
    let is : is_marker PREFIX code ≡ true = and_from (PREFIX == PREFIX) (not (code == 0) && not (code == PREFIX)) refl (and_from (not (code == 0)) (not (code == PREFIX)) (ap not (ne_eqb code 0 some)) (ap not (ne_eqb code PREFIX other))) in
    ap (markers_in before) begins ∙ fill_on before more (code ∷ bytes) ∙ cond-true (is_marker PREFIX code) _ _ is

-- ---- the first marker in the bytes of a slice

-- a segment ends at an offset, and `fill` FF bytes follow it
pub record Found (bytes : List ℕ) (at fill : ℕ) : Type 0 where
  pub within : at ≤ length bytes
  pub data' : (found : List ℕ) × IsRaw (take at bytes) found
  pub stop : IsStop (drop at bytes)
  pub full : take fill (drop at bytes) ≡ replicate fill PREFIX
  pub next : fill < length (drop at bytes) → get_or (drop at bytes) fill 0 ≢ PREFIX

-- the same, by what the code finds in the slice after the segment
pub found_in : (bytes : List ℕ) (at fill : ℕ) → at ≤ length bytes → (found : List ℕ) × IsRaw (take at bytes) found → IsStop (drop at bytes) → take fill (take (length bytes - at) (drop at bytes)) ≡ replicate fill PREFIX
    → (fill < length (take (length bytes - at) (drop at bytes)) → get_or (take (length bytes - at) (drop at bytes)) fill 0 ≢ PREFIX) → Found bytes at fill
found_in bytes at fill within data' stop full next =
    let rest = rest_is bytes at in
    record {
      within = within;
      data' = data';
      stop = stop;
      full = subst (λ (x : List ℕ). take fill x ≡ replicate fill PREFIX) rest full;
      next = subst (λ (x : List ℕ). fill < length x → get_or x fill 0 ≢ PREFIX) rest next;
    }

module _ (bytes : List ℕ) (at fill : ℕ) (f : Found bytes at fill) where
  to_marker : markers_in 0 bytes ≡ markers_in at (drop at bytes)
  to_marker =
      let long : 0 + length (take at bytes) ≡ at = omega (arith, f.within, length-take at bytes) in
      ap (markers_in 0) (sym (take-append-drop at bytes)) ∙ raw_on 0 (take at bytes) f.data'.0 (drop at bytes) f.data'.1 ∙ ap (λ (n : ℕ). markers_in n (drop at bytes)) long

  pub no_marker : length bytes ≤ at + fill → markers_in 0 bytes ≡ []
  no_marker all =
      let fills = all_fill bytes at fill f.within f.full all in
      to_marker ∙ ap (markers_in at) fills.1 ∙ fill_none at fills.0

  pub marker_here : at + fill < length bytes → markers_in 0 bytes ≡ (record { before = at + fill - 1; code = get_or bytes (at + fill) 0 }) ∷ markers_in 0 (drop (at + fill - 1 + 2) bytes)
  marker_here lt =
      let other = fill_next bytes at fill lt f.next in
      let m = marker_read bytes at fill f.stop f.full lt other in
      let before : at + m.more ≡ at + fill - 1 = omega (arith, m.count) in
      let after : at + fill + 1 ≡ at + fill - 1 + 2 = omega (arith, m.count) in
      let code = get_or bytes (at + fill) 0 in
      to_marker ∙ ap (markers_in at) m.spelled ∙ marker_on at m.more code (drop (at + fill + 1) bytes) m.not_0 other
      ∙ ap (λ (n : ℕ). (record { before = n; code = code }) ∷ markers_in 0 (drop (at + fill + 1) bytes)) before
      ∙ ap (λ (n : ℕ). (record { before = at + fill - 1; code = code }) ∷ markers_in 0 (drop n bytes)) after

  pub some_fill : at + fill < length bytes → 1 ≤ fill
  some_fill lt =
      let other = fill_next bytes at fill lt f.next in
      let m = marker_read bytes at fill f.stop f.full lt other in
      omega (arith, m.count)

-- ---- the bytes before the first marker

-- two lists of markers are equal but for the number of bytes before the first
abbrev Rebased : List ScanMarker → List ScanMarker → Type 0
Rebased [] [] = Unit {0}
Rebased [] (y ∷ ys) = ⊥
Rebased (x ∷ xs) [] = ⊥
Rebased (x ∷ xs) (y ∷ ys) = (x.code ≡ y.code) × (xs ≡ ys)

rebased : (a b : ℕ) (bytes : List ℕ) → Rebased (markers_in a bytes) (markers_in b bytes)
rebased a b [] = tt
rebased a b (x ∷ []) = tt
rebased a b (x ∷ c ∷ bytes) = go (is_marker x c) (rebased (suc a) (suc b) (c ∷ bytes))
  where
    go : (t : Bool) → Rebased (markers_in (suc a) (c ∷ bytes)) (markers_in (suc b) (c ∷ bytes))
        → Rebased (cond t ((record { before = a; code = c }) ∷ markers_in 0 bytes) (markers_in (suc a) (c ∷ bytes))) (cond t ((record { before = b; code = c }) ∷ markers_in 0 bytes) (markers_in (suc b) (c ∷ bytes)))
    go true others = (refl, refl)
    go false others = others

-- they remain so if TEM replaces each EOI after which the scan continues
read_rebased : (n : ℕ) (xs ys : List ScanMarker) → Rebased xs ys → Rebased (as_read n xs) (as_read n ys)
read_rebased n [] [] r = tt
read_rebased n [] (y ∷ ys) r = absurd r
read_rebased n (x ∷ xs) [] r = absurd r
read_rebased n (x ∷ xs) (y ∷ ys) r =
    let same : is_false_end n x xs ≡ is_false_end n y ys = ap (λ (c : ℕ). (c == EOI) && goes_on n xs) r.0 ∙ ap (λ (ms : List ScanMarker). (y.code == EOI) && goes_on n ms) r.1 in
    (heads (is_false_end n x xs) (is_false_end n y ys) same, ap (as_read n) r.1)
  where
    heads : (s t : Bool) → s ≡ t → (cond s (record { before = x.before; code = TEM }) x).code ≡ (cond t (record { before = y.before; code = TEM }) y).code
    heads true true e = refl
    heads false false e = r.0
    heads true false e = absurd cc
    heads false true e = absurd cc

outlook_same : (n : ℕ) (xs ys : List ScanMarker) (o : Outlook) → Rebased xs ys → IsOutlook n xs o → IsOutlook n ys o
outlook_same n [] [] o r is = is
outlook_same n [] (y ∷ ys) o r is = absurd r
outlook_same n (x ∷ xs) [] o r is = absurd r
outlook_same n (x ∷ xs) (y ∷ ys) o r is =
    let left : restarts (x ∷ xs) ≡ restarts (y ∷ ys) = ap (λ (c : ℕ). cond (c == EOI) 0 (cond (is_restart c) (suc (restarts xs)) (restarts xs))) r.0 ∙ ap (λ (ms : List ScanMarker). restarts (y ∷ ms)) r.1 in
    let back : counted_back n (x ∷ xs) ≡ counted_back n (y ∷ ys) =
    ap (λ (c : ℕ). cond (c == EOI) 0 (cond (is_restart c && ((counted_back n xs == restarts xs) && is_back n (suc (restarts xs)) c)) (suc (counted_back n xs)) (counted_back n xs))) r.0 ∙ ap (λ (ms : List ScanMarker). counted_back n (y ∷ ms)) r.1 in
    let ended : has_end (x ∷ xs) ≡ has_end (y ∷ ys) = ap (λ (c : ℕ). (c == EOI) || has_end xs) r.0 ∙ ap (λ (ms : List ScanMarker). has_end (y ∷ ms)) r.1 in
    record { left = is.left ∙ left; back = sym back ∙ is.back ∙ ap (λ (z : ℕ). min o.back z) left; ended = is.ended ∙ ended }

pub outlook_rebased : (n before : ℕ) (bytes : List ℕ) (o : Outlook) → IsOutlook n (as_read n (markers_in before bytes)) o → IsOutlook n (scan_markers n bytes) o
outlook_rebased n before bytes o is = outlook_same n (as_read n (markers_in before bytes)) (scan_markers n bytes) o (read_rebased n (markers_in before bytes) (markers_in 0 bytes) (rebased before 0 bytes)) is

-- ---- the first marker of a scan

-- a marker other than EOI
pub other_on : (n before more code : ℕ) (bytes : List ℕ) → code ≢ 0 → code ≢ PREFIX → code ≢ EOI → as_read n (markers_in before (marker more code ++ bytes)) ≡ (record { before = before + more; code = code }) ∷ scan_markers n bytes
other_on n before more code bytes some other goes =
    let m : ScanMarker = record { before = before + more; code = code } in
    let no : is_false_end n m (markers_in 0 bytes) ≡ false = and_left (code == EOI) (goes_on n (markers_in 0 bytes)) (ne_eqb code EOI goes) in
    ap (as_read n) (marker_on before more code bytes some other) ∙ ap (λ (x : ScanMarker). x ∷ scan_markers n bytes) (cond-false (is_false_end n m (markers_in 0 bytes)) _ m no)

-- the bytes after an EOI decide whether the scan is over
pub over_is : (n before more : ℕ) (bytes : List ℕ) → is_over n (markers_in before (marker more EOI ++ bytes)) ≡ not (goes_on n (markers_in 0 bytes))
over_is n before more bytes = ap (is_over n) (marker_on before more EOI bytes (λ e. omega arith) (λ e. omega arith))

-- TEM replaces an EOI after which the scan continues
pub false_end_on : (n before more : ℕ) (bytes : List ℕ) → goes_on n (markers_in 0 bytes) ≡ true → as_read n (markers_in before (marker more EOI ++ bytes)) ≡ (record { before = before + more; code = TEM }) ∷ scan_markers n bytes
false_end_on n before more bytes on =
    let m : ScanMarker = record { before = before + more; code = EOI } in
    ap (as_read n) (marker_on before more EOI bytes (λ e. omega arith) (λ e. omega arith)) ∙ ap (λ (x : ScanMarker). x ∷ scan_markers n bytes) (cond-true (is_false_end n m (markers_in 0 bytes)) _ m on)

-- a marker that does not end the scan, or the TEM that replaces it, and the markers after it
pub record Passed (n code : ℕ) (bytes rest : List ℕ) : Type 0 where
  pub m : ScanMarker
  pub first : scan_markers n bytes ≡ m ∷ scan_markers n rest
  pub restart : is_restart m.code ≡ is_restart code
  pub goes : m.code ≢ EOI

pub passed_on : (n size since k more code : ℕ) (missing : Option ℕ) (bytes rest : List ℕ) → bytes ≡ marker more code ++ rest → MeansIn n size since k bytes code missing → Passed n code bytes rest
passed_on n size since k more code missing bytes rest spelled (inl x) =
    let has = means n size since k bytes code missing (inl x) in
    let goes = not_end n k (most_missing n size since k (scan_markers n bytes)) code missing x in
    record {
      m = record { before = 0 + more; code = code };
      first = ap (scan_markers n) spelled ∙ other_on n 0 more code rest (λ e. omega (arith, e, has.some)) (λ e. omega (arith, e, has.less)) goes;
      restart = refl;
      goes = goes;
    }
passed_on n size since k more code missing bytes rest spelled (inr p) =
    let here : bytes ≡ marker more EOI ++ rest = spelled ∙ ap (λ (c : ℕ). marker more c ++ rest) p.1 in
    let over : not (goes_on n (markers_in 0 rest)) ≡ false = sym (over_is n 0 more rest) ∙ ap (λ (b : List ℕ). is_over n (markers_in 0 b)) (sym here) ∙ p.2 in
    record {
      m = record { before = 0 + more; code = TEM };
      first = ap (scan_markers n) here ∙ false_end_on n 0 more rest (not_false (goes_on n (markers_in 0 rest)) over);
      restart = ap is_restart (sym p.1);
      goes = λ e. omega (arith, e);
    }
  where
    not_false : (b : Bool) → not b ≡ false → b ≡ true
    not_false true e = refl
    not_false false e = absurd cc

-- ---- markers that are counted back

few_counts : (back some : ℕ) (r t : Bool) → back ≤ some → cond (r && t) (suc back) back ≤ cond r (suc some) some
few_counts back some true true few = omega (arith, few)
few_counts back some true false few = omega (arith, few)
few_counts back some false t few = few

few_ends : (back some : ℕ) (e r t : Bool) → back ≤ some → cond e 0 (cond (r && t) (suc back) back) ≤ cond e 0 (cond r (suc some) some)
few_ends back some true r t few = omega arith
few_ends back some false r t few = few_counts back some r t few

pub counted_few : (n : ℕ) (ms : List ScanMarker) → counted_back n ms ≤ restarts ms
counted_few n [] = omega arith
counted_few n (m ∷ ms) = few_ends (counted_back n ms) (restarts ms) (m.code == EOI) (is_restart m.code) ((counted_back n ms == restarts ms) && is_back n (suc (restarts ms)) m.code) (counted_few n ms)

-- the number of markers that are counted back, if `run` markers in step come before these
abbrev pub joined : (n run : ℕ) → List ScanMarker → ℕ
joined n run ms = cond (counted_back n ms == restarts ms) (run + restarts ms) (counted_back n ms)

pub joined_none : (n : ℕ) (ms : List ScanMarker) → counted_back n ms ≡ joined n 0 ms
joined_none n ms = elim (cases_Bool (counted_back n ms == restarts ms)) [
  | inl same ↦
      let all : counted_back n ms ≡ 0 + restarts ms = omega (arith, eqb-true (counted_back n ms) (restarts ms) same) in
      all ∙ sym (cond-true (counted_back n ms == restarts ms) (0 + restarts ms) (counted_back n ms) same)
  | inr other ↦ sym (cond-false (counted_back n ms == restarts ms) (0 + restarts ms) (counted_back n ms) other)
]

-- one more restart marker, which is counted back or is not
module _ (n run : ℕ) (m : ScanMarker) (ms : List ScanMarker) (on : (m.code == EOI) ≡ false) (restart : is_restart m.code ≡ true) where
  abbrev all : Bool
  all = counted_back n ms == restarts ms

  some : restarts (m ∷ ms) ≡ suc (restarts ms)
  some = cond-false (m.code == EOI) _ _ on ∙ cond-true (is_restart m.code) _ _ restart

  counts : (b : Bool) → (all && is_back n (suc (restarts ms)) m.code) ≡ b → counted_back n (m ∷ ms) ≡ cond b (suc (counted_back n ms)) (counted_back n ms)
  counts b e =
      let r : (is_restart m.code && (all && is_back n (suc (restarts ms)) m.code)) ≡ b = ap (λ (x : Bool). x && (all && is_back n (suc (restarts ms)) m.code)) restart ∙ e in
      cond-false (m.code == EOI) _ _ on ∙ ap (λ (x : Bool). cond x (suc (counted_back n ms)) (counted_back n ms)) r

  -- if this marker is not counted back, the number is that of the markers after it, and not all of them are counted back
  stays : counted_back n (m ∷ ms) ≡ counted_back n ms → joined n run (m ∷ ms) ≡ counted_back n ms
  stays e =
      let less : counted_back n (m ∷ ms) ≡ restarts (m ∷ ms) → ⊥ = λ z. omega (arith, z, e, some, counted_few n ms) in
      cond-false (counted_back n (m ∷ ms) == restarts (m ∷ ms)) _ _ (ne_eqb _ _ less) ∙ e

  pub joined_back : is_back n (restarts (m ∷ ms)) m.code ≡ true → joined n run (m ∷ ms) ≡ joined n (run + 1) ms
  joined_back back =
      let is : is_back n (suc (restarts ms)) m.code ≡ true = subst (λ (x : ℕ). is_back n x m.code ≡ true) some back in
      elim (cases_Bool all) [
        | inl same ↦
            let e = counts true (and_from all (is_back n (suc (restarts ms)) m.code) same is) in
            let equal : counted_back n (m ∷ ms) ≡ restarts (m ∷ ms) = omega (arith, e, some, eqb-true _ _ same) in
            let sum : run + restarts (m ∷ ms) ≡ run + 1 + restarts ms = omega (arith, some) in
            cond-true (counted_back n (m ∷ ms) == restarts (m ∷ ms)) _ _ (eq-eqb _ _ equal) ∙ sum ∙ sym (cond-true all (run + 1 + restarts ms) (counted_back n ms) same)
        | inr other ↦ stays (counts false (and_left all (is_back n (suc (restarts ms)) m.code) other)) ∙ sym (cond-false all (run + 1 + restarts ms) (counted_back n ms) other)
      ]

  pub joined_broken : is_back n (restarts (m ∷ ms)) m.code ≡ false → joined n run (m ∷ ms) ≡ joined n 0 ms
  joined_broken back =
      let is : is_back n (suc (restarts ms)) m.code ≡ false = subst (λ (x : ℕ). is_back n x m.code ≡ false) some back in
      stays (counts false (and_right all (is_back n (suc (restarts ms)) m.code) is)) ∙ joined_none n ms

-- the outlook after a restart marker
module _ (n : ℕ) (m : ScanMarker) (ms : List ScanMarker) (goes : m.code ≢ EOI) (restart : is_restart m.code ≡ true) where
  abbrev is_counted : Bool
  is_counted = (counted_back n ms == restarts ms) && is_back n (suc (restarts ms)) m.code

  on : (m.code == EOI) ≡ false
  on = ne_eqb m.code EOI goes

  counts_by : (b : Bool) → is_counted ≡ b → counted_back n (m ∷ ms) ≡ cond b (suc (counted_back n ms)) (counted_back n ms)
  counts_by b e =
      let r : (is_restart m.code && is_counted) ≡ b = ap (λ (x : Bool). x && is_counted) restart ∙ e in
      cond-false (m.code == EOI) _ _ on ∙ ap (λ (x : Bool). cond x (suc (counted_back n ms)) (counted_back n ms)) r

  one_more : restarts (m ∷ ms) ≡ suc (restarts ms)
  one_more = cond-false (m.code == EOI) _ _ on ∙ cond-true (is_restart m.code) _ _ restart

  back_after : (b : ℕ) → counted_back n (m ∷ ms) ≡ min b (restarts (m ∷ ms)) → counted_back n ms ≡ min b (restarts ms)
  back_after b back = elim (cases_Bool is_counted) [
    | inl all ↦ omega (arith, counts_by true all, eqb-true (counted_back n ms) (restarts ms) (and_parts (counted_back n ms == restarts ms) (is_back n (suc (restarts ms)) m.code) all).0, back, one_more)
    | inr less ↦ omega (arith, counts_by false less, counted_few n ms, back, one_more)
  ]

  pub outlook_after : (left : ℕ) (o : Outlook) → left ≡ o.left - 1 → IsOutlook n (m ∷ ms) o → IsOutlook n ms (record { size = o.size; left = left; back = o.back; is_ended = o.is_ended })
  outlook_after left o less is =
      let ended : has_end (m ∷ ms) ≡ has_end ms = ap (λ (b : Bool). b || has_end ms) on in
      record { left = omega (arith, less, is.left, one_more); back = back_after o.back is.back; ended = is.ended ∙ ended }
