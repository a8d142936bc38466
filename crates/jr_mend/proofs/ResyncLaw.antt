-- There is one way to resynchronise the bytes of a scan.
use Rattle.std.proofs.Common.{◌≡◌, ◌≢◌, ℕ, suc, ◌+◌, ◌%◌, ◌<◌, ◌≤◌, ◌⊎◌, inl, inr, List, [], ◌∷◌, ◌++◌, length, refl, sym, ap, subst, ◌∙◌, append_assoc, Bool, true, false, Option, Some, None, arith}
use Rattle.std.specs.List.{flat_map}
use Rattle.std.proofs.lemmas.List.{append_cancel_right}
use Rattle.jr_base.specs.declared.marker.TheConstants.{EOI, PREFIX, RST0}
use Rattle.jr_cut.specs.declared.scan_end.ScanEnd.{ScanEnd}
use Rattle.jr_cut.specs.declared.scan_end.ScanEnd.TheVariants.{EndOfImage, OtherMarker, OutOfStep, ExtraRestart, EndOfFile}
use Rattle.jr_cut.specs.Cut.{HasMarker, IsCut, IsEnding, IsStop, marker}
use Rattle.jr_cut.proofs.CutLaw.{ending_stop, marker_stop, one_cut, run_of, same_marker}
use Rattle.jr_cut.proofs.Cuts.{cut_last, raw_none, run_end, run_same}
use Rattle.jr_cut.proofs.Spellings.{one_stop}
use Rattle.jr_mend.specs.Markers.{is_over, markers_in, most_missing, scan_bytes, scan_markers}
use Rattle.jr_mend.specs.Resync.{AreParts, EndsResync, IsAhead, IsMeaning, IsResync, MeansIn, Part, PartsFrom, Resync, breaks_of, new_segments, number_after, part_bytes, since_after}

-- ---- the meaning of a marker

-- numbers that count as one modulo 8, neither of which is eight below the limit
pub same_below : (k limit d e : ℕ) → d ≤ limit → e ≤ limit → limit < d + 8 → limit < e + 8 → (k + d) % 8 ≡ (k + e) % 8 → d ≡ e
same_below k limit d e du eu dl el same = omega arith

pub is_due : (k d code : ℕ) → d ≡ 0 → code ≡ RST0 + (k + d) % 8 → code ≡ RST0 + k % 8
is_due k d code none is = let here : k + d ≡ k = omega (arith, none) in is ∙ ap (λ (i : ℕ). RST0 + i % 8) here

same_ahead : (n k limit code d e : ℕ) → IsAhead n k limit code d → IsAhead n k limit code e → d ≡ e
same_ahead n k limit code d e x y = go x.2 y.2
  where
    go : (d ≡ 0) ⊎ ((code ≢ RST0 + k % 8) × (d ≤ limit) × (limit < d + 8)) → (e ≡ 0) ⊎ ((code ≢ RST0 + k % 8) × (e ≤ limit) × (limit < e + 8)) → d ≡ e
    go (inl a) (inl b) = a ∙ sym b
    go (inl a) (inr b) = absurd (b.0 (is_due k d code a x.1))
    go (inr a) (inl b) = absurd (a.0 (is_due k e code b y.1))
    go (inr a) (inr b) = let same : (k + d) % 8 ≡ (k + e) % 8 = omega (arith, x.1, y.1) in same_below k limit d e a.1 b.1 a.2 b.2 same

same_meaning : (n k limit code : ℕ) (a b : Option ℕ) → IsMeaning n k limit code a → IsMeaning n k limit code b → a ≡ b
same_meaning n k limit code None None x y = refl
same_meaning n k limit code None (Some e) x y = absurd (x.4 e y)
same_meaning n k limit code (Some d) None x y = absurd (y.4 d x)
same_meaning n k limit code (Some d) (Some e) x y = ap Some (same_ahead n k limit code d e x y)

pub not_end : (n k limit code : ℕ) (a : Option ℕ) → IsMeaning n k limit code a → code ≢ EOI
not_end n k limit code None m = m.2
not_end n k limit code (Some d) m = λ e. omega (arith, e, m.1)

same_meaning_in : (n size since k : ℕ) (bytes : List ℕ) (code : ℕ) (a b : Option ℕ) → MeansIn n size since k bytes code a → MeansIn n size since k bytes code b → a ≡ b
same_meaning_in n size since k bytes code a b (inl x) (inl y) = same_meaning n k (most_missing n size since k (scan_markers n bytes)) code a b x y
same_meaning_in n size since k bytes code a b (inl x) (inr q) = absurd (not_end n k (most_missing n size since k (scan_markers n bytes)) code a x q.1)
same_meaning_in n size since k bytes code a b (inr p) (inl y) = absurd (not_end n k (most_missing n size since k (scan_markers n bytes)) code b y p.1)
same_meaning_in n size since k bytes code a b (inr p) (inr q) = p.3 ∙ sym q.3

-- it has a code, and is not after the last segment
pub record Means (n k code : ℕ) : Type 0 where
  pub some : 0 < code
  pub less : code < PREFIX
  pub further : k + 1 < n

pub means : (n size since k : ℕ) (bytes : List ℕ) (code : ℕ) (a : Option ℕ) → MeansIn n size since k bytes code a → Means n k code
means n size since k bytes code a (inr p) = record { some = omega (arith, p.1); less = omega (arith, p.1); further = p.0 }
means n size since k bytes code None (inl m) = record { some = m.0; less = m.1; further = m.3 }
means n size since k bytes code (Some d) (inl m) = record { some = omega (arith, m.1); less = omega (arith, m.1); further = omega (arith, m.0) }

not_both : (b : Bool) → b ≡ true → b ≡ false → ⊥
not_both b is_true is_false = let clash : true ≡ false = sym is_true ∙ is_false in absurd cc

not_ended : (n size since k at code : ℕ) (a : Option ℕ) (tail : List ℕ) (end : ScanEnd) → EndsResync n k at tail end → MeansIn n size since k tail code a → HasMarker tail code → ⊥
not_ended n size since k at code a tail end ends meaning m = go ends.1
  where
    has : Means n k code
    has = means n size since k tail code a meaning

    not_ff : code ≢ PREFIX
    not_ff e = omega (arith, e, has.less)

    goes : MeansIn n size since k tail code a → code ≡ EOI → is_over n (markers_in 0 tail) ≡ true → ⊥
    goes (inl x) eoi over = not_end n k (most_missing n size since k (scan_markers n tail)) code a x eoi
    goes (inr p) eoi over = not_both (is_over n (markers_in 0 tail)) over p.2

    go : (end ≡ EndOfFile) ⊎ (((end ≡ EndOfImage) × (is_over n (markers_in 0 tail) ≡ true)) ⊎ (k + 1 ≡ n)) → ⊥
    go (inl e) =
        let h = subst (λ (x : ScanEnd). IsEnding n k at tail x) e ends.0 in
        run_end (suc m.0) h.0 code m.1 not_ff (sym (run_of m.0 code m.1) ∙ sym m.2 ∙ h.1)
    go (inr (inl e)) =
        let h = subst (λ (x : ScanEnd). IsEnding n k at tail x) e.0 ends.0 in
        goes meaning (same_marker tail code EOI m h not_ff (λ z. omega arith)) e.1
    go (inr (inr e)) = omega (arith, e, has.further)

-- ---- the end

not_out : (n k : ℕ) (tail : List ℕ) (end : ScanEnd) → end ≢ EndOfFile → end ≢ EndOfImage → k + 1 < n → (end ≡ EndOfFile) ⊎ (((end ≡ EndOfImage) × (is_over n (markers_in 0 tail) ≡ true)) ⊎ (k + 1 ≡ n)) → ⊥
not_out n k tail end file image less (inl e) = file e
not_out n k tail end file image less (inr (inl e)) = image e.0
not_out n k tail end file image less (inr (inr e)) = omega (arith, e, less)

-- its end is the end of a scan of one segment
to_one : (n k at : ℕ) (tail : List ℕ) (end : ScanEnd) → EndsResync n k at tail end → IsEnding 1 0 at tail end
to_one n k at tail EndOfFile h = h.0
to_one n k at tail EndOfImage h = h.0
to_one n k at tail (ExtraRestart o) h = let e = h.0 in (e.0, e.1, e.2, refl, e.4)
to_one n k at tail (OutOfStep f x o) h = let e = h.0 in absurd (not_out n k tail (OutOfStep f x o) (λ z. absurd cc) (λ z. absurd cc) e.2 h.1)
to_one n k at tail (OtherMarker c o) h = h.0

same_end : (n k at : ℕ) (tail : List ℕ) (a b : ScanEnd) → EndsResync n k at tail a → EndsResync n k at tail b → a ≡ b
same_end n k at tail a b ha hb = (one_cut 1 at tail ([] ∷ []) ([] ∷ []) a b (cut a ha) (cut b hb)).1
  where
    here : at ≡ at + 0
    here = omega arith

    cut : (end : ScanEnd) → EndsResync n k at tail end → IsCut 1 at tail ([] ∷ []) end
    cut end h = cut_last 1 0 at tail [] [] tail end (omega arith) raw_none refl (subst (λ (o : ℕ). IsEnding 1 0 o tail end) here (to_one n k at tail end h))

-- ---- the parts

first_part : (p : Part) (ps : List Part) (tail : List ℕ) → flat_map part_bytes (p ∷ ps) ++ tail ≡ marker p.more p.code ++ (p.raw ++ (flat_map part_bytes ps ++ tail))
first_part p ps tail = append_assoc (part_bytes p) (flat_map part_bytes ps) tail ∙ append_assoc (marker p.more p.code) p.raw (flat_map part_bytes ps ++ tail)

parts_stop : (n size since k at : ℕ) (ps : List Part) (tail : List ℕ) (end : ScanEnd) → AreParts n size since k at tail end ps → IsStop (flat_map part_bytes ps ++ tail)
parts_stop n size since k at [] tail end are = ending_stop n k at tail end are.0
parts_stop n size since k at (p ∷ ps) tail end are =
    let has = means n size since k (flat_map part_bytes (p ∷ ps) ++ tail) p.code p.missing are.0 in
    marker_stop _ p.code (p.more, p.raw ++ (flat_map part_bytes ps ++ tail), first_part p ps tail) (λ e. omega (arith, e, has.some)) (λ e. omega (arith, e, has.less))

same_parts : (n size since k at : ℕ) (ps qs : List Part) (s t : List ℕ) (a b : ScanEnd) → AreParts n size since k at s a ps → AreParts n size since k at t b qs → flat_map part_bytes ps ++ s ≡ flat_map part_bytes qs ++ t → (ps ≡ qs) × (s ≡ t) × (a ≡ b)
same_parts n size since k at [] [] s t a b hp hq e = (refl, e, same_end n k at t a b (subst (λ (x : List ℕ). EndsResync n k at x a) e hp) hq)
same_parts n size since k at [] (q ∷ qs) s t a b hp hq e = absurd (not_ended n size since k at q.code q.missing s a hp (subst (λ (z : List ℕ). MeansIn n size since k z q.code q.missing) (sym e) hq.0) (q.more, _, e ∙ first_part q qs t))
same_parts n size since k at (p ∷ ps) [] s t a b hp hq e = absurd (not_ended n size since k at p.code p.missing t b hq (subst (λ (z : List ℕ). MeansIn n size since k z p.code p.missing) e hp.0) (p.more, _, sym e ∙ first_part p ps s))
same_parts n size since k at (p ∷ ps) (q ∷ qs) s t a b hp hq e =
    let x = p.raw ++ (flat_map part_bytes ps ++ s) in
    let y = q.raw ++ (flat_map part_bytes qs ++ t) in
    let here = flat_map part_bytes (q ∷ qs) ++ t in
    let means_p : MeansIn n size since k here p.code p.missing = subst (λ (z : List ℕ). MeansIn n size since k z p.code p.missing) e hp.0 in
    let has_p = means n size since k here p.code p.missing means_p in
    let has_q = means n size since k here q.code q.missing hq.0 in
    let mark = run_same (suc p.more) (suc q.more) p.code q.code x y (λ z. omega (arith, z, has_p.less)) (λ z. omega (arith, z, has_q.less))
    (sym (run_of p.more p.code x) ∙ sym (first_part p ps s) ∙ e ∙ first_part q qs t ∙ run_of q.more q.code y) in
    let more : p.more ≡ q.more = omega (arith, mark.0) in
    let code : p.code ≡ q.code = mark.1 in
    let missing : p.missing ≡ q.missing = same_meaning_in n size since k here q.code p.missing q.missing (subst (λ (c : ℕ). MeansIn n size since k here c p.missing) code means_p) hq.0 in
    let stop_s = parts_stop n size (since_after since p.missing (length (part_bytes p))) (number_after k p.missing) (at + length (part_bytes p)) ps s a hp.2 in
    let stop_t = parts_stop n size (since_after since q.missing (length (part_bytes q))) (number_after k q.missing) (at + length (part_bytes q)) qs t b hq.2 in
    let data' = one_stop p.raw p.bytes q.raw q.bytes (flat_map part_bytes ps ++ s) (flat_map part_bytes qs ++ t) hp.1 hq.1 mark.2 stop_s stop_t in
    let bytes : p.bytes ≡ q.bytes = sym data'.0 in
    let raw : p.raw ≡ q.raw = append_cancel_right p.raw q.raw (flat_map part_bytes qs ++ t) (ap (λ (z : List ℕ). p.raw ++ z) (sym data'.1) ∙ mark.2) in
    let one : Part = record { more = p.more; code = p.code; missing = p.missing; raw = p.raw; bytes = p.bytes } in
    let other : Part = record { more = q.more; code = q.code; missing = q.missing; raw = q.raw; bytes = q.bytes } in
    let equal : one ≡ other = cc (more, code, missing, raw, bytes) in
    let are = subst (λ (r : Part). AreParts n size (since_after since r.missing (length (part_bytes r))) (number_after k r.missing) (at + length (part_bytes r)) t b qs) (sym equal) hq.2 in
    let others = same_parts n size (since_after since p.missing (length (part_bytes p))) (number_after k p.missing) (at + length (part_bytes p)) ps qs s t a b hp.2 are data'.1 in
    (ap (λ (r : Part). r ∷ ps) equal ∙ ap (λ (rs : List Part). q ∷ rs) others.0, others.1, others.2)

-- ---- the whole

module _ (n size since k at : ℕ) (bytes : List ℕ) (r s : Resync) (f : PartsFrom n size since k at bytes r) (g : PartsFrom n size since k at bytes s) where
  same : (f.parts ≡ g.parts) × (f.tail ≡ g.tail) × (r.end ≡ s.end)
  same = same_parts n size since k at f.parts g.parts f.tail g.tail r.end s.end f.are g.are (sym f.spelled ∙ g.spelled)

  pub one_following : r ≡ s
  one_following =
      let raws : r.raws ≡ s.raws = f.raws ∙ ap (flat_map (λ (p : Part). new_segments p.missing p.raw)) same.0 ∙ sym g.raws in
      let datas : r.datas ≡ s.datas = f.datas ∙ ap (flat_map (λ (p : Part). new_segments p.missing p.bytes)) same.0 ∙ sym g.datas in
      let breaks : r.breaks ≡ s.breaks = f.breaks ∙ ap (breaks_of at k) same.0 ∙ sym g.breaks in
      let end = same.2 in
      let one : Resync = record { raws = r.raws; datas = r.datas; breaks = r.breaks; end = r.end } in
      let other : Resync = record { raws = s.raws; datas = s.datas; breaks = s.breaks; end = s.end } in
      let here : one ≡ other = cc (raws, datas, breaks, end) in
      here

following_stop : (n size since k at : ℕ) (bytes : List ℕ) (r : Resync) → PartsFrom n size since k at bytes r → IsStop bytes
following_stop n size since k at bytes r f = subst IsStop (sym f.spelled) (parts_stop n size since k at f.parts f.tail r.end f.are)

pub one_resync : (n at : ℕ) (bytes : List ℕ) (a b : Resync) → IsResync n at bytes a → IsResync n at bytes b → a ≡ b
one_resync n at bytes a b x y =
    let size = scan_bytes (scan_markers n bytes) in
    let data' = one_stop x.raw x.first y.raw y.first x.rest y.rest x.is_raw y.is_raw (sym x.spelled ∙ y.spelled) (following_stop n size (length x.raw) 0 (at + length x.raw) x.rest x.after x.parts) (following_stop n size (length y.raw) 0 (at + length y.raw) y.rest y.after y.parts) in
    let first : x.first ≡ y.first = sym data'.0 in
    let raw : x.raw ≡ y.raw = append_cancel_right x.raw y.raw y.rest (ap (λ (z : List ℕ). x.raw ++ z) (sym data'.1) ∙ sym x.spelled ∙ y.spelled) in
    let moved = subst (λ (z : List ℕ). PartsFrom n size (length z) 0 (at + length z) y.rest x.after) raw (subst (λ (z : List ℕ). PartsFrom n size (length x.raw) 0 (at + length x.raw) z x.after) data'.1 x.parts) in
    let after : x.after ≡ y.after = one_following n size (length y.raw) 0 (at + length y.raw) y.rest x.after y.after moved y.parts in
    let one : Resync = record { raws = x.raw ∷ x.after.raws; datas = x.first ∷ x.after.datas; breaks = x.after.breaks; end = x.after.end } in
    let other : Resync = record { raws = y.raw ∷ y.after.raws; datas = y.first ∷ y.after.datas; breaks = y.after.breaks; end = y.after.end } in
    let here : one ≡ other = cc (raw, first, after) in
    x.is ∙ here ∙ sym y.is
