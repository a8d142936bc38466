-- Markers with the bytes after them, one after the other.
use Rattle.std.proofs.Common.{◌≡◌, ◌≢◌, ℕ, zero, suc, ◌+◌, ◌%◌, ◌<◌, inl, inr, List, [], ◌∷◌, ◌++◌, length, replicate, refl, sym, ap, subst, ◌∙◌, append_assoc, length-append, Option, Some, None, arith}
use Rattle.std.specs.List.{AllZip, flat_map}
use Rattle.jr_cut.specs.declared.scan_end.ScanEnd.{ScanEnd}
use Rattle.jr_cut.specs.Cut.{IsRaw}
use Rattle.jr_cut.proofs.Cuts.{raw_none}
use Rattle.jr_cut.specs.declared.breaks.Break.{Break}
use Rattle.jr_mend.specs.Resync.{EndsResync, MeansIn, Part, PartsFrom, Resync, break_at, new_segments, number_after, part_bytes, since_after}

-- ---- segments of a part

pub count_after : (k : ℕ) (a : Option ℕ) (raws : List (List ℕ)) (raw : List ℕ) → length raws ≡ suc k → length (raws ++ new_segments a raw) ≡ suc (number_after k a)
count_after k None raws raw e = omega (arith, e, length-append raws [])
count_after k (Some d) raws raw e = omega (arith, e, length-append raws (replicate d [] ++ raw ∷ []), length-append (replicate {A = List ℕ} d []) (raw ∷ []), long d)
  where
    long : (d : ℕ) → length (replicate {A = List ℕ} d []) ≡ d
    long zero = refl
    long (suc d) = ap suc (long d)

pub few_after : (n size since k : ℕ) (bytes : List ℕ) (code : ℕ) (a : Option ℕ) → MeansIn n size since k bytes code a → number_after k a < n
few_after n size since k bytes code a (inr p) = omega (arith, p.0, ap (number_after k) p.3)
few_after n size since k bytes code None (inl m) = omega (arith, m.3)
few_after n size since k bytes code (Some d) (inl m) = omega (arith, m.0)

pub zip_append : (xs ys us vs : List (List ℕ)) → AllZip IsRaw xs ys → AllZip IsRaw us vs → AllZip IsRaw (xs ++ us) (ys ++ vs)
zip_append [] [] us vs a b = b
zip_append [] (y ∷ ys) us vs a b = absurd a
zip_append (x ∷ xs) [] us vs a b = absurd a
zip_append (x ∷ xs) (y ∷ ys) us vs a b = (a.0, zip_append xs ys us vs a.1 b)

pub new_spelled : (a : Option ℕ) (raw found : List ℕ) → IsRaw raw found → AllZip IsRaw (new_segments a raw) (new_segments a found)
new_spelled None raw found is = tt
new_spelled (Some d) raw found is = go d
  where
    go : (d : ℕ) → AllZip IsRaw (replicate d [] ++ raw ∷ []) (replicate d [] ++ found ∷ [])
    go zero = (is, tt)
    go (suc d) = (raw_none, go d)

-- a marker before which others are missing is not the one that is due
pub break_some : (at k code d : ℕ) → d ≢ 0 → break_at at k code (Some d) ≡ (record { at = at; code = code; due = k % 8; skipped = d }) ∷ []
break_some at k code zero some = absurd (some refl)
break_some at k code (suc d) some = refl

-- ---- parts

-- the end alone
pub parts_last : (n size since k at : ℕ) (tail : List ℕ) (end : ScanEnd) → EndsResync n k at tail end → PartsFrom n size since k at tail (record { raws = []; datas = []; breaks = []; end = end })
parts_last n size since k at tail end ends = record { parts = []; tail = tail; are = ends; spelled = refl; raws = refl; datas = refl; breaks = refl }

-- one more part before others
abbrev pub with_part : (at k : ℕ) → Part → Resync → Resync
with_part at k p r = record { raws = new_segments p.missing p.raw ++ r.raws; datas = new_segments p.missing p.bytes ++ r.datas; breaks = break_at at k p.code p.missing ++ r.breaks; end = r.end }

pub parts_next : (n size since k at : ℕ) (p : Part) (bytes rest : List ℕ) (r : Resync) → MeansIn n size since k bytes p.code p.missing → IsRaw p.raw p.bytes → bytes ≡ part_bytes p ++ rest → PartsFrom n size (since_after since p.missing (length (part_bytes p))) (number_after k p.missing) (at + length (part_bytes p)) rest r → PartsFrom n size since k at bytes (with_part at k p r)
parts_next n size since k at p bytes rest r means raw e f =
    let here = part_bytes p in
    let after = flat_map part_bytes f.parts in
    let spelled : bytes ≡ (here ++ after) ++ f.tail = e ∙ ap (λ (x : List ℕ). here ++ x) f.spelled ∙ sym (append_assoc here after f.tail) in
    record {
      parts = p ∷ f.parts;
      tail = f.tail;
      are = (subst (λ (x : List ℕ). MeansIn n size since k x p.code p.missing) spelled means, raw, f.are);
      spelled = spelled;
      raws = ap (λ (x : List (List ℕ)). new_segments p.missing p.raw ++ x) f.raws;
      datas = ap (λ (x : List (List ℕ)). new_segments p.missing p.bytes ++ x) f.datas;
      breaks = ap (λ (x : List Break). break_at at k p.code p.missing ++ x) f.breaks;
    }
