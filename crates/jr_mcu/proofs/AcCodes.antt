-- No code of a block begins another, and what is left of a block continues after its first code.
use Rattle.std.proofs.Common.{◌≡◌, ◌+◌, ◌*◌, Bool, List, [], ◌∷◌, ◌++◌, length, refl, sym, ap, subst, ◌∙◌, append_assoc, arith}
use Rattle.std.proofs.lemmas.List.{append_cancel_left}
use Rattle.jr_code.specs.Code.{Table, IsWord}
use Rattle.jr_mcu.proofs.Words.{IsPrefixFree}
use Rattle.jr_mcu.specs.Block.{AcCode, IsAcCode, code_bits}
use Rattle.jr_mcu.specs.Block.AcCode.{ZeroRun, RunAndSize}

pub split_same : {A : Type 0} (u v x y : List A) → length u ≡ length v → u ++ x ≡ v ++ y → (u ≡ v) × (x ≡ y)
split_same [] [] x y l e = (refl, e)
split_same [] (b ∷ v) x y l e = absurd (omega arith)
split_same (a ∷ u) [] x y l e = absurd (omega arith)
split_same (a ∷ u) (b ∷ v) x y l e =
    let h : a ≡ b = cc in
    let t : u ++ x ≡ v ++ y = cc in
    let r = split_same u v x y (omega arith) t in
    (cc, r.1)

pub same_code : (ac : Table) → IsPrefixFree ac → (i j : AcCode) (x y : List Bool) → IsAcCode ac i → IsAcCode ac j → code_bits i ++ x ≡ code_bits j ++ y → (i ≡ j) × (x ≡ y)
same_code ac free (ZeroRun u) (ZeroRun v) x y hi hj e =
    let p = free u v x y 240 240 hi hj e in
    (ap ZeroRun p.0, append_cancel_left v x y (subst (λ (w : List Bool). w ++ x ≡ v ++ y) p.0 e))
same_code ac free (ZeroRun u) (RunAndSize r s v extra) x y hi hj e =
    let p = free u v x (extra ++ y) 240 (16 * r + s) hi hj.3 (e ∙ append_assoc v extra y) in
    absurd (omega (arith, p.1, hj.0, hj.1, hj.2))
same_code ac free (RunAndSize r s u extra) (ZeroRun v) x y hi hj e =
    let p = free u v (extra ++ x) y (16 * r + s) 240 hi.3 hj (sym (append_assoc u extra x) ∙ e) in
    absurd (omega (arith, p.1, hi.0, hi.1, hi.2))
same_code ac free (RunAndSize r s u extra) (RunAndSize r' s' v extra') x y hi hj e =
    let e' : u ++ (extra ++ x) ≡ v ++ (extra' ++ y) = sym (append_assoc u extra x) ∙ e ∙ append_assoc v extra' y in
    let p = free u v (extra ++ x) (extra' ++ y) (16 * r + s) (16 * r' + s') hi.3 hj.3 e' in
    let q : extra ++ x ≡ extra' ++ y = append_cancel_left v _ _ (subst (λ (w : List Bool). w ++ (extra ++ x) ≡ v ++ (extra' ++ y)) p.0 e') in
    let rs : s ≡ s' = omega (arith, p.1, hi.2, hj.2) in
    let rr : r ≡ r' = omega (arith, p.1, rs) in
    let t = split_same extra extra' x y (hi.4 ∙ rs ∙ sym hj.4) q in
    let same_word : u ≡ v = p.0 in
    let same_extra : extra ≡ extra' = t.0 in
    (cc, t.1)

pub not_end : (ac : Table) → IsPrefixFree ac → (i : AcCode) (word x y : List Bool) → IsAcCode ac i → IsWord ac word 0 → code_bits i ++ x ≡ word ++ y → ⊥
not_end ac free (ZeroRun u) v x y hi h e = let p = free u v x y 240 0 hi h e in omega (arith, p.1)
not_end ac free (RunAndSize r s u extra) v x y hi h e =
    let p = free u v (extra ++ x) y (16 * r + s) 0 hi.3 h (sym (append_assoc u extra x) ∙ e) in
    omega (arith, p.1, hi.1)
