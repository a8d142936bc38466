-- The bytes of a file that is combined of copies, as one more run is chosen.
use Rattle.std.proofs.Common.{◌≡◌, ◌∙◌, ℕ, suc, ◌<◌, ◌≤◌, ◌⊎◌, inl, inr, Bool, true, false, cond, List, [], ◌∷◌, ◌++◌, length, get_or, Some, refl, ap, arith}
use Rattle.std.specs.Prelude.{◌&&◌, nat_le, slice_get}
use Rattle.std.proofs.lemmas.Bool.{cases_lt, cond-true, cond-false}
use Rattle.jr_mend.specs.declared.byte_runs.ByteRun.{ByteRun}
use Rattle.jr_mend.specs.Combined.{AreBetween, AreBytesByRuns, copy_at}
use Rattle.jr_mend.specs.Copies.{CopyValue}

abbrev is_in : ByteRun → ℕ → Bool
is_in r p = nat_le r.start p && nat_le (suc p) r.end

inside : (r : ByteRun) (p : ℕ) → r.start ≤ p → p < r.end → is_in r p ≡ true
inside r p from to =
    let a : nat_le r.start p ≡ true = grind (arith) in
    let b : nat_le (suc p) r.end ≡ true = grind (arith) in
    ap (λ (x : Bool). x && nat_le (suc p) r.end) a ∙ b

outside : (r : ByteRun) (p : ℕ) → (p < r.start) ⊎ (r.end ≤ p) → is_in r p ≡ false
outside r p (inl less) =
    let a : nat_le r.start p ≡ false = grind (arith) in
    ap (λ (x : Bool). x && nat_le (suc p) r.end) a
outside r p (inr after) =
    let b : nat_le (suc p) r.end ≡ false = grind (arith) in
    go (nat_le r.start p) b
  where
    go : (x : Bool) → nat_le (suc p) r.end ≡ false → (x && nat_le (suc p) r.end) ≡ false
    go true b = b
    go false b = refl

-- the copy of a byte that is not in a further run
stays : (runs : List ByteRun) (r : ByteRun) (p : ℕ) → (p < r.start) ⊎ (r.end ≤ p) → copy_at (runs ++ r ∷ []) p ≡ copy_at runs p
stays [] r p out = cond-false (is_in r p) r.copy 0 (outside r p out)
stays (q ∷ runs) r p out = ap (λ (k : ℕ). cond (is_in q p) q.copy k) (stays runs r p out)

-- the copy of one that is
becomes : (from to : ℕ) (runs : List ByteRun) (r : ByteRun) (p : ℕ) → AreBetween from to runs → to ≤ p → r.start ≤ p → p < r.end → copy_at (runs ++ r ∷ []) p ≡ r.copy
becomes from to [] r p between after start end = cond-true (is_in r p) r.copy 0 (inside r p start end)
becomes from to (q ∷ runs) r p between after start end =
    cond-false (is_in q p) q.copy (copy_at (runs ++ r ∷ []) p) (outside q p (inr (omega (arith, last q.end to runs between.2, after)))) ∙ becomes q.end to runs r p between.2 after start end
  where
    last : (a b : ℕ) (rs : List ByteRun) → AreBetween a b rs → a ≤ b
    last a b [] le = le
    last a b (s ∷ rs) is = omega (arith, is.0, is.1, last s.end b rs is.2)

pub between_more : (from to end : ℕ) (runs : List ByteRun) (r : ByteRun) → AreBetween from to runs → to ≤ r.start → r.start < r.end → r.end ≤ end → AreBetween from end (runs ++ r ∷ [])
between_more from to end [] r is start some within = (omega (arith, is, start), some, within)
between_more from to end (q ∷ runs) r is start some within = (is.0, is.1, between_more q.end to end runs r is.2 start some within)

-- runs that end before an offset end before a later one
pub between_longer : (from to end : ℕ) (runs : List ByteRun) → AreBetween from to runs → to ≤ end → AreBetween from end runs
between_longer from to end [] is le = omega (arith, is, le)
between_longer from to end (q ∷ runs) is le = (is.0, is.1, between_longer q.end to end runs is.2 le)

-- the bytes in a further run are those of its copy, all others stay
pub bytes_more : (copies : List CopyValue) (runs : List ByteRun) (r : ByteRun) (copy : CopyValue) (from to : ℕ) (old new : List ℕ) → AreBetween from to runs → to ≤ r.start → slice_get copies r.copy ≡ Some copy
    → length new ≡ length old → ((p : ℕ) → r.start ≤ p → p < r.end → get_or new p 0 ≡ get_or copy.file p 0) → ((p : ℕ) → (p < r.start) ⊎ (r.end ≤ p) → get_or new p 0 ≡ get_or old p 0)
    → AreBytesByRuns copies runs old → AreBytesByRuns copies (runs ++ r ∷ []) new
bytes_more copies runs r copy from to old new between start is long inner outer bytes p lt = elim (cases_lt p r.start) [
  | inl less ↦ kept (inl less)
  | inr from_start ↦ elim (cases_lt p r.end) [
    | inl within ↦
        let after : r.start ≤ p = omega (arith, from_start) in
        let here = becomes from to runs r p between (omega (arith, start, after)) after within in
        (copy, ap (slice_get copies) here ∙ is, inner p after within)
    | inr past ↦ kept (inr (omega (arith, past)))
  ]
]
  where
    kept : (p < r.start) ⊎ (r.end ≤ p) → (c : CopyValue) × (slice_get copies (copy_at (runs ++ r ∷ []) p) ≡ Some c) × (get_or new p 0 ≡ get_or c.file p 0)
    kept out =
        let before = bytes p (omega (arith, lt, long)) in
        (before.0, ap (slice_get copies) (stays runs r p out) ∙ before.1, outer p out ∙ before.2)
