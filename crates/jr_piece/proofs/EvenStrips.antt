-- The strip of a data unit and its number there, if all strips but the last have the same length.
use Rattle.std.proofs.Common.{◌≡◌, ℕ, zero, suc, ◌+◌, ◌*◌, ◌/◌, ◌%◌, ◌<◌, List, [], ◌∷◌, ◌++◌, length, slice_get, refl, sym, ap, ◌∙◌, arith}
use Rattle.std.specs.Prelude.{Option}
use Rattle.std.specs.Option.{option_and_then}
use Rattle.std.proofs.lemmas.List.{append-nil}
use Rattle.std.proofs.lemmas.Option.{slice_get_past}
use Rattle.std.proofs.Math.Nat.{div-add-mod', mod-lt}
use Rattle.jr_piece.specs.StripValue.{StripValue}
use Rattle.jr_piece.specs.DataUnits.{AreEven, units_of_strips}

in_first : {X : Type 0} (xs ys : List X) (i : ℕ) → i < length xs → slice_get (xs ++ ys) i ≡ slice_get xs i
in_first [] ys i lt = absurd (omega (arith, lt))
in_first (x ∷ xs) ys zero lt = refl
in_first (x ∷ xs) ys (suc i) lt = in_first xs ys i (omega (arith, lt))

after_first : {X : Type 0} (xs ys : List X) (i j : ℕ) → i ≡ length xs + j → slice_get (xs ++ ys) i ≡ slice_get ys j
after_first [] ys i j e = ap (λ n. slice_get ys n) (omega (arith, e))
after_first (x ∷ xs) ys zero j e = absurd (omega (arith, e))
after_first (x ∷ xs) ys (suc i) j e = after_first xs ys i j (omega (arith, e))

-- data unit r of a strip
abbrev pub unit_in : ℕ → StripValue → Option (List ℕ)
unit_in r s = slice_get s.samples r

-- data unit j * n + r of strips of n is data unit r of strip j
found : (n r : ℕ) → r < n → (j : ℕ) (ss : List StripValue) → AreEven n ss → slice_get (units_of_strips ss) (j * n + r) ≡ option_and_then (unit_in r) (slice_get ss j)
found n r lt j [] even = refl
found n r lt zero (s ∷ []) even = ap (λ us. slice_get us (0 * n + r)) (append-nil s.samples) ∙ ap (slice_get s.samples) (omega arith)
found n r lt (suc j) (s ∷ []) even = slice_get_past (s.samples ++ []) (suc j * n + r) (omega (arith, even, ap (λ (us : List (List ℕ)). length us) (append-nil s.samples)))
found n r lt zero (s ∷ (t ∷ more)) even = in_first s.samples (units_of_strips (t ∷ more)) (0 * n + r) (omega (arith, even.0)) ∙ ap (slice_get s.samples) (omega arith)
found n r lt (suc j) (s ∷ (t ∷ more)) even = after_first s.samples (units_of_strips (t ∷ more)) (suc j * n + r) (j * n + r) (omega (arith, even.0)) ∙ found n r lt j (t ∷ more) even.1

-- data unit k of strips of n is data unit k % n of strip k / n
pub found_at : (n k : ℕ) (ss : List StripValue) → 0 < n → AreEven n ss → slice_get (units_of_strips ss) k ≡ option_and_then (unit_in (k % n)) (slice_get ss (k / n))
found_at n k ss some even = ap (slice_get (units_of_strips ss)) (sym (div-add-mod' k n)) ∙ found n (k % n) (mod-lt k some) (k / n) ss even
