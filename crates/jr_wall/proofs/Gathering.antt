-- Strips gathered one after the other, where they end, and the interval that they are of.
use Rattle.std.specs.Prelude.{ℤ, Bool, true, false, IsTrue}
use Rattle.std.proofs.Common.{◌≡◌, ℕ, ◌<◌, zero, suc, refl, List, [], ◌∷◌, ◌++◌, length, get_or, Option, Some, None, Result, Ok, Err, IfOk, IfSome, sym, ap, subst, ◌∙◌, arith}
use Rattle.std.specs.List.{All}
use Rattle.std.specs.Result.{result_ok}
use Rattle.std.specs.declared.sync.Arc.{Arc}
use Rattle.std.specs.declared.alloc.Global.{Global}
use Rattle.std.specs.Arc.{arc_value}
use Rattle.std.proofs.lemmas.List.Elements.{All-append}
use Rattle.std.proofs.lemmas.List.{map-append}
use Rattle.jr_scan.specs.IntervalValue.{IntervalValue}
use Rattle.jr_scan.specs.ScanValue.{HasInterval, interval_of}
use Rattle.jr_scan.specs.FirstIntervalsValue.{FirstIntervalsValue}
use Rattle.jr_scan.specs.Mcus.{Decodes, Front, HasNoDecoding, HasLongestFront}
use Rattle.jr_wall.specs.Sharing.{IsOneOf}
use Rattle.jr_piece.specs.PieceValue.{PieceValue}
use Rattle.jr_piece.specs.StripValue.{StripValue}
use Rattle.jr_piece.specs.Strips.{AreOf, ReportsEnd, shared_strips}

-- one more strip of the interval is appended
pub one_more_of : (i : IntervalValue) (xs : List (Arc StripValue Global)) (x : Arc StripValue Global) → AreOf i (shared_strips xs) → (arc_value x).interval ≡ i → AreOf i (shared_strips (xs ++ x ∷ []))
one_more_of i xs x all one = subst (All of) (sym (map-append arc_value xs (x ∷ []))) (All-append of (shared_strips xs) (arc_value x ∷ []) all (λ k d lt. at k d lt))
  where
    of : StripValue → Type 0
    of s = s.interval ≡ i

    at : (k : ℕ) (d : StripValue) → k < length (arc_value x ∷ []) → of (get_or (arc_value x ∷ []) k d)
    at zero d lt = one
    at (suc k) d lt = absurd (omega arith)

-- what a reader at its end reports
pub reports_end : (b : Bool) (i : IntervalValue) (k : ℕ) → (IsTrue b → (zs : List (List ℤ)) → Front i k zs → Decodes i zs) → (b ≡ false → HasLongestFront i k → HasNoDecoding i) → HasLongestFront i k → ReportsEnd i k b
reports_end true i k sound damaged w = (w, (w.0, sound refl w.0 w.1.front))
reports_end false i k sound damaged w = (w, damaged refl w)

-- an interval of a known scan is that scan's interval of its number
pub its_interval : (known : Option FirstIntervalsValue) (p : FirstIntervalsValue) (i : IntervalValue) (n : ℕ) → known ≡ Some p → IsOneOf known i → n ≡ i.number → (n < length p.scan.intervals) × (i ≡ interval_of p.scan n)
its_interval known p i n is own e =
    let of : HasInterval p.scan i = subst (λ (k : Option FirstIntervalsValue). IsOneOf k i) is own in
    (omega (arith, e, of.0), of.1 ∙ ap (interval_of p.scan) (sym e))

-- the interval that was returned, if memory sufficed for it
pub taken : {E : Type 0} (r : Result IntervalValue E) (x j : IntervalValue) → Some x ≡ result_ok r → IfOk r (λ v. v ≡ j) → x ≡ j
taken (Ok y) x j e is = let same : x ≡ y = cc in same ∙ is
taken (Err y) x j e is = absurd (let z : Some x ≡ None = e in cc)

-- a piece of an interval, if its strips are in order
pub piece_of : {E : Type 0} (r : Result PieceValue E) (o : Option PieceValue) (i j : IntervalValue) → o ≡ result_ok r → IfOk r (λ p. p.interval ≡ i) → i ≡ j → IfSome o (λ p. p.interval ≡ j)
piece_of (Ok p) o i j e is same = subst (λ (k : Option PieceValue). IfSome k (λ q. q.interval ≡ j)) (sym e) (is ∙ same)
piece_of (Err x) o i j e is same = subst (λ (k : Option PieceValue). IfSome k (λ q. q.interval ≡ j)) (sym e) tt
