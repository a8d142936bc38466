-- A run that begins with other predictions has the same bits, and shifted DC coefficients.
use Rattle.std.proofs.Common.{◌≡◌, ℕ, zero, suc, ◌<◌, ◌≤◌, Bool, cond, List, [], ◌∷◌, length, get_or, refl, sym, ap, subst, ◌∙◌, inl, inr, arith}
use Rattle.std.specs.Prelude.{ℤ, pos, ◌+ℤ◌}
use Rattle.std.proofs.lemmas.Bool.Decides.{eqb_tells}
use Rattle.std.proofs.Math.IntN.{+ℤ_assoc, +ℤ_comm}
use Rattle.jr_head.specs.HeadValue.{HeadValue}
use Rattle.jr_scan.specs.declared.place.Place.{Place}
use Rattle.jr_scan.specs.declared.place.RunEnd.TheVariants.{AllRead}
use Rattle.jr_mcu.specs.Block.{IsInDcRange}
use Rattle.jr_scan.specs.IntervalValue.{IntervalValue}
use Rattle.jr_mcu.specs.Mcus.{component, block_of, prediction, IsBlock, Blocks, predicted}
use Rattle.jr_scan.specs.Run.{IsRun, run_from, place_with}
use Rattle.jr_mcu.specs.Shift.{of_component, AreGreater, IsShifted, AreShifted, HaveFirstInRange}

first_of : (d : ℤ) (z y : List ℤ) → IsShifted d z y → get_or y 0 (pos 0) ≡ get_or z 0 (pos 0) +ℤ d
first_of d z y s = ap (λ (x : List ℤ). get_or x 0 (pos 0)) s.is ∙ ap (λ (x : List ℤ). get_or x 0 (pos 0) +ℤ d) (sym s.was)

-- predictions stay greater by the given differences
pub prediction_shifted : (h : HeadValue) (by p q : List ℤ) (zs ys : List (List ℤ)) (c n : ℕ) → c < 3 → AreGreater by p q → AreShifted h by zs ys → n ≤ length zs
    → prediction h q ys c n ≡ prediction h p zs c n +ℤ of_component by c
prediction_shifted h by p q zs ys c zero low start s le = start c low
prediction_shifted h by p q zs ys c (suc m) low start s le =
    let seen = λ (b : Bool). cond b (get_or (block_of ys m) 0 (pos 0)) (prediction h q ys c m) in
    let saw = λ (b : Bool). cond b (get_or (block_of zs m) 0 (pos 0)) (prediction h p zs c m) +ℤ of_component by c in
    elim (eqb_tells (component h m) c) [
      | inl t ↦ ap seen t.0 ∙ first_of (of_component by (component h m)) (block_of zs m) (block_of ys m) (s.each m (omega arith))
          ∙ ap (λ (k : ℕ). get_or (block_of zs m) 0 (pos 0) +ℤ of_component by k) t.1 ∙ ap saw (sym t.0)
      | inr t ↦ ap seen t.0 ∙ prediction_shifted h by p q zs ys c m low start s (omega arith) ∙ ap saw (sym t.0)
    ]

swap : (p d s : ℤ) → (p +ℤ d) +ℤ s ≡ (p +ℤ s) +ℤ d
swap p d s = +ℤ_assoc p d s ∙ ap (λ (x : ℤ). p +ℤ x) (+ℤ_comm d s) ∙ sym (+ℤ_assoc p s d)

-- equal lists have equal heads and tails
head_is : (a b : ℤ) (x y : List ℤ) → a ∷ x ≡ b ∷ y → a ≡ b
head_is a b x y e = ap (λ (l : List ℤ). get_or l 0 (pos 0)) e

abbrev tail_of : List ℤ → List ℤ
tail_of [] = []
tail_of (a ∷ l) = l

pub blocks_shifted : (h : HeadValue) (by p q : List ℤ) (zs ys : List (List ℤ)) (u : List Bool) → ((n : ℕ) → component h n < 3) → AreGreater by p q → AreShifted h by zs ys → HaveFirstInRange ys
    → Blocks h p zs u → Blocks h q ys u
blocks_shifted h by p q zs ys u three start s range b =
    record {
      parts = b.parts;
      count = b.count ∙ sym s.count;
      spelled = b.spelled;
      each = λ n lt. one n (omega (arith, s.count)) (range n lt);
    }
  where
    one : (n : ℕ) → n < length zs → IsInDcRange (get_or (block_of ys n) 0 (pos 0)) → IsBlock h q ys n (get_or b.parts n [])
    one n lt within =
        let c = component h n in
        let d = of_component by c in
        let e = s.each n lt in
        let x = b.each n lt in
        let pz = prediction h p zs c n in
        let moved : prediction h q ys c n ≡ pz +ℤ d = prediction_shifted h by p q zs ys c n (three n) start s (omega arith) in
        let both : e.first ∷ e.others ≡ (pz +ℤ x.difference) ∷ x.others = sym e.was ∙ x.values in
        let first : e.first ≡ pz +ℤ x.difference = head_is e.first (pz +ℤ x.difference) e.others x.others both in
        let others : e.others ≡ x.others = ap tail_of both in
        let sum : e.first +ℤ d ≡ prediction h q ys c n +ℤ x.difference = ap (λ (k : ℤ). k +ℤ d) first ∙ swap pz x.difference d ∙ ap (λ (k : ℤ). k +ℤ x.difference) (sym moved) in
        record {
          difference = x.difference;
          others = x.others;
          coded = x.coded;
          values = e.is ∙ ap (λ (k : ℤ). k ∷ e.others) sum ∙ ap (λ (l : List ℤ). (prediction h q ys c n +ℤ x.difference) ∷ l) others;
          in_range = subst IsInDcRange (ap (λ (l : List ℤ). get_or l 0 (pos 0)) e.is ∙ sum) within;
        }

-- a run that has all its MCUs, from the same bit with other predictions
pub run_shifted : (i : IntervalValue) (from to : Place) (k : ℕ) (by q : List ℤ) (zs ys : List (List ℤ)) → ((n : ℕ) → component i.head n < 3)
    → AreGreater by from.predictions q → AreShifted i.head by zs ys → HaveFirstInRange ys
    → IsRun (run_from i from k) zs to AllRead
    → IsRun (run_from i (place_with from q) k) ys (place_with to (predicted i.head q ys)) AllRead
run_shifted i from to k by q zs ys three start s range r =
    record {
      count = r.count;
      few = r.few;
      taken = r.taken;
      mcus = (s.count ∙ r.mcus.0, blocks_shifted i.head by from.predictions q zs ys r.taken three start s range r.mcus.1);
      spelled = r.spelled;
      bit = r.bit;
      predictions = refl;
      ends = r.ends;
    }

-- the predictions after it are greater by the same differences
pub predicted_shifted : (h : HeadValue) (by p q : List ℤ) (zs ys : List (List ℤ)) → AreGreater by p q → AreShifted h by zs ys → AreGreater by (predicted h p zs) (predicted h q ys)
predicted_shifted h by p q zs ys start s c low =
    at c (predicted h q ys) q ys low ∙ ap (prediction h q ys c) s.count ∙ prediction_shifted h by p q zs ys c (length zs) low start s (omega arith) ∙ ap (λ (x : ℤ). x +ℤ of_component by c) (sym (at c (predicted h p zs) p zs low))
  where
    at : (c : ℕ) (l : List ℤ) (start : List ℤ) (zs : List (List ℤ)) → c < 3 → get_or (predicted h start zs) c (pos 0) ≡ prediction h start zs c (length zs)
    at zero l start zs lt = refl
    at (suc zero) l start zs lt = refl
    at (suc (suc zero)) l start zs lt = refl
    at (suc (suc (suc c))) l start zs lt = absurd (omega arith)
