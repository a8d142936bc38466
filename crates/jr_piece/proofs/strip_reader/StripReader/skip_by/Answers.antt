use Rattle.std.proofs.Common.{◌≡◌, ℕ, sym, ap, subst, arith, rules}
use Rattle.std.specs.Arc.{arc_value}
use Rattle.jr_scan.specs.IntervalValue.{IntervalValue}
use Rattle.jr_scan.specs.Mcus.{HasLongestFront}
use Rattle.jr_scan.specs.Cursors.{IsPlaceAfter}
use Rattle.jr_piece.specs.StripValue.{PlacedStripValue}
use Rattle.jr_piece.proofs.strip_reader.StripReader.skip_by.Goals as goal

-- the longest prefix of the reader's interval
longest : (i j : IntervalValue) (m n : ℕ) → j ≡ i → m ≡ n → HasLongestFront j n → HasLongestFront i m
longest i j m n same is front = subst (λ (v : IntervalValue). HasLongestFront v m) same (subst (HasLongestFront j) (sym is) front)

pub invariant_of-self : goal.invariant_of-self
invariant_of-self c =
    let own : c.as_ref.result ≡ arc_value c.self.inside.interval = search rules in
    let t = c.take-mcus.ensures.some c.in-Some.from c.in-Some.is in
    record {
      at = subst (λ (v : IntervalValue). IsPlaceAfter v c.take-mcus.new.self.mcu c.take-mcus.new.self.place) own c.take-mcus.ensures.at;
      longest = λ e. longest _ _ _ _ own c.take-mcus.ensures.mcu (t.1.none e);
    }

pub returns-clause-last : goal.returns-clause-last
returns-clause-last c = λ lt.
    let own : c.as_ref.result ≡ arc_value c.self.inside.interval = search rules in
    let t = c.take-mcus.ensures.some c.in-Some.from c.in-Some.is in
    longest _ _ _ _ own c.take-mcus.ensures.mcu (t.1.last (omega (arith, ap (λ (s : PlacedStripValue). s.mcus) c.of.ensures, lt)))
