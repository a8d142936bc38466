use Rattle.std.proofs.Common.{◌≡◌, ℕ, ◌<◌, ◌≤◌, Bool, false, not, List, length, refl, sym, ap, ◌∙◌, below_more, subst, inl, inr, arith}
use Rattle.std.proofs.lemmas.Bool.{cases_lt, false≢true}
use Rattle.std.proofs.lemmas.List.{get_or_past}
use denote.Enum.Bare.{sameb}
use Rattle.jr_picture.specs.DecodedScan.{DecodedScan, mark_at, mark_of}
use Rattle.jr_picture.specs.declared.mark.Mark.{Mark}
use Rattle.jr_picture.specs.contracts.mark.Mark.{the_type}
use Rattle.jr_picture.specs.declared.mark.Mark.TheVariants.{Blank, Sound, Damaged}
use Rattle.jr_wall.proofs.sweeping.is_left.Goals as goal

-- a mark that does not differ from Blank
blank_of : (m : Mark) (b : Bool) → b ≡ false → b ≡ not (sameb the_type m Blank) → m ≡ Blank
blank_of Blank b f e = refl
blank_of Sound b f e = absurd (false≢true (sym f ∙ e))
blank_of Damaged b f e = absurd (false≢true (sym f ∙ e))

-- past the last interval every mark is blank
all_left : (b : DecodedScan) (n i : ℕ) → length b.pieces ≤ i → ((k : ℕ) → n ≤ k → k < i → mark_at b k ≡ Blank) → (k : ℕ) → n ≤ k → mark_at b k ≡ Blank
all_left b n i end below k le = elim (cases_lt k i) [
  | inl lt ↦ below k le lt
  | inr ge ↦ ap mark_of (get_or_past b.pieces k _ (omega (arith, end, ge)))
]

pub loop-i-init : goal.loop-i-init
loop-i-init c k le lt = absurd (omega (arith, le, lt))

pub loop-i-preserved : goal.loop-i-preserved
loop-i-preserved c =
    let b = c.args.board.now in
    let here : mark_at b c.loop-i.i ≡ Blank = sym c.mark.ensures.at ∙ blank_of c.mark.result c.ne.result c.if-ne.false c.ne.ensures in
    λ k le lt. below_more (λ (j : ℕ). c.args.n ≤ j → mark_at b j ≡ Blank) c.loop-i.i (λ j less from. c.loop-i.invariant j from less) (λ _. here) k lt le

pub returns : goal.returns
returns c =
    let b = c.args.board.now in
    let same = c.is_of.ensures.0 c.if-not-is_of.false in
    let count = c.assert_invariant.ensures.places ∙ ap (λ (l : List (List ℕ)). length l) same.1 ∙ sym c.intervals-i-end.ensures.value in
    λ _. (same, all_left b c.args.n c.loop-i.i (subst (λ (n : ℕ). n ≤ c.loop-i.i) (sym count) c.loop-i-test.false) c.loop-i.invariant)
