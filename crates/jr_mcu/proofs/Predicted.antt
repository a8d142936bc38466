-- A block from its difference, its prediction and the others.
use Rattle.std.proofs.Common.{◌≡◌, Bool, List, ◌∷◌, ◌++◌, refl, sym, ap, subst, ◌∙◌, append_assoc, arith}
use Rattle.std.specs.Prelude.{ℤ, ◌+ℤ◌}
use Rattle.std.proofs.Common.{w32}
use mir.Val.{SFits}
use Rattle.std.proofs.lemmas.Int.{ints}
use Rattle.std.proofs.lemmas.List.{append_cancel_left}
use Rattle.jr_code.specs.Code.{Table}
use Rattle.jr_mcu.specs.Block.{BlockAt, IsInDcRange}
use Rattle.jr_mcu.specs.Step.{TakesDifference, HasNoDifference, TakesOthers, HasNoOthers, TakesBlock, HasNoBlock}
use Rattle.jr_mcu.proofs.Words.{IsPrefixFree}
use Rattle.jr_mcu.proofs.Coded.{same_difference}

pub takes_block : (dc ac : Table) (p d first : ℤ) (others : List ℤ) (old mid new : List Bool) → TakesDifference dc d old mid → first ≡ p +ℤ d → IsInDcRange first → TakesOthers ac others mid new → TakesBlock dc ac p (first ∷ others) old new
takes_block dc ac p d first others old mid new f is within o = record {
  bits = f.bits ++ o.bits;
  is = record {
    difference = d;
    others = others;
    coded = record { first_bits = f.bits; others_bits = o.bits; is_first = f.is; are_others = o.is; spelled = refl };
    values = ap (λ (x : ℤ). x ∷ others) is;
    in_range = subst IsInDcRange is within;
  };
  split = f.split ∙ ap (λ (x : List Bool). f.bits ++ x) o.split ∙ sym (append_assoc f.bits o.bits new);
}

-- a block's bits are those of its difference, and then those of the others
after_first : (dc ac : Table) (p : ℤ) (z : List ℤ) (old bits rest : List Bool) (b : BlockAt dc ac p z bits) → old ≡ bits ++ rest → old ≡ b.coded.first_bits ++ (b.coded.others_bits ++ rest)
after_first dc ac p z old bits rest b e = let c = b.coded in e ∙ ap (λ (x : List Bool). x ++ rest) c.spelled ∙ append_assoc c.first_bits c.others_bits rest

pub no_block_first : (dc : Table) (p : ℤ) (old : List Bool) → HasNoDifference dc old → (ac : Table) → HasNoBlock dc ac p old
no_block_first dc p old none ac z bits rest b e = let c = b.coded in none b.difference c.first_bits (c.others_bits ++ rest) c.is_first (after_first dc ac p z old bits rest b e)

-- if a difference is read, a block that the bits begin with has it, and continues after it
begins : (dc ac : Table) → IsPrefixFree dc → (p d : ℤ) (z : List ℤ) (old mid bits rest : List Bool) → TakesDifference dc d old mid → (b : BlockAt dc ac p z bits) → old ≡ bits ++ rest
    → (d ≡ b.difference) × (mid ≡ b.coded.others_bits ++ rest)
begins dc ac free p d z old mid bits rest f b e =
    let c = b.coded in
    let whole : f.bits ++ mid ≡ c.first_bits ++ (c.others_bits ++ rest) = sym f.split ∙ after_first dc ac p z old bits rest b e in
    let s = same_difference dc free d b.difference f.bits c.first_bits mid (c.others_bits ++ rest) f.is c.is_first whole in
    (s.1, append_cancel_left c.first_bits _ _ (subst (λ (q : List Bool). q ++ mid ≡ c.first_bits ++ (c.others_bits ++ rest)) s.0 whole))

pub no_block_far : (dc : Table) → IsPrefixFree dc → (p d : ℤ) (old mid : List Bool) → TakesDifference dc d old mid → (IsInDcRange (p +ℤ d) → ⊥) → (ac : Table) → HasNoBlock dc ac p old
no_block_far dc free p d old mid f far ac z bits rest b e =
    let s = begins dc ac free p d z old mid bits rest f b e in
    far (subst (λ (x : ℤ). IsInDcRange (p +ℤ x)) (sym s.0) b.in_range)

pub no_block_others : (dc ac : Table) → IsPrefixFree dc → (p d : ℤ) (old mid : List Bool) → TakesDifference dc d old mid → HasNoOthers ac mid → HasNoBlock dc ac p old
no_block_others dc ac free p d old mid f none z bits rest b e =
    let s = begins dc ac free p d z old mid bits rest f b e in
    none b.others b.coded.others_bits rest b.coded.are_others s.1

pub kept_fits : (p : ℤ) → IsInDcRange p → SFits w32 p
kept_fits p within = let low = within.0 in let high = within.1 in grind (arith, ints)
