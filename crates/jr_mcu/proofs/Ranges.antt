-- The coefficients of a block are in range.
use Rattle.std.proofs.Common.{◌≡◌, ℕ, zero, suc, ◌-◌, ◌<◌, Bool, List, [], ◌∷◌, ◌++◌, length, get_or, replicate, sym, ap, subst, length-append, arith, ◌∙◌, w16, w32}
use Rattle.std.specs.Prelude.{ℤ, pos, ◌+ℤ◌}
use Rattle.std.specs.List.{flat_map, AllByRecursion}
use Rattle.std.proofs.Math.ListN.{length-replicate}
use mir.Val.{SFits, to_z, of_z}
use Rattle.std.proofs.lemmas.Int.{ints, to_z-of_z}
use Rattle.jr_code.specs.Bits.{value}
use Rattle.jr_code.specs.Code.{Table, TakesExtended}
use Rattle.jr_mcu.specs.Block.{AcCode, IsAcCode, entries, DifferenceAt, OthersAt, CodedAt, BlockAt, IsInDcRange, IsInRange}
use Rattle.jr_mcu.specs.Block.AcCode.{ZeroRun, RunAndSize}
use Rattle.jr_code.proofs.ValueLemmas.{Within, within_zero, value_within}
use Rattle.jr_mcu.proofs.Rest.{end_within}

-- the value of additional bits fits into sixteen bits
pub extended_fits : (t : Table) (symbol : ℕ) (v : ℤ) (old new : List Bool) → TakesExtended t symbol v old new → SFits w16 v
extended_fits t symbol v old new e =
    let w : Within 32767 v = subst (Within 32767) (sym e.value_is) (value_within e.extra 15 32767 (omega (arith, e.count)) (omega arith)) in
    omega (arith, ints, w.0, w.1)

-- such a number is unchanged if it is cast from 32 bits to sixteen
pub cast_is : (v : ℤ) → SFits w16 v → to_z w16 (of_z w16 (to_z w32 (of_z w32 v))) ≡ v
cast_is v f =
    let g : SFits w32 v = omega (arith, ints, f) in
    ap (λ (q : ℤ). to_z w16 (of_z w16 q)) (to_z-of_z w32 v g) ∙ to_z-of_z w16 v f

pub cast_fits : (v : ℤ) → SFits w16 v → SFits w16 (to_z w32 (of_z w32 v))
cast_fits v f =
    let g : SFits w32 v = omega (arith, ints, f) in
    subst (SFits w16) (sym (to_z-of_z w32 v g)) f

within_append : (m : ℕ) (xs ys : List ℤ) → ((k : ℕ) → Within m (get_or xs k (pos 0))) → ((k : ℕ) → Within m (get_or ys k (pos 0))) → (k : ℕ) → Within m (get_or (xs ++ ys) k (pos 0))
within_append m [] ys hx hy k = hy k
within_append m (x ∷ xs) ys hx hy zero = hx 0
within_append m (x ∷ xs) ys hx hy (suc k) = within_append m xs ys (λ j. hx (suc j)) hy k

within_replicate : (m n k : ℕ) → Within m (get_or (replicate n (pos 0)) k (pos 0))
within_replicate m zero k = within_zero m
within_replicate m (suc n) zero = within_zero m
within_replicate m (suc n) (suc k) = within_replicate m n k

within_one : (m : ℕ) (x : ℤ) → Within m x → (k : ℕ) → Within m (get_or (x ∷ []) k (pos 0))
within_one m x h zero = h
within_one m x h (suc k) = within_zero m

entries_within : (ac : Table) (i : AcCode) → IsAcCode ac i → (k : ℕ) → Within 1023 (get_or (entries i) k (pos 0))
entries_within ac (ZeroRun w) h = within_replicate 1023 16
entries_within ac (RunAndSize r s w x) h = within_append 1023 (replicate r (pos 0)) (value x ∷ []) (within_replicate 1023 r) (within_one 1023 (value x) (value_within x 10 1023 (omega (arith, h.4, h.2)) (omega arith)))

all_within : (ac : Table) (items : List AcCode) → AllByRecursion (IsAcCode ac) items → (k : ℕ) → Within 1023 (get_or (flat_map entries items) k (pos 0))
all_within ac [] each k = within_zero 1023
all_within ac (i ∷ is) each k = within_append 1023 (entries i) (flat_map entries is) (entries_within ac i each.0) (all_within ac is each.1) k

others_within : (ac : Table) (others : List ℤ) (bits : List Bool) → OthersAt ac others bits → (k : ℕ) → Within 1023 (get_or others k (pos 0))
others_within ac others bits o k =
    subst (λ (zs : List ℤ). Within 1023 (get_or zs k (pos 0))) (sym o.values)
    (within_append 1023 (flat_map entries o.items) _ (all_within ac o.items o.each) (within_replicate 1023 (63 - length (flat_map entries o.items))) k)

others_count : (ac : Table) (others : List ℤ) (bits : List Bool) → OthersAt ac others bits → length others ≡ 63
others_count ac others bits o =
    let n = length (flat_map entries o.items) in
    let few = end_within ac n o.tail o.end in
    omega (arith, ap length o.values, length-append (flat_map entries o.items) (replicate (63 - n) (pos 0)), length-replicate (63 - n) (pos 0), few)

pub difference_within : (dc : Table) (d : ℤ) (bits : List Bool) → DifferenceAt dc d bits → Within 2047 d
difference_within dc d bits f = subst (Within 2047) (sym f.is) (value_within f.extra 11 2047 (omega (arith, f.count, f.small)) (omega arith))

-- the number of the other coefficients of a block as it is coded
pub coded_count : (dc ac : Table) (d : ℤ) (others : List ℤ) (bits : List Bool) → CodedAt dc ac d others bits → length others ≡ 63
coded_count dc ac d others bits c = others_count ac others c.others_bits c.are_others

pub block_in_range : (dc ac : Table) (p : ℤ) (z : List ℤ) (bits : List Bool) → BlockAt dc ac p z bits → IsInRange z
block_in_range dc ac p z bits b =
    let others : (k : ℕ) → Within 1023 (get_or b.others k (pos 0)) = others_within ac b.others b.coded.others_bits b.coded.are_others in
    let first : get_or z 0 (pos 0) ≡ p +ℤ b.difference = ap (λ (x : List ℤ). get_or x 0 (pos 0)) b.values in
    let rest : (k : ℕ) → 0 < k → Within 1023 (get_or z k (pos 0)) = λ k some. subst (λ (x : List ℤ). Within 1023 (get_or x k (pos 0))) (sym b.values) (after (p +ℤ b.difference) b.others others k some) in
    record {
      count = omega (arith, ap length b.values, coded_count dc ac b.difference b.others bits b.coded);
      first = subst IsInDcRange (sym first) b.in_range;
      others = λ k some lt. let w = rest k some in (omega (arith, ints, w.1), w.0);
    }
  where
    after : (x : ℤ) (xs : List ℤ) → ((k : ℕ) → Within 1023 (get_or xs k (pos 0))) → (k : ℕ) → 0 < k → Within 1023 (get_or (x ∷ xs) k (pos 0))
    after x xs h zero some = absurd (omega arith)
    after x xs h (suc k) some = h k
