-- Three numbers as a list.
use Rattle.std.proofs.Common.{◌≡◌, List, [], ◌∷◌, length, get_or, sym, ap, subst, ◌∙◌, w32, of_z, to_z, arith}
use Rattle.std.specs.Prelude.{ℤ, pos}
use Rattle.std.proofs.lemmas.Int.{ints, to_z-of_z}
use Rattle.jr_mcu.specs.Block.{IsInDcRange}
use Rattle.jr_scan.proofs.Runs.{three_places}

pub same_three : (ps : List ℤ) (x y z : ℤ) → length ps ≡ 3 → x ≡ get_or ps 0 (pos 0) → y ≡ get_or ps 1 (pos 0) → z ≡ get_or ps 2 (pos 0) → ◌≡◌ {A = List ℤ} (x ∷ y ∷ z ∷ []) ps
same_three ps x y z n a b c =
    ap (λ (k : ℤ). k ∷ y ∷ z ∷ []) a ∙ ap (λ (k : ℤ). get_or ps 0 (pos 0) ∷ k ∷ z ∷ []) b ∙ ap (λ (k : ℤ). get_or ps 0 (pos 0) ∷ get_or ps 1 (pos 0) ∷ k ∷ []) c ∙ sym (three_places ps n)

-- a number of sixteen bits, written and read back
pub written : (x : ℤ) → IsInDcRange x → to_z w32 (of_z w32 x) ≡ x
written x h = to_z-of_z w32 x (omega (arith, ints, h.0, h.1))

pub in_range_written : (x : ℤ) → IsInDcRange x → IsInDcRange (to_z w32 (of_z w32 x))
in_range_written x h = subst IsInDcRange (sym (written x h)) h
