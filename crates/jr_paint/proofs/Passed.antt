-- A product, and a difference of two, after the code's casts.
use Rattle.std.proofs.Common.{to_z, of_z, ◌≡◌, ap, ap₂, ◌-ℤ◌, ℤ, w32, FitsSigned}
use Rattle.std.proofs.Math.IntN.{◌*ℤ◌}
use Rattle.std.proofs.lemmas.Int.{to_z-of_z}

pub product_passed : (m r s : ℤ) → FitsSigned w32 r → FitsSigned w32 (m *ℤ r) → r ≡ s → to_z w32 (of_z w32 (m *ℤ to_z w32 (of_z w32 r))) ≡ m *ℤ s
product_passed m r s f g e = simp to_z-of_z (ap (λ x. m *ℤ x) e)

pub products_passed : (m n b r s t : ℤ) → FitsSigned w32 b → FitsSigned w32 r → FitsSigned w32 (m *ℤ b) → FitsSigned w32 (n *ℤ r) → FitsSigned w32 (m *ℤ b -ℤ n *ℤ r) → b ≡ s → r ≡ t
    → to_z w32 (of_z w32 (to_z w32 (of_z w32 (m *ℤ to_z w32 (of_z w32 b))) -ℤ to_z w32 (of_z w32 (n *ℤ to_z w32 (of_z w32 r))))) ≡ m *ℤ s -ℤ n *ℤ t
products_passed m n b r s t f g h i j d e = simp to_z-of_z (ap₂ (λ x y. m *ℤ x -ℤ n *ℤ y) d e)
