-- The numbers that the bits of a lane represent, signed, through the operations on lanes.
use Rattle.std.proofs.Common.{◌≡◌, ℕ, ◌+◌, ◌-◌, ◌*◌, ◌%◌, ◌^◌, ◌<◌, ℤ, ◌+ℤ◌, ◌-ℤ◌, arith, sym, ◌∙◌, w16, w32, to_z, of_z, FitsSigned}
use mir.Syntax.{Width}
use mir.Val.{bits}
use Rattle.std.proofs.Math.IntN.{◌*ℤ◌}
use Rattle.std.proofs.Math.Nat.{mod-lt}
use Rattle.std.proofs.Math.Facts.{Fits-of_z, sfits_to_z}
use Rattle.std.proofs.lemmas.Int.{ints, to_z-of_z, int_wrap_fits, wrapping_add-bits, wrapping_sub-bits, wrapping_mul-bits}
use Rattle.std.specs.Int.{int_wrap}
use Rattle.std.specs.Int.Signed.{shr_z}
use Rattle.jr_idct.proofs.Passes.{shr_fits}

-- the bits m represent z
pub record Holds (w : Width) (m : ℕ) (z : ℤ) : Type 0 where
  pub fits : m < 2 ^ bits w
  pub reads : to_z w m ≡ z

pub holds_given : (w : Width) (z : ℤ) → FitsSigned w z → Holds w (of_z w z) z
holds_given w z f = record { fits = (Fits-of_z f).fits; reads = to_z-of_z w z f }

pub holds_fits : (w : Width) (m : ℕ) (z : ℤ) → Holds w m z → FitsSigned w z
holds_fits w m z h = rw (sym h.reads) (sfits_to_z (record { fits = h.fits }))

pub holds_wide : (m : ℕ) (z : ℤ) → Holds w16 m z → Holds w32 (of_z w32 (to_z w16 m)) z
holds_wide m z h =
    let s = holds_fits w16 m z h in
    let f : FitsSigned w32 z = omega (arith, ints, s) in
    rw h.reads (holds_given w32 z f)

module _ (m n : ℕ) (a b : ℤ) (h : Holds w32 m a) (g : Holds w32 n b) where
  pub holds_add : FitsSigned w32 (a +ℤ b) → Holds w32 ((m + n) % 4294967296) (a +ℤ b)
  holds_add f = record {
    fits = omega arith;
    reads = wrapping_add-bits w32 m n h.fits g.fits ∙ (λ i. int_wrap w32 (h.reads i +ℤ g.reads i)) ∙ int_wrap_fits w32 (a +ℤ b) f;
  }

  pub holds_sub : FitsSigned w32 (a -ℤ b) → Holds w32 ((m + (4294967296 - n)) % 4294967296) (a -ℤ b)
  holds_sub f = record {
    fits = omega arith;
    reads = wrapping_sub-bits w32 m n h.fits g.fits ∙ (λ i. int_wrap w32 (h.reads i -ℤ g.reads i)) ∙ int_wrap_fits w32 (a -ℤ b) f;
  }

  pub holds_mul : FitsSigned w32 (a *ℤ b) → Holds w32 ((m * n) % 4294967296) (a *ℤ b)
  holds_mul f = record {
    fits = mod-lt (m * n) (omega arith);
    reads = wrapping_mul-bits w32 m n h.fits g.fits ∙ (λ i. int_wrap w32 (h.reads i *ℤ g.reads i)) ∙ int_wrap_fits w32 (a *ℤ b) f;
  }

pub holds_shr : (m : ℕ) (a : ℤ) (d : ℕ) → Holds w32 m a → Holds w32 (of_z w32 (shr_z (to_z w32 m) d)) (shr_z a d)
holds_shr m a d h = rw h.reads (holds_given w32 (shr_z a d) (shr_fits a d (holds_fits w32 m a h)))
