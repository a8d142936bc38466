-- Colours in fixed point (JFIF 1.02, "Conversion to and from RGB"): R = Y + 1.402 (Cr - 128),
-- G = Y - 0.34414 (Cb - 128) - 0.71414 (Cr - 128) and B = Y + 1.772 (Cb - 128), with factors over 65536.
use Rattle.std.specs.Prelude.{ℕ, ◌*◌, ◌<◌, min, ℤ, pos, negsuc, neg_ℤ, ◌+ℤ◌, ◌-ℤ◌, List, [], ◌∷◌}
use Rattle.std.proofs.Math.IntN.{◌*ℤ◌}
pub use Rattle.jr_base.specs.Numbers.{IsWithin, floor_div, byte_of}
use Rattle.jr_segments.specs.declared.kind.Kind.{Kind}
use Rattle.jr_segments.specs.declared.kind.Kind.TheVariants.{Grey, Rgb, Ycc}

-- how far a chroma sample is from the middle
abbrev pub off : ℕ → ℤ
off c = pos c -ℤ pos 128

-- y and the weighted sum over 65536, rounded
abbrev pub shade : ℕ → ℤ → ℕ
shade y weighted = byte_of (pos y +ℤ floor_div (weighted +ℤ pos 32768) 65536)

abbrev pub red_of : ℕ → ℕ → ℕ → ℕ
red_of y cb cr = shade y (pos 91881 *ℤ off cr)

abbrev pub green_of : ℕ → ℕ → ℕ → ℕ
green_of y cb cr = shade y (neg_ℤ (pos 22554) *ℤ off cb -ℤ pos 46802 *ℤ off cr)

abbrev pub blue_of : ℕ → ℕ → ℕ → ℕ
blue_of y cb cr = shade y (pos 116130 *ℤ off cb)

-- red, green and blue
abbrev pub colour_of : Kind → ℕ → ℕ → ℕ → List ℕ
colour_of Grey a b c = a ∷ a ∷ a ∷ []
colour_of Rgb a b c = a ∷ b ∷ c ∷ []
colour_of Ycc a b c = red_of a b c ∷ green_of a b c ∷ blue_of a b c ∷ []

-- the nearest number from 0 to 255, all times 100000
abbrev pub clamped_exact : ℤ → ℕ
clamped_exact (pos n) = min n 25500000
clamped_exact (negsuc n) = 0

-- JFIF's R, G and B with its decimal factors, times 100000 and clamped
abbrev pub exact_red : ℕ → ℕ → ℕ → ℕ
exact_red y cb cr = clamped_exact (pos (100000 * y) +ℤ pos 140200 *ℤ off cr)

abbrev pub exact_green : ℕ → ℕ → ℕ → ℕ
exact_green y cb cr = clamped_exact (pos (100000 * y) +ℤ (neg_ℤ (pos 34414) *ℤ off cb -ℤ pos 71414 *ℤ off cr))

abbrev pub exact_blue : ℕ → ℕ → ℕ → ℕ
exact_blue y cb cr = clamped_exact (pos (100000 * y) +ℤ pos 177200 *ℤ off cb)

-- Red is within 0.498 of the exact one and blue within 0.5, so no number is nearer to these. Green is within 0.50054.
abbrev pub ColoursAreNear : Type 0
ColoursAreNear = (y cb cr : ℕ) → cb < 256 → cr < 256
    → IsWithin 49800 (pos (100000 * red_of y cb cr) -ℤ pos (exact_red y cb cr))
    × IsWithin 50054 (pos (100000 * green_of y cb cr) -ℤ pos (exact_green y cb cr))
    × IsWithin 50000 (pos (100000 * blue_of y cb cr) -ℤ pos (exact_blue y cb cr))
