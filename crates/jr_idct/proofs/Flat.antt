-- A block that is only its DC coefficient: all of its samples are equal.
use Rattle.std.proofs.Common.{arith, ◌≡◌, ℕ, ◌+◌, ◌*◌, ◌<◌, pos, ◌+ℤ◌, ℤ, List, ap, ◌∙◌, sym}
use Rattle.std.proofs.Math.IntN.{◌*ℤ◌}
use Rattle.std.proofs.lemmas.Int.{ints}
use Rattle.std.specs.Prelude.{slice_index}
use Rattle.jr_idct.specs.Matrix.{at, descale, pass, floor_div}
use Rattle.jr_idct.specs.Transform.{byte_of, product_at, column_pass, sample, zigzag_place}
use Rattle.jr_idct.proofs.FloorLaws.{floor_below, floor_above, floor_is}
use Rattle.jr_idct.proofs.Passes.{zero_pass}
use Rattle.jr_idct.proofs.Tables.{place_below, place_positive, zigzag_place_0}

four_times : (x : ℤ) → descale 11 (pos 8192 *ℤ x) ≡ pos 4 *ℤ x
four_times x = sym (floor_is (pos 8192 *ℤ x +ℤ pos 1024) (pos 4 *ℤ x) 2048 (omega arith) (omega (arith, ints)) (omega (arith, ints)))

eighth : (x : ℤ) → descale 18 (pos 8192 *ℤ (pos 4 *ℤ x)) ≡ floor_div (x +ℤ pos 4) 8
eighth x =
    let q = floor_div (x +ℤ pos 4) 8 in
    let l = floor_below (x +ℤ pos 4) 8 (omega arith) in
    let h = floor_above (x +ℤ pos 4) 8 (omega arith) in
    sym (floor_is (pos 8192 *ℤ (pos 4 *ℤ x) +ℤ pos 131072) q 262144 (omega arith) (omega (arith, ints, l)) (omega (arith, ints, h)))

module _ (v : ℕ → ℤ) (zeros : (k : ℕ) → 0 < k → k < 64 → v k ≡ pos 0) where
  flat_column : (c r : ℕ) → c < 8 → r < 8 → column_pass v c r ≡ pos 4 *ℤ v c
  flat_column c r h g =
      zero_pass 11 (λ k. v (8 * k + c)) (λ k p b. zeros (8 * k + c) (omega arith) (omega arith)) r g
      ∙ four_times (v (8 * 0 + c))
      ∙ ap (λ k. pos 4 *ℤ v k) (omega arith)

  zero_column : (r c : ℕ) → r < 8 → 0 < c → c < 8 → column_pass v c r ≡ pos 0
  zero_column r c g p h = let z = zeros c p (omega arith) in flat_column c r h g ∙ omega (arith, ints, z)

  flat : (r c : ℕ) → r < 8 → c < 8 → pass 18 (λ k. column_pass v k r) c ≡ floor_div (v 0 +ℤ pos 4) 8
  flat r c h g =
      zero_pass 18 (λ k. column_pass v k r) (λ k p b. zero_column r k h p b) c g
      ∙ ap (λ x. descale 18 (pos 8192 *ℤ x)) (flat_column 0 r (omega arith) h)
      ∙ eighth (v 0)

pub nothing : (b : ℕ) → pos 0 *ℤ pos b ≡ pos 0
nothing b = omega (arith, ints)

-- the sample of such a block
pub flat_is : (z : List ℤ) (q : List ℕ) → ((k : ℕ) → 0 < k → k < 64 → at z k ≡ pos 0) → (r c : ℕ) → r < 8 → c < 8
    → byte_of (floor_div (at z 0 *ℤ pos (slice_index q 0) +ℤ pos 4) 8 +ℤ pos 128) ≡ sample z q r c
flat_is z q zeros r c h g =
    let v : ℕ → ℤ = product_at z q in
    let zs : (k : ℕ) → 0 < k → k < 64 → v k ≡ pos 0 =
    λ k p b. ap (λ x. x *ℤ pos (slice_index q (zigzag_place k))) (zeros (zigzag_place k) (place_positive k p b) (place_below k b)) ∙ nothing (slice_index q (zigzag_place k)) in
    let top : v 0 ≡ at z 0 *ℤ pos (slice_index q 0) = ap (λ n. at z n *ℤ pos (slice_index q n)) zigzag_place_0 in
    sym (ap (λ x. byte_of (x +ℤ pos 128)) (flat v zs r c h g ∙ ap (λ x. floor_div (x +ℤ pos 4) 8) top))
