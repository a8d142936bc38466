-- The blocks of MCUs one after the other, each predicted by the last earlier one of its component (T.81, A.2.3 and
-- F.2.1.3.1), and what of the bits those of one MCU are.
use Rattle.std.specs.Prelude.{◌≡◌, ◌≢◌, ℕ, zero, suc, ◌*◌, ◌%◌, ◌<◌, Bool, List, [], ◌∷◌, ◌++◌, length, replicate, ℤ, pos, ◌==◌, if◌then◌else◌, slice_index_or}
use Rattle.std.specs.List.{flat_map}
use Rattle.jr_head.specs.HeadValue.{HeadValue}
use Rattle.jr_head.specs.Geometry.{order_of, dc_of, ac_of}
use Rattle.jr_mcu.specs.Block.{BlockAt}

-- the component of block n, if the blocks are counted starting at an MCU
abbrev pub component : HeadValue → ℕ → ℕ
component h n = slice_index_or (order_of h) (n % length (order_of h)) 0

abbrev pub block_of : List (List ℤ) → ℕ → List ℤ
block_of zs n = slice_index_or zs n []

-- the DC coefficient of the last block before block n that is of component c; if there is none, the prediction
-- with which c starts
abbrev pub prediction : HeadValue → List ℤ → List (List ℤ) → ℕ → ℕ → ℤ
prediction h start zs c zero = slice_index_or start c (pos 0)
prediction h start zs c (suc m) = if component h m == c then slice_index_or (block_of zs m) 0 (pos 0) else prediction h start zs c m

-- block n of zs has these bits
abbrev pub IsBlock : HeadValue → List ℤ → List (List ℤ) → ℕ → List Bool → Type 0
IsBlock h start zs n part = let c = component h n in BlockAt (dc_of h c) (ac_of h c) (prediction h start zs c n) (block_of zs n) part

abbrev pub all_bits : List (List Bool) → List Bool
all_bits parts = flat_map (λ part. part) parts

-- the bits are those of the blocks in order
pub record Blocks (h : HeadValue) (start : List ℤ) (zs : List (List ℤ)) (all : List Bool) : Type 0 where
  pub parts : List (List Bool)
  pub count : length parts ≡ length zs
  pub spelled : all ≡ all_bits parts
  pub each : (n : ℕ) → n < length zs → IsBlock h start zs n (slice_index_or parts n [])

-- the blocks of some MCUs
abbrev pub Mcus : HeadValue → List ℤ → ℕ → List (List ℤ) → List Bool → Type 0
Mcus h start k zs all = (length zs ≡ k * length (order_of h)) × Blocks h start zs all

-- at the start of an interval each component is predicted to be 0 (F.1.1.5.1)
abbrev pub no_predictions : List ℤ
no_predictions = replicate 3 (pos 0)

-- the prediction of each component after these blocks
abbrev pub predicted : HeadValue → List ℤ → List (List ℤ) → List ℤ
predicted h start zs = prediction h start zs 0 (length zs) ∷ prediction h start zs 1 (length zs) ∷ prediction h start zs 2 (length zs) ∷ []

-- old is the bits of the blocks of one MCU, with these predictions, followed by new
pub record TakesMcu (h : HeadValue) (start : List ℤ) (zs : List (List ℤ)) (old new : List Bool) : Type 0 where
  pub taken : List Bool
  pub mcu : Mcus h start 1 zs taken
  pub split : old ≡ taken ++ new

-- no whole MCU begins these bits
abbrev pub BeginsNoMcu : HeadValue → List ℤ → List Bool → Type 0
BeginsNoMcu h start old = (ys : List (List ℤ)) (taken rest : List Bool) → Mcus h start 1 ys taken → old ≢ taken ++ rest
