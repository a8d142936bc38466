-- One block: its bits, and the coefficients that they code (T.81, F.1.2 and F.2.2).
use Rattle.std.specs.Prelude.{◌≡◌, ℕ, ◌+◌, ◌-◌, ◌*◌, ◌<◌, ◌≤◌, Bool, List, [], ◌∷◌, ◌++◌, length, replicate, ◌⊎◌, ℤ, pos, neg_ℤ, ◌+ℤ◌, ◌≤ℤ◌, slice_index_or}
use Rattle.std.specs.List.{flat_map, AllByRecursion}
use Rattle.jr_code.specs.Bits.{value}
use Rattle.jr_code.specs.Code.{Table, IsWord}

-- what follows the DC coefficient: sixteen zeros by a code of F0, or a run of zeros and a value by the code of
-- their numbers and the number of additional bits that the size says
pub data AcCode : Type 0 where
  ZeroRun : List Bool → AcCode
  RunAndSize : ℕ → ℕ → List Bool → List Bool → AcCode

abbrev pub IsAcCode : Table → AcCode → Type 0
IsAcCode ac (ZeroRun word) = IsWord ac word 240
IsAcCode ac (RunAndSize run size word extra) = (run < 16) × (1 ≤ size) × (size ≤ 10) × IsWord ac word (16 * run + size) × (length extra ≡ size)

abbrev pub code_bits : AcCode → List Bool
code_bits (ZeroRun word) = word
code_bits (RunAndSize run size word extra) = word ++ extra

-- the coefficients of a code
abbrev pub entries : AcCode → List ℤ
entries (ZeroRun word) = replicate 16 (pos 0)
entries (RunAndSize run size word extra) = replicate run (pos 0) ++ value extra ∷ []

-- after items that have this many coefficients all 63 are there, or a code of 00 says that the others are 0
abbrev pub IsEnd : Table → ℕ → List Bool → Type 0
IsEnd ac places tail = ((places ≡ 63) × (tail ≡ [])) ⊎ ((places ≤ 62) × IsWord ac tail 0)

-- the bits after the DC coefficient, and the 63 other coefficients
pub record OthersAt (ac : Table) (others : List ℤ) (bits : List Bool) : Type 0 where
  pub items : List AcCode
  pub tail : List Bool
  pub each : AllByRecursion (IsAcCode ac) items
  pub end : IsEnd ac (length (flat_map entries items)) tail
  pub spelled : bits ≡ flat_map code_bits items ++ tail
  pub values : others ≡ flat_map entries items ++ replicate (63 - length (flat_map entries items)) (pos 0)

-- the bits of the DC coefficient: a code of a size of at most 11, and that number of additional bits for its difference from
-- the prediction
pub record DifferenceAt (dc : Table) (difference : ℤ) (bits : List Bool) : Type 0 where
  pub size : ℕ
  pub word : List Bool
  pub extra : List Bool
  pub is_word : IsWord dc word size
  pub small : size ≤ 11
  pub count : length extra ≡ size
  pub spelled : bits ≡ word ++ extra
  pub is : difference ≡ value extra

-- a block as it is coded: the difference of its DC coefficient, and the others
pub record CodedAt (dc ac : Table) (difference : ℤ) (others : List ℤ) (bits : List Bool) : Type 0 where
  pub first_bits : List Bool
  pub others_bits : List Bool
  pub is_first : DifferenceAt dc difference first_bits
  pub are_others : OthersAt ac others others_bits
  pub spelled : bits ≡ first_bits ++ others_bits

-- what a DC coefficient and its prediction can be: sixteen bits hold them
abbrev pub IsInDcRange : ℤ → Type 0
IsInDcRange z = (neg_ℤ (pos 32768) ≤ℤ z) × (z ≤ℤ pos 32767)

-- the range of the others: at most ten additional bits code them
abbrev pub IsInAcRange : ℤ → Type 0
IsInAcRange z = (neg_ℤ (pos 1023) ≤ℤ z) × (z ≤ℤ pos 1023)

-- the block z if the DC coefficient is predicted to be p, in zigzag order
pub record BlockAt (dc ac : Table) (p : ℤ) (z : List ℤ) (bits : List Bool) : Type 0 where
  pub difference : ℤ
  pub others : List ℤ
  pub coded : CodedAt dc ac difference others bits
  pub values : z ≡ (p +ℤ difference) ∷ others
  pub in_range : IsInDcRange (p +ℤ difference)

-- coefficients in the ranges that the inverse transform asks for
pub record IsInRange (z : List ℤ) : Type 0 where
  pub count : length z ≡ 64
  pub first : IsInDcRange (slice_index_or z 0 (pos 0))
  pub others : (k : ℕ) → 0 < k → k < 64 → IsInAcRange (slice_index_or z k (pos 0))
