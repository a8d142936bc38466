-- What the readers of parts of a block promise.
use Rattle.std.specs.Prelude.{◌≡◌, ℕ, Bool, List, ◌++◌, length, ℤ}
use Rattle.jr_code.specs.Bits.{value}
use Rattle.jr_code.specs.Code.{Table, IsWord}
use Rattle.jr_mcu.specs.Block.{AcCode, IsAcCode, code_bits, entries, OthersAt, DifferenceAt, BlockAt}

-- old is the additional bits of that value, followed by new
pub record TakesExtra (size : ℕ) (v : ℤ) (old new : List Bool) : Type 0 where
  pub bits : List Bool
  pub split : old ≡ bits ++ new
  pub count : length bits ≡ size
  pub is : v ≡ value bits

-- old is a code with these coefficients, followed by new
pub record TakesAcCode (ac : Table) (made : List ℤ) (old new : List Bool) : Type 0 where
  pub code : AcCode
  pub is : IsAcCode ac code
  pub returned : entries code ≡ made
  pub split : old ≡ code_bits code ++ new

-- old is a code of 00, and then new
pub record TakesEnd (ac : Table) (old new : List Bool) : Type 0 where
  pub word : List Bool
  pub is : IsWord ac word 0
  pub split : old ≡ word ++ new

-- no code and no end of a block begins these bits
pub record HasNoStep (ac : Table) (bits : List Bool) : Type 0 where
  pub no_end : (word rest : List Bool) → IsWord ac word 0 → bits ≡ word ++ rest → ⊥
  pub no_code : (code : AcCode) (rest : List Bool) → IsAcCode ac code → bits ≡ code_bits code ++ rest → ⊥

pub record TakesDifference (dc : Table) (difference : ℤ) (old new : List Bool) : Type 0 where
  pub bits : List Bool
  pub is : DifferenceAt dc difference bits
  pub split : old ≡ bits ++ new

abbrev pub HasNoDifference : Table → List Bool → Type 0
HasNoDifference dc old = (difference : ℤ) (bits rest : List Bool) → DifferenceAt dc difference bits → old ≡ bits ++ rest → ⊥

pub record TakesOthers (ac : Table) (others : List ℤ) (old new : List Bool) : Type 0 where
  pub bits : List Bool
  pub is : OthersAt ac others bits
  pub split : old ≡ bits ++ new

abbrev pub HasNoOthers : Table → List Bool → Type 0
HasNoOthers ac old = (others : List ℤ) (bits rest : List Bool) → OthersAt ac others bits → old ≡ bits ++ rest → ⊥

-- old is a block's bits, if its DC coefficient is predicted to be p, and then new
pub record TakesBlock (dc ac : Table) (p : ℤ) (z : List ℤ) (old new : List Bool) : Type 0 where
  pub bits : List Bool
  pub is : BlockAt dc ac p z bits
  pub split : old ≡ bits ++ new

-- no block with this prediction begins these bits
abbrev pub HasNoBlock : Table → Table → ℤ → List Bool → Type 0
HasNoBlock dc ac p old = (z : List ℤ) (bits rest : List Bool) → BlockAt dc ac p z bits → old ≡ bits ++ rest → ⊥
