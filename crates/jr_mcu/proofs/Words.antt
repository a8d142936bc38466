-- Codes of a code table, as the readers see them.
use Rattle.std.proofs.Common.{◌≡◌, ℕ, Bool, List, ◌++◌}
use Rattle.jr_code.specs.Code.{Table, IsWord}

-- if two codes begin the same bits, they are one code of one symbol
abbrev pub IsPrefixFree : Table → Type 0
IsPrefixFree t = (a b x y : List Bool) (s u : ℕ) → IsWord t a s → IsWord t b u → a ++ x ≡ b ++ y → (a ≡ b) × (s ≡ u)

-- the law of one code of jr_code
abbrev pub OneWord : Type 0
OneWord = (t : Table) → IsPrefixFree t

-- old is a code of the symbol, and then new
abbrev pub TakesWord : Table → List Bool → List Bool → ℕ → Type 0
TakesWord t old new symbol = (word : List Bool) × IsWord t word symbol × (old ≡ word ++ new)
