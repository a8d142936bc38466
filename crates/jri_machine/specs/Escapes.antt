-- A name as the text of a JSON string, from which it comes back.
use Rattle.std.specs.Prelude.{◌≡◌, ◌≢◌, ℕ, ◌+◌, ◌/◌, ◌%◌, ◌<◌, ◌≤◌, List, [], ◌∷◌, map, nat_lt, if◌then◌else◌}
use Rattle.std.specs.List.{flat_map, AllByRecursion}

-- a byte as it is, or by its number
pub data NamePart : Type 0 where
  Plain : ℕ → NamePart
  Number : ℕ → NamePart

-- a digit to base 16: 0 to 9, a to f
abbrev pub digit_of : ℕ → ℕ
digit_of n = if nat_lt n 10 then 48 + n else 87 + n

-- the first digits: 00 for a byte of ASCII, dc for another, which is not UTF-8
abbrev pub first_of : ℕ → ℕ
first_of b = if nat_lt b 128 then 48 else 100

abbrev pub second_of : ℕ → ℕ
second_of b = if nat_lt b 128 then 48 else 99

-- A byte that a JSON string may have as it is: no control, quotation mark or backslash (RFC 8259, section 7); nor DEL, which terminals act on.
pub record IsPlainByte (b : ℕ) : Type 0 where
  pub printable : 32 ≤ b
  pub no_quote : b ≢ 34
  pub no_backslash : b ≢ 92
  pub no_delete : b ≢ 127

-- all other bytes are written by their numbers alone
abbrev pub IsNamePart : NamePart → Type 0
IsNamePart (Plain b) = IsPlainByte b
IsNamePart (Number b) = b < 256

-- \u and four digits
abbrev pub spelt : NamePart → List ℕ
spelt (Plain b) = b ∷ []
spelt (Number b) = 92 ∷ 117 ∷ first_of b ∷ second_of b ∷ digit_of (b / 16) ∷ digit_of (b % 16) ∷ []

abbrev pub byte_spelt : NamePart → ℕ
byte_spelt (Plain b) = b
byte_spelt (Number b) = b

-- the text spells the bytes of the name, one after the other
pub record IsEscaped (text name : List ℕ) : Type 0 where
  pub parts : List NamePart
  pub each : AllByRecursion IsNamePart parts
  pub spelled : text ≡ flat_map spelt parts
  pub means : name ≡ map byte_spelt parts
