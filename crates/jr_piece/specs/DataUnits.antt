-- The data units of a piece, and in what it keeps their samples.
use Rattle.std.specs.Prelude.{◌≡◌, ℕ, ◌<◌, ◌≤◌, ⊤, List, [], ◌∷◌, length}
use Rattle.std.specs.List.{flat_map}
use Rattle.jr_piece.specs.declared.data_units.Held.{Held}
use Rattle.jr_piece.specs.declared.data_units.Held.TheVariants.{InList, InStrips}
use Rattle.jr_piece.specs.StripValue.{StripValue}
use Rattle.jr_piece.specs.Strips.{shared_strips}

-- the data units of strips, one strip after the other
abbrev pub units_of_strips : List StripValue → List (List ℕ)
units_of_strips strips = flat_map (λ s. s.samples) strips

-- each strip has the same number of data units, except the last, which may have fewer
abbrev pub AreEven : ℕ → List StripValue → Type 0
AreEven n [] = ⊤
AreEven n (s ∷ []) = length s.samples ≤ n
AreEven n (s ∷ (t ∷ more)) = (length s.samples ≡ n) × AreEven n (t ∷ more)

abbrev pub units_held : Held → List (List ℕ)
units_held (InList units) = units.items
units_held (InStrips strips each) = units_of_strips (shared_strips strips.items)

-- if strips hold them, data unit k is found by k / each and k % each
abbrev pub AreFound : Held → Type 0
AreFound (InList units) = ⊤
AreFound (InStrips strips each) = (0 < each) × AreEven each (shared_strips strips.items)
