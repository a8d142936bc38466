-- Lists whose first entries are written.
use Rattle.std.specs.Prelude.{List, ◌++◌, length, take, drop}

-- these items are the first entries of a list, as many of them as it has; the entries after them are unchanged
abbrev pub listed_over : {A : Type 0} → (items old : List A) → List A
listed_over items old = take (length old) items ++ drop (length items) old
