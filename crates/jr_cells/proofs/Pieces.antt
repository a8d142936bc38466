-- What a sight of the cells of pieces knows, by its notes.
use Rattle.std.proofs.Common.{◌≡◌, ◌≢◌, ℕ, Bool, List, Some, None, Ok, Err, Result, IfOk, cond, length, replicate, sym, refl, ap, ◌∙◌}
use Rattle.std.specs.declared.sync.Arc.{Arc}
use Rattle.std.specs.Arc.{arc_value}
use Rattle.std.specs.declared.alloc.Global.{Global}
use Rattle.std.proofs.lemmas.Bool.{eq-eqb, ne_eqb}
use Rattle.jr_piece.specs.PieceValue.{PieceValue}
use Rattle.jr_cells.specs.SightValue.{SightValue}
use Rattle.jr_cells.specs.Notes.{names_of, known_of, KnowAt, KnowNothingAt, KeepAll, KeepOthers, NotesAgree, counted}
use Rattle.jr_cells.specs.Sights.{CellNote, piece_in_cell, pieces_of, Knows, KnowsNothing, KnowsAll, Agree}
use Rattle.jr_cells.proofs.Noted.{length-known, length-names, as_many}
use Rattle.jr_cells.proofs.Counted.{there, counts_there, later, agreed, fresh, unseen}

abbrev pub seen : List CellNote → SightValue
seen ns = record { cells = names_of ns; pieces = pieces_of ns }

empty : (i : ℕ) → piece_in_cell i None ≡ None
empty i = refl

pub knows_all : (old new : List CellNote) → KeepAll old new → KnowsAll (seen old) (seen new)
knows_all old new keep = later piece_in_cell empty (known_of old) (known_of new) keep

pub agree : (one two : List CellNote) → NotesAgree one two → Agree (seen one) (seen two)
agree one two same = agreed piece_in_cell empty (known_of one) (known_of two) same

pub fresh_pieces : (ns : List CellNote) (n : ℕ) → known_of ns ≡ replicate n None → pieces_of ns ≡ replicate n None
fresh_pieces ns n e = ap (λ ks. counted piece_in_cell 0 ks) e ∙ fresh piece_in_cell empty 0 n

counts_here : (i : ℕ) (p : Arc PieceValue Global) → (arc_value p).interval.number ≡ i → piece_in_cell i (Some p) ≡ Some (arc_value p)
counts_here i p e = ap (λ (b : Bool). cond b (Some (arc_value p)) None) (eq-eqb (arc_value p).interval.number i e)

counts_not : (i : ℕ) (p : Arc PieceValue Global) → (arc_value p).interval.number ≢ i → piece_in_cell i (Some p) ≡ None
counts_not i p e = ap (λ (b : Bool). cond b (Some (arc_value p)) None) (ne_eqb (arc_value p).interval.number i e)

-- a piece of the cell's number that notes know is known
pub known_piece : (ns : List CellNote) (i : ℕ) (p : Arc PieceValue Global) → KnowAt ns i p → (arc_value p).interval.number ≡ i → Knows (seen ns) i (arc_value p)
known_piece ns i p k e = counts_there piece_in_cell empty (known_of ns) i p (arc_value p) k (counts_here i p e)

-- the sight after a look that found nothing
pub missed_piece : (old new : List CellNote) (i : ℕ) → names_of new ≡ names_of old → (known_of new ≡ known_of old) × KnowNothingAt old i → (seen new ≡ seen old) × KnowsNothing (seen old) i
missed_piece old new i names m = (λ j. record { cells = names j; pieces = counted piece_in_cell 0 (m.0 j) }, there piece_in_cell empty (known_of old) i ∙ ap (piece_in_cell i) m.1)

-- the sight after a look that found a piece of another number
pub strange_piece : (old new : List CellNote) (i : ℕ) (p : Arc PieceValue Global) → names_of new ≡ names_of old → KeepAll old new → KeepOthers i old new → KnowAt new i p → (arc_value p).interval.number ≢ i → (seen new ≡ seen old) × KnowsNothing (seen old) i
strange_piece old new i p names keep others k e =
    let long : length (known_of new) ≡ length (known_of old) = length-known new ∙ as_many new (names_of old) names ∙ length-names old ∙ sym (length-known old) in
    let s = unseen piece_in_cell empty (known_of old) (known_of new) i p long keep others k (counts_not i p e) in
    (λ j. record { cells = names j; pieces = s.0 j }, s.1)

-- a piece of the cell's number that was published (`hang`) is known
pub hung : {E : Type 0} (ns : List CellNote) (i : ℕ) (p : Arc PieceValue Global) (r : Result (Unit {0}) E) → (arc_value p).interval.number ≡ i → IfOk r (λ _. KnowAt ns i p) → IfOk r (λ _. Knows (seen ns) i (arc_value p))
hung ns i p (Ok u) e k = known_piece ns i p k e
hung ns i p (Err x) e k = tt
