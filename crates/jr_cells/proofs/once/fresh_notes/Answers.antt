use Rattle.std.proofs.Common.{rules, arith, sym, ap, map, take, take_all, replicate, get_or, length, ◌≡◌, ◌+◌, ◌<◌, ◌≤◌, ◌++◌, ◌∷◌, [], ◌∙◌, ℕ, List, Option, None}
use Rattle.std.proofs.lemmas.List.{map_push, take_more, replicate_more}
use Rattle.std.specs.declared.alloc.Global.{Global}
use Rattle.once_cell.specs.declared.race.note.Note.{Note}
use Rattle.once_cell.specs.Once.{cell_name}
use Rattle.jr_cells.specs.Notes.{names_of, known_of}
use Rattle.jr_cells.proofs.once.fresh_notes.Goals as goal

-- one more note is appended, of the next cell
names_more : {X : Type 0} {new : List (Note X)} (ns : List (Note X)) (n : Note X) (cs : List (Global × ℕ)) (i : ℕ) (c : Global × ℕ) → new ≡ ns ++ n ∷ [] → i < length cs → c ≡ get_or cs i c → names_of ns ≡ map cell_name (take i cs)
    → n.cell ≡ cell_name c → names_of new ≡ map cell_name (take (i + 1) cs)
names_more ns n cs i c pushed lt at names is =
    let before : names_of (ns ++ n ∷ []) ≡ names_of ns ++ cell_name c ∷ [] = map_push (λ m. m.cell) ns n ∙ ap (λ k. names_of ns ++ k ∷ []) is in
    let after : map cell_name (take (i + 1) cs) ≡ map cell_name (take i cs) ++ cell_name c ∷ []
    = ap (map cell_name) (take_more cs i c lt) ∙ map_push cell_name (take i cs) (get_or cs i c) ∙ ap (λ d. map cell_name (take i cs) ++ cell_name d ∷ []) (sym at) in
    ap names_of pushed ∙ before ∙ ap (λ ks. ks ++ cell_name c ∷ []) names ∙ sym after

-- one more note that knows nothing is appended
known_more : {X : Type 0} {new : List (Note X)} (ns : List (Note X)) (n : Note X) (i : ℕ) → new ≡ ns ++ n ∷ [] → known_of ns ≡ replicate i None → n.known ≡ None → known_of new ≡ replicate (i + 1) None
known_more {X} ns n i pushed known is =
    ap known_of pushed ∙ map_push (λ m. m.known) ns n ∙ ap (λ k. known_of ns ++ k ∷ []) is ∙ ap (λ (ks : List (Option X)). ks ++ None ∷ []) known ∙ replicate_more i None

pub loop-cell-preserved : goal.loop-cell-preserved
loop-cell-preserved g c =
    let names = names_more c.loop-cell.notes.items _ c.args.cells.now c.loop-cell.cell-index c.cell-item.result c.in_ok-push.ensures.items c.loop-cell-test.true c.cell-item.is c.loop-cell.invariant.cells in
    let known = known_more c.loop-cell.notes.items _ c.loop-cell.cell-index c.in_ok-push.ensures.items c.loop-cell.invariant.nothing in
    record { cells = search (rules, names); nothing = search (rules, known) }

pub returns-clause-cells : goal.returns-clause-cells
returns-clause-cells g c =
    let end : length c.args.cells.now ≤ c.loop-cell.cell-index = omega arith in
    search (rules, c.loop-cell.invariant.cells ∙ ap (map cell_name) (take_all c.loop-cell.cell-index c.args.cells.now end))
