-- Huffman tables: what a payload defines.
use Rattle.std.proofs.Common.{◌≡◌, ◌≢◌, ℕ, ◌<◌, ◌≤◌, Bool, true, false, eqb, List, [], ◌∷◌, ◌++◌, length, get_or, set, drop, Option, Some, None, refl, sym, ap, ◌∙◌, append_assoc, arith, get_or-set_other}
use Rattle.std.specs.Prelude.{map, if◌then◌else◌, ◌&&◌}
use Rattle.std.specs.Option.{option_map}
use Rattle.std.proofs.lemmas.List.{append-nil}
use Rattle.std.proofs.lemmas.Grind.{get_or-set_at}
use Rattle.std.proofs.lemmas.Bool.{eqb-true, eqb-false}
use Rattle.jr_code.specs.Code.{Table}
use Rattle.jr_segments.specs.Tables.{last_where}
use Rattle.jr_segments.specs.HuffmanTables.{HuffmanTable, huffman_table, huffman_tables, huffman_table_len, huffman_table_for, AreHuffmanTables}
use Rattle.jr_segments.proofs.TableLaws.{hd, tl, map_split, tables_none, last_push}

-- a table of another class leaves the entries unchanged
other_case : (now : List HuffmanTable) (places : List (Option Table)) (class : ℕ) (d : HuffmanTable) (th : ℕ) (b : Bool) → eqb d.class class ≡ b → d.class ≢ class → get_or places th None ≡ huffman_table_for now class th
    → get_or places th None ≡ option_map (λ (x : HuffmanTable). x.table) (if (b && eqb d.destination th) then Some d else last_where (λ (x : HuffmanTable). eqb x.class class && eqb x.destination th) now)
unfolding huffman_table_for
other_case now places class d th true e ne h = absurd (ne (eqb-true d.class class e))
other_case now places class d th false e ne h = h

other : (now : List HuffmanTable) (places : List (Option Table)) (class : ℕ) (d : HuffmanTable) → d.class ≢ class → AreHuffmanTables now class places → AreHuffmanTables (now ++ d ∷ []) class places
unfolding huffman_table_for
other now places class d ne h th =
    other_case now places class d th (eqb d.class class) refl ne (h th)
    ∙ ap (option_map (λ (x : HuffmanTable). x.table)) (sym (last_push (λ (x : HuffmanTable). eqb x.class class && eqb x.destination th) now d))

store_case : (now : List HuffmanTable) (places : List (Option Table)) (class : ℕ) (d : HuffmanTable) (th : ℕ) (b c : Bool) → eqb d.class class ≡ b → eqb d.destination th ≡ c → d.class ≡ class
    → length places ≡ 4 → d.destination < 4 → get_or places th None ≡ huffman_table_for now class th
    → get_or (set places d.destination (Some d.table)) th None ≡ option_map (λ (x : HuffmanTable). x.table) (if (b && c) then Some d else last_where (λ (x : HuffmanTable). eqb x.class class && eqb x.destination th) now)
unfolding huffman_table_for
store_case now places class d th false c e f is four fits h = absurd (eqb-false d.class class e is)
store_case now places class d th true true e f is four fits h =
    let k : th ≡ d.destination = sym (eqb-true d.destination th f) in
    get_or-set_at places d.destination th (Some d.table) None k (omega arith)
store_case now places class d th true false e f is four fits h =
    let k : th ≢ d.destination = λ q. eqb-false d.destination th f (sym q) in
    get_or-set_other places d.destination th (Some d.table) None k ∙ h

store : (now : List HuffmanTable) (places : List (Option Table)) (class : ℕ) (d : HuffmanTable) → d.class ≡ class → length places ≡ 4 → d.destination < 4 → AreHuffmanTables now class places
    → AreHuffmanTables (now ++ d ∷ []) class (set places d.destination (Some d.table))
unfolding huffman_table_for
store now places class d is four fits h th =
    store_case now places class d th (eqb d.class class) (eqb d.destination th) refl refl is four fits (h th)
    ∙ ap (option_map (λ (x : HuffmanTable). x.table)) (sym (last_push (λ (x : HuffmanTable). eqb x.class class && eqb x.destination th) now d))

-- what was defined, and what is still to be defined, are all
abbrev pub Defined : List HuffmanTable → ℕ → List (Option Table) → List ℕ → Type 0
Defined all class places s = (now : List HuffmanTable) × AreHuffmanTables now class places × (now ++ huffman_tables s ≡ all)

moved : (s after : List ℕ) (now all : List HuffmanTable) → 1 ≤ length s → after ≡ drop (huffman_table_len (tl s)) (tl s) → now ++ huffman_tables s ≡ all → (now ++ huffman_table (hd s, tl s) ∷ []) ++ huffman_tables after ≡ all
unfolding huffman_tables
moved s after now all h e k =
    let x = huffman_table (hd s, tl s) in
    let split : huffman_tables s ≡ x ∷ huffman_tables after = map_split (λ _ p. huffman_table_len p) huffman_table s after h e in
    append_assoc now (x ∷ []) (huffman_tables after) ∙ ap (λ (t : List HuffmanTable). now ++ t) (sym split) ∙ k

pub defined_here : (s after : List ℕ) (places : List (Option Table)) (class i : ℕ) (x : HuffmanTable) (all : List HuffmanTable) → 1 ≤ length s → length places ≡ 4
    → x.class ≡ class → i ≡ x.destination → x.destination < 4 → x ≡ huffman_table (hd s, tl s) → after ≡ drop (huffman_table_len (tl s)) (tl s) → Defined all class places s → Defined all class (set places i (Some x.table)) after
defined_here s after places class i x all h four of_class at fits is e d =
    (d.0 ++ x ∷ [], rw at (store d.0 places class x of_class four fits d.1), rw is (moved s after d.0 all h e d.2))

pub defined_there : (s after : List ℕ) (places : List (Option Table)) (class : ℕ) (x : HuffmanTable) (all : List HuffmanTable) → 1 ≤ length s
    → x.class ≢ class → x ≡ huffman_table (hd s, tl s) → after ≡ drop (huffman_table_len (tl s)) (tl s) → Defined all class places s → Defined all class places after
defined_there s after places class x all h ne is e d =
    (d.0 ++ x ∷ [], other d.0 places class x ne d.1, rw is (moved s after d.0 all h e d.2))

pub defined_all : (s : List ℕ) (places : List (Option Table)) (class : ℕ) (all : List HuffmanTable) → length s < 1 → Defined all class places s → AreHuffmanTables all class places
unfolding huffman_tables
defined_all s places class all h d =
    let none : huffman_tables s ≡ [] = ap (map huffman_table) (tables_none (λ _ p. huffman_table_len p) s h) in
    let e : all ≡ d.0 = sym d.2 ∙ ap (λ (t : List HuffmanTable). d.0 ++ t) none ∙ append-nil d.0 in
    rw e d.1

pub zero_is_one : ◌≡◌ {A = ℕ} 0 1 → ⊥
zero_is_one e = omega (arith, e)

pub one_left : (n : ℕ) → n < 2 → n ≢ 0 → n ≡ 1
one_left n lt ne = omega (arith, lt, ne)
