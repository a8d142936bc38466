-- Huffman tables (T.81, B.2.4.2).
use Rattle.std.specs.Prelude.{◌≡◌, ◌&&◌, slice_index_or, Option, None, ℕ, ◌+◌, ◌||◌, ◌==◌, nat_lt, List, [], ◌∷◌, ◌++◌, length, map, take, drop, sum}
use Rattle.std.specs.List.{flat_map}
use Rattle.std.specs.Option.{option_map}
use Rattle.jr_code.specs.Code.{Table, space, lengths}
use Rattle.jr_base.specs.declared.marker.TheConstants.{DHT}
pub use Rattle.jr_segments.specs.declared.huffman_table.HuffmanTable.{HuffmanTable}
use Rattle.jr_segments.specs.declared.refusal.Refusal.TheVariants.{BadCodeTable, BadLength}
use Rattle.jr_segments.specs.Bytes.{high, low}
use Rattle.jr_segments.specs.Tests.{Test, ◌when◌}
use Rattle.jr_segments.specs.Tables.{tables, last_where}

-- the sixteen counts and the symbols
abbrev pub huffman_table_len : List ℕ → ℕ
huffman_table_len p = 16 + sum (take 16 p)

abbrev pub huffman_table : ℕ × List ℕ → HuffmanTable
huffman_table t = record { class = high t.0; destination = low t.0; table = record { counts = take 16 t.1; symbols = take (sum (take 16 t.1)) (drop 16 t.1) } }

unfoldable pub huffman_tables : List ℕ → List HuffmanTable
huffman_tables payload = map huffman_table (tables (λ _ p. huffman_table_len p) payload)

unfoldable pub huffman_table_tests : ℕ × List ℕ → List Test
huffman_table_tests t =
    (BadCodeTable when (nat_lt 1 (high t.0) || nat_lt 3 (low t.0)))
    ∷ (BadLength DHT when nat_lt (length t.1) 16)
    ∷ (BadCodeTable when nat_lt 256 (sum (take 16 t.1)))
    ∷ (BadLength DHT when nat_lt (length t.1) (huffman_table_len t.1))
    ∷ (BadCodeTable when nat_lt 65536 (space (lengths (take 16 t.1))))
    ∷ []

unfoldable pub huffman_tables_tests : List ℕ → List Test
huffman_tables_tests payload = flat_map huffman_table_tests (tables (λ _ p. huffman_table_len p) payload)

-- the one in force: the last definition of the class and destination
unfoldable pub huffman_table_for : List HuffmanTable → ℕ → ℕ → Option Table
huffman_table_for all class th = option_map (λ d. d.table) (last_where (λ d. d.class == class && d.destination == th) all)

-- the entries of a class hold those in force
abbrev pub AreHuffmanTables : List HuffmanTable → ℕ → List (Option Table) → Type 0
AreHuffmanTables all class places = (th : ℕ) → slice_index_or places th None ≡ huffman_table_for all class th

-- the entries of a class hold those in force, also with what a payload defines
abbrev pub DefinesHuffmanTables : List ℕ → ℕ → List (Option Table) → List (Option Table) → Type 0
DefinesHuffmanTables payload class old new = (before : List HuffmanTable) → AreHuffmanTables before class old → AreHuffmanTables (before ++ huffman_tables payload) class new
