use Rattle.std.proofs.Common.{◌≡◌, ◌+◌, ℕ, List, sum, take, drop}
use Rattle.std.proofs.lemmas.List.{drop-take}
use Rattle.jr_code.specs.Code.{Table}
use Rattle.jr_segments.specs.Bytes.{high, low}
use Rattle.jr_segments.specs.HuffmanTables.{HuffmanTable, huffman_table}

-- the symbols after the sixteen counts of a table
table_is : (p front symbols counts : List ℕ) (n : ℕ) → counts ≡ take 16 p → n ≡ sum counts → front ≡ take (16 + n) p → symbols ≡ drop 16 front
    → (let t : Table = record { counts = counts; symbols = symbols } in t) ≡ record { counts = take 16 p; symbols = take (sum (take 16 p)) (drop 16 p) }
table_is p front symbols counts n c m f s = rw (s, f, drop-take 16 n p, m, c)

huffman_table_is : (head class destination : ℕ) (p : List ℕ) (t : Table) → class ≡ high head → destination ≡ low head → t ≡ (huffman_table (head, p)).table
    → (let d : HuffmanTable = record { class = class; destination = destination; table = t } in d) ≡ huffman_table (head, p)
huffman_table_is head class destination p t c d e = rw (c, d, e)
