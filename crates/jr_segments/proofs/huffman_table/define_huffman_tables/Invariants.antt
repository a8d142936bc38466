use Rattle.std.proofs.Common.{◌≡◌, ◌++◌, List, length}
use Rattle.jr_segments.specs.Tests.{first_fault}
use Rattle.jr_segments.specs.HuffmanTables.{HuffmanTable, huffman_tables, huffman_tables_tests, AreHuffmanTables}
use Rattle.jr_segments.proofs.HuffmanTableLaws.{Defined}
use Rattle.jr_segments.proofs.huffman_table.define_huffman_tables.Given as goal

abbrev pub invariant-loop-rest : goal.invariant-loop-rest
invariant-loop-rest l = record {
  four_dc : length l.dc ≡ 4;
  four_ac : length l.ac ≡ 4;
  tests : first_fault (huffman_tables_tests l.rest) ≡ first_fault (huffman_tables_tests l.payload);
  dc : (before : List HuffmanTable) → AreHuffmanTables before 0 l.initial.dc → Defined (before ++ huffman_tables l.payload) 0 l.dc l.rest;
  ac : (before : List HuffmanTable) → AreHuffmanTables before 1 l.initial.ac → Defined (before ++ huffman_tables l.payload) 1 l.ac l.rest;
}

abbrev pub decreases-loop-rest : goal.decreases-loop-rest
decreases-loop-rest l = length l.rest
