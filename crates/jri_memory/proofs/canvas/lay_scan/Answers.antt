use Rattle.std.proofs.Common.{rules, arith, sym, subst, ◌≡◌, ◌<◌, ℕ, length}
use Rattle.jr_head.specs.Geometry.{IsValid, mcus_of}
use Rattle.jr_scan.specs.ScanValue.{intervals_of}
use Rattle.jr_piece.proofs.EachOutcome.{outcome}
use Rattle.jr_picture.specs.DecodedScan.{marks_of}
use Rattle.jr_picture.specs.Samples.{samples_of}
use Rattle.jr_rows.specs.Rows.{CountsRows}
use Rattle.jr_rows.proofs.FirstDecoded.{first_decoded, shows_first}
use Rattle.jr_rows.specs.Stream.{HasCounts}
use Rattle.jr_rows.proofs.WholePictures.{all_stored}
use Rattle.jri_memory.proofs.canvas.lay_scan.Goals as goal

pub counts_of-requires-clause-counts : goal.counts_of-requires-clause-counts
counts_of-requires-clause-counts c =
    let t = c.args.scan.now in
    let all : c.intervals-all.result ≡ length t.intervals = search rules in
    subst (λ (n : ℕ). CountsRows t n c.lay_rows-marked.result) (sym all) c.lay_rows-marked.ensures.counts

pub returns-clause-laid : goal.returns-clause-laid
returns-clause-laid c =
    let t = c.args.scan.now in
    let n = length t.intervals in
    let valid = subst IsValid c.head.ensures.value c.head.ensures.valid in
    let some : 0 < mcus_of t.head = search (rules, arith) in
    let more : 0 < intervals_of t.head = search (rules, arith) in
    let count : n ≡ intervals_of t.head = search rules in
    let all : c.intervals-all.result ≡ n = search rules in
    let counts = subst (λ (k : ℕ). HasCounts t k c.counts_of.result) all c.counts_of.ensures in
    let board = first_decoded outcome t n (omega arith) in record {
      marks = marks_of board.0;
      f = samples_of board.0;
      shows = shows_first t n board.0 board.1 valid;
      lie = c.lay_rows-marked.ensures.lie board.0 board.1;
      store = all_stored t some more count c.args.marks.now c.lay_rows-marked.new.marks c.requires.marks c.lay_rows-marked.ensures.stores board.0 board.1;
      counted = counts board.0 board.1;
    }
