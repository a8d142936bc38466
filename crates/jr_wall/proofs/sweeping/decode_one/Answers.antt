use Rattle.std.proofs.Common.{◌≡◌, ℕ, ◌<◌, List, length, ap, ◌∙◌, arith}
use Rattle.std.specs.Arc.{arc_value}
use Rattle.jr_scan.specs.IntervalValue.{IntervalValue}
use Rattle.jr_scan.specs.ScanValue.{interval_of}
use Rattle.jr_piece.specs.PieceValue.{PieceValue}
use Rattle.jr_picture.specs.DecodedScan.{mark_at}
use Rattle.jr_wall.proofs.Sweeps.{is_for, not_refused, posted_mark, posted_others, posted_places, posted_scan}
use Rattle.jr_wall.proofs.sweeping.decode_one.Goals as goal

pub unreachable-requires : goal.unreachable-requires
unreachable-requires c =
    let b = c.args.board.now in
    let p = arc_value c.in_ok-piece.piece in
    let is : p.interval ≡ interval_of c.args.scan.now c.args.i = ap (λ (q : PieceValue). q.interval) c.in_ok-piece.ensures.ok ∙ c.in-Ok.ensures.ok ∙ c.in_ok-interval.ensures in
    let number : p.interval.number ≡ c.args.i = ap (λ (v : IntervalValue). v.number) is in
    not_refused b c.in_ok-piece.piece c.in-Err.field-0 (is_for b c.args.scan.now p c.args.i c.requires.scan is c.requires.i) (ap (mark_at b) number ∙ c.requires.blank) c.in-Err.ensures.err.1

pub returns-clause-scan : goal.returns-clause-scan
returns-clause-scan c =
    let p = arc_value c.in_ok-piece.piece in
    let is : p.interval ≡ interval_of c.args.scan.now c.args.i = ap (λ (q : PieceValue). q.interval) c.in_ok-piece.ensures.ok ∙ c.in-Ok.ensures.ok ∙ c.in_ok-interval.ensures in
    let number : p.interval.number ≡ c.args.i = ap (λ (v : IntervalValue). v.number) is in
    posted_scan c.args.board.now c.post.new.self p c.args.i number c.in-Ok-post.ensures.ok

pub returns-clause-marked : goal.returns-clause-marked
returns-clause-marked c =
    let p = arc_value c.in_ok-piece.piece in
    let is : p.interval ≡ interval_of c.args.scan.now c.args.i = ap (λ (q : PieceValue). q.interval) c.in_ok-piece.ensures.ok ∙ c.in-Ok.ensures.ok ∙ c.in_ok-interval.ensures in
    let number : p.interval.number ≡ c.args.i = ap (λ (v : IntervalValue). v.number) is in
    let within : c.args.i < length c.args.board.now.pieces = omega (arith, c.assert_invariant.ensures.places, ap (λ (xs : List (List ℕ)). length xs) c.requires.scan.1, c.requires.i) in
    posted_mark c.args.board.now c.post.new.self p c.args.i number c.in-Ok-post.ensures.ok within

pub returns-clause-places : goal.returns-clause-places
returns-clause-places c =
    let p = arc_value c.in_ok-piece.piece in
    let is : p.interval ≡ interval_of c.args.scan.now c.args.i = ap (λ (q : PieceValue). q.interval) c.in_ok-piece.ensures.ok ∙ c.in-Ok.ensures.ok ∙ c.in_ok-interval.ensures in
    let number : p.interval.number ≡ c.args.i = ap (λ (v : IntervalValue). v.number) is in
    posted_places c.args.board.now c.post.new.self p c.args.i number c.in-Ok-post.ensures.ok

pub returns-clause-others : goal.returns-clause-others
returns-clause-others c =
    let p = arc_value c.in_ok-piece.piece in
    let is : p.interval ≡ interval_of c.args.scan.now c.args.i = ap (λ (q : PieceValue). q.interval) c.in_ok-piece.ensures.ok ∙ c.in-Ok.ensures.ok ∙ c.in_ok-interval.ensures in
    let number : p.interval.number ≡ c.args.i = ap (λ (v : IntervalValue). v.number) is in
    posted_others c.args.board.now c.post.new.self p c.args.i number c.in-Ok-post.ensures.ok
