use Rattle.std.proofs.Common.{◌∙◌, [], refl, sym, arith}
use Rattle.std.proofs.lemmas.List.{append-nil}
use Rattle.jr_wall.proofs.Claims.{drawn_more, fewer_left, sight_of}
use Rattle.jr_wall.proofs.workers.work.Goals as goal

pub loop-number-init : goal.loop-number-init
loop-number-init g c = record {
  desk = refl;
  place = refl;
  drawn = ([], sym (append-nil c.args.seat.now.drawn));
  sight = sight_of c.sight.result c.ok-sight.result _ c.ok-sight.ensures.value c.sight.ensures.cells;
}

pub make_piece-requires : goal.make_piece-requires
make_piece-requires g c = omega (arith, c.in-Some.ensures.drawn.0, c.requires.limit)

pub hang-requires : goal.hang-requires
hang-requires g c = c.loop-number.invariant.sight

pub loop-number-smaller-in-Some-make_piece : goal.loop-number-smaller-in-Some-make_piece
loop-number-smaller-in-Some-make_piece g c =
    fewer_left c.args.desk.now.limit c.in-Some.number c.loop-number.seat.drawn c.claim.new.seat.drawn c.in-Some.ensures.few c.in-Some.ensures.drawn.1

pub loop-number-preserved-in-Some-make_piece : goal.loop-number-preserved-in-Some-make_piece
loop-number-preserved-in-Some-make_piece g c =
    let i = c.loop-number.invariant in
    let e = c.in-Some.ensures in
    record {
      desk = e.same.0 ∙ i.desk;
      place = e.same.1 ∙ i.place;
      drawn = drawn_more c.args.seat.now.drawn c.loop-number.seat.drawn c.claim.new.seat.drawn c.in-Some.number i.drawn e.drawn.1;
      sight = c.hang.ensures;
    }

pub loop-number-smaller : goal.loop-number-smaller
loop-number-smaller g c =
    fewer_left c.args.desk.now.limit c.in-Some.number c.loop-number.seat.drawn c.claim.new.seat.drawn c.in-Some.ensures.few c.in-Some.ensures.drawn.1

pub loop-number-preserved : goal.loop-number-preserved
loop-number-preserved g c =
    let i = c.loop-number.invariant in
    let e = c.in-Some.ensures in
    record {
      desk = e.same.0 ∙ i.desk;
      place = e.same.1 ∙ i.place;
      drawn = drawn_more c.args.seat.now.drawn c.loop-number.seat.drawn c.claim.new.seat.drawn c.in-Some.number i.drawn e.drawn.1;
      sight = i.sight;
    }

pub returns-clause-drawn : goal.returns-clause-drawn
returns-clause-drawn g c = (c.loop-number.invariant.drawn.0, c.in_default.ensures.ended.0 ∙ c.loop-number.invariant.drawn.1)
