use Rattle.std.proofs.Common.{◌≡◌, ◌≤◌, ◌∙◌, [], length, refl, sym, ap, subst, arith, rules}
use Rattle.std.proofs.lemmas.List.{append-nil}
use Rattle.std.specs.Option.{IfSome}
use Rattle.jr_wall.specs.DecodingValue.{DecodingValue}
use Rattle.jr_wall.proofs.Claims.{drawn_more, fewer_left, sight_of}
use Rattle.jr_wall.proofs.decoding.Decoding.work_with.Goals as goal

pub loop-number-init : goal.loop-number-init
loop-number-init g c = record {
  desk = refl;
  place = refl;
  drawn = ([], sym (append-nil c.args.seat.now.drawn));
  sight = subst (λ (d : DecodingValue). IfSome c.ok-sight.result (λ s. s.cells ≡ d.cells)) c.self.view_is (sight_of c.sight.result c.ok-sight.result _ c.ok-sight.ensures.value c.sight.ensures.cells);
}

pub decode_claimed-requires-clause-number : goal.decode_claimed-requires-clause-number
decode_claimed-requires-clause-number g c = omega (arith, c.in-Some.ensures.drawn.0, c.self.invariant.0, ap (λ (d : DecodingValue). length d.scan.intervals) c.self.view_is)

pub post-requires : goal.post-requires
post-requires g c = search (rules, c.loop-number.invariant.sight)

pub help-requires-clause-sight : goal.help-requires-clause-sight
help-requires-clause-sight g c = search (rules, c.loop-number.invariant.sight)

pub loop-number-smaller-in-Some-decode_claimed : goal.loop-number-smaller-in-Some-decode_claimed
loop-number-smaller-in-Some-decode_claimed g c =
    let few : length c.claim.new.seat.drawn ≤ c.args.self.now.desk.limit = omega (arith, c.in-Some.ensures.few, ap (λ (d : DecodingValue). d.desk.limit) c.self.view_is) in
    fewer_left c.args.self.now.desk.limit c.in-Some.number c.loop-number.seat.drawn c.claim.new.seat.drawn few c.in-Some.ensures.drawn.1

pub loop-number-preserved-in-Some-decode_claimed : goal.loop-number-preserved-in-Some-decode_claimed
loop-number-preserved-in-Some-decode_claimed g c =
    let i = c.loop-number.invariant in
    let e = c.in-Some.ensures in
    record {
      desk = e.same.0 ∙ i.desk;
      place = e.same.1 ∙ i.place;
      drawn = drawn_more c.args.seat.now.drawn c.loop-number.seat.drawn c.claim.new.seat.drawn c.in-Some.number i.drawn e.drawn.1;
      sight = c.post.ensures;
    }

pub loop-number-smaller : goal.loop-number-smaller
loop-number-smaller g c =
    let few : length c.claim.new.seat.drawn ≤ c.args.self.now.desk.limit = omega (arith, c.in-Some.ensures.few, ap (λ (d : DecodingValue). d.desk.limit) c.self.view_is) in
    fewer_left c.args.self.now.desk.limit c.in-Some.number c.loop-number.seat.drawn c.claim.new.seat.drawn few c.in-Some.ensures.drawn.1

pub loop-number-preserved : goal.loop-number-preserved
loop-number-preserved g c =
    let i = c.loop-number.invariant in
    let e = c.in-Some.ensures in
    record {
      desk = e.same.0 ∙ i.desk;
      place = e.same.1 ∙ i.place;
      drawn = drawn_more c.args.seat.now.drawn c.loop-number.seat.drawn c.claim.new.seat.drawn c.in-Some.number i.drawn e.drawn.1;
      sight = i.sight;
    }

pub returns-clause-drawn : goal.returns-clause-drawn
returns-clause-drawn g c = (c.loop-number.invariant.drawn.0, c.in_default.ensures.ended.0 ∙ c.loop-number.invariant.drawn.1)
