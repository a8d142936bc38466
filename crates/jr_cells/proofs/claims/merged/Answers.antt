use Rattle.std.proofs.Common.{rules, Bool, ◌≡◌, ℕ, [], ◌∷◌, cond, length, length-append, ap, ◌∙◌, arith}
use Rattle.std.proofs.lemmas.List.Elements.{All-pop}
use Rattle.jr_cells.specs.declared.claims.SeatView.{SeatView}
use Rattle.jr_cells.specs.Values.{SeatValue, DeskValue, desk_of}
use Rattle.jr_cells.specs.Count.{total, times}
use Rattle.jr_cells.proofs.Rule.{joins, times-append, total_snoc}
use Rattle.jr_cells.proofs.claims.merged.Goals as goal

abbrev flag : Bool → ℕ
flag b = cond b 1 0

pub loop-seat-init : goal.loop-seat-init
loop-seat-init c =
    let d : DeskValue = desk_of c.args.table.now.table_id c.args.table.now.key.0 c.args.table.now.key.1 in
    let P : SeatValue → Type 0 = λ s. s.desk ≡ d in
    let a = All-pop P _ _ c.pop.result c.pop.ensures.items c.requires.seats in
    let mine = rw c.in-Some.is at a.1 in
    let items = c.in-Some.ensures.items in
    let v = c.last.view_is in
    let sum = λ (f : SeatValue → ℕ). ap (total f) items ∙ total_snoc f _ c.in-Some.last in
    record {
      rest = a.0;
      table = ap (λ (s : SeatValue). s.desk.table) v ∙ ap (λ (e : DeskValue). e.table) mine;
      held = let one = c.last.invariant.1 in omega arith;
      drawn = λ x. let t = sum (λ s. times x s.drawn) in let e = ap (λ (s : SeatValue). times x s.drawn) v in omega arith;
      seats = let t = ap length items ∙ length-append c.pop.new.self.items (c.in-Some.last ∷ []) in let one = c.last.invariant.1 in omega arith;
      ended = let t = sum (λ s. cond s.ended 1 0) in let e : flag c.last.inside.ended ≡ flag c.in-Some.last.ended = ap (λ (s : SeatValue). flag s.ended) v in let i = c.last.invariant.2 in omega arith;
    }

pub join_seat-requires : goal.join_seat-requires
join_seat-requires c =
    let i = c.loop-seat.invariant in
    let d : DeskValue = desk_of c.args.table.now.table_id c.args.table.now.key.0 c.args.table.now.key.1 in
    let P : SeatValue → Type 0 = λ s. s.desk ≡ d in
    let a = All-pop P _ _ c.pop-in-loop-seat.result c.pop-in-loop-seat.ensures.items i.rest in
    let mine = rw c.in-Some-pop.is at a.1 in
    (i.table, ap (λ (s : SeatValue). s.desk.table) c.seat.view_is ∙ ap (λ (e : DeskValue). e.table) mine, c.seat.invariant.0, search rules, joins c.args.table.now.key.0 c.args.table.now.key.1 _ _ _ _ i.held)

pub loop-seat-preserved : goal.loop-seat-preserved
loop-seat-preserved c =
    let i = c.loop-seat.invariant in
    let d : DeskValue = desk_of c.args.table.now.table_id c.args.table.now.key.0 c.args.table.now.key.1 in
    let P : SeatValue → Type 0 = λ s. s.desk ≡ d in
    let a = All-pop P _ _ c.pop-in-loop-seat.result c.pop-in-loop-seat.ensures.items i.rest in
    let items = c.in-Some-pop.ensures.items in
    let v = c.seat.view_is in
    let j = c.join_seat.ensures in
    let me = ap (λ m. m.0) j.2 in
    let one = c.seat.invariant.1 in
    let sum = λ (f : SeatValue → ℕ). ap (total f) items ∙ total_snoc f _ c.in-Some-pop.seat in
    record {
      rest = a.0;
      table = j.0 ∙ i.table;
      held = let e = ap (λ (w : SeatView). w.seats) me in let h = i.held in omega arith;
      drawn = λ x. let t = sum (λ s. times x s.drawn) in let e = ap (λ (s : SeatValue). times x s.drawn) v in let f = ap (λ (w : SeatView). times x w.drawn) me in let g = times-append x c.loop-seat.pass.me.0.drawn c.seat.inside.pass.me.0.drawn in let h = i.drawn x in omega arith;
      seats = let t = ap length items ∙ length-append c.pop-in-loop-seat.new.self.items (c.in-Some-pop.seat ∷ []) in let e = ap (λ (w : SeatView). w.seats) me in let h = i.seats in omega arith;
      ended = let t = sum (λ s. cond s.ended 1 0) in let e : flag c.seat.inside.ended ≡ flag c.in-Some-pop.seat.ended = ap (λ (s : SeatValue). flag s.ended) v in let f = ap (λ (w : SeatView). w.ended) me in let k = c.seat.invariant.2 in let h = i.ended in omega arith;
    }
