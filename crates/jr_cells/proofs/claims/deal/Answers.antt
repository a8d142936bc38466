use Rattle.std.proofs.Common.{rules, ◌≡◌, ℕ, ◌+◌, ◌-◌, List, [], ◌∷◌, ◌++◌, false, map, sym, ap, ◌∙◌, subst, arith}
use Rattle.std.specs.List.{range_with_len}
use Rattle.std.proofs.lemmas.List.FromFn.{map-range_with_len_more}
use Rattle.atomic_table.specs.Table.{Me, Splits}
use Rattle.atomic_table.specs.Seated.{TableId}
use Rattle.jr_cells.specs.declared.claims.SeatView.{SeatView}
use Rattle.jr_cells.specs.Values.{SeatValue, desk_of, fresh}
use Rattle.jr_cells.specs.Draws.{view, Dealt}
use Rattle.jr_cells.proofs.Rule.{splits}
use Rattle.jr_cells.proofs.claims.deal.Goals as goal

sits : (table t : TableId) (v : SeatView) (limit all seats place : ℕ) → t ≡ table → v ≡ view limit all [] seats 0
    → (let s : SeatValue = record { desk = desk_of t v.limit v.all; place = place; drawn = v.drawn; ended = false } in s) ≡ fresh (desk_of table limit all) place
sits table t v limit all seats place e h = λ i. record { desk = desk_of (e i) (h i).limit (h i).all; place = place; drawn = (h i).drawn; ended = false }

pushed : (f : ℕ → SeatValue) (p : ℕ) (xs ys : List SeatValue) (q : SeatValue) → ys ≡ xs ++ q ∷ [] → xs ≡ map f (range_with_len 0 p) → q ≡ f p → ys ≡ map f (range_with_len 0 (p + 1))
pushed f p xs ys q a b e = a ∙ (λ i. b i ++ e i ∷ []) ∙ sym (map-range_with_len_more f 0 p p (omega arith))

pub split_seat-pass-requires : goal.split_seat-pass-requires
split_seat-pass-requires c =
    let i = c.loop-place.invariant in
    let n = c.args.limit in
    let k = c.args.seats in
    let j : ℕ = k - c.loop-place.place - 1 in
    let P : SeatView → Type 0 = λ v. Splits (Dealt n k) c.loop-place.rest.id v (view v.limit v.all v.drawn (v.seats - 1) v.ended) (view v.limit v.all [] 1 0) in
    let is : view n k [] (k - c.loop-place.place) 0 ≡ c.loop-place.rest.me.0 = sym (ap (λ p. p.0) i.rest) in
    (search rules, search rules, rw c.requires.table.1 (subst P is (splits n k c.loop-place.rest.id _ j (omega arith))))

pub loop-place-preserved : goal.loop-place-preserved
loop-place-preserved c =
    let i = c.loop-place.invariant in
    let s = c.split_seat-pass.ensures in
    let n = c.args.limit in
    let k = c.args.seats in
    let p = c.loop-place.place in
    let f = fresh (desk_of c.args.table.now.table_id n k) in
    let right : c.split_seat-pass.result.me.0 ≡ view n k [] 1 0 = ap (λ m. m.0) s.4 ∙ ap (λ (m : Me (Unit {0}) SeatView). view m.0.limit m.0.all [] 1 0) i.rest in
    let seat = sits c.args.table.now.table_id c.split_seat-pass.result.table_id c.split_seat-pass.result.me.0 n k 1 p (s.3 ∙ i.table) right in
    let less : k - p - 1 ≡ k - (p + 1) = omega arith in
    record {
      list = pushed f p _ _ _ c.in_ok-push.ensures.items i.list seat;
      table = s.0 ∙ i.table;
      rest = s.2 ∙ ap (λ (m : Me (Unit {0}) SeatView). (view m.0.limit m.0.all m.0.drawn (m.0.seats - 1) m.0.ended, m.1)) i.rest ∙ ap (λ (m : ℕ). (view n k [] m 0, [])) less;
    }

pub returns : goal.returns
returns c =
    let i = c.loop-place.invariant in
    let n = c.args.limit in
    let k = c.args.seats in
    let p = c.loop-place.place in
    let f = fresh (desk_of c.args.table.now.table_id n k) in
    let last : k - 1 ≡ p = omega arith in
    let more : p + 1 ≡ k = omega arith in
    let seat = sits c.args.table.now.table_id c.loop-place.rest.table_id c.loop-place.rest.me.0 n k _ (k - 1) i.table (ap (λ m. m.0) i.rest) in
    pushed f p _ _ _ c.in_ok-push-2.ensures.items i.list (seat ∙ ap f last) ∙ ap (λ (m : ℕ). map f (range_with_len 0 m)) more
