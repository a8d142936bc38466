use Rattle.std.proofs.Common.{rules, ◌≡◌, ◌+◌, ◌<◌, ◌∷◌, ◌++◌, [], refl, ℕ, ℤ, pos, List, length, get_or, take, set, sym, ap, subst, ◌∙◌, arith, w32, append_assoc, append-nil, length-append}
use mir.Val.{SFits, to_z, of_z}
use Rattle.std.proofs.lemmas.Int.{to_z-of_z}
use Rattle.std.proofs.lemmas.List.{take_more_set}
use Rattle.jr_code.specs.Code.{Table}
use Rattle.jr_code.proofs.CodeLemmas.{one_word}
use Rattle.jr_head.specs.HeadValue.{HeadValue}
use Rattle.jr_head.specs.Geometry.{components_of, component_count, order_of, dc_of, ac_of}
use Rattle.jr_mcu.specs.Block.{IsInDcRange}
use Rattle.jr_mcu.specs.Step.{TakesBlock, HasNoBlock}
use Rattle.jr_mcu.specs.Mcus.{component}
use Rattle.jr_mcu.proofs.Predicted.{kept_fits}
use Rattle.jr_mcu.proofs.InMcu.{few_components, component_in, last_in_range, mcu_taken, missing, one_more, predicted_after, front_kept}
use Rattle.jr_mcu.proofs.mcu.read_mcu.Goals as goal

-- what is known of the next block, before it is read
record Next (h : HeadValue) (order : List ℕ) (c k : ℕ) : Type 0 where
  pub at : c ≡ component h k
  pub three : c < 3
  pub space : k < length (order_of h)

next : (h : HeadValue) (order : List ℕ) (k : ℕ) → order ≡ order_of h → k < length order → get_or order k 0 < components_of h → components_of h ≡ component_count h.kind → Next h order (get_or order k 0) k
next h order k is lt within count =
    let space : k < length (order_of h) = omega (arith, lt, ap (λ (o : List ℕ). length o) is) in
    record { at = ap (λ (o : List ℕ). get_or o k 0) is ∙ sym (component_in h k space); three = few_components h h.kind (components_of h) (get_or order k 0) count within; space = space }

pub loop-k-init : goal.loop-k-init
loop-k-init g c =
    let start = c.args.start in
    let none : start + 0 ≡ start = omega arith in
    record { space = refl; taken = ([], refl, search rules, λ _. ap (λ (n : ℕ). take n c.args.blocks.now) none ∙ sym (append-nil (take start c.args.blocks.now))) }

pub take-requires-clause-in_range : goal.take-requires-clause-in_range
take-requires-clause-in_range g c =
    let h = c.args.head.now in
    let order = c.order-order.result.now in
    let k = c.loop-k.k in
    let d = get_or order k 0 in
    let n = next h order k c.order-order.ensures.value (search rules) (c.order-order.ensures.within k 0 (search rules)) c.requires.valid.components.count in
    let s = c.loop-k.invariant.taken.2 in
    let p = get_or c.loop-k.last d (pos 0) in
    subst IsInDcRange (sym (to_z-of_z w32 p (kept_fits p (s.in_range d n.three)))) (s.in_range d n.three)

pub bounds-last-c-in-loop-k : goal.bounds-last-c-in-loop-k
bounds-last-c-in-loop-k g c =
    let h = c.args.head.now in
    let order = c.order-order.result.now in
    let n = next h order c.loop-k.k c.order-order.ensures.value (search rules) (c.order-order.ensures.within c.loop-k.k 0 (search rules)) c.requires.valid.components.count in
    omega (arith, n.three, c.loop-k.invariant.taken.2.three)

pub returns-in_default-clause-none : goal.returns-in_default-clause-none
returns-in_default-clause-none g c =
    let h = c.args.head.now in
    let order = c.order-order.result.now in
    let k = c.loop-k.k in
    let d = get_or order k 0 in
    let n = next h order k c.order-order.ensures.value (search rules) (c.order-order.ensures.within k 0 (search rules)) c.requires.valid.components.count in
    let s = c.loop-k.invariant.taken in
    let p = get_or c.loop-k.last d (pos 0) in
    let same = to_z-of_z w32 p (kept_fits p (s.2.in_range d n.three)) in
    let dc : c.dc_book-dc.result.now ≡ dc_of h d = search (rules, c.dc_book-dc.ensures) in
    let ac : c.ac_book-ac.result.now ≡ ac_of h d = search (rules, c.ac_book-ac.ensures) in
    let none0 = subst (λ (q : ℤ). HasNoBlock c.dc_book-dc.result.now c.ac_book-ac.result.now q c.loop-k.left) same (search (rules, c.in_default.ensures.none)) in
    let none1 = subst (λ (t : Table). HasNoBlock t c.ac_book-ac.result.now p c.loop-k.left) dc none0 in
    let none2 = subst (λ (t : Table). HasNoBlock (dc_of h d) t p c.loop-k.left) ac none1 in
    missing one_word h c.args.predictions.now c.loop-k.last c.args.bits.now c.loop-k.left s.0 d k s.1 n.at n.three n.space none2 s.2

pub loop-k-preserved : goal.loop-k-preserved
loop-k-preserved g c =
    let h = c.args.head.now in
    let start = c.args.start in
    let order = c.order-order.result.now in
    let k = c.loop-k.k in
    let d = get_or order k 0 in
    let n = next h order k c.order-order.ensures.value (search rules) (c.order-order.ensures.within k 0 (search rules)) c.requires.valid.components.count in
    let s = c.loop-k.invariant.taken in
    let first = c.in-Some.first in
    let new = c.take.new.bits in
    let p = get_or c.loop-k.last d (pos 0) in
    let same = to_z-of_z w32 p (kept_fits p (s.2.in_range d n.three)) in
    let dc : c.dc_book-dc.result.now ≡ dc_of h d = search (rules, c.dc_book-dc.ensures) in
    let ac : c.ac_book-ac.result.now ≡ ac_of h d = search (rules, c.ac_book-ac.ensures) in
    let t = c.in-Some.ensures.some in
    let z = t.0 in
    let t0 = subst (λ (q : ℤ). TakesBlock c.dc_book-dc.result.now c.ac_book-ac.result.now q z c.loop-k.left new) same (search (rules, t.1)) in
    let t1 = subst (λ (t : Table). TakesBlock t c.ac_book-ac.result.now p z c.loop-k.left new) dc t0 in
    let t2 = subst (λ (t : Table). TakesBlock (dc_of h d) t p z c.loop-k.left new) ac t1 in
    let fits : SFits w32 first = search rules in
    let wrote = ap (set c.loop-k.last d) (to_z-of_z w32 first fits) in
    let more = one_more h c.args.predictions.now c.loop-k.last (set c.loop-k.last d (to_z w32 (of_z w32 first))) c.args.bits.now c.loop-k.left new s.0 z d k first s.1 n.at n.three t2 t.2 wrote s.2 in
    record {
      space = search (rules, c.loop-k.invariant.space);
      taken = (
        s.0 ++ z ∷ [],
        omega (arith, s.1, length-append s.0 (z ∷ [])),
        search (rules, more),
        λ keeps.
            let at = start + k in
            let next : start + (k + 1) ≡ at + 1 = omega arith in
            let long : at < length c.loop-k.blocks = omega (arith, n.space, c.loop-k.invariant.space, c.requires.space keeps) in
            ap (λ (bs : List (List ℤ)). take (start + (k + 1)) bs) (t.3 keeps) ∙ ap (λ (m : ℕ). take m (set c.loop-k.blocks at z)) next ∙ take_more_set c.loop-k.blocks at z long
            ∙ ap (λ (zs : List (List ℤ)). zs ++ z ∷ []) (s.3 keeps) ∙ append_assoc (take start c.args.blocks.now) s.0 (z ∷ []),
      );
    }

pub returns-clause-in_range : goal.returns-clause-in_range
returns-clause-in_range g c = last_in_range c.args.head.now c.args.predictions.now c.loop-k.last c.args.bits.now c.loop-k.left _ c.loop-k.invariant.taken.2

pub returns-clause-some : goal.returns-clause-some
returns-clause-some g c =
    let h = c.args.head.now in
    let s = c.loop-k.invariant.taken in
    let all : c.loop-k.k ≡ length (order_of h) = omega (arith, c.loop-k-test.false, c.loop-k.auto.k-end, ap (λ (o : List ℕ). length o) c.order-order.ensures.value) in (
      s.0,
      mcu_taken h c.args.predictions.now c.loop-k.last c.args.bits.now c.loop-k.left s.0 (omega (arith, all, s.1)) s.2,
      predicted_after h c.args.predictions.now c.loop-k.last c.args.bits.now c.loop-k.left s.0 s.2,
      λ keeps. ap (λ (n : ℕ). take (c.args.start + n) c.loop-k.blocks) (sym all) ∙ s.3 keeps,
    )

pub returns-clause-front : goal.returns-clause-front
returns-clause-front g c = λ keeps.
    let s = c.loop-k.invariant.taken in
    front_kept c.args.start (c.args.start + c.loop-k.k) c.loop-k.blocks c.args.blocks.now s.0 (omega arith) (omega (arith, c.requires.space keeps)) (s.3 keeps)

pub returns-in_default-clause-front : goal.returns-in_default-clause-front
returns-in_default-clause-front g c = λ keeps.
    let s = c.loop-k.invariant.taken in
    front_kept c.args.start (c.args.start + c.loop-k.k) c.take.new.blocks c.args.blocks.now s.0 (omega arith) (omega (arith, c.requires.space keeps)) (c.take.ensures.front keeps ∙ s.3 keeps)
