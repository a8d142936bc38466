use Rattle.std.proofs.Common.{rules, ◌≡◌, ◌≤◌, ◌+◌, ◌*◌, ◌++◌, ℕ, ℤ, List, length, take, drop, refl, sym, ap, subst, ◌∙◌, arith}
use Rattle.std.proofs.lemmas.List.{with_items_is}
use Rattle.jr_head.specs.Geometry.{order_of}
use Rattle.jr_head.specs.HeadValue.{HeadValue}
use Rattle.jr_mcu.specs.Mcus.{no_predictions, predicted, TakesMcu}
use Rattle.jr_scan.specs.Speculation.{IsSpeculationOf, TakesNext}
use Rattle.jr_scan.proofs.KeptMcus.{speculation_of, kept_before, kept_here}
use Rattle.jr_scan.proofs.speculation.Speculation.take_mcu.Goals as goal

pub returns-in_err-read_mcu-2-clause-of : goal.returns-in_err-read_mcu-2-clause-of
returns-in_err-read_mcu-2-clause-of c =
    let i = c.args.interval.now in
    let g = speculation_of c.self.inside.number c.self.inside.mcus.items c.self.inside.blocks.items in
    let of = subst (IsSpeculationOf i) (sym c.self.view_is) c.requires in
    let m = c.len.result in
    let per = length c.order-per_mcu.result.now in
    let new = c.read_mcu-2.new.blocks in
    let size : per ≡ length (order_of i.head) = ap length (c.order-per_mcu.ensures.value ∙ ap order_of c.head-head.ensures.value) in
    let long : length new ≡ length g.blocks = c.read_mcu-2.auto.blocks ∙ ap (λ (bs : List (List ℤ)). length bs) c.deref_mut.ensures.value in
    let same : take (m * per) new ≡ take (m * per) g.blocks = c.in_err-read_mcu-2.ensures.front refl ∙ ap (take (m * per)) c.deref_mut.ensures.value in
    let kept = kept_before i g new m per of (search rules) size long same in
    let back = with_items_is c.self.inside.blocks new (search rules) in
    subst (λ (bs : List (List ℤ)). IsSpeculationOf i (speculation_of c.self.inside.number c.self.inside.mcus.items bs)) (sym back) kept

pub returns-clause-of : goal.returns-clause-of
returns-clause-of c =
    let i = c.args.interval.now in
    let g = speculation_of c.self.inside.number c.self.inside.mcus.items c.self.inside.blocks.items in
    let of = subst (IsSpeculationOf i) (sym c.self.view_is) c.requires in
    let m = c.len.result in
    let per = length c.order-per_mcu.result.now in
    let new = c.read_mcu-2.new.blocks in
    let size : per ≡ length (order_of i.head) = ap length (c.order-per_mcu.ensures.value ∙ ap order_of c.head-head.ensures.value) in
    let long : length new ≡ length g.blocks = c.read_mcu-2.auto.blocks ∙ ap (λ (bs : List (List ℤ)). length bs) c.deref_mut.ensures.value in
    let same : take (m * per) new ≡ take (m * per) g.blocks = c.in_ok-read_mcu-2.ensures.front refl ∙ ap (take (m * per)) c.deref_mut.ensures.value in
    let kept = kept_before i g new m per of (search rules) size long same in
    let back = with_items_is c.self.inside.blocks new (search rules) in
    subst (λ (bs : List (List ℤ)). IsSpeculationOf i (speculation_of c.self.inside.number c.self.inside.mcus.items bs)) (sym back) kept

pub returns-clause-taken : goal.returns-clause-taken
returns-clause-taken c =
    let i = c.args.interval.now in
    let mcus = c.self.inside.mcus.items in
    let old = c.args.bits.now in
    let left = c.read_mcu-2.new.bits in
    let ps = c.read_mcu-2.new.predictions in
    let m = c.len.result in
    let per = length c.order-per_mcu.result.now in
    let xs = c.deref_mut.result.now in
    let new = c.read_mcu-2.new.blocks in
    let head = c.head-head.ensures.value in
    let size : per ≡ length (order_of i.head) = ap length (c.order-per_mcu.ensures.value ∙ ap order_of head) in
    let s = c.in_ok-read_mcu-2.ensures.some in
    let zs = s.0 in
    let taken : TakesMcu i.head no_predictions zs old left = subst (λ (h : HeadValue). TakesMcu h no_predictions zs old left) head s.1 in
    let last : ps ≡ predicted i.head no_predictions zs = subst (λ (h : HeadValue). ps ≡ predicted h no_predictions zs) head s.2 in
    let is : take (m * per + per) new ≡ take (m * per) xs ++ zs = ap (λ (n : ℕ). take (m * per + n) new) (size ∙ ap (λ (h : HeadValue). length (order_of h)) (sym head)) ∙ s.3 refl in
    let space : m * per + per ≤ length xs = search (rules, arith) in
    let count : m ≡ length mcus = search rules in
    let here0 : take per (drop (m * per) new) ≡ zs = kept_here m per xs new zs (omega (arith, space)) (omega (arith, taken.mcu.0, size)) is in
    let here1 : take (length (order_of i.head)) (drop (m * length (order_of i.head)) new) ≡ zs = subst (λ (n : ℕ). take n (drop (m * n) new) ≡ zs) size here0 in
    let here = subst (λ (k : ℕ). take (length (order_of i.head)) (drop (k * length (order_of i.head)) new) ≡ zs) count here1 in
    let all : (length mcus + 1) * length (order_of i.head) ≡ m * per + per = ap (λ (n : ℕ). (length mcus + 1) * n) (sym size) ∙ ap (λ (n : ℕ). (n + 1) * per) (sym count) ∙ omega arith in
    let next : TakesNext i (speculation_of c.self.inside.number mcus new) ps old left
    = record { zs = zs; taken = taken; predicted_are = last; space = λ keeps. omega (arith, all, space, c.read_mcu-2.auto.blocks); kept = λ keeps. here } in
    let back = with_items_is c.self.inside.blocks new (search rules) in
    subst (λ (bs : List (List ℤ)). TakesNext i (speculation_of c.self.inside.number mcus bs) ps old left) (sym back) next
