-- Runs of MCUs: each start has one, and two that meet are one.
use Rattle.std.proofs.Common.{◌≡◌, ℕ, zero, suc, ◌+◌, ◌-◌, ◌*◌, ◌/◌, ◌%◌, ◌<◌, ◌≤◌, Bool, cond, eqb, List, [], ◌∷◌, ◌++◌, length, get_or, take, drop, replicate, length-drop, refl, sym, ap, subst, ◌∙◌, inl, inr, append_assoc, length-append, arith}
use Rattle.std.specs.Prelude.{ℤ, pos}
use Rattle.std.proofs.lemmas.List.{get_or_append_left, get_or-append_right, drop-drop, drop_all, get_or-drop, get_or-replicate, length-take-le, take-append-drop}
use Rattle.std.proofs.Math.ListN.{length-replicate}
use Rattle.std.proofs.lemmas.List.Concat.{flat_map-append}
use Rattle.std.proofs.lemmas.Bool.{cases_lt}
use Rattle.std.proofs.Math.Nat.{mul-add-mod_self_right, mul-le-mul_right}
use Rattle.std.proofs.Math.Seq.{take-add, drop-append_seam}
use Rattle.jr_code.specs.Bits.{bits, bits_of}
use Rattle.jr_code.proofs.BitLemmas.{length-bits_of}
use Rattle.jr_head.specs.HeadValue.{HeadValue}
use Rattle.jr_head.specs.declared.component.Component.{Component}
use Rattle.jr_segments.specs.declared.kind.Kind.{Kind}
use Rattle.jr_segments.specs.declared.kind.Kind.TheVariants.{Grey, Rgb, Ycc}
use Rattle.jr_head.specs.Geometry.{order_of, order_from, units_of, dc_of, ac_of, component_count, IsValid}
use Rattle.jr_scan.specs.declared.place.Place.{Place}
use Rattle.jr_scan.specs.declared.place.RunEnd.{RunEnd}
use Rattle.jr_scan.specs.declared.place.RunEnd.TheVariants.{AllRead, NoMcu}
use Rattle.jr_mcu.specs.Block.{BlockAt}
use Rattle.jr_scan.specs.IntervalValue.{IntervalValue}
use Rattle.jr_mcu.specs.Mcus.{component, block_of, prediction, IsBlock, all_bits, Blocks, Mcus, no_predictions, predicted}
use Rattle.jr_scan.specs.Mcus.{Decodes}
use Rattle.jr_scan.specs.Run.{RunOf, whole_run, left_at, EndsAs, IsRun}
use Rattle.jr_mcu.proofs.Words.{OneWord}
use Rattle.jr_mcu.proofs.McuLaws.{prediction_same, is_block_same, one_blocks, blocks_front, blocks_before}

-- after whole MCUs the components repeat from the first
component_on : (h : HeadValue) (k n : ℕ) → component h (k * length (order_of h) + n) ≡ component h n
component_on h k n = ap (λ (j : ℕ). get_or (order_of h) j 0) (mul-add-mod_self_right k (length (order_of h)) n)

predicted_at : (h : HeadValue) (start : List ℤ) (zs : List (List ℤ)) (c : ℕ) → c < 3 → get_or (predicted h start zs) c (pos 0) ≡ prediction h start zs c (length zs)
predicted_at h start zs zero lt = refl
predicted_at h start zs (suc zero) lt = refl
predicted_at h start zs (suc (suc zero)) lt = refl
predicted_at h start zs (suc (suc (suc c))) lt = absurd (omega arith)

-- after blocks of whole MCUs, the prediction is that of the later blocks, starting with the predictions after the first ones
prediction_on : (h : HeadValue) (start : List ℤ) (k : ℕ) (zs ys : List (List ℤ)) (c n : ℕ) → c < 3 → length zs ≡ k * length (order_of h) → n ≤ length ys → prediction h start (zs ++ ys) c (length zs + n) ≡ prediction h (predicted h start zs) ys c n
prediction_on h start k zs ys c zero lt whole le =
    let e : length zs + 0 ≡ length zs = omega arith in
    ap (prediction h start (zs ++ ys) c) e ∙ sym (prediction_same h start zs (zs ++ ys) c (length zs) (λ j g. sym (get_or_append_left zs ys [] j g))) ∙ sym (predicted_at h start zs c lt)
prediction_on h start k zs ys c (suc n) lt whole le =
    let e : length zs + suc n ≡ suc (length zs + n) = omega arith in
    let at : component h (length zs + n) ≡ component h n = ap (λ (j : ℕ). component h (j + n)) whole ∙ component_on h k n in
    let here : block_of (zs ++ ys) (length zs + n) ≡ block_of ys n = get_or-append_right zs ys (length zs) (length zs + n) [] refl (omega arith) ∙ ap (λ (j : ℕ). get_or ys j []) (omega arith) in
    let before = prediction_on h start k zs ys c n lt whole (omega arith) in
    ap (prediction h start (zs ++ ys) c) e
    ∙ ap (λ (d : ℕ). cond (eqb d c) (get_or (block_of (zs ++ ys) (length zs + n)) 0 (pos 0)) (prediction h start (zs ++ ys) c (length zs + n))) at
    ∙ ap (λ (z : List ℤ). cond (eqb (component h n) c) (get_or z 0 (pos 0)) (prediction h start (zs ++ ys) c (length zs + n))) here
    ∙ ap (λ (q : ℤ). cond (eqb (component h n) c) (get_or (block_of ys n) 0 (pos 0)) q) before

-- blocks after whole MCUs, and those before them, are blocks together
blocks_join : (h : HeadValue) (start : List ℤ) (k : ℕ) (zs ys : List (List ℤ)) (u v : List Bool) → ((n : ℕ) → component h n < 3) → length zs ≡ k * length (order_of h)
    → (b : Blocks h start zs u) → (d : Blocks h (predicted h start zs) ys v) → Blocks h start (zs ++ ys) (u ++ v)
blocks_join h start k zs ys u v three whole b d =
    let long : length (zs ++ ys) ≡ length zs + length ys = length-append zs ys in
    record {
      parts = b.parts ++ d.parts;
      count = length-append b.parts d.parts ∙ omega (arith, b.count, d.count, long);
      spelled = ap (λ (w : List Bool). w ++ v) b.spelled ∙ ap (λ (w : List Bool). all_bits b.parts ++ w) d.spelled ∙ sym (flat_map-append (λ (part : List Bool). part) b.parts d.parts);
      each = λ n lt. elim (cases_lt n (length zs)) [
        | inl l ↦ is_block_same h start zs (zs ++ ys) n (get_or b.parts n []) (get_or (b.parts ++ d.parts) n [])
            (λ j g. sym (get_or_append_left zs ys [] j (omega arith)))
            (sym (get_or_append_left b.parts d.parts [] n (omega (arith, b.count)))) (b.each n l)
        | inr g ↦ after n (n - length zs) (omega arith) (omega (arith, long))
      ];
    }
  where
    after : (n m : ℕ) → n ≡ length zs + m → m < length ys → IsBlock h start (zs ++ ys) n (get_or (b.parts ++ d.parts) n [])
    after n m e lt =
        let c : component h n ≡ component h m = ap (component h) e ∙ ap (λ (j : ℕ). component h (j + m)) whole ∙ component_on h k m in
        let p : prediction h start (zs ++ ys) (component h m) n ≡ prediction h (predicted h start zs) ys (component h m) m = ap (prediction h start (zs ++ ys) (component h m)) e ∙ prediction_on h start k zs ys (component h m) m (three m) whole (omega arith) in
        let z : block_of (zs ++ ys) n ≡ block_of ys m = get_or-append_right zs ys (length zs) n [] refl (omega arith) ∙ ap (λ (j : ℕ). get_or ys j []) (omega arith) in
        let w : get_or (b.parts ++ d.parts) n [] ≡ get_or d.parts m [] = get_or-append_right b.parts d.parts (length b.parts) n [] refl (omega (arith, b.count)) ∙ ap (λ (j : ℕ). get_or d.parts j []) (omega (arith, b.count)) in
        let x0 = d.each m lt in
        let x1 = subst (λ (q : ℤ). BlockAt (dc_of h (component h m)) (ac_of h (component h m)) q (block_of ys m) (get_or d.parts m [])) (sym p) x0 in
        let x2 = subst (λ (y : List ℤ). BlockAt (dc_of h (component h m)) (ac_of h (component h m)) (prediction h start (zs ++ ys) (component h m) n) y (get_or d.parts m [])) (sym z) x1 in
        let x3 = subst (λ (y : List Bool). BlockAt (dc_of h (component h m)) (ac_of h (component h m)) (prediction h start (zs ++ ys) (component h m) n) (block_of (zs ++ ys) n) y) (sym w) x2 in
        subst (λ (j : ℕ). BlockAt (dc_of h j) (ac_of h j) (prediction h start (zs ++ ys) j n) (block_of (zs ++ ys) n) (get_or (b.parts ++ d.parts) n [])) (sym c) x3

predicted_on : (h : HeadValue) (start : List ℤ) (k : ℕ) (zs ys : List (List ℤ)) → length zs ≡ k * length (order_of h) → predicted h (predicted h start zs) ys ≡ predicted h start (zs ++ ys)
predicted_on h start k zs ys whole =
    let at : (c : ℕ) → c < 3 → prediction h (predicted h start zs) ys c (length ys) ≡ prediction h start (zs ++ ys) c (length (zs ++ ys)) = λ c lt. sym (prediction_on h start k zs ys c (length ys) lt whole (omega arith)) ∙ ap (prediction h start (zs ++ ys) c) (sym (length-append zs ys)) in
    ap (λ (x : ℤ). x ∷ prediction h (predicted h start zs) ys 1 (length ys) ∷ prediction h (predicted h start zs) ys 2 (length ys) ∷ []) (at 0 (omega arith))
    ∙ ap (λ (x : ℤ). prediction h start (zs ++ ys) 0 (length (zs ++ ys)) ∷ x ∷ prediction h (predicted h start zs) ys 2 (length ys) ∷ []) (at 1 (omega arith))
    ∙ ap (λ (x : ℤ). prediction h start (zs ++ ys) 0 (length (zs ++ ys)) ∷ prediction h start (zs ++ ys) 1 (length (zs ++ ys)) ∷ x ∷ []) (at 2 (omega arith))

-- two runs that meet are one
pub runs_meet : (i : IntervalValue) (p q s : Place) (k m : ℕ) (zs ys : List (List ℤ)) (end : RunEnd) → ((n : ℕ) → component i.head n < 3)
    → IsRun (record { interval = i; from = p; mcus = k }) zs q AllRead → IsRun (record { interval = i; from = q; mcus = m }) ys s end → IsRun (record { interval = i; from = p; mcus = k + m }) (zs ++ ys) s end
runs_meet i p q s k m zs ys end three a b =
    let h = i.head in
    let per = length (order_of h) in
    let full : a.count ≡ k = a.ends in
    let blocks2 = subst (λ (start : List ℤ). Blocks h start ys b.taken) a.predictions b.mcus.1 in
    let sum : (a.count + b.count) * per ≡ a.count * per + b.count * per = omega arith in
    record {
      count = a.count + b.count;
      few = omega (arith, a.few, b.few);
      taken = a.taken ++ b.taken;
      mcus = (length-append zs ys ∙ omega (arith, a.mcus.0, b.mcus.0, sum), blocks_join h p.predictions a.count zs ys a.taken b.taken three a.mcus.0 a.mcus.1 blocks2);
      spelled = a.spelled ∙ ap (λ (w : List Bool). a.taken ++ w) b.spelled ∙ sym (append_assoc a.taken b.taken (left_at i s));
      bit = omega (arith, b.bit, a.bit, length-append a.taken b.taken);
      predictions = b.predictions ∙ ap (λ (start : List ℤ). predicted h start ys) a.predictions ∙ predicted_on h p.predictions a.count zs ys a.mcus.0;
      ends = ended end b.ends;
    }
  where
    ended : (e : RunEnd) → EndsAs (record { interval = i; from = q; mcus = m }) b.count s e → EndsAs (record { interval = i; from = p; mcus = k + m }) (a.count + b.count) s e
    ended AllRead h = let full : a.count ≡ k = a.ends in omega (arith, full, h)
    ended NoMcu h = let full : a.count ≡ k = a.ends in (omega (arith, full, h.0), h.1)

-- the blocks after whole MCUs, by themselves
blocks_after : (h : HeadValue) (start : List ℤ) (k : ℕ) (zs ys : List (List ℤ)) (w : List Bool) → ((n : ℕ) → component h n < 3) → length zs ≡ k * length (order_of h)
    → (b : Blocks h start (zs ++ ys) w) → Blocks h (predicted h start zs) ys (all_bits (drop (length zs) b.parts))
blocks_after h start k zs ys w three whole b =
    let long : length (zs ++ ys) ≡ length zs + length ys = length-append zs ys in
    record {
      parts = drop (length zs) b.parts;
      count = omega (arith, length-drop (length zs) b.parts, b.count, long);
      spelled = refl;
      each = each;
    }
  where
    each : (m : ℕ) → m < length ys → IsBlock h (predicted h start zs) ys m (get_or (drop (length zs) b.parts) m [])
    each m lt =
        let n = length zs + m in
        let c : component h n ≡ component h m = ap (λ (j : ℕ). component h (j + m)) whole ∙ component_on h k m in
        let p : prediction h start (zs ++ ys) (component h m) n ≡ prediction h (predicted h start zs) ys (component h m) m = prediction_on h start k zs ys (component h m) m (three m) whole (omega arith) in
        let z : block_of (zs ++ ys) n ≡ block_of ys m = get_or-append_right zs ys (length zs) n [] refl (omega arith) ∙ ap (λ (j : ℕ). get_or ys j []) (omega arith) in
        let part : get_or (drop (length zs) b.parts) m [] ≡ get_or b.parts n [] = get_or-drop (length zs) b.parts m [] in
        let x0 = b.each n (omega (arith, length-append zs ys)) in
        let x1 = subst (λ (j : ℕ). BlockAt (dc_of h j) (ac_of h j) (prediction h start (zs ++ ys) j n) (block_of (zs ++ ys) n) (get_or b.parts n [])) c x0 in
        let x2 = subst (λ (q : ℤ). BlockAt (dc_of h (component h m)) (ac_of h (component h m)) q (block_of (zs ++ ys) n) (get_or b.parts n [])) p x1 in
        let x3 = subst (λ (y : List ℤ). BlockAt (dc_of h (component h m)) (ac_of h (component h m)) (prediction h (predicted h start zs) ys (component h m) m) y (get_or b.parts n [])) z x2 in
        subst (λ (y : List Bool). BlockAt (dc_of h (component h m)) (ac_of h (component h m)) (prediction h (predicted h start zs) ys (component h m) m) (block_of ys m) y) (sym part) x3

-- a component's number is below three if there are at most three components
order_low : (c : ℕ) (ks : List Component) (n : ℕ) → get_or (order_from c ks) n 0 ≤ c + length ks - 1
order_low c [] n = omega arith
order_low c (k ∷ ks) n = elim (cases_lt n (units_of k)) [
  | inl l ↦ let e : get_or (replicate (units_of k) c ++ order_from (suc c) ks) n 0 ≡ c = get_or_append_left (replicate (units_of k) c) (order_from (suc c) ks) 0 n (omega (arith, length-replicate (units_of k) c)) ∙ get_or-replicate (units_of k) n c 0 l in omega (arith, e)
  | inr g ↦ let e : get_or (replicate (units_of k) c ++ order_from (suc c) ks) n 0 ≡ get_or (order_from (suc c) ks) (n - units_of k) 0 = get_or-append_right (replicate (units_of k) c) (order_from (suc c) ks) (units_of k) n 0 (length-replicate (units_of k) c) g in omega (arith, e, order_low (suc c) ks (n - units_of k))
]

pub component_low : (h : HeadValue) → IsValid h → (n : ℕ) → component h n < 3
component_low h valid n =
    let few : (m : ℕ) → m ≡ component_count h.kind → m ≤ 3 = λ m e. omega (arith, e, count_low h.kind) in
    omega (arith, order_low 0 h.components (n % length (order_of h)), few (length h.components) valid.components.count)
  where
    count_low : (k : Kind) → component_count k ≤ 3
    count_low Grey = omega arith
    count_low Rgb = omega arith
    count_low Ycc = omega arith

same_place : (a b : Place) → a.bit ≡ b.bit → a.predictions ≡ b.predictions → a ≡ b
same_place a b p q = ap (λ (k : ℕ). record { bit = k; predictions = a.predictions }) p ∙ ap (λ (k : List ℤ). record { bit = b.bit; predictions = k }) q

-- if no whole MCU follows whole MCUs, no run has more of them
pub no_more : OneWord → (r : RunOf) (zs ys : List (List ℤ)) (a b : Place) (e f : RunEnd) → ((n : ℕ) → component r.interval.head n < 3) → (s : IsRun r zs a e) → (t : IsRun r ys b f) → s.count < t.count → ⊥
no_more one r zs ys a b e f three s t lt = go e s.ends
  where
    go : (e : RunEnd) → EndsAs r s.count a e → ⊥
    go AllRead full = omega (arith, full, t.few, lt)
    go NoMcu none =
        let h = r.interval.head in
        let per = length (order_of h) in
        let start = r.from.predictions in
        let space : s.count * per ≤ length ys = omega (arith, t.mcus.0, mul-le-mul_right {m = s.count} {n = t.count} per (omega arith)) in
        let more : suc s.count * per ≤ length ys = omega (arith, t.mcus.0, mul-le-mul_right {m = suc s.count} {n = t.count} per lt) in
        let next : suc s.count * per ≡ s.count * per + per = omega arith in
        let first = blocks_front h start ys (left_at r.interval r.from) t.taken (left_at r.interval b) (s.count * per) t.mcus.1 t.spelled space in
        let both = blocks_front h start ys (left_at r.interval r.from) t.taken (left_at r.interval b) (suc s.count * per) t.mcus.1 t.spelled more in
        let count : length (take (s.count * per) ys) ≡ s.count * per = length-take-le (s.count * per) ys space in
        let same = one_blocks h start one zs (take (s.count * per) ys) s.taken first.0 (left_at r.interval a) first.1 s.mcus.1 first.2 (sym s.spelled ∙ first.3) (s.mcus.0 ∙ sym count) in
        let split : take (suc s.count * per) ys ≡ zs ++ take per (drop (s.count * per) ys) = ap (λ (n : ℕ). take n ys) next ∙ take-add (s.count * per) per ys ∙ ap (λ (x : List (List ℤ)). x ++ take per (drop (s.count * per) ys)) (sym same.0) in
        let whole = subst (λ (x : List (List ℤ)). Blocks h start x both.0) split both.2 in
        let one_more = blocks_after h start s.count zs (take per (drop (s.count * per) ys)) both.0 three s.mcus.0 whole in
        let alone = subst (λ (q : List ℤ). Blocks h q (take per (drop (s.count * per) ys)) (all_bits (drop (length zs) whole.parts))) (sym s.predictions) one_more in
        let long : length (take per (drop (s.count * per) ys)) ≡ 1 * per = length-take-le per (drop (s.count * per) ys) (omega (arith, length-drop (s.count * per) ys, more, next)) ∙ omega arith in
        let front : Blocks h start zs (all_bits (take (length zs) whole.parts)) = blocks_before h start zs (take per (drop (s.count * per) ys)) both.0 whole in
        let cut : left_at r.interval r.from ≡ all_bits (take (length zs) whole.parts) ++ (all_bits (drop (length zs) whole.parts) ++ both.1)
        = both.3 ∙ ap (λ (w : List Bool). w ++ both.1) (whole.spelled ∙ ap all_bits (sym (take-append-drop (length zs) whole.parts)) ∙ flat_map-append (λ (part : List Bool). part) (take (length zs) whole.parts) (drop (length zs) whole.parts)) ∙ append_assoc (all_bits (take (length zs) whole.parts)) (all_bits (drop (length zs) whole.parts)) both.1 in
        let left = (one_blocks h start one zs zs s.taken (all_bits (take (length zs) whole.parts)) (left_at r.interval a) (all_bits (drop (length zs) whole.parts) ++ both.1) s.mcus.1 front (sym s.spelled ∙ cut) refl).1 in
        none.1 (take per (drop (s.count * per) ys)) (all_bits (drop (length zs) whole.parts)) both.1 (long, alone) left

-- each start and number of MCUs has one run
pub one_run : OneWord → (r : RunOf) (zs ys : List (List ℤ)) (a b : Place) (e f : RunEnd) → ((n : ℕ) → component r.interval.head n < 3) → IsRun r zs a e → IsRun r ys b f → (zs ≡ ys) × (a ≡ b) × (e ≡ f)
one_run one r zs ys a b e f three s t =
    let h = r.interval.head in
    let per = length (order_of h) in
    let count : s.count ≡ t.count = elim (cases_lt s.count t.count) [
      | inl l ↦ absurd (no_more one r zs ys a b e f three s t l)
      | inr g ↦ elim (cases_lt t.count s.count) [ inl l ↦ absurd (no_more one r ys zs b a f e three t s l) | inr g' ↦ omega arith ]
    ] in
    let l : length zs ≡ length ys = s.mcus.0 ∙ ap (λ (n : ℕ). n * per) count ∙ sym t.mcus.0 in
    let same = one_blocks h r.from.predictions one zs ys s.taken t.taken (left_at r.interval a) (left_at r.interval b) s.mcus.1 t.mcus.1 (sym s.spelled ∙ t.spelled) l in
    let taken : length s.taken ≡ length t.taken = omega (arith, ap length (sym s.spelled ∙ t.spelled), ap length same.1, length-append s.taken (left_at r.interval a), length-append t.taken (left_at r.interval b)) in (
      same.0,
      same_place a b (omega (arith, s.bit, t.bit, taken)) (s.predictions ∙ ap (predicted h r.from.predictions) same.0 ∙ sym t.predictions),
      ended e f s.ends t.ends count,
    )
  where
    ended : (e f : RunEnd) → EndsAs r s.count a e → EndsAs r t.count b f → s.count ≡ t.count → e ≡ f
    ended AllRead AllRead p q c = refl
    ended AllRead NoMcu p q c = absurd (omega (arith, p, q.0, c))
    ended NoMcu AllRead p q c = absurd (omega (arith, q, p.0, c))
    ended NoMcu NoMcu p q c = refl

-- an interval has a decoding if its whole run has all MCUs, and fewer than eight bits are left after it
pub decoding_is_run : (i : IntervalValue) (zs : List (List ℤ)) → Decodes i zs → (to : Place) × IsRun (whole_run i) zs to AllRead × (length (left_at i to) < 8)
decoding_is_run i zs d =
    let n = length d.taken in
    let left : drop n (bits i.bytes) ≡ d.padding = ap (drop n) d.spelled ∙ drop-append_seam d.taken d.padding in (
      record { bit = n; predictions = predicted i.head no_predictions zs },
      record {
        count = i.mcus;
        few = omega arith;
        taken = d.taken;
        mcus = d.mcus;
        spelled = d.spelled ∙ ap (λ (w : List Bool). d.taken ++ w) (sym left);
        bit = omega arith;
        predictions = refl;
        ends = refl;
      },
      omega (arith, ap length left, d.short),
    )

pub run_is_decoding : (i : IntervalValue) (zs : List (List ℤ)) (to : Place) → IsRun (whole_run i) zs to AllRead → length (left_at i to) < 8 → Decodes i zs
run_is_decoding i zs to r short =
    record {
      taken = r.taken;
      padding = left_at i to;
      mcus = subst (λ (n : ℕ). Mcus i.head no_predictions n zs r.taken) r.ends r.mcus;
      short = short;
      spelled = r.spelled;
    }

pub three_places : (ps : List ℤ) → length ps ≡ 3 → ps ≡ get_or ps 0 (pos 0) ∷ get_or ps 1 (pos 0) ∷ get_or ps 2 (pos 0) ∷ []
three_places [] e = absurd (omega arith)
three_places (a ∷ []) e = absurd (omega arith)
three_places (a ∷ b ∷ []) e = absurd (omega arith)
three_places (a ∷ b ∷ c ∷ []) e = refl
three_places (a ∷ b ∷ c ∷ d ∷ es) e = absurd (omega arith)

-- the bits of bytes starting at a given bit
drop_bytes : (n : ℕ) (bytes : List ℕ) → bits (drop n bytes) ≡ drop (8 * n) (bits bytes)
drop_bytes zero bytes = refl
drop_bytes (suc n) [] = sym (drop_all (8 * suc n) [] (omega arith))
drop_bytes (suc n) (b ∷ bs) =
    let e : 8 * suc n ≡ 8 * n + 8 = omega arith in
    let first : drop 8 (bits_of 8 b ++ bits bs) ≡ bits bs = ap (λ (k : ℕ). drop k (bits_of 8 b ++ bits bs)) (sym (length-bits_of 8 b)) ∙ drop-append_seam (bits_of 8 b) (bits bs) in
    drop_bytes n bs ∙ ap (drop (8 * n)) (sym first) ∙ drop-drop (8 * n) 8 (bits_of 8 b ++ bits bs) ∙ ap (λ (k : ℕ). drop k (bits_of 8 b ++ bits bs)) (omega (arith, e))

pub bits_on : (bytes : List ℕ) (bit : ℕ) → drop (bit % 8) (bits (drop (bit / 8) bytes)) ≡ drop bit (bits bytes)
bits_on bytes bit =
    ap (drop (bit % 8)) (drop_bytes (bit / 8) bytes) ∙ drop-drop (bit % 8) (8 * (bit / 8)) (bits bytes) ∙ ap (λ (k : ℕ). drop k (bits bytes)) (omega arith)
