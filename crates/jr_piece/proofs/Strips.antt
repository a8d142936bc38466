-- A strip is final.
use Rattle.std.proofs.Common.{◌≡◌, ℕ, ◌+◌, ◌-◌, ◌*◌, ◌<◌, ◌≤◌, Bool, true, false, List, [], ◌++◌, length, get_or, take, drop, refl, sym, ap, subst, ◌∙◌, inl, inr, arith, length-append, length-drop}
use Rattle.std.specs.Prelude.{ℤ}
use Rattle.std.proofs.lemmas.Bool.{cases_lt}
use Rattle.std.proofs.lemmas.List.{get_or-drop, get_or_append_left, get_or-append_right, drop-append-le, take-append-drop}
use Rattle.std.proofs.Math.Nat.{mul-add-mod_self_right}
use Rattle.jr_head.specs.HeadValue.{HeadValue}
use Rattle.jr_head.specs.Geometry.{order_of, quantiser_of}
use Rattle.jr_scan.specs.IntervalValue.{IntervalValue}
use Rattle.jr_mcu.specs.Mcus.{component}
use Rattle.jr_scan.specs.Mcus.{Decodes, Front, LongestFront, AreBlocks, ReportsSound}
use Rattle.jr_idct.specs.Transform.{samples}
use Rattle.jr_scan.proofs.LongestFronts.{whole_longest}
use Rattle.jr_scan.proofs.ScanLaws.{OneFront, ShorterFront}
use Rattle.jr_piece.specs.PieceValue.{PieceValue}
use Rattle.jr_piece.specs.Outcome.{AreSamples, IsOutcome, unit_of}
use Rattle.jr_piece.specs.StripValue.{StripValue}
use Rattle.jr_piece.specs.Strips.{Follows, IsStrip, IsWhole, ShowsStrip, joined, piece_of}
use Rattle.jr_piece.proofs.Outcomes.{first_samples, same_samples}

-- after whole MCUs the components repeat from the first
pub component_on : (h : HeadValue) (k n : ℕ) → component h (k * length (order_of h) + n) ≡ component h n
component_on h k n = ap (λ (j : ℕ). get_or (order_of h) j 0) (mul-add-mod_self_right k (length (order_of h)) n)

-- the samples of the blocks after the first MCUs
pub later_samples : (h : HeadValue) (zs : List (List ℤ)) (us : List (List ℕ)) (k : ℕ) → AreSamples h zs us → AreSamples h (drop (k * length (order_of h)) zs) (drop (k * length (order_of h)) us)
later_samples h zs us k s =
    let m = k * length (order_of h) in
    let rest = length-drop m zs in
    record {
      count = omega (arith, length-drop m us, rest, s.count);
      each = λ n lt.
          get_or-drop m us n [] ∙ s.each (m + n) (omega (arith, rest, lt))
          ∙ ap (λ (c : ℕ). samples (get_or zs (m + n) []) (quantiser_of h c)) (component_on h k n)
          ∙ ap (λ (z : List ℤ). samples z (quantiser_of h (component h n))) (sym (get_or-drop m zs n []));
    }

-- every piece has the samples of the longest prefix of its interval
pub record Fronted (i : IntervalValue) (front : ℕ) (us : List (List ℕ)) : Type 0 where
  pub blocks : List (List ℤ)
  pub longest : LongestFront i front blocks
  pub samples : AreSamples i.head blocks us

pub fronted : (p : PieceValue) → IsOutcome p → Fronted p.interval p.front p.samples
fronted p o = go p.is_sound refl
  where
    go : (t : Bool) → p.is_sound ≡ t → Fronted p.interval p.front p.samples
    go true e =
        let s = o.sound e in
        record { blocks = s.blocks; longest = subst (λ (k : ℕ). LongestFront p.interval k s.blocks) (sym (o.whole e)) (whole_longest p.interval s.blocks s.decodes); samples = s.samples }
    go false e = let d = o.damaged e in record { blocks = d.blocks; longest = d.longest; samples = d.samples }

pub final : OneFront → ShorterFront → (p : PieceValue) (s : StripValue) → p.interval ≡ s.interval → IsOutcome p → IsStrip s → ShowsStrip p s
final one shorter p s e o t =
    let i = s.interval in
    let per = length (order_of i.head) in
    let j = s.first + s.mcus in
    let f : Fronted i p.front p.samples = subst (λ (v : IntervalValue). Fronted v p.front p.samples) e (fronted p o) in
    let all = t.are.all in
    let few : j ≤ p.front = f.longest.longest j all t.are.front in
    let same : take (j * per) f.blocks ≡ all = one i j (take (j * per) f.blocks) all (shorter i j p.front f.blocks few f.longest.front) t.are.front in
    let front : AreSamples i.head all (take (j * per) p.samples) = subst (λ (zs : List (List ℤ)). AreSamples i.head zs (take (j * per) p.samples)) same (first_samples i.head f.blocks p.samples (j * per) f.samples) in
    let last = later_samples i.head all (take (j * per) p.samples) s.first front in
    let there : AreSamples i.head (drop (s.first * per) all) s.samples = subst (λ (zs : List (List ℤ)). AreSamples i.head zs s.samples) t.are.last t.samples in
    record { few = few; samples = same_samples i.head (drop (s.first * per) all) s.samples (drop (s.first * per) (take (j * per) p.samples)) there last }

-- the samples of blocks after whole MCUs, and of those before them
pub appended : (h : HeadValue) (xs ys : List (List ℤ)) (us vs : List (List ℕ)) (k : ℕ) → length xs ≡ k * length (order_of h) → AreSamples h xs us → AreSamples h ys vs → AreSamples h (xs ++ ys) (us ++ vs)
appended h xs ys us vs k whole a b =
    record {
      count = omega (arith, length-append xs ys, length-append us vs, a.count, b.count);
      each = λ n lt. elim (cases_lt n (length xs)) [
        | inl l ↦ get_or_append_left us vs [] n (omega (arith, a.count, l)) ∙ a.each n l ∙ ap (λ (z : List ℤ). samples z (quantiser_of h (component h n))) (sym (get_or_append_left xs ys [] n l))
        | inr g ↦ after n (n - length xs) (omega (arith, g)) (omega (arith, length-append xs ys, lt, g))
      ];
    }
  where
    after : (n m : ℕ) → n ≡ length xs + m → m < length ys → get_or (us ++ vs) n [] ≡ unit_of h (xs ++ ys) n
    after n m e lt =
        let c : component h n ≡ component h m = ap (component h) (e ∙ ap (λ (j : ℕ). j + m) whole) ∙ component_on h k m in
        let u : get_or (us ++ vs) n [] ≡ get_or vs m [] = get_or-append_right us vs (length us) n [] refl (omega (arith, e, a.count)) ∙ ap (λ (j : ℕ). get_or vs j []) (omega (arith, e, a.count)) in
        let z : get_or (xs ++ ys) n [] ≡ get_or ys m [] = get_or-append_right xs ys (length xs) n [] refl (omega (arith, e)) ∙ ap (λ (j : ℕ). get_or ys j []) (omega (arith, e)) in
        u ∙ b.each m lt ∙ ap (λ (j : ℕ). samples (get_or ys m []) (quantiser_of h j)) (sym c) ∙ ap (λ (x : List ℤ). samples x (quantiser_of h (component h n))) (sym z)

-- samples of blocks after whole MCUs, written after those of the blocks before them
pub placed : (h : HeadValue) (xs ys : List (List ℤ)) (us new : List (List ℕ)) (k : ℕ) → length xs ≡ k * length (order_of h) → AreSamples h xs us → length new ≡ length xs + length ys → ((n : ℕ) → n < length xs → get_or new n [] ≡ get_or us n [])
    → ((n : ℕ) → n < length ys → get_or new (length xs + n) [] ≡ unit_of h ys n) → AreSamples h (xs ++ ys) new
placed h xs ys us new k whole a long kept here =
    record {
      count = long ∙ sym (length-append xs ys);
      each = λ n lt. elim (cases_lt n (length xs)) [
        | inl l ↦ kept n l ∙ a.each n l ∙ ap (λ (z : List ℤ). samples z (quantiser_of h (component h n))) (sym (get_or_append_left xs ys [] n l))
        | inr g ↦ after n (n - length xs) (omega (arith, g)) (omega (arith, length-append xs ys, lt, g))
      ];
    }
  where
    after : (n m : ℕ) → n ≡ length xs + m → m < length ys → get_or new n [] ≡ unit_of h (xs ++ ys) n
    after n m e lt =
        let c : component h n ≡ component h m = ap (component h) (e ∙ ap (λ (j : ℕ). j + m) whole) ∙ component_on h k m in
        let z : get_or (xs ++ ys) n [] ≡ get_or ys m [] = get_or-append_right xs ys (length xs) n [] refl (omega (arith, e)) ∙ ap (λ (j : ℕ). get_or ys j []) (omega (arith, e)) in
        ap (λ (j : ℕ). get_or new j []) e ∙ here m lt ∙ ap (λ (j : ℕ). samples (get_or ys m []) (quantiser_of h j)) (sym c) ∙ ap (λ (x : List ℤ). samples x (quantiser_of h (component h n))) (sym z)

abbrev strip : IntervalValue → ℕ → ℕ → List (List ℕ) → StripValue
strip i k n us = record { interval = i; first = k; mcus = n; samples = us }

-- strips of the same MCUs have the same samples
module _ (one : OneFront) (i : IntervalValue) (first mcus : ℕ) where
  same_blocks : (ys zs : List (List ℤ)) → AreBlocks i first mcus ys → AreBlocks i first mcus zs → ys ≡ zs
  same_blocks ys zs a b = a.last ∙ ap (λ (l : List (List ℤ)). drop (first * length (order_of i.head)) l) (one i (first + mcus) a.all b.all a.front b.front) ∙ sym b.last

  same_strips : (us vs : List (List ℕ)) → IsStrip (strip i first mcus us) → IsStrip (strip i first mcus vs) → us ≡ vs
  same_strips us vs s t =
      let there : AreSamples i.head s.blocks vs = subst (λ (zs : List (List ℤ)). AreSamples i.head zs vs) (same_blocks t.blocks s.blocks t.are s.are) t.samples in
      same_samples i.head s.blocks us vs s.samples there

same_value : (i j : IntervalValue) (k l m n : ℕ) (us vs : List (List ℕ)) → i ≡ j → k ≡ l → m ≡ n → us ≡ vs → strip i k m us ≡ strip j l n vs
same_value i j k l m n us vs e f g h = rw (e, f, g, h) refl

pub one_strip : OneFront → (a b : StripValue) → a.interval ≡ b.interval → a.first ≡ b.first → a.mcus ≡ b.mcus → IsStrip a → IsStrip b → a ≡ b
one_strip one a b e f g s t =
    let moved : strip b.interval b.first b.mcus a.samples ≡ a = same_value b.interval a.interval b.first a.first b.mcus a.mcus a.samples a.samples (sym e) (sym f) (sym g) refl in
    let same = same_strips one b.interval b.first b.mcus a.samples b.samples (subst IsStrip (sym moved) s) t in
    same_value a.interval b.interval a.first b.first a.mcus b.mcus a.samples b.samples e f g same

-- strips that follow one another are one
pub meet : OneFront → ShorterFront → (a b : StripValue) → Follows a b → IsStrip a → IsStrip b → IsStrip (joined a b)
meet one shorter a b next s t =
    let e = next.0 in
    let follows = next.1 in
    let i = b.interval in
    let per = length (order_of i.head) in
    let xs = s.blocks in
    let ys = t.blocks in
    let are : AreBlocks i a.first a.mcus xs = subst (λ (v : IntervalValue). AreBlocks v a.first a.mcus xs) e s.are in
    let shows : AreSamples i.head xs a.samples = subst (λ (v : IntervalValue). AreSamples v.head xs a.samples) e s.samples in
    let all = t.are.all in
    let p = a.first * per in
    let q = (a.first + a.mcus) * per in
    let sum : q ≡ p + a.mcus * per = omega arith in
    let before = shorter i (a.first + a.mcus) (b.first + b.mcus) all (omega (arith, follows)) t.are.front in
    let same : take q all ≡ are.all = one i (a.first + a.mcus) (take q all) are.all before are.front in
    let long : length (take q all) ≡ q = before.mcus.0 in
    let first : xs ≡ drop p (take q all) = are.last ∙ ap (λ (zs : List (List ℤ)). drop p zs) (sym same) in
    let rest : ys ≡ drop q all = t.are.last ∙ ap (λ (k : ℕ). drop (k * per) all) follows in
    let count : length xs ≡ a.mcus * per = ap (λ (l : List (List ℤ)). length l) first ∙ length-drop p (take q all) ∙ omega (arith, long, sum) in
    let both : xs ++ ys ≡ drop p all = ap (λ (l : List (List ℤ)). l ++ ys) first ∙ ap (λ (l : List (List ℤ)). drop p (take q all) ++ l) rest ∙ sym (drop-append-le p (take q all) (drop q all) (omega (arith, long, sum))) ∙ ap (λ (l : List (List ℤ)). drop p l) (take-append-drop q all) in
    subst (λ (v : IntervalValue). IsStrip (strip v a.first (a.mcus + b.mcus) (a.samples ++ b.samples))) (sym e) (record {
      blocks = xs ++ ys;
      are = record { all = all; front = subst (λ (k : ℕ). Front i k all) (omega (arith, follows)) t.are.front; last = both };
      samples = appended i.head xs ys a.samples b.samples a.mcus count shows t.samples;
    })

-- a strip of all whole MCUs of the interval determines the outcome
pub all_there : OneFront → (s : StripValue) (t : Bool) → IsStrip s → IsWhole s → ReportsSound t s.interval → IsOutcome (piece_of t s)
all_there one s t is whole stated =
    let i = s.interval in
    let per = length (order_of i.head) in
    let zs = whole.1.0 in
    let longest = whole.1.1 in
    let front : Front i s.mcus is.are.all = subst (λ (k : ℕ). Front i k is.are.all) (omega (arith, whole.0)) is.are.front in
    let same : is.are.all ≡ zs = one i s.mcus is.are.all zs front longest.front in
    let none_before : s.first * per ≡ 0 = ap (λ (k : ℕ). k * per) whole.0 ∙ omega arith in
    let blocks : is.blocks ≡ zs = is.are.last ∙ ap (λ (k : ℕ). drop k is.are.all) none_before ∙ same in
    let shows : AreSamples i.head zs s.samples = subst (λ (l : List (List ℤ)). AreSamples i.head l s.samples) blocks is.samples in
    go t stated zs longest shows
  where
    go : (t : Bool) → ReportsSound t s.interval → (zs : List (List ℤ)) → LongestFront s.interval s.mcus zs → AreSamples s.interval.head zs s.samples → IsOutcome (piece_of t s)
    go true stated zs longest shows =
        let decoded : LongestFront s.interval s.interval.mcus stated.0 = whole_longest s.interval stated.0 stated.1 in
        let all : s.mcus ≡ s.interval.mcus = omega (arith, longest.longest s.interval.mcus stated.0 decoded.front, longest.front.at_most) in
        let same : stated.0 ≡ zs = one s.interval s.interval.mcus stated.0 zs decoded.front (subst (λ (k : ℕ). Front s.interval k zs) all longest.front) in
        record {
          sound = λ e. record { blocks = zs; decodes = subst (Decodes s.interval) same stated.1; samples = shows };
          whole = λ e. all;
          damaged = λ e. let f : true ≡ false = e in cc;
        }
    go false stated zs longest shows =
        record {
          sound = λ e. let f : false ≡ true = e in cc;
          whole = λ e. let f : false ≡ true = e in cc;
          damaged = λ e. record { undecodable = stated; blocks = zs; longest = longest; samples = shows };
        }
