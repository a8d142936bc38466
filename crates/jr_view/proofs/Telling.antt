-- The reports to a screen, after one more report.
use Rattle.std.proofs.Common.{Ok, Err, ◌≡◌, ◌≢◌, ℕ, inl, inr, ◌⊎◌, ◌+◌, ◌<◌, ◌≤◌, ◌==◌, ◌&&◌, leb, Bool, true, false, cond, List, [], ◌∷◌, ◌++◌, length, get_or, set, refl, sym, ap, subst, ◌∙◌, arith}
use Rattle.std.specs.Prelude.{IsErr, IsOk}
use Rattle.std.specs.List.{AllByRecursion, count_by}
use Rattle.std.specs.declared.result.Result.{Result}
use Rattle.std.proofs.lemmas.Bool.{eqb-true}
use Rattle.std.proofs.lemmas.Bool.Decides.{eqb_tells, leb_tells}
use Rattle.std.proofs.lemmas.List.{append_assoc, append-nil, get_or-set_other, get_or-set_same}
use Rattle.std.proofs.lemmas.List.Sums.{sum_by-append, sum_by-cons}
use Rattle.jr_scan.specs.ScanValue.{ScanValue}
use Rattle.jr_piece.specs.PieceValue.{PieceValue}
use Rattle.jr_piece.specs.StripValue.{StripValue}
use Rattle.jr_view.specs.declared.looker.Looker.{Looker}
use Rattle.jr_view.specs.Reported.{Notice, StripOf, PieceOf, Asked, AreReportedInOrder, ScreenBecomes, IsOfScan, IsReported, is_late, is_piece, is_strip}
use Rattle.jr_view.specs.Lookers.{Keeps, Reports, has_reported}
use Rattle.jr_view.proofs.Showing.{reports}

-- one more is counted or not
count_more : (p : Notice → Bool) (ts : List Notice) (t : Notice) → count_by p (ts ++ t ∷ []) ≡ count_by p ts + cond (p t) 1 0
count_more p ts t = omega (arith, sum_by-append (λ u. cond {A = ℕ} (p u) 1 0) ts (t ∷ []), sum_by-cons (λ u. cond {A = ℕ} (p u) 1 0) t [])

no_more : (p : Notice → Bool) (ts : List Notice) (t : Notice) → p t ≡ false → count_by p (ts ++ t ∷ []) ≡ count_by p ts
no_more p ts t miss =
    let none : cond {A = ℕ} (p t) 1 0 ≡ 0 = ap (λ (b : Bool). cond {A = ℕ} b 1 0) miss in
    omega (arith, count_more p ts t, none)

one_more : (p : Notice → Bool) (ts : List Notice) (t : Notice) → p t ≡ true → count_by p (ts ++ t ∷ []) ≡ count_by p ts + 1
one_more p ts t hit =
    let one : cond {A = ℕ} (p t) 1 0 ≡ 1 = ap (λ (b : Bool). cond {A = ℕ} b 1 0) hit in
    omega (arith, count_more p ts t, one)

-- all are of the scan, if one more is
all_more : (scan : ScanValue) (ts : List Notice) (t : Notice) → AllByRecursion (IsOfScan scan) ts → IsOfScan scan t → AllByRecursion (IsOfScan scan) (ts ++ t ∷ [])
all_more scan [] t all is = (is, tt)
all_more scan (u ∷ ts) t all is = (all.0, all_more scan ts t all.1 is)

-- a number equals itself
same_number : (n : ℕ) → (n == n) ≡ true
same_number n = elim (eqb_tells n n) [
  | inl t ↦ t.0
  | inr f ↦ absurd (f.1 refl)
]

-- a report of the same strip or piece
abbrev same_as : Notice → Notice → Bool
same_as (StripOf s) t = is_strip s.interval.number s.first t
same_as (PieceOf p) t = is_piece p.interval.number t
same_as Asked t = false

same_itself : (u t : Notice) → is_late u t ≡ true → same_as u u ≡ true
same_itself (StripOf s) t hit = ap (λ (b : Bool). b && (s.first == s.first)) (same_number s.interval.number) ∙ same_number s.first
same_itself (PieceOf p) t hit = same_number p.interval.number
same_itself Asked t hit = absurd (cc hit)

-- the reports stay in order after one that is not too late after any of them
order_more : (ts : List Notice) (t : Notice) → AreReportedInOrder ts → ((u : Notice) → is_late u t ≡ true → count_by (same_as u) ts ≡ 0) → AreReportedInOrder (ts ++ t ∷ [])
order_more [] t o new = (refl, tt)
order_more (u ∷ ts) t o new =
    let here : count_by (is_late u) (ts ++ t ∷ []) ≡ 0 = elim (reports (is_late u t)) [
      | inl hit ↦
          let one : cond {A = ℕ} (same_as u u) 1 0 ≡ 1 = ap (λ (b : Bool). cond {A = ℕ} b 1 0) (same_itself u t hit) in
          absurd (omega (arith, new u hit, one, sum_by-cons (λ v. cond (same_as u v) 1 0) u ts))
      | inr miss ↦ no_more (is_late u) ts t miss ∙ o.0
    ] in (
      here,
      order_more ts t o.1 (λ v hit. omega (arith, new v hit, sum_by-cons (λ w. cond (same_as v w) 1 0) u ts)),
    )

-- a failure is not a success
pub err_not_ok : {T E : Type 0} (r : Result T E) → IsErr r → IsOk r → ⊥
err_not_ok (Ok x) err ok = absurd (cc err)
err_not_ok (Err e) err ok = absurd (cc ok)

-- reports in two parts
pub reported_then : {S : Type 0} (becomes : S → Notice → S → Type 0) (a b c : S) (ts us : List Notice) → ScreenBecomes becomes a ts b → ScreenBecomes becomes b us c → ScreenBecomes becomes a (ts ++ us) c
reported_then becomes a b c [] us p q = subst (λ s. ScreenBecomes becomes s us c) p q
reported_then becomes a b c (t ∷ ts) us p q = (p.0, p.1, reported_then becomes p.0 b c ts us p.2 q)

-- whether a strip is that of this interval and this first MCU
strip_reports : (i first : ℕ) (s : StripValue) → ((is_strip i first (StripOf s) ≡ true) × (s.interval.number ≡ i) × (s.first ≡ first)) ⊎ ((is_strip i first (StripOf s) ≡ false) × ((s.interval.number ≡ i) → s.first ≢ first))
strip_reports i first s = elim (eqb_tells s.interval.number i) [
  | inl t ↦ elim (eqb_tells s.first first) [
    | inl u ↦ inl (ap (λ (b : Bool). b && (s.first == first)) t.0 ∙ u.0, t.1, u.1)
    | inr f ↦ inr (ap (λ (b : Bool). b && (s.first == first)) t.0 ∙ f.0, λ e. f.1)
  ]
  | inr f ↦ inr (ap (λ (b : Bool). b && (s.first == first)) f.0, λ e. absurd (f.1 e))
]

-- a piece that is not marked as reported was not reported
no_piece : (scan : ScanValue) (l : Looker) (ts : List Notice) (i : ℕ) → has_reported l i ≡ false → Keeps scan l ts → count_by (is_piece i) ts ≡ 0
no_piece scan l ts i unreported k = k.pieces i ∙ ap (λ (b : Bool). cond {A = ℕ} b 1 0) unreported

strip_is_new : (scan : ScanValue) (l : Looker) (s : StripValue) (ts : List Notice) → has_reported l s.interval.number ≡ false → get_or l.strips.items s.interval.number 0 ≤ s.first → Keeps scan l ts
    → (u : Notice) → is_late u (StripOf s) ≡ true → count_by (same_as u) ts ≡ 0
strip_is_new scan l s ts unreported next k (StripOf t) hit = elim (eqb_tells s.interval.number t.interval.number) [
  | inl y ↦ elim (leb_tells s.first t.first) [
    | inl le ↦ k.next t.interval.number t.first (omega (arith, next, le.1, ap (λ n. get_or l.strips.items n 0) y.1))
    | inr gt ↦
        let miss : true ≡ false = sym hit ∙ ap (λ (b : Bool). b && leb s.first t.first) y.0 ∙ gt.0 in
        absurd (cc miss)
  ]
  | inr f ↦
      let miss : true ≡ false = sym hit ∙ ap (λ (b : Bool). b && leb s.first t.first) f.0 in
      absurd (cc miss)
]
strip_is_new scan l s ts unreported next k (PieceOf p) hit = no_piece scan l ts p.interval.number (ap (has_reported l) (sym (eqb-true s.interval.number p.interval.number hit)) ∙ unreported) k
strip_is_new scan l s ts unreported next k Asked hit = absurd (cc hit)

piece_is_new : (scan : ScanValue) (l : Looker) (p : PieceValue) (ts : List Notice) → has_reported l p.interval.number ≡ false → Keeps scan l ts → (u : Notice) → is_late u (PieceOf p) ≡ true → count_by (same_as u) ts ≡ 0
piece_is_new scan l p ts unreported k (StripOf t) hit = absurd (cc hit)
piece_is_new scan l p ts unreported k (PieceOf q) hit = no_piece scan l ts q.interval.number (ap (has_reported l) (sym (eqb-true p.interval.number q.interval.number hit)) ∙ unreported) k
piece_is_new scan l p ts unreported k Asked hit = absurd (cc hit)

asked_is_new : (ts : List Notice) (u : Notice) → is_late u Asked ≡ true → count_by (same_as u) ts ≡ 0
asked_is_new ts (StripOf t) hit = absurd (cc hit)
asked_is_new ts (PieceOf q) hit = absurd (cc hit)
asked_is_new ts Asked hit = absurd (cc hit)

-- a strip after those that were reported, of an interval whose piece was not
pub keeps_strip : (scan : ScanValue) (l m : Looker) (s : StripValue) (ts : List Notice) → s.interval.number < length l.strips.items → has_reported l s.interval.number ≡ false → get_or l.strips.items s.interval.number 0 ≤ s.first
    → m.pieces.items ≡ l.pieces.items → m.strips.items ≡ set l.strips.items s.interval.number (s.first + 1) → IsOfScan scan (StripOf s) → Keeps scan l ts → Keeps scan m (ts ++ StripOf s ∷ [])
keeps_strip scan l m s ts lt unreported next same now is k =
    let i = s.interval.number in
    let t = StripOf s in
    let at = λ (j : ℕ). ap (λ (ns : List ℕ). get_or ns j 0) now in
    record {
      own = all_more scan ts t k.own is;
      pieces = λ j. no_more (is_piece j) ts t refl ∙ k.pieces j ∙ ap (λ (bs : List Bool). cond {A = ℕ} (get_or bs j false) 1 0) (sym same);
      strips = λ j first. elim (strip_reports j first s) [
        | inl y ↦
            let none = k.next j first (omega (arith, next, ap (λ n. get_or l.strips.items n 0) y.1, y.2)) in
            omega (arith, one_more (is_strip j first) ts t y.0, none)
        | inr n ↦ omega (arith, no_more (is_strip j first) ts t n.0, k.strips j first)
      ];
      next = λ j first le. elim (strip_reports j first s) [
        | inl y ↦
            let here = get_or-set_same l.strips.items i (s.first + 1) 0 lt in
            absurd (omega (arith, le, at j, here, ap (λ n. get_or (set l.strips.items i (s.first + 1)) n 0) y.1, y.2))
        | inr n ↦ no_more (is_strip j first) ts t n.0 ∙ elim (eqb_tells i j) [
          | inl y ↦
              let here = get_or-set_same l.strips.items i (s.first + 1) 0 lt in
              let there = ap (λ n. get_or (set l.strips.items i (s.first + 1)) n 0) y.1 in
              let was = ap (λ n. get_or l.strips.items n 0) y.1 in
              k.next j first (omega (arith, le, at j, here, there, was, next))
          | inr f ↦ k.next j first (omega (arith, le, at j, get_or-set_other l.strips.items i j (s.first + 1) 0 (λ e. f.1 (sym e))))
        ]
      ];
      order = order_more ts t k.order (strip_is_new scan l s ts unreported next k);
    }

-- a piece that was not reported
pub keeps_piece : (scan : ScanValue) (l m : Looker) (p : PieceValue) (ts : List Notice) → p.interval.number < length l.pieces.items → has_reported l p.interval.number ≡ false
    → m.strips.items ≡ l.strips.items → m.pieces.items ≡ set l.pieces.items p.interval.number true → IsOfScan scan (PieceOf p) → Keeps scan l ts → Keeps scan m (ts ++ PieceOf p ∷ [])
keeps_piece scan l m p ts lt unreported same now is k =
    let i = p.interval.number in
    let t = PieceOf p in
    let bit = λ (b : Bool). cond {A = ℕ} b 1 0 in
    record {
      own = all_more scan ts t k.own is;
      pieces = λ j. elim (eqb_tells i j) [
        | inl y ↦
            let was : bit (has_reported l j) ≡ 0 = ap bit (ap (has_reported l) (sym y.1) ∙ unreported) in
            let hit : bit (has_reported m j) ≡ 1 = ap bit (ap (has_reported m) (sym y.1) ∙ ap (λ (bs : List Bool). get_or bs i false) now ∙ get_or-set_same l.pieces.items i true false lt) in
            omega (arith, one_more (is_piece j) ts t y.0, k.pieces j, was, hit)
        | inr f ↦
            no_more (is_piece j) ts t f.0 ∙ k.pieces j
            ∙ ap bit (sym (ap (λ (bs : List Bool). get_or bs j false) now ∙ get_or-set_other l.pieces.items i j true false (λ e. f.1 (sym e))))
      ];
      strips = λ j first. omega (arith, no_more (is_strip j first) ts t refl, k.strips j first);
      next = λ j first le. no_more (is_strip j first) ts t refl ∙ k.next j first (subst (λ (ns : List ℕ). get_or ns j 0 ≤ first) same le);
      order = order_more ts t k.order (piece_is_new scan l p ts unreported k);
    }

keeps_asked : (scan : ScanValue) (l : Looker) (ts : List Notice) → Keeps scan l ts → Keeps scan l (ts ++ Asked ∷ [])
keeps_asked scan l ts k = record {
  own = all_more scan ts Asked k.own tt;
  pieces = λ j. no_more (is_piece j) ts Asked refl ∙ k.pieces j;
  strips = λ j first. omega (arith, no_more (is_strip j first) ts Asked refl, k.strips j first);
  next = λ j first le. no_more (is_strip j first) ts Asked refl ∙ k.next j first le;
  order = order_more ts Asked k.order (asked_is_new ts);
}

-- nothing is reported yet
pub keeps_nothing : (l : Looker) → ((i : ℕ) → has_reported l i ≡ false) → (scan : ScanValue) → Keeps scan l []
keeps_nothing l none scan = record {
  own = tt;
  pieces = λ i. ap (λ (b : Bool). cond {A = ℕ} b 1 0) (sym (none i));
  strips = λ i first. omega arith;
  next = λ i first le. refl;
  order = tt;
}

module _ {S : Type 0} (becomes : S → Notice → S → Type 0) (scan : ScanValue) where
  pub reports_nothing : (l : Looker) (a : S) → Reports becomes scan l a l a
  reports_nothing l a = record {
    reported = [];
    screen = refl;
    keeps = λ before k. subst (Keeps scan l) (sym (append-nil before)) k;
    count = refl;
    remembers = λ i t. t;
  }

  pub reports_one : (l m : Looker) (a b : S) (t : Notice) → becomes a t b → ((before : List Notice) → Keeps scan l before → Keeps scan m (before ++ t ∷ [])) → length m.pieces.items ≡ length l.pieces.items → ((i : ℕ) → has_reported l i ≡ true → has_reported m i ≡ true)
      → Reports becomes scan l a m b
  reports_one l m a b t step keeps count remembers = record { reported = t ∷ []; screen = (b, step, refl); keeps = keeps; count = count; remembers = remembers }

  pub reports_then : (l m n : Looker) (a b c : S) → Reports becomes scan l a m b → Reports becomes scan m b n c → Reports becomes scan l a n c
  reports_then l m n a b c p q = record {
    reported = p.reported ++ q.reported;
    screen = reported_then becomes a b c p.reported q.reported p.screen q.screen;
    keeps = λ before k. subst (Keeps scan n) (append_assoc before p.reported q.reported) (q.keeps (before ++ p.reported) (p.keeps before k));
    count = q.count ∙ p.count;
    remembers = λ i t. q.remembers i (p.remembers i t);
  }

  pub reports_asked : (l m : Looker) (a b c : S) → Reports becomes scan l a m b → becomes b Asked c → Reports becomes scan l a m c
  reports_asked l m a b c p step = reports_then l m m a b c p (reports_one m m b c Asked step (keeps_asked scan m) refl (λ i t. t))

  one_at_most : (b : Bool) → cond {A = ℕ} b 1 0 ≤ 1
  one_at_most true = omega arith
  one_at_most false = omega arith

  -- all reports since the start
  pub reported_all : (ended : Type 0) (l m : Looker) (a b : S) → Keeps scan l [] → Reports becomes scan l a m b → (ended → (i : ℕ) → i < length scan.intervals → has_reported m i ≡ true) → IsReported becomes scan ended a b
  reported_all ended l m a b nothing t all =
      let k = t.keeps [] nothing in
      record {
        reported = t.reported;
        screen = t.screen;
        own = k.own;
        strips = k.strips;
        pieces = λ i. omega (arith, k.pieces i, one_at_most (has_reported m i));
        order = k.order;
        all = λ e i lt. k.pieces i ∙ ap (λ (b : Bool). cond {A = ℕ} b 1 0) (all e i lt);
      }

  pub reported_nothing : (ended : Type 0) (a : S) → (ended → ⊥) → IsReported becomes scan ended a a
  reported_nothing ended a miss = record {
    reported = [];
    screen = refl;
    own = tt;
    strips = λ i first. omega arith;
    pieces = λ i. omega arith;
    order = tt;
    all = λ e. absurd (miss e);
  }
