-- The damage of the first intervals, one more at a time.
use Rattle.std.proofs.Common.{◌≡◌, ℕ, ◌+◌, ◌<◌, ◌⊎◌, cond, min, max, IfSome, IfNone, Bool, true, false, [], ◌∷◌, ◌++◌, length, get_or, Option, Some, None, refl, sym, ap, subst, ◌∙◌, inl, inr, length-append, arith}
use Rattle.std.specs.List.{count_by}
use Rattle.std.proofs.lemmas.Bool.{cases_lt}
use Rattle.std.proofs.lemmas.List.Sums.{sum_by-append}
use Rattle.std.proofs.Math.Seq.{get_or-append_seam}
use Rattle.std.proofs.Math.ListN.{get_or-append}
use Rattle.std.proofs.lemmas.List.{ext_get_or}
use Rattle.jr_scan.specs.IntervalValue.{IntervalValue}
use Rattle.jr_scan.specs.Mcus.{HasNoDecoding, HasDecoding}
use Rattle.jr_scan.specs.ScanValue.{ScanValue, interval_of}
use Rattle.jr_damage.specs.declared.lines.Lines.{Lines}
use Rattle.jr_damage.specs.declared.verdict.Verdict.{Verdict}
use Rattle.jr_damage.specs.Damage.{ReportsDamage, CountsDamaged}
use Rattle.jr_damage.specs.Lines.{Touches, AreLinesOf}
use Rattle.jr_damage.specs.Verdicts.{DamageTouches, IsHull, IsTouched, IsVerdictOf}

pub counts_none : (s : ScanValue) → CountsDamaged s 0 0
counts_none s = record { marks = []; long = refl; each = λ i lt. absurd (omega arith); counted = refl }

pub counts_more : (s : ScanValue) (n count next count' : ℕ) (b : Bool) → CountsDamaged s n count → ReportsDamage (interval_of s n) b → next ≡ n + 1 → count' ≡ count + count_by (λ (damaged : Bool). damaged) (b ∷ []) → CountsDamaged s next count'
counts_more s n count next count' b c is e more =
    record {
      marks = c.marks ++ b ∷ [];
      long = omega (arith, length-append c.marks (b ∷ []), c.long, e);
      each = λ i lt. elim (cases_lt i n) [
        | inl h ↦ let at : get_or (c.marks ++ b ∷ []) i false ≡ get_or c.marks i false = get_or-append c.marks (b ∷ []) false i (omega (arith, h, c.long)) in subst (ReportsDamage (interval_of s i)) (sym at) (c.each i h)
        | inr h ↦
            let same : n ≡ i = omega (arith, h, lt, e) in
            let long : length c.marks ≡ i = c.long ∙ same in
            let at : get_or (c.marks ++ b ∷ []) i false ≡ b = subst (λ (k : ℕ). get_or (c.marks ++ b ∷ []) k false ≡ b) long (get_or-append_seam c.marks b [] false) in
            subst (ReportsDamage (interval_of s i)) (sym at) (subst (λ (k : ℕ). ReportsDamage (interval_of s k) b) same is)
      ];
      counted = omega (arith, more, c.counted, sum_by-append (λ (damaged : Bool). cond damaged 1 0) c.marks (b ∷ []));
    }

-- an interval with a decoding touches nothing by damage
before_sound : (s : ScanValue) (n next line : ℕ) → HasDecoding (interval_of s n) → next ≡ n + 1 → DamageTouches s next line → DamageTouches s n line
before_sound s n next line d e t = elim (cases_lt t.interval n) [
  | inl h ↦ record { interval = t.interval; below = h; damaged = t.damaged; touches = t.touches }
  | inr h ↦ let same : t.interval ≡ n = omega (arith, h, t.below, e) in absurd (subst (λ (k : ℕ). HasNoDecoding (interval_of s k)) same t.damaged d.0 d.1)
]

more_touches : (s : ScanValue) (n next line : ℕ) → next ≡ n + 1 → DamageTouches s n line → DamageTouches s next line
more_touches s n next line e t = record { interval = t.interval; below = omega (arith, t.below, e); damaged = t.damaged; touches = t.touches }

pub touched_sound : (s : ScanValue) (n next : ℕ) (lines : Option Lines) → IsTouched s n lines → HasDecoding (interval_of s n) → next ≡ n + 1 → IsTouched s next lines
touched_sound s n next None t d e = λ line u. t line (before_sound s n next line d e u)
touched_sound s n next (Some l) t d e = record {
  first = more_touches s n next l.first e t.first;
  last = more_touches s n next l.last e t.last;
  each = λ line u. t.each line (before_sound s n next line d e u);
}

-- the lines of one more damaged interval
touches_last : (s : ScanValue) (n next line : ℕ) → HasNoDecoding (interval_of s n) → next ≡ n + 1 → Touches s.head n line → DamageTouches s next line
touches_last s n next line d e t = record { interval = n; below = omega (arith, e); damaged = d; touches = t }

-- a line that damage touches is touched by the last interval or by one before
either : (s : ScanValue) (n next line : ℕ) → next ≡ n + 1 → DamageTouches s next line → (DamageTouches s n line) ⊎ (Touches s.head n line)
either s n next line e t = elim (cases_lt t.interval n) [
  | inl h ↦ inl (record { interval = t.interval; below = h; damaged = t.damaged; touches = t.touches })
  | inr h ↦ let same : t.interval ≡ n = omega (arith, h, t.below, e) in inr (subst (λ (k : ℕ). Touches s.head k line) same t.touches)
]

ends : (a b : ℕ) (P : ℕ → Type 0) → P a → P b → P (min a b)
ends a b P p q = elim (cases_lt a b) [
  | inl h ↦ let e : a ≡ min a b = omega (arith, h) in subst P e p
  | inr h ↦ let e : b ≡ min a b = omega (arith, h) in subst P e q
]

tops : (a b : ℕ) (P : ℕ → Type 0) → P a → P b → P (max a b)
tops a b P p q = elim (cases_lt a b) [
  | inl h ↦ let e : b ≡ max a b = omega (arith, h) in subst P e q
  | inr h ↦ let e : a ≡ max a b = omega (arith, h) in subst P e p
]

pub touched_more : (s : ScanValue) (n next : ℕ) (lines : Option Lines) (m r : Lines) → IsTouched s n lines → HasNoDecoding (interval_of s n) → AreLinesOf s.head n m → next ≡ n + 1
    → IfNone lines (r ≡ m) → IfSome lines (λ l. r.first ≡ min l.first m.first) → IfSome lines (λ l. r.last ≡ max l.last m.last) → IsTouched s next (Some r)
touched_more s n next None m r t d are e none _ _ = subst (IsHull s next) (sym none) (record {
  first = touches_last s n next m.first d e (are.touched m.first (omega arith, are.some));
  last = touches_last s n next m.last d e (are.touched m.last (are.some, omega arith));
  each = λ line u. elim (either s n next line e u) [ inl v ↦ absurd (t line v) | inr v ↦ are.within line v ];
})
touched_more s n next (Some l) m r t d are e _ first last =
    let a = more_touches s n next l.first e t.first in
    let b = touches_last s n next m.first d e (are.touched m.first (omega arith, are.some)) in
    let f = more_touches s n next l.last e t.last in
    let g = touches_last s n next m.last d e (are.touched m.last (are.some, omega arith)) in
    record {
      first = subst (DamageTouches s next) (sym first) (ends l.first m.first (DamageTouches s next) a b);
      last = subst (DamageTouches s next) (sym last) (tops l.last m.last (DamageTouches s next) f g);
      each = λ line u. elim (either s n next line e u) [
        | inl v ↦ let w = t.each line v in (omega (arith, w.0, first), omega (arith, w.1, last))
        | inr v ↦ let w = are.within line v in (omega (arith, w.0, first), omega (arith, w.1, last))
      ];
    }

pub verdict_none : (s : ScanValue) → IsVerdictOf s 0 (record { damaged = 0; lines = None })
verdict_none s = record { damaged = counts_none s; lines = λ line t. absurd (omega (arith, t.below)); few = omega arith }

pub verdict_sound : (s : ScanValue) (n : ℕ) (v : Verdict) → IsVerdictOf s n v → HasDecoding (interval_of s n) → IsVerdictOf s (n + 1) v
verdict_sound s n v is d =
    record { damaged = counts_more s n v.damaged (n + 1) v.damaged false is.damaged d refl (omega arith); lines = touched_sound s n (n + 1) v.lines is.lines d refl; few = omega (arith, is.few) }

pub verdict_damaged : (s : ScanValue) (n count : ℕ) (v : Verdict) (m r : Lines) → IsVerdictOf s n v → HasNoDecoding (interval_of s n) → AreLinesOf s.head n m → count ≡ v.damaged + 1
    → IfNone v.lines (r ≡ m) → IfSome v.lines (λ l. r.first ≡ min l.first m.first) → IfSome v.lines (λ l. r.last ≡ max l.last m.last) → IsVerdictOf s (n + 1) (record { damaged = count; lines = Some r })
verdict_damaged s n count v m r is d are e none first last =
    record { damaged = counts_more s n v.damaged (n + 1) count true is.damaged d refl (omega (arith, e)); lines = touched_more s n (n + 1) v.lines m r is.lines d are refl none first last; few = omega (arith, e, is.few) }

-- an interval is damaged or it is not, and never both
one_mark : (i : IntervalValue) (x y : Bool) → ReportsDamage i x → ReportsDamage i y → x ≡ y
one_mark i true true p q = refl
one_mark i false false p q = refl
one_mark i true false p q = absurd (p q.0 q.1)
one_mark i false true p q = absurd (q p.0 p.1)

pub one_count : (s : ScanValue) (n a b : ℕ) → CountsDamaged s n a → CountsDamaged s n b → a ≡ b
one_count s n a b x y =
    let same : x.marks ≡ y.marks = ext_get_or false x.marks y.marks (x.long ∙ sym y.long) (λ i lt. let few : i < n = omega (arith, lt, x.long) in one_mark (interval_of s i) (get_or x.marks i false) (get_or y.marks i false) (x.each i few) (y.each i few)) in
    x.counted ∙ ap (count_by (λ (damaged : Bool). damaged)) same ∙ sym y.counted
