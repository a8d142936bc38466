-- The pieces of a board, and their counts.
use Rattle.std.proofs.Common.{◌≡◌, ℕ, zero-add, zero, suc, ◌+◌, ◌^◌, ◌<◌, ◌≤◌, Bool, true, false, not, cond, List, [], ◌∷◌, Option, Some, None, length, length-set, get_or, set, map, replicate, sym, refl, ap, ◌∙◌, subst, arith, get_or-set_same, get_or-set_other}
use Rattle.std.specs.List.{count_by}
use Rattle.std.proofs.lemmas.List.{length-replicate}
use Rattle.std.proofs.lemmas.List.Sums.{sum_by-cons, sum_by-set, count_by-le-length}
use Rattle.std.specs.declared.sync.Arc.{Arc}
use Rattle.std.specs.declared.alloc.Global.{Global}
use mathlib.Core.Logic.{dite}
use mir.Val.{bool_byte}
use native.Mathlib.Decide.{ℕ_discrete}
use Rattle.jr_scan.specs.ScanValue.{ScanValue}
use Rattle.jr_piece.specs.PieceValue.{PieceValue}
use Rattle.jr_picture.specs.DecodedScan.{DecodedScan, is_sound_piece, is_damaged_piece, IsFor, IsPieceOf}
use Rattle.jr_piece.specs.Outcome.{IsOutcome}
use Rattle.jr_wall.specs.Kept.{KeepsCounts, shared_piece}

pub no_piece : (n i : ℕ) → get_or (replicate {A = Option PieceValue} n None) i None ≡ None
no_piece zero i = refl
no_piece (suc n) zero = refl
no_piece (suc n) (suc i) = no_piece n i

pub none_held : (n : ℕ) → map shared_piece (replicate n None) ≡ replicate n None
none_held zero = refl
none_held (suc n) = ap (λ (l : List (Option PieceValue)). None ∷ l) (none_held n)

none_counted : (test : Option PieceValue → Bool) (n : ℕ) → test None ≡ false → count_by test (replicate n None) ≡ 0
none_counted test zero e = refl
none_counted test (suc n) e = sum_by-cons (λ (p : Option PieceValue). cond (test p) 1 0) None (replicate n None) ∙ rw e (zero-add _ ∙ none_counted test n e)

pub kept_new : (scan : ScanValue) (n : ℕ) → n ≡ length scan.intervals → n < 2 ^ 32 → KeepsCounts (record { scan = scan; pieces = map shared_piece (replicate n None) }) 0 0
kept_new scan n e small =
    rw none_held (record {
      valid = record { places = length-replicate {A = Option PieceValue} n None ∙ e; each = λ i p h. let z : None ≡ Some p = sym (no_piece n i) ∙ h in cc };
      few = rw (length-replicate {A = Option PieceValue} n None) small;
      sound_is = sym (none_counted is_sound_piece n refl);
      damaged_is = sym (none_counted is_damaged_piece n refl);
    })

count_set : (test : Option PieceValue → Bool) (ps : List (Option PieceValue)) (n : ℕ) (p : PieceValue) → n < length ps → get_or ps n None ≡ None → test None ≡ false
    → count_by test (set ps n (Some p)) ≡ count_by test ps + cond (test (Some p)) 1 0
count_set test ps n p h none e =
    let s = sum_by-set (λ (q : Option PieceValue). cond (test q) 1 0) ps n (Some p) None h in
    let was : cond {A = ℕ} (test (get_or ps n None)) 1 0 ≡ 0 = ap (λ (q : Option PieceValue). cond {A = ℕ} (test q) 1 0) none ∙ ap (λ (b : Bool). cond {A = ℕ} b 1 0) e in
    omega arith

-- one more piece is posted: its mark counts, and the counts fit
pub record Posted (b : DecodedScan) (n : ℕ) (p : PieceValue) (sound damaged : ℕ) : Type 0 where
  pub kept : KeepsCounts (record { scan = b.scan; pieces = set b.pieces n (Some p) }) sound damaged
  pub sound_fits : sound < 2 ^ 32
  pub damaged_fits : damaged < 2 ^ 32

byte_of : (b : Bool) → let n : ℕ = cond b 1 0 in n ≡ bool_byte b
byte_of true = refl
byte_of false = refl

turned : (b : Bool) → let n : ℕ = cond (cond b false true) 1 0 in n ≡ bool_byte (not b)
turned true = refl
turned false = refl

pub posts : (b : DecodedScan) (n : ℕ) (p : PieceValue) (sound damaged more less : ℕ) → KeepsCounts b sound damaged → n ≡ p.interval.number → IsFor p.interval b.scan → IsOutcome p → get_or b.pieces n None ≡ None
    → more ≡ bool_byte p.is_sound → less ≡ bool_byte (not p.is_sound) → Posted b n p (sound + more) (damaged + less)
posts b n p sound damaged more less k is for outcome none m l =
    let places = k.valid.places in
    let within : n < length b.pieces = omega (arith, for.0) in
    let long = length-set b.pieces n (Some p) in
    let s = count_set is_sound_piece b.pieces n p within none refl in
    let d = count_set is_damaged_piece b.pieces n p within none refl in
    let sound_now : sound + more ≡ count_by is_sound_piece (set b.pieces n (Some p)) = omega (arith, s, k.sound_is, byte_of p.is_sound, m) in
    let damaged_now : damaged + less ≡ count_by is_damaged_piece (set b.pieces n (Some p)) = omega (arith, d, k.damaged_is, turned p.is_sound, l) in
    let few = k.few in
    record {
      kept = record {
        valid = record {
          places = long ∙ places;
          each = λ i q e. dite (ℕ_discrete i n)
              (λ same.
              let a : get_or (set b.pieces n (Some p)) n None ≡ Some q = ap (λ (m : ℕ). get_or (set b.pieces n (Some p)) m None) (sym same) ∙ e in
              let two : Some p ≡ Some q = sym (get_or-set_same b.pieces n (Some p) None within) ∙ a in
              let one : p ≡ q = cc in
              let number : p.interval.number ≡ i = sym is ∙ sym same in
              let of : IsPieceOf b.scan i p = record { number = number; interval = for; outcome = outcome } in
              subst (λ (x : PieceValue). IsPieceOf b.scan i x) one of)
              (λ apart. k.valid.each i q (sym (get_or-set_other b.pieces n i (Some p) None apart) ∙ e));
        };
        few = rw long few;
        sound_is = sound_now;
        damaged_is = damaged_now;
      };
      sound_fits = omega (arith, sound_now, count_by-le-length is_sound_piece (set b.pieces n (Some p)), long);
      damaged_fits = omega (arith, damaged_now, count_by-le-length is_damaged_piece (set b.pieces n (Some p)), long);
    }

one_of : (b : Bool) → let n : ℕ = cond b 1 0 in n + cond (cond b false true) 1 0 ≤ 1
one_of true = omega arith
one_of false = omega arith

-- a position has at most one sound or damaged piece
one_mark : (p : Option PieceValue) → let n : ℕ = cond (is_sound_piece p) 1 0 in n + cond (is_damaged_piece p) 1 0 ≤ 1
one_mark None = omega arith
one_mark (Some p) = one_of p.is_sound

pub few_marks : (ps : List (Option PieceValue)) → count_by is_sound_piece ps + count_by is_damaged_piece ps ≤ length ps
few_marks [] = omega arith
few_marks (p ∷ ps) =
    omega (arith, one_mark p, few_marks ps, sum_by-cons (λ (q : Option PieceValue). cond (is_sound_piece q) 1 0) p ps, sum_by-cons (λ (q : Option PieceValue). cond (is_damaged_piece q) 1 0) p ps)

-- the piece at a position of the fields
pub held_at : (ps : List (Option (Arc PieceValue Global))) (i : ℕ) → get_or (map shared_piece ps) i None ≡ shared_piece (get_or ps i None)
held_at [] i = refl
held_at (p ∷ ps) zero = refl
held_at (p ∷ ps) (suc i) = held_at ps i
