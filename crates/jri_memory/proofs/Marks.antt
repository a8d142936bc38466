-- The marks of the first intervals of a scan, one more at a time.
use Rattle.std.proofs.Common.{◌≡◌, ℕ, ◌+◌, ◌<◌, cond, Bool, true, false, List, [], ◌∷◌, ◌++◌, length, get_or, slice_index, refl, sym, subst, ◌∙◌, inl, inr, length-append, arith}
use Rattle.std.specs.List.{count_by}
use Rattle.std.proofs.lemmas.Bool.{cases_lt}
use Rattle.std.proofs.lemmas.List.Sums.{sum_by-append}
use Rattle.std.proofs.Math.Seq.{get_or-append_seam}
use Rattle.std.proofs.Math.ListN.{get_or-append}
use Rattle.jr_scan.specs.ScanValue.{ScanValue, interval_of}
use Rattle.jr_picture.specs.declared.mark.Mark.{Mark}
use Rattle.jr_picture.specs.declared.mark.Mark.TheVariants.{Blank, Sound, Damaged}
use Rattle.jr_picture.specs.Headline.{mark_in, is_sound, is_damaged}
use Rattle.jr_rows.specs.MarkBytes.{mark_byte}
use Rattle.jr_rows.specs.declared.marked.Marked.{Marked}
use Rattle.jri_memory.specs.Checks.{IsMarkOf, AreStored}

pub store_none : (s : ScanValue) (m : Marked) (bytes : List ℕ) → m.sound ≡ 0 → m.damaged ≡ 0 → AreStored s 0 m bytes []
store_none s m bytes a b = record {
  are = record { long = refl; each = λ i lt. absurd (omega (arith, lt)) };
  sound = a;
  damaged = b;
  all = omega (arith, a, b);
  store = λ some i lt. absurd (omega (arith, lt));
}

-- a predicate that holds for each of n marks, and for one more after them, holds for each of these
each_more : (n : ℕ) (ms : List Mark) (m : Mark) (P : ℕ → Mark → Type 0) → length ms ≡ n → ((i : ℕ) → i < n → P i (mark_in ms i)) → P n m → (i : ℕ) → i < n + 1 → P i (mark_in (ms ++ m ∷ []) i)
each_more n ms m P long each last i lt = elim (cases_lt i n) [
  | inl h ↦ let at : get_or (ms ++ m ∷ []) i Blank ≡ get_or ms i Blank = get_or-append ms (m ∷ []) Blank i (omega (arith, h, long)) in subst (P i) (sym at) (each i h)
  | inr h ↦
      let same : n ≡ i = omega (arith, h, lt) in
      let at : get_or (ms ++ m ∷ []) i Blank ≡ m = subst (λ (k : ℕ). get_or (ms ++ m ∷ []) k Blank ≡ m) (long ∙ same) (get_or-append_seam ms m [] Blank) in
      subst (P i) (sym at) (subst (λ (k : ℕ). P k m) same last)
]

sound_counted : (b : Bool) → count_by is_sound (cond b Sound Damaged ∷ []) ≡ cond {A = ℕ} b 1 0
sound_counted true = refl
sound_counted false = refl

damaged_counted : (b : Bool) → count_by is_damaged (cond b Sound Damaged ∷ []) ≡ cond {A = ℕ} b 0 1
damaged_counted true = refl
damaged_counted false = refl

pub store_more : (s : ScanValue) (n : ℕ) (before after : Marked) (old new : List ℕ) (ms : List Mark) (b : Bool) → AreStored s n before old ms → IsMarkOf (interval_of s n) (cond b Sound Damaged)
    → after.sound ≡ before.sound + cond {A = ℕ} b 1 0 → after.damaged ≡ before.damaged + cond {A = ℕ} b 0 1 → after.sound + after.damaged ≡ n + 1
    → length new ≡ length old → (0 < length old → slice_index new n ≡ mark_byte (cond b Sound Damaged)) → ((i : ℕ) → i < n → slice_index new i ≡ slice_index old i)
    → AreStored s (n + 1) after new (ms ++ cond b Sound Damaged ∷ [])
store_more s n before after old new ms b p is sound damaged all long store kept =
    let m : Mark = cond b Sound Damaged in
    record {
      are = record {
        long = omega (arith, length-append ms (m ∷ []), p.are.long);
        each = each_more n ms m (λ i k. IsMarkOf (interval_of s i) k) p.are.long p.are.each is;
      };
      sound = omega (arith, sound, p.sound, sound_counted b, sum_by-append (λ (k : Mark). cond (is_sound k) 1 0) ms (m ∷ []));
      damaged = omega (arith, damaged, p.damaged, damaged_counted b, sum_by-append (λ (k : Mark). cond (is_damaged k) 1 0) ms (m ∷ []));
      all = all;
      store = λ some. let there : 0 < length old = omega (arith, some, long) in
          each_more n ms m (λ i k. slice_index new i ≡ mark_byte k) p.are.long (λ i lt. kept i lt ∙ p.store there i lt) (store there);
    }
