-- A part of a file, in the whole file.
use Rattle.std.proofs.Common.{◌≡◌, ℕ, ◌+◌, ◌≤◌, List, ◌++◌, length, take, drop, refl, sym, ap, subst, ◌∙◌, length-append, arith}
use Rattle.std.proofs.lemmas.List.{append-nil, drop-append-le, drop-drop}
use Rattle.std.proofs.Math.Seq.{drop-append_seam}
use Rattle.jr_cut.specs.Cut.{IsRaw}
use Rattle.jr_head.specs.HeadValue.{HeadValue}
use Rattle.jr_scan.specs.ScanValue.{ScanValue}
use Rattle.jr_arrival.specs.Meaning.{GoesOnAt, MayBe}
use Rattle.jr_arrival.specs.Parts.{FilePart, last_part}
use Rattle.jr_arrival.proofs.Going.{OnBy, on_by}
use Rattle.jr_arrival.proofs.Spelled.{front_whole}

module _ (x : FilePart) (h : HeadValue) (whole : List ℕ) (t : ScanValue) (may : MayBe x h whole t) where
  drop_whole : (at : ℕ) → drop (x.from + at) whole ≡ drop at (x.bytes ++ may.more)
  drop_whole at =
      let rest = x.bytes ++ may.more in
      sym (drop-drop at x.from whole) ∙ ap (drop at) (ap (drop x.from) may.is ∙ ap (λ (k : ℕ). drop k (may.before ++ rest)) (sym may.from) ∙ drop-append_seam may.before rest)

  -- the file starting at a byte of the part
  pub drop_part : (at : ℕ) → at ≤ length x.bytes → drop (x.from + at) whole ≡ drop at x.bytes ++ may.more
  drop_part at within = drop_whole at ∙ drop-append-le at x.bytes may.more within

  pub take_part : (at read : ℕ) → at + read ≤ length x.bytes → take read (drop (x.from + at) whole) ≡ take read (drop at x.bytes)
  take_part at read within = ap (take read) (drop_whole at) ∙ front_whole x.bytes may.more at read within

  pub length_part : x.from + length x.bytes ≤ length whole
  length_part = omega (arith, ap length may.is, length-append may.before (x.bytes ++ may.more), length-append x.bytes may.more, may.from)

  -- what is left after bytes of it that spell data
  pub on_part : (i at read : ℕ) (before found : List ℕ) → (g : GoesOnAt whole t i (x.from + at) before) → at + read ≤ length x.bytes → IsRaw (take read (drop at x.bytes)) found → OnBy whole t i (x.from + at + read) before found g.rest
  on_part i at read before found g within raw =
      on_by whole t i (x.from + at) read before found g (omega (arith, within, length_part)) (subst (λ (y : List ℕ). IsRaw y found) (sym (take_part at read within)) raw)

-- ---- a part with which the file ends

pub may_end : (x : FilePart) (h : HeadValue) (whole : List ℕ) (t : ScanValue) → MayBe (last_part x) h whole t → MayBe x h whole t
may_end x h whole t may = record { before = may.before; more = may.more; is = may.is; from = may.from; fits = may.fits; none = λ all. may.none refl; head = may.head; scan = may.scan }

pub drop_last : (x : FilePart) (h : HeadValue) (whole : List ℕ) (t : ScanValue) (may : MayBe (last_part x) h whole t) (at : ℕ) → at ≤ length x.bytes → drop (x.from + at) whole ≡ drop at x.bytes
drop_last x h whole t may at within =
    drop_part (last_part x) h whole t may at within ∙ ap (λ (y : List ℕ). drop at x.bytes ++ y) (may.none refl) ∙ append-nil (drop at x.bytes)
