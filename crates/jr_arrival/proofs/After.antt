-- A run of MCUs with other data of its interval before it.
use Rattle.std.proofs.Common.{◌≡◌, ℕ, ◌*◌, Bool, List, ◌++◌, length, drop, sym, ap, subst, ◌∙◌, arith}
use Rattle.std.specs.Prelude.{ℤ}
use Rattle.std.proofs.lemmas.List.{drop-drop}
use Rattle.std.proofs.Math.Seq.{drop-append_seam}
use Rattle.std.proofs.lemmas.List.Concat.{flat_map-append}
use Rattle.jr_code.specs.Bits.{bits, bits_of}
use Rattle.jr_code.proofs.BitLemmas.{length-bits}
use Rattle.jr_mcu.specs.Mcus.{BeginsNoMcu}
use Rattle.jr_scan.specs.declared.place.Place.{Place}
use Rattle.jr_scan.specs.declared.place.RunEnd.{RunEnd}
use Rattle.jr_scan.specs.declared.place.RunEnd.TheVariants.{AllRead, NoMcu}
use Rattle.jr_scan.specs.IntervalValue.{IntervalValue}
use Rattle.jr_scan.specs.Run.{EndsAs, HasNoMcu, IsRun, left_at, run_from}
use Rattle.jr_arrival.specs.Meaning.{after, with_before}

module _ (i : IntervalValue) (front : List ℕ) where
  -- the bits starting at a position are the same
  pub left_after : (p : Place) → left_at (with_before i front) (after front p) ≡ left_at i p
  left_after p =
      let seam : drop (8 * length front) (bits (front ++ i.bytes)) ≡ bits i.bytes =
      ap (drop (8 * length front)) (flat_map-append (bits_of 8) front i.bytes)
      ∙ ap (λ (k : ℕ). drop k (bits front ++ bits i.bytes)) (sym (length-bits front))
      ∙ drop-append_seam (bits front) (bits i.bytes) in
      sym (drop-drop p.bit (8 * length front) (bits (front ++ i.bytes))) ∙ ap (drop p.bit) seam

  pub none_after : (p : Place) → HasNoMcu i p → HasNoMcu (with_before i front) (after front p)
  none_after p none = subst (BeginsNoMcu i.head p.predictions) (sym (left_after p)) none

  ends_after : (p : Place) (k count : ℕ) (to : Place) (end : RunEnd) → EndsAs (run_from i p k) count to end → EndsAs (run_from (with_before i front) (after front p) k) count (after front to) end
  ends_after p k count to AllRead e = e
  ends_after p k count to NoMcu e = (e.0, none_after to e.1)

  pub run_after : (p : Place) (k : ℕ) (zs : List (List ℤ)) (to : Place) (end : RunEnd) → IsRun (run_from i p k) zs to end → IsRun (run_from (with_before i front) (after front p) k) zs (after front to) end
  run_after p k zs to end r = record {
    count = r.count;
    few = r.few;
    taken = r.taken;
    mcus = r.mcus;
    spelled = left_after p ∙ r.spelled ∙ ap (λ (b : List Bool). r.taken ++ b) (sym (left_after to));
    bit = omega (arith, r.bit);
    predictions = r.predictions;
    ends = ends_after p k r.count to end r.ends;
  }
