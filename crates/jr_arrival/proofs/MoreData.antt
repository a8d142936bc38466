-- Whole MCUs of an interval are those of more data.
use Rattle.std.proofs.Common.{◌≡◌, ℕ, ◌*◌, ◌≤◌, Bool, List, ◌++◌, length, drop, sym, ap, ◌∙◌, append_assoc, length-append, length-drop, arith}
use Rattle.std.specs.Prelude.{ℤ}
use Rattle.std.proofs.lemmas.List.{drop-append-le}
use Rattle.std.proofs.lemmas.List.Concat.{flat_map-append}
use Rattle.jr_code.specs.Bits.{bits, bits_of}
use Rattle.jr_code.proofs.BitLemmas.{length-bits}
use Rattle.jr_scan.specs.declared.place.Place.{Place}
use Rattle.jr_scan.specs.declared.place.RunEnd.{RunEnd}
use Rattle.jr_scan.specs.declared.place.RunEnd.TheVariants.{AllRead}
use Rattle.jr_scan.specs.IntervalValue.{IntervalValue}
use Rattle.jr_scan.specs.Mcus.{Front}
use Rattle.jr_scan.specs.Run.{EndsAs, IsRun, RunOf, left_at}
use Rattle.jr_arrival.specs.More.{run_with_more, with_more}

pub bits_more : (bytes more : List ℕ) → bits (bytes ++ more) ≡ bits bytes ++ bits more
bits_more bytes more = flat_map-append (bits_of 8) bytes more

pub front_is_final : (i : IntervalValue) (more : List ℕ) (k : ℕ) (zs : List (List ℤ)) → Front i k zs → Front (with_more i more) k zs
front_is_final i more k zs f = record {
  at_most = f.at_most;
  taken = f.taken;
  rest = f.rest ++ bits more;
  mcus = f.mcus;
  spelled = bits_more i.bytes more ∙ ap (λ (b : List Bool). b ++ bits more) f.spelled ∙ append_assoc f.taken f.rest (bits more);
}

-- the bits starting at a position, if this is among those so far
pub left_more : (i : IntervalValue) (more : List ℕ) (p : Place) → p.bit ≤ 8 * length i.bytes → left_at (with_more i more) p ≡ left_at i p ++ bits more
left_more i more p within = ap (λ (b : List Bool). drop p.bit b) (bits_more i.bytes more) ∙ drop-append-le p.bit (bits i.bytes) (bits more) (omega (arith, within, length-bits i.bytes))

-- a run stays one if it ends in the same way with more data: its end is among the bits so far
pub run_more : (r : RunOf) (more : List ℕ) (zs : List (List ℤ)) (to : Place) (end : RunEnd) → r.from.bit ≤ 8 * length r.interval.bytes → (a : IsRun r zs to end) → EndsAs (run_with_more r more) a.count to end → IsRun (run_with_more r more) zs to end
run_more r more zs to end within a ends =
    let low : to.bit ≤ 8 * length r.interval.bytes =
    omega (arith, within, a.bit, ap length a.spelled, length-append a.taken (left_at r.interval to), length-drop r.from.bit (bits r.interval.bytes), length-bits r.interval.bytes) in
    record {
      count = a.count;
      few = a.few;
      taken = a.taken;
      mcus = a.mcus;
      spelled = left_more r.interval more r.from within ∙ ap (λ (b : List Bool). b ++ bits more) a.spelled ∙ append_assoc a.taken (left_at r.interval to) (bits more)
          ∙ ap (λ (b : List Bool). a.taken ++ b) (sym (left_more r.interval more to low));
      bit = a.bit;
      predictions = a.predictions;
      ends = ends;
    }

pub run_is_final : (r : RunOf) (more : List ℕ) (zs : List (List ℤ)) (to : Place) → r.from.bit ≤ 8 * length r.interval.bytes → IsRun r zs to AllRead → IsRun (run_with_more r more) zs to AllRead
run_is_final r more zs to within a = run_more r more zs to AllRead within a a.ends
