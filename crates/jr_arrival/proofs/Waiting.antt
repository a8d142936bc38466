-- If a source finds no end of its interval's data, the bytes do not make its next MCU final.
use Rattle.std.proofs.Common.{◌≡◌, ℕ, ◌+◌, ◌-◌, ◌*◌, ◌<◌, ◌≤◌, List, length, drop, refl, sym, subst, ◌∙◌, arith}
use Rattle.std.specs.Prelude.{false, Some}
use Rattle.std.proofs.Math.Nat.{add-mul}
use Rattle.jr_cut.specs.Cut.{IsStop}
use Rattle.jr_cut.specs.declared.scan_end.ScanEnd.TheVariants.{EndOfFile}
use Rattle.jr_cut.proofs.CutLaw.{ending_stop}
use Rattle.jr_head.specs.HeadValue.{HeadValue}
use Rattle.jr_head.specs.Geometry.{IsValid, mcus_across, mcus_down, mcus_of}
use Rattle.jr_head.specs.Intervals.{intervals_of, mcus_in}
use Rattle.jr_scan.specs.Run.{left_at}
use Rattle.jr_scan.specs.ScanValue.{ScanValue, interval_of}
use Rattle.jr_rows.specs.Cursors.{mcus_to}
use Rattle.jr_scan.specs.declared.place.Place.{Place}
use Rattle.jr_rows.proofs.PictureRows.{row_inside}
use Rattle.jr_arrival.specs.declared.file_source.FileSource.{FileSource}
use Rattle.jr_arrival.specs.declared.file_bytes.FileBytes.{FileBytes}
use Rattle.jr_arrival.specs.declared.window.TheConstants.{MCU_BITS}
use Rattle.jr_arrival.specs.FileSources.{IsFileSource, IsOpen, IsRightIn, NoneFollows, Waits, in_window, source_of}
use Rattle.jr_arrival.specs.Sources.{Steps}
use Rattle.jr_arrival.specs.LongerFile.{IsKnown, IsSettled, RowIsSettled}
use Rattle.jr_arrival.specs.Meaning.{MayBe}
use Rattle.jr_arrival.proofs.Going.{waits_on}
use Rattle.jr_arrival.proofs.SettledRows.{not_settled}
use Rattle.jr_arrival.proofs.Knowing.{not_known}
use Rattle.jr_arrival.proofs.Steps.{grows_true, its_end}
use Rattle.jr_arrival.specs.Parts.{FilePart, last_part, part_of}
use Rattle.jr_arrival.proofs.Parts.{drop_last, may_end}

module _ (h : HeadValue) (c : FileSource) (is : IsFileSource h c) (valid : IsValid h) (still : IsOpen c.window) (goes_on : c.window.file.are_all ≡ false) where
  abbrev bytes : List ℕ
  bytes = c.window.file.bytes.now

  abbrev end : ℕ
  end = c.window.at + still.read

  stop : IsStop (drop end bytes)
  stop = ending_stop (intervals_of h) c.cursor.number end (drop end bytes) EndOfFile (still.fill, still.all)

  abbrev x : FilePart
  x = part_of c.window.file

  -- in a file that ends with these bytes
  module _ (so_far : List ℕ) (s : ScanValue) (may : MayBe (last_part x) h so_far s) where
    end_is : drop (c.window.file.from + end) so_far ≡ drop end bytes
    end_is = drop_last x h so_far s may end still.within

    stop_there : IsStop (drop (c.window.file.from + end) so_far)
    stop_there = subst IsStop (sym end_is) stop

  waits : c.ended ≡ false → ((so_far : List ℕ) (s : ScanValue) → MayBe (last_part x) h so_far s → IsRightIn so_far s c → c.cursor.mcu < mcus_in s.head c.cursor.number → IsKnown (interval_of s c.cursor.number) c.cursor.mcu → ⊥) → Waits h c
  waits over none = record {
    goes_on = goes_on;
    unsettled = λ so_far s may lies more settled.
        let e = sym may.head in
        let on = its_end h c is.window end still.read still.found refl still.within still.spelled so_far s (may_end x h so_far s may) (stop_there so_far s may) over lies in
        let waiting = waits_on so_far s c.cursor.number (c.window.file.from + end) on.0 on.1 on.2 still.fill (end_is so_far s may ∙ still.all) in
        not_settled so_far s may.scan c.cursor.number waiting.0 (sym (waiting.1 may.scan)) (subst (λ (g : HeadValue). c.cursor.number < intervals_of g) e is.is_in.number)
        c.cursor.mcu (subst (λ (g : HeadValue). c.cursor.mcu ≤ mcus_in g c.cursor.number) e is.is_in.few) (none so_far s may lies) (subst IsValid e valid)
        (subst (λ (g : HeadValue). mcus_to g c.cursor < mcus_of g) e more) (subst (λ (g : HeadValue). IsSettled so_far s (mcus_to g c.cursor)) e settled);
  }

  -- the next MCU of it is not whole, and may become so
  pub waits_within : (p : Place) → c.cursor.place ≡ Some p → p.bit ≤ 8 * (c.window.found - c.window.from) → NoneFollows h c p → c.ended ≡ false → length (left_at (in_window h c) p) < MCU_BITS → Waits h c
  waits_within p at inside none over short = waits over (λ so_far s may lies lt known.
      not_known (interval_of s c.cursor.number) c.cursor.mcu
      (grows_true h c is.window end still.read still.found refl still.within still.spelled p at inside is.is_in valid none stop so_far s (may_end x h so_far s may) lies short (stop_there so_far s may)) known)

  -- or all of them are passed
  pub waits_after : c.cursor.mcu ≡ mcus_in h c.cursor.number → c.ended ≡ false → Waits h c
  waits_after all over = waits over (λ so_far s may lies lt known. let here : c.cursor.mcu < mcus_in h c.cursor.number = subst (λ (g : HeadValue). c.cursor.mcu < mcus_in g c.cursor.number) may.head lt in omega (arith, here, all))

-- so the row in which it waits is not final
pub row_waits : (h : HeadValue) (a d : FileSource) (row done : ℕ) → Steps h (source_of a) (source_of d) done → mcus_to h a.cursor ≡ row * mcus_across h → done < mcus_across h → row < mcus_down h → Waits h d
    → (so_far : List ℕ) (s : ScanValue) → MayBe (last_part (part_of a.window.file)) h so_far s → IsRightIn so_far s a → RowIsSettled so_far s row → ⊥
row_waits h a d row done steps start lt inside waiting so_far s may lies settled =
    let m = mcus_to h d.cursor in
    let across = mcus_across h in
    let there = subst (λ (f : FileBytes). MayBe (last_part (part_of f)) h so_far s) (sym steps.part) may in
    let all = subst (λ (g : HeadValue). (m : ℕ) → row * mcus_across g ≤ m → m < (row + 1) * mcus_across g → IsSettled so_far s m) may.head settled in
    let right = steps.right so_far s (may_end (part_of a.window.file) h so_far s may, lies) in
    waiting.unsettled so_far s there right.1 (omega (arith, steps.passed, start, lt, row_inside h row inside)) (all m (omega (arith, steps.passed, start)) (omega (arith, steps.passed, start, lt, add-mul row 1 across)))
