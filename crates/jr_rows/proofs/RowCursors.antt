-- The cursor of a row of MCUs.
use Rattle.std.proofs.Common.{◌≡◌, ℕ, ◌+◌, ◌*◌, ◌<◌, ◌≤◌, length, sym, ap, subst, ◌∙◌, arith}
use Rattle.jr_head.specs.HeadValue.{HeadValue}
use Rattle.jr_scan.specs.ScanValue.{ScanValue, interval_of, intervals_of, mcus_in}
use Rattle.jr_scan.specs.Cursors.{interval_start}
use Rattle.jr_scan.specs.declared.cursor.Cursor.{Cursor}
use Rattle.jr_scan.proofs.CursorRuns.{at_start}
use Rattle.jr_rows.specs.Cursors.{IsCursorOf, mcus_to}
use Rattle.jr_rows.specs.Rows.{intervals_before, mcus_before}
use Rattle.jr_rows.proofs.IntervalPlaces.{ends_before, of_first}

-- a cursor at the start of an interval
pub starts : (s : ScanValue) (number : ℕ) (c : Cursor) → number < length s.intervals → c ≡ interval_start number → IsCursorOf s c
starts s number c lt is = subst (IsCursorOf s) (sym is) (record { number = lt; at = at_start (interval_of s number) })

pub start_to : (h : HeadValue) (number : ℕ) (c : Cursor) → c ≡ interval_start number → mcus_to h c ≡ number * h.restart + 0
start_to h number c is = ap (mcus_to h) is

-- a cursor that is ready to read further
pub record IsReady (s : ScanValue) (old r : Cursor) (left : ℕ) : Type 0 where
  pub number : r.number < intervals_of s.head
  pub some : 0 < left
  pub left_is : r.mcu + left ≡ mcus_in s.head r.number
  pub to : mcus_to s.head r ≡ mcus_to s.head old

module _ (s : ScanValue) (limit : ℕ) (old r : Cursor) (left : ℕ) (ready : IsReady s old r left) where
  -- its interval is decoded if MCUs are left
  pub decoded : (some : ℕ) → 0 < some → mcus_to s.head old + some ≤ mcus_before s.head limit → r.number < limit
  decoded some positive few = of_first s.head limit r.number r.mcu some ready.number positive (omega (arith, few, ready.to))

  -- the number of intervals that end before it
  pub ended : r.number ≡ intervals_before s.head (mcus_to s.head old)
  ended = sym (ends_before s.head r.number r.mcu ready.number (omega (arith, ready.left_is, ready.some))) ∙ ap (intervals_before s.head) ready.to
