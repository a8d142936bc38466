-- What a looker keeps of what a screen was sent.
use Rattle.std.specs.Prelude.{◌≡◌, ℕ, ◌≤◌, Bool, true, false, List, ◌++◌, length, count_by, if◌then◌else◌, slice_index_or}
use Rattle.std.specs.List.{AllByRecursion}
use Rattle.jr_scan.specs.ScanValue.{ScanValue}
use Rattle.jr_view.specs.declared.looker.Looker.{Looker}
use Rattle.jr_view.specs.Reported.{Notice, AreReportedInOrder, ScreenBecomes, IsOfScan, is_piece, is_strip}

-- whether the piece of interval i was reported to it
abbrev pub has_reported : Looker → ℕ → Bool
has_reported l i = slice_index_or l.pieces.items i false

-- the pieces that are marked were reported to it and no others, and no strip of an interval starting at this MCU
pub record Keeps (scan : ScanValue) (l : Looker) (reported : List Notice) : Type 0 where
  pub own : AllByRecursion (IsOfScan scan) reported
  pub pieces : (i : ℕ) → count_by (is_piece i) reported ≡ (if has_reported l i then 1 else 0)
  pub strips : (i first : ℕ) → count_by (is_strip i first) reported ≤ 1
  pub next : (i first : ℕ) → slice_index_or l.strips.items i 0 ≤ first → count_by (is_strip i first) reported ≡ 0
  pub order : AreReportedInOrder reported

-- a looker reports something to a screen, and both change; no piece that was reported is forgotten
pub record Reports {S : Type 0} (becomes : S → Notice → S → Type 0) (scan : ScanValue) (l : Looker) (a : S) (m : Looker) (b : S) : Type 0 where
  pub reported : List Notice
  pub screen : ScreenBecomes becomes a reported b
  pub keeps : (before : List Notice) → Keeps scan l before → Keeps scan m (before ++ reported)
  pub count : length m.pieces.items ≡ length l.pieces.items
  pub remembers : (i : ℕ) → has_reported l i ≡ true → has_reported m i ≡ true
