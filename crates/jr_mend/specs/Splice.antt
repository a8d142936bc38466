-- A file whose scan is written anew of the coded bytes of its intervals (T.81, B.1.1.5, B.2.1 and E.1.4).
use Rattle.std.specs.Prelude.{ℕ, zero, suc, ◌+◌, ◌%◌, List, [], ◌∷◌, ◌++◌, take}
use Rattle.jr_base.specs.declared.marker.TheConstants.{EOI, RST0}
use Rattle.jr_cut.specs.Cut.{marker}
use Rattle.jr_head.specs.HeadValue.{HeadValue}

-- the restart marker before interval k; none before the first
abbrev pub marker_before : ℕ → List ℕ
marker_before zero = []
marker_before (suc k) = marker 0 (RST0 + k % 8)

-- intervals, the first of which has number k, each after the marker before it
abbrev pub joined_intervals : ℕ → List (List ℕ) → List ℕ
joined_intervals k [] = []
joined_intervals k (raw ∷ raws) = marker_before k ++ (raw ++ joined_intervals (suc k) raws)

-- the intervals of a scan, and EOI after them
abbrev pub coded_intervals : List (List ℕ) → List ℕ
coded_intervals raws = joined_intervals 0 raws ++ marker 0 EOI

-- the file up to the end of its scan header, and then these intervals
abbrev pub spliced : List ℕ → HeadValue → List (List ℕ) → List ℕ
spliced file h raws = take h.scan_at file ++ coded_intervals raws
