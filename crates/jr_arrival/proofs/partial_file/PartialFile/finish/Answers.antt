use Rattle.std.proofs.Common.{ℕ, List, length, sym, subst, arith, rules}
use Rattle.jr_scan.specs.ScanValue.{ScanValue}
use Rattle.jr_rows.specs.Stream.{HasCounts}
use Rattle.jr_arrival.specs.PartialFile.{PartialFileValue, HasBegun, HoldsBytes, IsPartialFile}
use Rattle.jr_arrival.specs.LongerFile.{HasScan}
use Rattle.jr_arrival.proofs.Arrivals.{begun_scan, is_too_long}
use Rattle.jr_arrival.proofs.partial_file.PartialFile.finish.Goals as goal

pub returns-then-count-clause-refusal : goal.returns-then-count-clause-refusal
returns-then-count-clause-refusal c other bytes a =
    let i = c.self.inside in
    let b : IsPartialFile (record { bytes = i.head; partial_image = i.partial_image; count = i.count }) bytes = subst (λ (v : PartialFileValue). IsPartialFile v bytes) (sym c.self.view_is) a in
    is_too_long bytes (omega (arith, b.count, c.if-count.true))

pub returns-in-Err-clause-refusal : goal.returns-in-Err-clause-refusal
returns-in-Err-clause-refusal c other bytes a =
    let i = c.self.inside in
    let b : IsPartialFile (record { bytes = i.head; partial_image = i.partial_image; count = i.count }) bytes = subst (λ (v : PartialFileValue). IsPartialFile v bytes) (sym c.self.view_is) a in
    let held : HoldsBytes i.head i.partial_image bytes = b.holds (omega (arith, b.count, c.if-count.false)) in
    let stated = c.in-Err.ensures.refusal other bytes in
    search (rules, stated, held)

pub returns-clause-scan : goal.returns-clause-scan
returns-clause-scan c bytes a =
    let i = c.self.inside in
    let b : IsPartialFile (record { bytes = i.head; partial_image = i.partial_image; count = i.count }) bytes = subst (λ (v : PartialFileValue). IsPartialFile v bytes) (sym c.self.view_is) a in
    let held : HoldsBytes i.head i.partial_image bytes = b.holds (omega (arith, b.count, c.if-count.false)) in
    let begun : HasBegun c.in-Ok.partial_image bytes = c.in-Ok.ensures.begun bytes (subst (λ (l : List ℕ). HoldsBytes l i.partial_image bytes) (sym c.bytes.ensures) held) in
    subst (HasScan bytes) (sym c.in-Ok-finish.ensures.scan) (begun_scan c.in-Ok.partial_image bytes begun)

pub returns-clause-counts : goal.returns-clause-counts
returns-clause-counts c =
    subst (λ (s : ScanValue). HasCounts s (length s.intervals) c.in-Ok-finish.finished.counts) (sym c.in-Ok-finish.ensures.scan) c.in-Ok-finish.ensures.counts
