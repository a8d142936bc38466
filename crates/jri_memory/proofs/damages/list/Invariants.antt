use Rattle.std.proofs.Common.{◌-◌, ◌≡◌, ◌<◌, ◌≤◌, ℕ, List, length, drop, min}
use Rattle.std.specs.Vec.{vec_capacity}
use Rattle.jr_scan.specs.ScanValue.{ScanValue}
use Rattle.jr_damage.specs.Coded.{IsNextAt}
use Rattle.jri_memory.specs.Damages.{AreDamages}
use Rattle.jri_memory.specs.FinalSegments.{IsFileOf, end_of}
use Rattle.jri_memory.proofs.damages.list.Given as goal

abbrev pub invariant-intervals : goal.invariant-intervals
invariant-intervals l = ((whole : List ℕ) (s : ScanValue) → IsFileOf l.fn.file.bytes.now l.fn.file.are_all whole → s.head ≡ l.head → IsNextAt whole s l.fn.from.next (min l.fn.from.at (length whole))
    → AreDamages whole s l.fn.from.next l.progress.next l.progress.count l.damages)
    × ((whole : List ℕ) (s : ScanValue) → IsFileOf l.fn.file.bytes.now l.fn.file.are_all whole → s.head ≡ l.head → IsNextAt whole s l.fn.from.next (min l.fn.from.at (length whole))
    → IsNextAt whole s l.progress.next (min l.progress.at (length whole)))
    × (l.progress.count ≤ l.progress.next) × (l.progress.next ≤ l.all) × (l.progress.count ≤ length l.damages)
    × (length l.damages ≡ length l.initial.damages) × (drop l.progress.count l.damages ≡ drop l.progress.count l.initial.damages)
    × (l.fn.from.at ≤ l.progress.at) × (l.progress.at ≤ end_of l.fn.file.are_all l.fn.file.bytes.now) × (length l.fn.file.bytes.now - l.fn.from.at < vec_capacity l.buffer)

abbrev pub decreases-intervals : goal.decreases-intervals
decreases-intervals l = l.all - l.progress.next
