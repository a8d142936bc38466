use Rattle.std.proofs.Common.{arith, subst, ap, ◌≡◌, ◌-◌, ◌*◌, ◌<◌, ℕ, false, true, nat_lt, List, length}
use Rattle.jr_head.specs.Geometry.{IsValid}
use Rattle.jr_scan.specs.Mcus.{ReportsSound}
use Rattle.jr_scan.proofs.CursorSteps.{cut_short, reports_there}
use Rattle.jr_scan.proofs.cursor.Cursor.is_sound.Goals as goal

pub returns-in_default : goal.returns-in_default
returns-in_default c = let far = c.requires.at.none c.in_default.is in cut_short c.args.interval.now far.0 far.3 (far.1, far.4)

pub returns : goal.returns
returns c =
    let i = c.args.interval.now in
    let p = c.in-Some.place in
    let valid = subst IsValid c.head-valid.ensures.value c.head-valid.ensures.valid in
    let bytes : length c.bytes.result.now ≡ length i.bytes = ap (λ (l : List ℕ). length l) c.bytes.ensures.bytes in
    let left : c.saturating_sub.result ≡ 8 * length i.bytes - p.bit = omega (arith, c.saturating_sub.ensures, bytes) in
    let few : nat_lt c.saturating_sub.result 8 ≡ true → 8 * length i.bytes - p.bit < 8 = λ t. search (arith, left, t) in
    let many : nat_lt c.saturating_sub.result 8 ≡ false → 8 * length i.bytes - p.bit < 8 → ⊥ = λ f lt. search (arith, left, f, lt) in
    let stated : ReportsSound (nat_lt c.saturating_sub.result 8) i = reports_there i valid c.args.self.now.mcu c.args.self.now.place c.requires.at p c.in-Some.is c.requires.all (nat_lt c.saturating_sub.result 8) few many in
    search stated
