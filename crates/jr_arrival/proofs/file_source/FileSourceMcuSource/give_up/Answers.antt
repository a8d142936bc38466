use Rattle.std.proofs.lemmas.List.{drop-append-le}
use Rattle.std.proofs.Common.{◌≡◌, ◌<◌, ◌≤◌, ◌+◌, ◌⊎◌, inl, inr, ap, ◌∙◌, length, drop, sym, subst, refl, ℕ, Option, Some, None, arith}
use Rattle.std.specs.Prelude.{IfSome, false}
use Rattle.jr_cut.specs.Cut.{IsStop}
use Rattle.jr_head.specs.Geometry.{blocks_of}
use Rattle.jr_scan.specs.Run.{left_at}
use Rattle.jr_scan.specs.declared.place.Place.{Place}
use Rattle.jr_arrival.specs.declared.window.TheConstants.{MCU_BITS}
use Rattle.jr_arrival.specs.declared.file_bytes.FileBytes.{FileBytes}
use Rattle.jr_arrival.specs.FileSources.{IsInside, IsOpen, NoneFollows, in_window}
use Rattle.jr_arrival.specs.Meaning.{MayBe}
use Rattle.jr_arrival.specs.Parts.{part_of}
use Rattle.jr_arrival.proofs.Parts.{drop_part}
use Rattle.jr_arrival.proofs.SourceSteps.{nowhere}
use Rattle.jr_arrival.proofs.Standing.{goes_on, none_left, right_by}
use Rattle.jr_arrival.proofs.Steps.{stuck_true, window_left}
use Rattle.jr_arrival.proofs.Waiting.{waits_within}
use Rattle.jr_arrival.proofs.file_source.FileSourceMcuSource.give_up.Goals as goal

pub is_stuck_at-requires-clause-bit : goal.is_stuck_at-requires-clause-bit
is_stuck_at-requires-clause-bit c =
    let s = c.args.self.now in
    let inside : IsInside s.window (Some c.in-Some.place) = subst (IsInside s.window) c.in-Some.is c.requires.at.inside in
    inside.0

pub returns-in_default-clause-steps : goal.returns-in_default-clause-steps
returns-in_default-clause-steps c = nowhere c.args.head.now _ c.requires.at

pub returns-in_default-clause-stuck : goal.returns-in_default-clause-stuck
returns-in_default-clause-stuck c stated =
    let some : 0 < blocks_of c.args.head.now = omega (arith, c.order-some.ensures.some, c.order-some.ensures.count) in
    none_left c.args.head.now c.args.self.now c.requires.at some c.in_default.is c.requires.some

pub returns-clause-steps : goal.returns-clause-steps
returns-clause-steps c =
    let s = c.args.self.now in
    let h = c.args.head.now in
    let p = c.in-Some.place in
    let d = c.leave.new.self in
    let end = c.end_of_data-end.result in
    let e = c.end_of_data-end.ensures in
    let l = c.leave.ensures in
    let is = c.requires.at in
    let inside : IsInside s.window (Some p) = subst (IsInside s.window) c.in-Some.is is.inside in
    let none : NoneFollows h s p = subst (λ (o : Option Place). IfSome o (NoneFollows h s)) c.in-Some.is c.requires.none in
    let over = goes_on h s p is c.in-Some.is in
    let left = window_left h s p is.window in
    record {
      at = record { window = l.window; inside = tt; is_in = is.is_in; over = λ ended. refl };
      part = l.file;
      right = λ whole t may.
          let m = may.0 in
          let final : IsStop (drop (s.window.file.from + end) whole) ⊎ (MCU_BITS ≤ length (left_at (in_window h s) p)) = elim (c.is_stuck_at.ensures.never c.if-not-is_stuck_at.false m.more m.none) [
            | inl stop ↦ inl (subst IsStop (drop-append-le end s.window.file.bytes.now m.more e.within ∙ sym (drop_part (part_of s.window.file) h whole t m end e.within)) stop)
            | inr long ↦ inr (omega (arith, long, left))
          ] in
          let stuck = stuck_true h s is.window end e.spells.0 e.spells.1 e.spells.2 e.within e.spells.3 p c.in-Some.is inside.0 is.is_in c.assert_invariant.ensures none e.stop whole t m may.1 final in
          let at : d.file.from + d.at ≡ s.window.file.from + end = omega (arith, l.at, ap (λ (f : FileBytes). f.from) l.file) in (
            subst (λ (f : FileBytes). MayBe (part_of f) h whole t) (sym l.file) m,
            right_by whole t _ s.cursor.number s.cursor.mcu (s.window.file.from + end) None false refl refl at refl over (omega (arith, may.1.from, e.spells.2)) stuck,
          );
      passed = omega arith;
    }

pub returns-then-not-is_stuck_at-clause-steps : goal.returns-then-not-is_stuck_at-clause-steps
returns-then-not-is_stuck_at-clause-steps c = nowhere c.args.head.now _ c.requires.at

pub returns-then-not-is_stuck_at-clause-waits : goal.returns-then-not-is_stuck_at-clause-waits
returns-then-not-is_stuck_at-clause-waits c stated =
    let s = c.args.self.now in
    let h = c.args.head.now in
    let p = c.in-Some.place in
    let e = c.end_of_data-end.ensures in
    let is = c.requires.at in
    let u = c.is_stuck_at.ensures in
    let inside : IsInside s.window (Some p) = subst (IsInside s.window) c.in-Some.is is.inside in
    let none : NoneFollows h s p = subst (λ (o : Option Place). IfSome o (NoneFollows h s)) c.in-Some.is c.requires.none in
    let fill = u.fill c.if-not-is_stuck_at.true in
    let short : length (left_at (in_window h s) p) < MCU_BITS = omega (arith, u.short c.if-not-is_stuck_at.true, window_left h s p is.window) in
    let still : IsOpen s.window = record {
      read = e.spells.0;
      found = e.spells.1;
      within = omega (arith, e.within, e.spells.2);
      spelled = e.spells.3;
      fill = fill.0;
      all = ap (λ (k : ℕ). drop k s.window.file.bytes.now) (sym e.spells.2) ∙ fill.1;
    } in
    waits_within h s is c.assert_invariant.ensures still (u.goes_on c.if-not-is_stuck_at.true) p c.in-Some.is inside.0 none (goes_on h s p is c.in-Some.is) short

pub returns-clause-stuck : goal.returns-clause-stuck
returns-clause-stuck c stated =
    let some : 0 < blocks_of c.args.head.now = omega (arith, c.order-some.ensures.some, c.order-some.ensures.count) in
    none_left c.args.head.now _ (returns-clause-steps c).at some refl c.requires.some
