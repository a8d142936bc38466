use Rattle.std.proofs.Common.{arith, sym, ap, subst, ◌∙◌, ◌≡◌, ℕ, ◌<◌, ◌≤◌, length, max, min}
use Rattle.std.proofs.lemmas.List.Elements.{All-from_get_or}
use Rattle.jr_head.specs.HeadValue.{HeadValue}
use Rattle.jr_damage.specs.Coded.{IsNextAt}
use Rattle.jr_scan.specs.ScanValue.{intervals_of}
use Rattle.jri_memory.specs.Damages.{AreDamages, IsPositionOf}
use Rattle.jri_memory.specs.Rows.{are_all}
use Rattle.jri_memory.proofs.Arrived.{begins_with, bytes_in, end_all, end_few, head_in}
use Rattle.jri_memory.proofs.Listing.{file_scan, starts_at}
use Rattle.jri_memory.proofs.damages.list_from.Goals as goal

pub returns-clause-listed : goal.returns-clause-listed
returns-clause-listed c whole is =
    let file = c.args.file.now in
    let all = are_all c.args.more in
    let h = c.args.head.now in
    let some : 0 < intervals_of h = omega (arith, c.intervals-some.ensures.some, c.intervals-some.ensures.value) in
    let small = All-from_get_or (λ b. b < 256) file 0 (λ i lt. let byte = c.type_inv.file i in omega (arith, byte)) in
    let b = begins_with file all whole is in
    let f = file_scan whole h some (bytes_in file all whole is small) (head_in file all whole h is c.requires) in
    let s = f.scan in
    let count : length s.intervals ≡ intervals_of h = f.count ∙ ap intervals_of f.head in
    let from = c.start_of-from.result in
    let start = c.start_of-from.ensures in
    let scan_at : s.head.scan_at ≡ h.scan_at = ap (λ (x : HeadValue). x.scan_at) f.head in
    let l = c.list-listed in
    let begins : IsPositionOf whole s c.args.first c.args.first_at → IsNextAt whole s from.next (min from.at (length whole)) = λ position.
    let same : min (max c.args.first_at s.head.scan_at) (length whole) ≡ min from.at (length whole) = omega (arith, start.at, scan_at, b.within) in
    starts_at whole s c.args.first (min from.at (length whole)) from.next f.count (start.next ∙ ap (λ (x : HeadValue). min c.args.first (intervals_of x)) (sym f.head)) (subst (IsNextAt whole s c.args.first) same position) in
    let late : h.scan_at ≤ l.result.at = omega (arith, start.at, l.ensures.at, c.requires.scan_at, end_few file all c.requires.small) in
    record {
      scan = s;
      is = f.is;
      top = f.top;
      lists = λ position. record {
        are = (
            let e : from.next ≡ min c.args.first (length s.intervals) = start.next ∙ ap (min c.args.first) (sym count) in
            subst (λ (k : ℕ). AreDamages whole s k l.result.next l.result.count l.new.damages) e (l.ensures.listed whole s is f.head (begins position)));
        stops = (
            let e : min l.result.at (length whole) ≡ min (max l.result.at s.head.scan_at) (length whole) = omega (arith, late, scan_at) in
            subst (IsNextAt whole s l.result.next) e (l.ensures.position whole s is f.head (begins position)));
      };
      within = omega (arith, l.ensures.within, count);
      offset = λ e. (let end = end_all file all whole e is in omega (arith, l.ensures.offset, end));
      stops = λ less. l.ensures.stops (omega (arith, less, count));
      long = l.ensures.long;
      after = l.ensures.after;
      no_fault = c.empty.ensures.no_refusal;
    }
