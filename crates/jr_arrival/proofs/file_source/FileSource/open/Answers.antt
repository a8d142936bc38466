use Rattle.std.proofs.Common.{◌≡◌, ℕ, ◌+◌, ◌-◌, ◌∙◌, Option, Some, max, refl, sym, ap, subst, arith, rules}
use Rattle.std.specs.Prelude.{nat_lt}
use Rattle.std.specs.List.{All}
use Rattle.jr_mcu.specs.Block.{IsInDcRange}
use Rattle.jr_head.specs.HeadValue.{HeadValue}
use Rattle.jr_scan.specs.declared.place.Place.{Place}
use Rattle.jr_arrival.specs.declared.file_bytes.FileBytes.{FileBytes}
use Rattle.jr_arrival.specs.Meaning.{HasBits, offset_in}
use Rattle.jr_arrival.proofs.Standing.{inside_by, opened, right_by}
use Rattle.jr_arrival.proofs.file_source.FileSource.open.Goals as goal

pub returns-clause-at : goal.returns-clause-at
returns-clause-at c =
    let n = c.next_of.ensures in
    record {
      window = c.fill-bit.ensures.window;
      inside = inside_by c.fill-bit.new.self c.fill-bit.result c.next_of.result c.fill-bit.ensures.within n.inside;
      is_in = c.requires.lies.is_in;
      over = λ ended. n.stuck (search (rules, arith, ended));
    }

pub returns-clause-right : goal.returns-clause-right
returns-clause-right c whole t may is =
    let p = c.args.place.now in
    let d = c.fill-bit.new.self in
    let e = c.fill-bit.ensures in
    let n = c.next_of.ensures in
    let at = c.offset_of-at.result in
    let scan_at : c.scan_at.result ≡ t.head.scan_at = c.scan_at.ensures.value ∙ ap (λ (h : HeadValue). h.scan_at) (sym may.head) in
    let there : offset_in t.head p ≡ max p.at c.scan_at.result = ap (max p.at) (sym scan_at) in
    let from = c.args.file.from in
    let at_is : at ≡ offset_in t.head p - from = c.offset_of-at.ensures.there (omega (arith, is.come.within, there)) ∙ ap (λ (k : ℕ). k - from) (sym there) in
    let taken : c.from.result ≡ p.bit = search rules in
    let file : d.file ≡ c.args.file = search rules in
    let come = subst (λ (k : ℕ). HasBits c.args.file.bytes.now k c.from.result) (sym at_is) (subst (HasBits c.args.file.bytes.now (offset_in t.head p - from)) (sym taken) is.come) in
    let bit : c.fill-bit.result ≡ p.bit = e.bit (search (rules, come)) (omega (arith, taken, is.bit)) ∙ taken in
    let reads : p.state ≡ 0 → All IsInDcRange p.predictions → c.next_of.result ≡ Some (record { bit = p.bit; predictions = p.predictions }) = λ zero_is all.
    n.next zero_is all ∙ ap (λ (k : ℕ). (let o : Option Place = Some (record { bit = k; predictions = p.predictions }) in o)) bit in
    let ended = nat_lt 1 p.state in
    let means = opened whole t p.state p.interval p.mcu (offset_in t.head p) (record { bit = p.bit; predictions = p.predictions }) c.next_of.result ended reads n.stuck (λ one. search (rules, arith, one)) (λ lt. search (rules, arith, lt)) is.means in
    let here : d.file.from + d.at ≡ offset_in t.head p = omega (arith, ap (λ (f : FileBytes). f.from) file, e.at, at_is, is.from) in
    right_by whole t _ p.interval p.mcu (offset_in t.head p) c.next_of.result ended refl refl here refl refl (omega arith) means
