use Rattle.std.proofs.Common.{arith, ◌≡◌, ◌<◌, length, refl, sym, get_or, ap, subst, ◌*◌, ◌+◌}
use Rattle.std.proofs.lemmas.List.Sums.{sum_by_more}
use Rattle.jr_code.specs.Code.{Table, IsValidTable}
use Rattle.jr_code.proofs.CodeLemmas.{space-nil}
use Rattle.jr_code.proofs.ReadLemmas.{end_below, full_more}
use Rattle.jr_code.proofs.table.CodeTable.up_to.Goals as goal

pub loop-i-init : goal.loop-i-init
loop-i-init c = record { full = sym space-nil; words_is = refl; small = omega arith }

pub overflow_mul-end : goal.overflow_mul-end
overflow_mul-end c =
    let valid : IsValidTable c.args.self.now.counts c.args.self.now.symbols = subst (λ (x : Table). IsValidTable x.counts x.symbols) c.self.view_is c.self.invariant in
    omega (arith, end_below c.args.self.now c.loop-i.i c.loop-i.end valid c.loop-i.invariant.full)

pub overflow_add-end : goal.overflow_add-end
overflow_add-end c =
    let valid : IsValidTable c.args.self.now.counts c.args.self.now.symbols = subst (λ (x : Table). IsValidTable x.counts x.symbols) c.self.view_is c.self.invariant in
    omega (arith, end_below c.args.self.now c.loop-i.i c.loop-i.end valid c.loop-i.invariant.full)

pub loop-i-preserved : goal.loop-i-preserved
loop-i-preserved c =
    let t = c.args.self.now in
    let i = c.loop-i.i in
    let counts : c.self.inside.counts ≡ c.args.self.now.counts = ap (λ (x : Table). x.counts) c.self.view_is in
    let count : get_or c.self.inside.counts i 0 ≡ get_or t.counts i 0 = ap (λ x. get_or x i 0) counts in
    let within : i < length t.counts = omega (arith, ap length counts, c.self.invariant.sixteen) in
    record {
      full = full_more t i c.loop-i.end (get_or t.counts i 0) (2 * c.loop-i.end + c.from-count.result) (omega arith) within c.loop-i.invariant.full refl (omega arith);
      words_is = omega (arith, sum_by_more (λ n. n) t.counts i 0 within);
      small = omega arith;
    }

pub returns-clause-small : goal.returns-clause-small
returns-clause-small c =
    let valid : IsValidTable c.args.self.now.counts c.args.self.now.symbols = subst (λ (x : Table). IsValidTable x.counts x.symbols) c.self.view_is c.self.invariant in
    omega (arith, end_below c.args.self.now c.loop-i.i c.loop-i.end valid c.loop-i.invariant.full)
