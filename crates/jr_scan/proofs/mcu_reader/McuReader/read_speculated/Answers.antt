use Rattle.std.proofs.Common.{rules, ◌≡◌, ◌≤◌, ◌+◌, ◌*◌, ◌++◌, ℕ, length, take, ap, sym, subst, ◌∙◌, arith}
use Rattle.std.specs.List.{All}
use Rattle.std.proofs.lemmas.List.{append-nil}
use Rattle.jr_head.specs.Geometry.{IsValid, order_of}
use Rattle.jr_scan.specs.declared.place.RunEnd.TheVariants.{AllRead}
use Rattle.jr_mcu.specs.Block.{IsInRange}
use Rattle.jr_scan.specs.IntervalValue.{IntervalValue}
use Rattle.jr_scan.specs.McuReader.{HasRead, per_mcu}
use Rattle.jr_scan.specs.Run.{IsRun, run_from}
use Rattle.jr_scan.proofs.InRange.{run_in_range}
use Rattle.jr_scan.proofs.TakingOver.{ended_stays, gone_read, own_run}
use Rattle.jr_scan.proofs.mcu_reader.McuReader.read_speculated.Goals as goal

pub returns-then-taken-gt0-clause-read : goal.returns-then-taken-gt0-clause-read
returns-then-taken-gt0-clause-read c = λ zs s.
    let r = c.args.self.now in
    let k = c.store_mcus-taken.result in
    let to = c.store_mcus-taken.new.place in
    let bs = c.store_mcus-taken.new.blocks in
    let g = c.interval-interval.result.now in
    let valid = subst IsValid (c.head.ensures.value ∙ ap (λ (j : IntervalValue). j.head) c.interval-interval.ensures) c.head.ensures.valid in
    let run = own_run r g c.place-place.result to k (take (k * length (order_of g.head)) bs) c.interval-interval.ensures c.place-place.ensures.value c.store_mcus-taken.ensures.run in
    let mine = subst (λ (j : IntervalValue). IsRun (run_from r.run.interval r.place k) (take (k * length (order_of j.head)) bs) to AllRead) c.interval-interval.ensures run in
    let few : r.mcu + k ≤ r.run.mcus = search (rules, arith, c.store_mcus-taken.ensures.most) in
    gone_read r c.advance_to.new.self k to zs (take (k * per_mcu r) bs) valid c.advance_to.ensures few mine s

pub returns-then-taken-gt0-clause-in_range : goal.returns-then-taken-gt0-clause-in_range
returns-then-taken-gt0-clause-in_range c =
    let k = c.store_mcus-taken.result in
    let here = run_in_range _ _ _ _ c.store_mcus-taken.ensures.run in
    subst (λ (j : IntervalValue). All IsInRange (take (k * length (order_of j.head)) c.store_mcus-taken.new.blocks)) c.interval-interval.ensures here

pub returns-then-taken-gt0-clause-stays : goal.returns-then-taken-gt0-clause-stays
returns-then-taken-gt0-clause-stays c = λ ended.
    let r = c.args.self.now in
    let k = c.store_mcus-taken.result in
    let to = c.store_mcus-taken.new.place in
    let g = c.interval-interval.result.now in
    let zs = take (k * length (order_of g.head)) c.store_mcus-taken.new.blocks in
    let mine = own_run r g c.place-place.result to k zs c.interval-interval.ensures c.place-place.ensures.value c.store_mcus-taken.ensures.run in
    let few : r.mcu + k ≤ r.run.mcus = search (rules, arith, c.store_mcus-taken.ensures.most) in
    ended_stays r c.advance_to.new.self k to zs c.if-taken-gt0.true few mine ended

pub returns-else-taken-gt0-clause-read : goal.returns-else-taken-gt0-clause-read
returns-else-taken-gt0-clause-read c = λ zs s.
    let none : 0 ≡ c.store_mcus-taken.result * per_mcu c.args.self.now = search (rules, arith, c.if-taken-gt0.false) in
    subst (λ (n : ℕ). HasRead c.args.self.now (zs ++ take n c.store_mcus-taken.new.blocks)) none (subst (HasRead c.args.self.now) (sym (append-nil zs)) s)
