use Rattle.std.proofs.Common.{◌≡◌, ◌<◌, ℕ, length, take, ◌+◌, ◌-◌, ◌/◌, ◌^◌, sym, ap, ◌∙◌, arith, get_or, ⊎_elim}
use Rattle.std.proofs.lemmas.Bool.{cases_lt}
use Rattle.std.specs.Prelude.{sum, slice_get, Some, slice_index_or}
use Rattle.jr_code.specs.Code.{Table}
use Rattle.jr_code.proofs.ReadLemmas.{long_found, long_none, place_within, known_there}
use Rattle.jr_code.proofs.table.CodeTable.long_word.Goals as goal
use Rattle.jr_code.proofs.table.CodeTable.long_word.Goals.{else-code-first-via-then-code-first+else-code-first-2, else-code-first-via-else-code-first}

pub loop-k-init : goal.loop-k-init
loop-k-init c = record { none = λ word rest s w e longer. omega (arith, longer) }

pub overflow_add-place : goal.overflow_add-place
overflow_add-place c =
    let t = c.args.self.now in
    let counts : c.self.inside.counts ≡ c.args.self.now.counts = ap (λ (x : Table). x.counts) c.self.view_is in
    let symbols : c.self.inside.symbols.items ≡ c.args.self.now.symbols = ap (λ (x : Table). x.symbols) c.self.view_is in
    let each : sum t.counts ≡ length t.symbols = ap sum (sym counts) ∙ c.self.invariant.each ∙ ap length symbols in
    omega (
      arith,
      c.self.invariant.few,
      ap length symbols,
      ap (λ x. get_or x (c.loop-k.k + 8) 0) counts,
      place_within c.args.self.now (c.loop-k.k + 8) (slice_index_or c.args.long.now c.loop-k.k (0, 0)).1 (c.from.result / 2 ^ (7 - c.loop-k.k) - (slice_index_or c.args.long.now c.loop-k.k (0, 0)).0)
          each (omega (arith, ap length counts, c.self.invariant.sixteen)) (c.requires c.loop-k.k (omega arith)).1 (omega (arith, ap (λ x. get_or x (c.loop-k.k + 8) 0) counts)),
    )

pub index-requires : goal.index-requires
index-requires c =
    let t = c.args.self.now in
    let counts : c.self.inside.counts ≡ c.args.self.now.counts = ap (λ (x : Table). x.counts) c.self.view_is in
    let symbols : c.self.inside.symbols.items ≡ c.args.self.now.symbols = ap (λ (x : Table). x.symbols) c.self.view_is in
    let each : sum t.counts ≡ length t.symbols = ap sum (sym counts) ∙ c.self.invariant.each ∙ ap length symbols in
    omega (
      arith,
      c.self.inside.symbols.ok.0,
      ap length symbols,
      place_within c.args.self.now (c.loop-k.k + 8) (slice_index_or c.args.long.now c.loop-k.k (0, 0)).1 (c.from.result / 2 ^ (7 - c.loop-k.k) - (slice_index_or c.args.long.now c.loop-k.k (0, 0)).0)
          each (omega (arith, ap length counts, c.self.invariant.sixteen)) (c.requires c.loop-k.k (omega arith)).1 (omega (arith, ap (λ x. get_or x (c.loop-k.k + 8) 0) counts)),
    )

pub returns-then-code-first-2-clause-found : goal.returns-then-code-first-2-clause-found
returns-then-code-first-2-clause-found c =
    let t = c.args.self.now in
    let k = c.loop-k.k in
    let first = (slice_index_or c.args.long.now c.loop-k.k (0, 0)).0 in
    let m = c.from.result / 2 ^ (7 - c.loop-k.k) - (slice_index_or c.args.long.now c.loop-k.k (0, 0)).0 in
    let counts : c.self.inside.counts ≡ c.args.self.now.counts = ap (λ (x : Table). x.counts) c.self.view_is in
    let symbols : c.self.inside.symbols.items ≡ c.args.self.now.symbols = ap (λ (x : Table). x.symbols) c.self.view_is in
    let each : sum t.counts ≡ length t.symbols = ap sum (sym counts) ∙ c.self.invariant.each ∙ ap length symbols in
    let within : k + 8 < length t.counts = omega (arith, ap length counts, c.self.invariant.sixteen) in
    let small : m < get_or t.counts (k + 8) 0 = omega (arith, ap (λ x. get_or x (c.loop-k.k + 8) 0) counts) in
    let known : slice_get t.symbols (sum (take (k + 8) t.counts) + m) ≡ Some c.index.result.now =
    known_there t c.self.inside.symbols.items (k + 8) m ((slice_index_or c.args.long.now c.loop-k.k (0, 0)).1 + m) c.index.result.now symbols each within small
    (ap (λ n. n + m) (c.requires c.loop-k.k (omega arith)).1) c.index.ensures in
    let code : c.args.window / 2 ^ (7 - c.loop-k.k) ≡ first + m = ap (λ n. n / 2 ^ (7 - c.loop-k.k)) (sym c.from.ensures) ∙ omega arith in
    (omega arith, long_found t c.args.window k first m c.index.result.now (omega arith) (omega arith) within (c.requires c.loop-k.k (omega arith)).0 code small known)

pub loop-k-preserved : goal.loop-k-preserved
loop-k-preserved c =
    let t = c.args.self.now in
    let k = c.loop-k.k in
    let first = (slice_index_or c.args.long.now c.loop-k.k (0, 0)).0 in
    let counts : c.self.inside.counts ≡ c.args.self.now.counts = ap (λ (x : Table). x.counts) c.self.view_is in
    let within : k + 8 < length t.counts = omega (arith, ap length counts, c.self.invariant.sixteen) in
    let past : (m : ℕ) → m < get_or t.counts (k + 8) 0 → c.args.window / 2 ^ (7 - c.loop-k.k) ≡ first + m → ⊥ = λ m small is.
    let code : c.from.result / 2 ^ (7 - c.loop-k.k) ≡ first + m = ap (λ n. n / 2 ^ (7 - c.loop-k.k)) c.from.ensures ∙ is in
    let count = ap (λ x. get_or x (c.loop-k.k + 8) 0) counts in
    elim c.else-code-first.branch [ else-code-first-via-then-code-first+else-code-first-2 w ↦ omega arith | else-code-first-via-else-code-first w ↦ omega arith ] in
    record {
      none = λ word rest s w e longer. long_none t c.args.window k first (omega arith) (omega arith) within (c.requires c.loop-k.k (omega arith)).0 past word rest s w e
          (c.loop-k.invariant.none word rest s w e longer);
    }

pub returns-clause-none : goal.returns-clause-none
returns-clause-none c = λ word rest s w e. ⊎_elim
    (λ lt. absurd (omega (arith, c.loop-k.invariant.none word rest s w e lt, w.short)))
    (λ le. le)
    (cases_lt 8 (length word))
