use Rattle.std.proofs.Common.{ℕ, ◌≡◌, ◌<◌, ◌≤◌, ◌+◌, ◌-◌, List, length, take, drop, get_or, sum, arith, ap, ◌∙◌, subst}
use Rattle.std.specs.Prelude.{slice_get, Some}
use Rattle.std.proofs.lemmas.List.{length-take-le, length-drop}
use Rattle.std.proofs.lemmas.List.Sums.{sum_by_more_le}
use Rattle.jr_code.specs.Code.{Table, IsValidTable}
use Rattle.jr_code.proofs.EntryLemmas.{slice_get-part, word_of, word_among, words_fit}
use Rattle.jr_code.proofs.table.CodeTable.words_of.Goals as goal

-- the part of the symbols that belongs to one length has a symbol for each of its codes
part_long : (t : Table) (i from count : ℕ) (symbols : List ℕ) → IsValidTable t.counts t.symbols → i < 16 → symbols ≡ t.symbols → from ≡ sum (take i t.counts) → count ≡ get_or t.counts i 0
    → (from ≤ length symbols) × (length (take (from + count - from) (drop from symbols)) ≡ count)
part_long t i from count symbols valid short same before many =
    let more : sum (take i t.counts) + get_or t.counts i 0 ≤ sum t.counts = sum_by_more_le (λ n. n) t.counts i 0 (omega (arith, valid.sixteen)) in
    let all : from + count ≤ length symbols = omega (arith, ap length same, valid.each) in
    (omega arith, length-take-le (from + count - from) (drop from symbols) (omega (arith, length-drop from symbols)) ∙ omega arith)

pub returns-clause-each : goal.returns-clause-each
returns-clause-each c = λ k s known.
    let t = c.args.self.now in
    let i = c.args.i in
    let from = c.up_to-end.result.1 in
    let symbols = c.deref.result.now in
    let valid : IsValidTable c.args.self.now.counts c.args.self.now.symbols = subst (λ (x : Table). IsValidTable x.counts x.symbols) c.self.view_is c.self.invariant in
    let same : c.deref.result.now ≡ c.args.self.now.symbols = c.deref.ensures.value ∙ ap (λ (x : Table). x.symbols) c.self.view_is in
    let count : c.from-count.result ≡ get_or t.counts i 0 = c.from-count.ensures ∙ ap (λ (x : Table). get_or x.counts c.args.i 0) c.self.view_is in
    let part = part_long t i from c.from-count.result symbols valid c.requires same c.up_to-end.ensures.words count in
    let here = slice_get-part symbols from (from + c.from-count.result - from) k s part.0 known in
    let there : slice_get t.symbols (sum (take i t.counts) + k) ≡ Some s =
    subst (λ (p : List ℕ). slice_get p (sum (take c.args.i c.args.self.now.counts) + k) ≡ Some s) same (subst (λ (n : ℕ). slice_get c.deref.result.now (n + k) ≡ Some s) c.up_to-end.ensures.words here.1) in
    word_of t i c.up_to-end.result.0 k s valid c.requires c.up_to-end.ensures.end (omega (arith, here.0, count)) there

pub returns-clause-all : goal.returns-clause-all
returns-clause-all c = λ word s w long.
    let t = c.args.self.now in
    let i = c.args.i in
    let valid : IsValidTable c.args.self.now.counts c.args.self.now.symbols = subst (λ (x : Table). IsValidTable x.counts x.symbols) c.self.view_is c.self.invariant in
    let same : c.deref.result.now ≡ c.args.self.now.symbols = c.deref.ensures.value ∙ ap (λ (x : Table). x.symbols) c.self.view_is in
    let count : c.from-count.result ≡ get_or t.counts i 0 = c.from-count.ensures ∙ ap (λ (x : Table). get_or x.counts c.args.i 0) c.self.view_is in
    let part = part_long t i c.up_to-end.result.1 c.from-count.result c.deref.result.now valid c.requires same c.up_to-end.ensures.words count in
    let k = word_among t i c.up_to-end.result.0 c.up_to-end.ensures.end word s w long in
    (k.0, omega (arith, k.1, part.1, count), k.2)

pub returns-clause-fit : goal.returns-clause-fit
returns-clause-fit c =
    let t = c.args.self.now in
    let i = c.args.i in
    let valid : IsValidTable c.args.self.now.counts c.args.self.now.symbols = subst (λ (x : Table). IsValidTable x.counts x.symbols) c.self.view_is c.self.invariant in
    let same : c.deref.result.now ≡ c.args.self.now.symbols = c.deref.ensures.value ∙ ap (λ (x : Table). x.symbols) c.self.view_is in
    let count : c.from-count.result ≡ get_or t.counts i 0 = c.from-count.ensures ∙ ap (λ (x : Table). get_or x.counts c.args.i 0) c.self.view_is in
    let part = part_long t i c.up_to-end.result.1 c.from-count.result c.deref.result.now valid c.requires same c.up_to-end.ensures.words count in
    omega (arith, words_fit t i c.up_to-end.result.0 valid c.requires c.up_to-end.ensures.end, part.1, count)
