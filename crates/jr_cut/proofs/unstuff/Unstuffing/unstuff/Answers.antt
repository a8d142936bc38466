use Rattle.std.proofs.Common.{◌≡◌, ℕ, ◌+◌, ◌<◌, ◌++◌, ◌∷◌, [], length, drop, take, get_or, refl, ap, sym, subst, ◌∙◌, arith}
use Rattle.std.proofs.lemmas.List.{drop-drop}
use Rattle.jr_base.specs.declared.marker.TheConstants.{PREFIX}
use Rattle.jr_cut.specs.Cut.{IsStop}
use Rattle.jr_cut.specs.UnstuffingValue.{UnstuffingValue}
use Rattle.jr_cut.specs.Spans.{Unstuffs}
use Rattle.jr_cut.proofs.Cuts.{stop_end, stop_code, fill_some}
use Rattle.jr_cut.proofs.Unstuffed.{run_made, fill_made, code_in, left_in, unstuffs_stuffed}
use Rattle.jr_cut.proofs.unstuff.Unstuffing.unstuff.Goals as goal
use Rattle.jr_cut.proofs.unstuff.Unstuffing.unstuff.Goals.{then-next-rest-via-then-next-rest, then-next-rest-via-else-next-rest+then-rest-next-ne0}

pub overflow_add-at : goal.overflow_add-at
overflow_add-at c =
    let r = run_made _ _ _ _ _ _ _ c.bytes.at c.plain_count-count.result c.bytes.invariant.0 c.bytes.invariant.1 c.bytes.invariant.2 c.rest.ensures c.plain_count-count.ensures.within c.plain_count-count.ensures.plain c.plain_count-count.ensures.next c.keep.ensures.data c.keep.ensures.rest in
    omega (arith, r.within, ap length c.rest-whole.ensures)

pub returns-then-next-rest-clause-data : goal.returns-then-next-rest-clause-data
returns-then-next-rest-clause-data c =
    let r = run_made _ _ _ _ _ _ _ c.bytes.at c.plain_count-count.result c.bytes.invariant.0 c.bytes.invariant.1 c.bytes.invariant.2 c.rest.ensures c.plain_count-count.ensures.within c.plain_count-count.ensures.plain c.plain_count-count.ensures.next c.keep.ensures.data c.keep.ensures.rest in
    subst (λ (u : UnstuffingValue). Unstuffs (take (c.bytes.at + c.plain_count-count.result) c.args.self.now.rest) c.args.self.now.unstuffed u.unstuffed) (sym c.fill-next.ensures.same) r.is

pub returns-then-next-rest-clause-stop : goal.returns-then-next-rest-clause-stop
returns-then-next-rest-clause-stop c =
    let bytes = c.args.self.now.rest in
    let r = run_made _ _ _ _ _ _ _ c.bytes.at c.plain_count-count.result c.bytes.invariant.0 c.bytes.invariant.1 c.bytes.invariant.2 c.rest.ensures c.plain_count-count.ensures.within c.plain_count-count.ensures.plain c.plain_count-count.ensures.next c.keep.ensures.data c.keep.ensures.rest in
    let end = c.bytes.at + c.plain_count-count.result in
    let n = c.fill-next.result in
    let left = ap (λ (u : UnstuffingValue). u.rest) c.fill-next.ensures.same ∙ r.left in
    let f = fill_made bytes _ _ end n r.within r.left refl c.fill-next.ensures.full c.fill-next.ensures.next in
    let long = left_in bytes _ _ end left c.rest-in-bytes.ensures in
    subst IsStop (sym left)
    (elim c.then-next-rest.branch [
      | then-next-rest-via-then-next-rest w ↦ stop_end bytes end n r.within f.full (omega (arith, w.if-next-rest.true, long))
      | then-next-rest-via-else-next-rest+then-rest-next-ne0 w ↦
          let lt : end + n < length bytes = omega (arith, w.if-next-rest.false, long) in
          let some = fill_some bytes end n (omega arith) (r.next (omega arith)) f.next in
          stop_code bytes end n f.full lt some (f.next lt) (λ z. w.if-rest-next-ne0.true (code_in bytes _ _ end n left w.rest-else-next-rest.ensures ∙ z))
    ])

pub bytes-preserved : goal.bytes-preserved
bytes-preserved c =
    let bytes = c.args.self.now.rest in
    let r = run_made _ _ _ _ _ _ _ c.bytes.at c.plain_count-count.result c.bytes.invariant.0 c.bytes.invariant.1 c.bytes.invariant.2 c.rest.ensures c.plain_count-count.ensures.within c.plain_count-count.ensures.plain c.plain_count-count.ensures.next c.keep.ensures.data c.keep.ensures.rest in
    let end = c.bytes.at + c.plain_count-count.result in
    let n = c.fill-next.result in
    let left = ap (λ (u : UnstuffingValue). u.rest) c.fill-next.ensures.same ∙ r.left in
    let f = fill_made bytes _ _ end n r.within r.left refl c.fill-next.ensures.full c.fill-next.ensures.next in
    let long = left_in bytes _ _ end left c.rest-in-bytes.ensures in
    let lt : end + n < length bytes = omega (arith, c.if-next-rest.false, long) in
    let some = fill_some bytes end n (omega arith) (r.next (omega arith)) f.next in
    let zero_byte : get_or bytes (end + n) 0 ≡ 0 = sym (code_in bytes _ _ end n left c.rest-else-next-rest.ensures) ∙ c.if-rest-next-ne0.false in
    let place : end + n + 1 ≡ end + (n + 1) = omega arith in
    let is = unstuffs_stuffed bytes _ _ _ end n lt f.full some zero_byte (c.store.ensures.data ∙ ap (λ (u : UnstuffingValue). u.unstuffed ++ PREFIX ∷ []) c.fill-next.ensures.same) r.is in
    (omega arith, c.store.ensures.rest ∙ ap (drop (n + 1)) left ∙ drop-drop (n + 1) end bytes, subst (λ (k : ℕ). Unstuffs (take k bytes) c.args.self.now.unstuffed c.store.new.self.unstuffed) place is)

pub returns-then-next-rest-clause-within : goal.returns-then-next-rest-clause-within
returns-then-next-rest-clause-within c = (run_made _ _ _ _ _ _ _ c.bytes.at c.plain_count-count.result c.bytes.invariant.0 c.bytes.invariant.1 c.bytes.invariant.2 c.rest.ensures c.plain_count-count.ensures.within c.plain_count-count.ensures.plain c.plain_count-count.ensures.next c.keep.ensures.data c.keep.ensures.rest).within

pub returns-then-next-rest-clause-rest : goal.returns-then-next-rest-clause-rest
returns-then-next-rest-clause-rest c = ap (λ (u : UnstuffingValue). u.rest) c.fill-next.ensures.same ∙ (run_made _ _ _ _ _ _ _ c.bytes.at c.plain_count-count.result c.bytes.invariant.0 c.bytes.invariant.1 c.bytes.invariant.2 c.rest.ensures c.plain_count-count.ensures.within c.plain_count-count.ensures.plain c.plain_count-count.ensures.next c.keep.ensures.data c.keep.ensures.rest).left
