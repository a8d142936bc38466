use Rattle.std.proofs.Common.{◌≡◌, ℕ, ◌+◌, ◌≤◌, List, ◌++◌, length, vec_len, take, true, length-append, length-take, sym, subst, rules, arith}
use Rattle.std.proofs.KnownBytes.{Consumes-trans}
use Rattle.std.specs.Result.{is_ok}
use Rattle.std.specs.Io.KnownBytes.{Consumes, prepend_known}
use Rattle.jri_file.proofs.reading.read_parts.Goals as goal

pub parts-preserved : goal.parts-preserved
parts-preserved g c =
    let old = c.parts.bytes.items in
    let n = c.in_ok-count.count in
    let more = take n c.read_part.new.part in
    let stated = c.in_ok-count.ensures in
    let ok : is_ok c.extend_from_slice.result ≡ true = c.if-is_err.ensures.negation in
    let items : c.extend_from_slice.new.self.items ≡ old ++ more = rw ok at c.extend_from_slice.ensures.items in
    let long : vec_len c.extend_from_slice.new.self ≡ vec_len c.parts.bytes + length more = rw ok at c.extend_from_slice.ensures.len in
    let few : vec_len c.parts.bytes + n ≤ c.args.limit = omega (arith, stated.within.0, c.read_part.auto.part, length-take {A = ℕ}) in
    let first = prepend_known c.args.bytes.now.items (g.R.Read.remaining c.args.input.now.inner) in
    let left = g.R.Read.remaining c.read_part.new.input.inner in
    record {
      within = omega (arith, long, stated.within.1, few);
      space = search (rules, arith, length-append);
      unfailed = stated.unfailed;
      read = subst (λ (l : List ℕ). Consumes first left l) (sym items) (Consumes-trans first (g.R.Read.remaining c.parts.input.inner) left old more c.parts.invariant.read stated.read.0);
    }
