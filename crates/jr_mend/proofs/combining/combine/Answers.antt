use Rattle.std.proofs.Common.{◌≡◌, ◌∙◌, ℕ, List, ◌++◌, length, take, drop, refl, sym, ap, subst, arith, rules}
use Rattle.std.proofs.lemmas.Option.{slice_get_read}
use Rattle.std.proofs.Math.Seq.{take-append_seam}
use Rattle.jr_head.specs.HeadValue.{HeadValue}
use Rattle.jr_mend.specs.Combined.{AreBetween, IsCombined}
use Rattle.jr_mend.proofs.combining.combine.Goals as goal

pub returns-clause-combined : goal.returns-clause-combined
returns-clause-combined c =
    let copies = c.args.copies.now in
    let first = c.index-copies-0.result in
    let runs = c.in-Ok-choose_runs.runs.items in
    let new = c.choose_runs.new.file in
    let rest = drop (length new) c.in-Ok.file.items in
    let long : c.in-Ok.file.len ≡ length new = search (rules, arith, c.choose_runs.auto.file) in
    let kept : take c.in-Ok.file.len (new ++ rest) ≡ new = ap (λ (n : ℕ). take n (new ++ rest)) long ∙ take-append_seam new rest in
    let stated = c.in-Ok-choose_runs.ensures in
    subst (λ (l : List ℕ). IsCombined copies runs l) (sym kept)
    (record {
      first = first;
      is_first = slice_get_read copies (length copies) 0 first refl c.requires.some c.index-copies-0.is;
      long = omega (arith, long, c.in-Ok.ensures.len, ap length c.file-2.ensures);
      order = subst (λ (n : ℕ). AreBetween first.scan.head.scan_at n runs) (sym stated.long) (subst (λ (h : HeadValue). AreBetween h.scan_at (length c.deref_mut.result.now) runs) c.head.ensures.value stated.runs);
      bytes = stated.bytes;
    })
