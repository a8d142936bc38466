use Rattle.std.proofs.Common.{◌≡◌, ◌≤◌, ◌++◌, [], length, length-append, sym, subst, ◌∙◌, arith}
use Rattle.std.specs.Io.KnownBytes.{prepend_known}
use Rattle.std.specs.Arc.{arc_value}
use Rattle.jr_base.specs.declared.limits.TheConstants.{MAX_FILE_BYTES}
use Rattle.jr_segments.specs.declared.refusal.Refusal.TheVariants.{TooLong}
use Rattle.jr_head.specs.Heads.{HeadOf, RefusalOf}
use Rattle.jr_head.specs.Geometry.{IsValid}
use Rattle.jr_scan.specs.ScanValue.{ScanValue}
use Rattle.jri_file.specs.Files.{IsScanOfFile}
use Rattle.jr_head.proofs.HeadStays.{head_stays, scan_within}
use Rattle.jri_file.proofs.Longer.{is_too_long}
use Rattle.jri_file.proofs.InputFile.{first_and, of_file}
use Rattle.jri_file.proofs.incoming.cut_while_read.Goals as goal

pub returns-then-branch-gt-MAX_FILE_BYTES-clause-fault : goal.returns-then-branch-gt-MAX_FILE_BYTES-clause-fault
returns-then-branch-gt-MAX_FILE_BYTES-clause-fault g c =
    let first = c.args.first.items in
    let cut = c.in_ok-cut_on.ensures.cut in
    let file = first ++ cut.given in
    let long : length file ≡ c.in_ok-cut_on.field-0 = omega (arith, length-append first cut.given, c.len-before.ensures, cut.count) in
    of_file (λ f. RefusalOf f TooLong) (prepend_known first (g.R.Read.remaining c.args.input.now.inner)) (g.R.Read.remaining c.cut_on.new.input.inner) file (first_and _ _ first cut.given cut.read)
    (omega (arith, long, cut.few)) (λ less. cut.end (omega (arith, long, less))) (is_too_long file (omega (arith, long, c.if-branch-gt-MAX_FILE_BYTES.true)))

pub returns-in-Ok-share-clause-scan : goal.returns-in-Ok-share-clause-scan
returns-in-Ok-share-clause-scan g c =
    let first = c.args.first.items in
    let cut = c.in_ok-cut_on.ensures.cut in
    let file = first ++ cut.given in
    let s : ScanValue = c.cut_on.new.scan.scan in
    let long : length file ≡ c.in_ok-cut_on.field-0 = omega (arith, length-append first cut.given, c.len-before.ensures, cut.count) in
    let small : length file ≤ MAX_FILE_BYTES = omega (arith, long, c.if-branch-gt-MAX_FILE_BYTES.false) in
    let same : s.head ≡ c.args.head = c.cut_on.ensures.head ∙ c.in-Ok.ensures.head in
    let is : IsScanOfFile file s = record {
      head = subst (HeadOf file) (sym same) (head_stays first cut.given small c.args.head c.requires.head);
      valid = subst IsValid (sym same) c.assert_invariant.ensures;
      cut = (cut.come first c.in-Ok.ensures.come).scan;
    } in
    of_file (λ f. IsScanOfFile f (arc_value c.in-Ok-share.scan)) (prepend_known first (g.R.Read.remaining c.args.input.now.inner)) (g.R.Read.remaining c.cut_on.new.input.inner) file (first_and _ _ first cut.given cut.read)
    (omega (arith, small)) (λ less. cut.end (omega (arith, long, less))) (subst (IsScanOfFile file) (sym (c.in-Ok-share.ensures.scan ∙ c.in-Ok-into_scan.ensures)) is)

pub of-requires-clause-few : goal.of-requires-clause-few
of-requires-clause-few g c = omega (arith, c.requires.head.small)

pub of-requires-clause-starts : goal.of-requires-clause-starts
of-requires-clause-starts g c = scan_within c.args.first.items [] c.args.head c.requires.head

pub cut_on-requires-clause-few : goal.cut_on-requires-clause-few
cut_on-requires-clause-few g c = omega (arith, c.len-before.ensures, c.requires.head.small)

pub cut_on-requires-clause-come : goal.cut_on-requires-clause-come
cut_on-requires-clause-come g c =
    let count : length c.args.first.items ≡ c.len-before.result = omega (arith, c.len-before.ensures, c.args.first.ok.0) in
    (c.args.first.items, c.in-Ok.ensures.come, count)
