use Rattle.std.proofs.Common.{◌≡◌, ◌+◌, ◌≤◌, ◌++◌, [], length, length-append, append-nil, append_assoc, take, refl, sym, subst, ◌∙◌, arith, rules}
use Rattle.std.proofs.KnownBytes.{Consumes-nil, Consumes-trans}
use Rattle.std.specs.Io.KnownBytes.{Consumes}
use Rattle.jr_base.specs.declared.limits.TheConstants.{MAX_FILE_BYTES}
use Rattle.jr_scan.specs.PartialScan.{HasCome}
use Rattle.jri_file.proofs.reading.cut_on.Goals as goal

pub parts-init : goal.parts-init
parts-init g c = record {
  few = c.requires.few;
  unfailed = c.requires.unfailed;
  head = refl;
  read = ([], Consumes-nil (g.R.Read.remaining c.args.input.now.inner), omega arith, λ bytes has. subst (HasCome c.args.scan.now) (sym (append-nil bytes)) has);
}

pub push-requires : goal.push-requires
push-requires g c =
    let read = c.parts.invariant.read in
    let first = c.requires.come in
    let has : HasCome c.parts.scan (first.0 ++ read.0) = read.3 first.0 first.1 in
    let n = c.in_ok-count.count in
    let few : c.parts.come + n ≤ MAX_FILE_BYTES + 1 = search (rules, arith) in
    let long : length (take n c.read_part.new.part) ≡ n = search (rules, arith) in
    record { few = omega (arith, has.few, length-append first.0 read.0, first.2, read.2, few, long) }

pub parts-preserved : goal.parts-preserved
parts-preserved g c =
    let read = c.parts.invariant.read in
    let n = c.in_ok-count.count in
    let more = take n c.read_part.new.part in
    let few : c.parts.come + n ≤ MAX_FILE_BYTES + 1 = search (rules, arith) in
    let long : length more ≡ n = search (rules, arith) in
    let taken : Consumes (g.R.Read.remaining c.parts.input.inner) (g.R.Read.remaining c.read_part.new.input.inner) more = search rules in
    record {
      few = few;
      unfailed = c.in_ok-count.ensures.unfailed;
      head = c.push.ensures.head ∙ c.parts.invariant.head;
      read = (
        read.0 ++ more,
        Consumes-trans _ _ _ read.0 more read.1 taken,
        omega (arith, read.2, length-append read.0 more, long),
        λ bytes has. subst (HasCome c.push.new.self) (append_assoc bytes read.0 more) (c.in-Ok.ensures.pushed (bytes ++ read.0) (read.3 bytes has)),
      );
    }
