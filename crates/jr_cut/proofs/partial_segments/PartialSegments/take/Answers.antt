use Rattle.std.proofs.Common.{arith, ◌≡◌, ℕ, List, ◌++◌, length, length-append, sym, ap, subst, ◌∙◌, append_assoc, refl}
use Rattle.std.specs.List.{All}
use Rattle.jr_cut.specs.PartialCut.{AreSegments}
use Rattle.jr_cut.specs.Spans.{IsSpanOf}
use Rattle.jr_cut.specs.PartialSegments.{datas_of}
use Rattle.jr_cut.specs.declared.partial_segments.PartialSegments.{PartialSegments}
use Rattle.jr_cut.specs.declared.span.Span.{Span}
use Rattle.jr_cut.proofs.partial_segments.PartialSegments.take.Goals as goal

-- the same data and spans
same_datas : (o n : PartialSegments) → n.spans.items ≡ o.spans.items → n.bytes.unstuffed ≡ o.bytes.unstuffed → n.begin ≡ o.begin → datas_of n ≡ datas_of o
same_datas o n spans bytes begin = cc

pub returns-clause-is : goal.returns-clause-is
returns-clause-is c =
    let o = c.args.self.now in
    let n : PartialSegments = record o { bytes = c.extend.new.self; spans = c.reserve.new.self } in
    let bytes = c.extend.ensures.data in
    let spans = c.reserve.ensures.items in
    let is = c.requires.is in
    record {
      spans = subst (λ (b : List ℕ). All (IsSpanOf b) n.spans.items) (sym bytes) (subst (λ (s : List Span). All (IsSpanOf o.bytes.unstuffed) s) (sym spans) is.spans);
      begin = omega (arith, ap length bytes, is.begin);
      few = omega (arith, ap length spans, is.few);
      small = is.small;
      fits = omega (arith, ap length c.in_ok-extend.ensures.rest, length-append o.bytes.rest c.args.more.now, c.requires.fits);
    }

pub returns-clause-taken : goal.returns-clause-taken
returns-clause-taken c start bytes h =
    let o = c.args.self.now in
    let n : PartialSegments = record o { bytes = c.extend.new.self; spans = c.reserve.new.self } in
    record {
      read = h.read;
      are = subst (AreSegments 0 h.read) (sym (same_datas o n c.reserve.ensures.items c.extend.ensures.data refl)) h.are;
      spelled = ap (λ (b : List ℕ). b ++ c.args.more.now) h.spelled ∙ append_assoc h.read o.bytes.rest c.args.more.now ∙ ap (λ (b : List ℕ). h.read ++ b) (sym c.in_ok-extend.ensures.rest);
      at = h.at;
    }

pub returns-clause-space : goal.returns-clause-space
returns-clause-space c little =
    omega (arith, little, c.in_ok-reserve.ensures.ok, ap length c.reserve.ensures.items, ap length c.in_ok-extend.ensures.rest, length-append c.args.self.now.bytes.rest c.args.more.now, ap length c.rest.ensures)
