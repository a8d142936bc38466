-- The progress of a reader of a header.
use Rattle.std.proofs.Common.{◌≡◌, ℕ, ◌+◌, ◌≤◌, List, [], ◌++◌, length, drop, None, inl, inr, sym, ap, ◌∙◌, append_assoc, length-append, arith}
use Rattle.std.specs.List.{flat_map}
use Rattle.std.proofs.Math.Seq.{drop-append_seam}
use Rattle.jr_segments.specs.Segments.{segment_bytes}
use Rattle.jr_segments.specs.Tests.{first_fault}
use Rattle.jr_head.specs.declared.read.HeadReader.{HeadReader}
use Rattle.jr_head.specs.Heads.{start_of_image, start_tests}
use Rattle.jr_head.specs.HeadReader.{ReadsHead}
use Rattle.jr_head.proofs.OneHeadLaws.{begins}
use Rattle.jr_head.proofs.ReadLaws.{Reached}

-- the bytes at its offset are those after the segments that it has read
pub reached : (bytes : List ℕ) (r : HeadReader) → first_fault (start_tests bytes) ≡ None → ReadsHead bytes r → (r.at ≤ length bytes) × Reached bytes (drop r.at bytes) r.definitions
reached bytes r starts (inl new) =
    let b = begins bytes starts in
    (omega (arith, new.0, ap length b.1), ([], b.1 ∙ ap (λ (n : ℕ). start_of_image ++ drop n bytes) (sym new.0), tt, new.1))
reached bytes r starts (inr p) =
    let read = flat_map segment_bytes p.segments in
    let front = start_of_image ++ read in
    let whole : bytes ≡ front ++ p.rest = p.is ∙ sym (append_assoc start_of_image read p.rest) in
    let at : r.at ≡ length front = omega (arith, p.offset, ap length whole, length-append front p.rest) in
    let rest : drop r.at bytes ≡ p.rest = ap (λ (n : ℕ). drop n bytes) at ∙ ap (drop (length front)) whole ∙ drop-append_seam front p.rest in
    (omega (arith, p.offset), (p.segments, p.is ∙ ap (λ (x : List ℕ). start_of_image ++ (read ++ x)) (sym rest), p.chain, p.in_force))

-- it has read a prefix of the bytes that more have arrived for
pub more_arrive : (bytes more : List ℕ) (r : HeadReader) → ReadsHead bytes r → ReadsHead (bytes ++ more) r
more_arrive bytes more r (inl new) = inl new
more_arrive bytes more r (inr p) =
    let read = flat_map segment_bytes p.segments in
    inr record {
      segments = p.segments;
      rest = p.rest ++ more;
      is = ap (λ (b : List ℕ). b ++ more) p.is ∙ append_assoc start_of_image (read ++ p.rest) more ∙ ap (λ (b : List ℕ). start_of_image ++ b) (append_assoc read p.rest more);
      offset = omega (arith, p.offset, length-append bytes more, length-append p.rest more);
      chain = p.chain;
      in_force = p.in_force;
    }
