-- A header that is accepted stays if more bytes follow, or if others replace those after it.
use Rattle.std.proofs.Common.{◌≡◌, ℕ, ◌+◌, ◌≤◌, List, ◌++◌, length, take, sym, ap, ◌∙◌, append_assoc, length-append, arith}
use Rattle.std.specs.List.{flat_map}
use Rattle.std.proofs.lemmas.List.{length-take-le, take_at}
use Rattle.jr_base.specs.declared.limits.TheConstants.{MAX_FILE_BYTES}
use Rattle.jr_segments.specs.Segments.{segment_bytes}
use Rattle.jr_head.specs.HeadValue.{HeadValue}
use Rattle.jr_head.specs.Heads.{HeadOf, start_of_image}

module _ (file more : List ℕ) (h : HeadValue) (head : HeadOf file h) where
  abbrev segments : List ℕ
  segments = flat_map segment_bytes head.segments

  abbrev header : List ℕ
  header = start_of_image ++ (segments ++ segment_bytes head.scan)

  split : (rest : List ℕ) → start_of_image ++ (segments ++ (segment_bytes head.scan ++ rest)) ≡ header ++ rest
  split rest = sym (append_assoc start_of_image (segments ++ segment_bytes head.scan) rest ∙ ap (λ (x : List ℕ). start_of_image ++ x) (append_assoc segments (segment_bytes head.scan) rest))

  -- the header, and these bytes after it
  header_with : (rest bytes : List ℕ) → bytes ≡ header ++ rest → h.scan_at + length rest ≡ length bytes → length bytes ≤ MAX_FILE_BYTES → HeadOf bytes h
  header_with rest bytes is at small = record {
    segments = head.segments;
    scan = head.scan;
    rest = rest;
    small = small;
    is = is ∙ sym (split rest);
    chain = head.chain;
    is_scan = head.is_scan;
    passes = head.passes;
    defines = head.defines;
    scan_at = at;
  }

  whole : file ≡ header ++ head.rest
  whole = head.is ∙ split head.rest

  header_is : take h.scan_at file ≡ header
  header_is =
      let long : length header ≡ h.scan_at = omega (arith, ap length whole, length-append header head.rest, head.scan_at) in
      ap (take h.scan_at) whole ∙ take_at header head.rest h.scan_at long

  pub scan_within : h.scan_at ≤ length file
  scan_within = omega (arith, head.scan_at)

  pub header_stays : length (take h.scan_at file ++ more) ≤ MAX_FILE_BYTES → HeadOf (take h.scan_at file ++ more) h
  header_stays small =
      header_with more (take h.scan_at file ++ more) (ap (λ (x : List ℕ). x ++ more) header_is) (omega (arith, length-append (take h.scan_at file) more, length-take-le h.scan_at file scan_within)) small

  head_longer : length (file ++ more) ≤ MAX_FILE_BYTES → HeadOf (file ++ more) h
  head_longer small =
      header_with (head.rest ++ more) (file ++ more) (ap (λ (x : List ℕ). x ++ more) whole ∙ append_assoc header head.rest more) (omega (arith, head.scan_at, length-append file more, length-append head.rest more)) small

pub head_stays : (bytes more : List ℕ) → length (bytes ++ more) ≤ MAX_FILE_BYTES → (h : HeadValue) → HeadOf bytes h → HeadOf (bytes ++ more) h
head_stays bytes more small h head = head_longer bytes more h head small
