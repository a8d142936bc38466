-- A header, or a refusal, of the bytes so far of a file is that of each file that they can become.
use Rattle.std.proofs.Common.{◌≡◌, ◌⊎◌, ℕ, List, Option, Some, None, inl, inr, subst, sym}
use Rattle.std.specs.Prelude.{IfSome, IfNone}
use Rattle.jr_segments.specs.declared.refusal.Refusal.{Refusal}
use Rattle.jr_head.specs.Heads.{RefusalOf}
use Rattle.jr_segments.specs.Refusal.{number_of}
use Rattle.jr_arrival.specs.Arrival.{CanBecome, IsFinalFault}
use Rattle.jr_arrival.proofs.HeadsStay.{fault_is_final, head_is_final}
use Rattle.jri_memory.specs.Calls.{IsHeaderOf, ReportsFault, ReportsNoSize, ReportsSize, detail_number}
use Rattle.jri_memory.specs.Frames.{HasOneSize, LacksSize}
use Rattle.jri_memory.specs.declared.frame_size.FrameSize.{FrameSize}
use Rattle.jri_memory.specs.declared.header.Header.{Header}
use Rattle.jri_memory.proofs.SizesStay.{one_size_more}

pub header_stays : (bytes whole : List ℕ) (m : Header) → CanBecome bytes whole → IsHeaderOf bytes m → IsHeaderOf whole m
header_stays bytes whole m can of_bytes = record {
  head = of_bytes.head;
  is = head_is_final bytes whole of_bytes.head can of_bytes.is;
  width = of_bytes.width;
  height = of_bytes.height;
  kind = of_bytes.kind;
  components = of_bytes.components;
  intervals = of_bytes.intervals;
  pixels = of_bytes.pixels;
  scan_at = of_bytes.scan_at;
  restart = of_bytes.restart;
  mcu_width = of_bytes.mcu_width;
  mcu_height = of_bytes.mcu_height;
  across = of_bytes.across;
  down = of_bytes.down;
  mcus = of_bytes.mcus;
  horizontal = of_bytes.horizontal;
  vertical = of_bytes.vertical;
  no_fault = of_bytes.no_fault;
  no_detail = of_bytes.no_detail;
}

pub refusal_stays : (bytes whole : List ℕ) (f : Refusal) (number detail : ℕ) → CanBecome bytes whole → IsFinalFault bytes f → RefusalOf bytes f
    → number ≡ number_of f → detail ≡ detail_number f → ReportsFault whole number detail
refusal_stays bytes whole f number detail can final of_bytes number_is detail_is = record {
  fault = f;
  is = fault_is_final bytes whole f can final of_bytes;
  number_is = number_is;
  detail_is = detail_is;
}

-- the numbers of a header are those of a size
abbrev HasNumbers : Header → FrameSize → Type 0
HasNumbers m s = (m.width ≡ s.width) × (m.height ≡ s.height) × (m.components ≡ s.components)

with_numbers : (file : List ℕ) (s : FrameSize) (m : Header) → HasNumbers m s → HasOneSize file s.width s.height s.components → HasOneSize file m.width m.height m.components
with_numbers file s m same has =
    subst (λ (c : ℕ). HasOneSize file m.width m.height c) (sym same.2)
    (subst (λ (h : ℕ). HasOneSize file m.width h s.components) (sym same.1) (subst (λ (w : ℕ). HasOneSize file w s.height s.components) (sym same.0) has))

pub size_is_stated : (file : List ℕ) (found : Option FrameSize) (m : Header) → IfSome found (λ s. HasOneSize file s.width s.height s.components) → IfNone found (LacksSize file)
    → IfSome found (HasNumbers m) → IfNone found (ReportsNoSize m) → ReportsSize file m
size_is_stated file (Some s) m has lacks sized unsized = inl (with_numbers file s m sized has)
size_is_stated file None m has lacks sized unsized = inr (unsized, lacks)

-- a size that is reported for the bytes so far is the file's
pub size_stays : (bytes : List ℕ) (m : Header) → ReportsSize bytes m → ReportsNoSize m ⊎ ((whole : List ℕ) → CanBecome bytes whole → HasOneSize whole m.width m.height m.components)
size_stays bytes m stated = elim stated [
  | inl has ↦ inr (λ whole can. subst (λ (file : List ℕ). HasOneSize file m.width m.height m.components) (sym can.is) (one_size_more bytes can.more m.width m.height m.components has))
  | inr none ↦ inl none.0
]
