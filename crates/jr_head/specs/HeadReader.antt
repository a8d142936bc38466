-- The progress of a reader of a header (T.81, B.2.1).
use Rattle.std.specs.Prelude.{◌≡◌, ◌⊎◌, ℕ, ◌+◌, List, [], ◌++◌, length}
use Rattle.std.specs.List.{flat_map}
use Rattle.jr_segments.specs.Segments.{Segment, segment_bytes}
use Rattle.jr_head.specs.declared.definitions.Definitions.{Definitions}
use Rattle.jr_head.specs.declared.read.HeadReader.{HeadReader}
use Rattle.jr_head.specs.Definitions.{InForce}
use Rattle.jr_head.specs.Heads.{IsChain, start_of_image}

-- the bytes before that offset are SOI and segments that pass their tests, and what these define is in force
pub record IsReadTo (bytes : List ℕ) (at : ℕ) (definitions : Definitions) : Type 0 where
  pub segments : List Segment
  pub rest : List ℕ
  pub is : bytes ≡ start_of_image ++ (flat_map segment_bytes segments ++ rest)
  pub offset : at + length rest ≡ length bytes
  pub chain : IsChain [] segments
  pub in_force : InForce segments definitions

-- the reader has read nothing, or a prefix of these bytes
abbrev pub ReadsHead : List ℕ → HeadReader → Type 0
ReadsHead bytes r = ((r.at ≡ 2) × InForce [] r.definitions) ⊎ IsReadTo bytes r.at r.definitions
