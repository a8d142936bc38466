-- The first frame header of a file comes after segments that are read one after the other.
use Rattle.std.proofs.Common.{arith, subst, sym, ap, ◌∙◌, ◌≡◌, ◌≢◌, ◌<◌, ◌≤◌, ℕ, suc, List, Option, Some, None, drop, false, true, inl, inr, Bool, length}
use Rattle.std.proofs.lemmas.Bool.{cases_lt}
use Rattle.std.specs.Prelude.{IfNone, IfSome}
use Rattle.jr_base.specs.declared.marker.TheConstants.{PREFIX, SOI, SOS}
use Rattle.jr_segments.specs.Bytes.{byte}
use Rattle.jr_segments.specs.Frames.{frame_component_count, height, width}
use Rattle.jr_segments.specs.Segments.{is_known, segment_at}
use Rattle.jri_memory.specs.declared.frame_size.FrameSize.{FrameSize}
use Rattle.jri_memory.specs.Frames.{HasFrame, HasOneSize, HasOther, HasSegment, HasSize, LacksSize, after_segments, is_any_frame}

-- the bytes are those after some segments of the file that may precede its frame header
pub record HasRead (file rest : List ℕ) : Type 0 where
  pub prefix : byte 0 file ≡ PREFIX
  pub start : byte 1 file ≡ SOI
  pub before : ℕ
  pub is : rest ≡ after_segments before (drop 2 file)
  pub others : (k : ℕ) → k < before → HasOther (after_segments k (drop 2 file))

pub read_none : (file rest : List ℕ) → byte 0 file ≡ PREFIX → byte 1 file ≡ SOI → rest ≡ drop 2 file → HasRead file rest
read_none file rest prefix start is = record { prefix = prefix; start = start; before = 0; is = is; others = λ k lt. absurd (omega (arith, lt)) }

pub read_more : (file rest after : List ℕ) → HasRead file rest → HasOther rest → after ≡ after_segments 1 rest → HasRead file after
read_more file rest after r other is = record {
  prefix = r.prefix;
  start = r.start;
  before = suc r.before;
  is = is ∙ ap (after_segments 1) r.is;
  others = λ k lt. elim (cases_lt k r.before) [
    | inl less ↦ r.others k less
    | inr last ↦ (let e : r.before ≡ k = omega (arith, lt, last) in subst (λ (n : ℕ). HasOther (after_segments n (drop 2 file))) e (subst HasOther r.is other))
  ];
}

pub size_is : (file rest : List ℕ) (w h c : ℕ) → HasRead file rest → HasFrame rest w h c → HasSize file w h c
size_is file rest w h c r frame = record {
  prefix = r.prefix;
  start = r.start;
  before = r.before;
  others = r.others;
  frame = subst (λ (t : List ℕ). HasFrame t w h c) r.is frame;
}

no_both : (b : Bool) → b ≡ true → b ≡ false → ⊥
no_both b is not = absurd (let e = sym is ∙ not in cc)

-- a frame header is none of the other segments
apart : (bytes : List ℕ) (w h c : ℕ) → HasFrame bytes w h c → HasOther bytes → ⊥
apart bytes w h c frame other = no_both _ frame.is_frame other.no_frame

-- it is the only one that the file has
pub only_size : (file : List ℕ) (w h c u v d : ℕ) → HasSize file w h c → HasSize file u v d → (u ≡ w) × (v ≡ h) × (d ≡ c)
only_size file w h c u v d r s = elim (cases_lt s.before r.before) [
  | inl less ↦ absurd (apart _ u v d s.frame (r.others s.before less))
  | inr le ↦ elim (cases_lt r.before s.before) [
    | inl more ↦ absurd (apart _ w h c r.frame (s.others r.before more))
    | inr last ↦ (
        let e : s.before ≡ r.before = omega (arith, le, last) in
        let frame : HasFrame (after_segments r.before (drop 2 file)) u v d = subst (λ (n : ℕ). HasFrame (after_segments n (drop 2 file)) u v d) e s.frame in
        (frame.width ∙ sym r.frame.width, frame.height ∙ sym r.frame.height, frame.components ∙ sym r.frame.components))
  ]
]

pub one_size : (file rest : List ℕ) (w h c : ℕ) → HasRead file rest → HasFrame rest w h c → HasOneSize file w h c
one_size file rest w h c r frame = let is = size_is file rest w h c r frame in record { is = is; only = λ u v d has. only_size file w h c u v d is has }

-- the size in a frame header that is the next segment
pub some_in : (file rest : List ℕ) (found : Option FrameSize) → HasRead file rest → HasSegment rest → (code : ℕ) (payload : List ℕ) → code ≡ (segment_at rest).code → payload ≡ (segment_at rest).payload
    → is_any_frame code ≡ true → IfSome found (λ _. 6 ≤ length payload) → IfSome found (λ s. s.width ≡ width payload) → IfSome found (λ s. s.height ≡ height payload) → IfSome found (λ s. s.components ≡ frame_component_count payload)
    → IfSome found (λ s. HasOneSize file s.width s.height s.components)
some_in file rest None r there code payload same is frame long across down count = tt
some_in file rest (Some s) r there code payload same is frame long across down count = one_size file rest s.width s.height s.components r record {
  there = there;
  is_frame = ap is_any_frame (sym same) ∙ frame;
  long = subst (λ (p : List ℕ). 6 ≤ length p) is long;
  width = across ∙ ap width is;
  height = down ∙ ap height is;
  components = count ∙ ap frame_component_count is;
}

pub no_size : (file rest : List ℕ) → HasRead file rest → (HasOther rest → ⊥) → ((w h c : ℕ) → HasFrame rest w h c → ⊥) → LacksSize file
no_size file rest r no_other no_frame w h c s = elim (cases_lt s.before r.before) [
  | inl less ↦ apart _ w h c s.frame (r.others s.before less)
  | inr le ↦ elim (cases_lt r.before s.before) [
    | inl more ↦ no_other (subst HasOther (sym r.is) (s.others r.before more))
    | inr last ↦ (let e : s.before ≡ r.before = omega (arith, le, last) in no_frame w h c (subst (λ (t : List ℕ). HasFrame t w h c) (sym r.is) (subst (λ (n : ℕ). HasFrame (after_segments n (drop 2 file)) w h c) e s.frame)))
  ]
]

-- what a segment of this code is or is not

pub other_is : (bytes : List ℕ) (code : ℕ) → HasSegment bytes → code ≡ (segment_at bytes).code → is_any_frame code ≡ false → code ≢ SOS → is_known code ≡ true → HasOther bytes
other_is bytes code there same unframed unscanned known = record {
  there = there;
  known = ap is_known (sym same) ∙ known;
  no_frame = ap is_any_frame (sym same) ∙ unframed;
  no_scan = λ e. unscanned (same ∙ e);
}

pub no_other_scan : (bytes : List ℕ) (code : ℕ) → code ≡ (segment_at bytes).code → code ≡ SOS → HasOther bytes → ⊥
no_other_scan bytes code same scan other = other.no_scan (sym same ∙ scan)

pub no_other_unknown : (bytes : List ℕ) (code : ℕ) → code ≡ (segment_at bytes).code → is_known code ≡ false → HasOther bytes → ⊥
no_other_unknown bytes code same unknown other = no_both _ (ap is_known same ∙ other.known) unknown

-- a frame header that is too short has no size, and no other one follows it
pub none_in : (file rest : List ℕ) (found : Option FrameSize) → HasRead file rest → (code : ℕ) (payload : List ℕ) → code ≡ (segment_at rest).code → payload ≡ (segment_at rest).payload
    → is_any_frame code ≡ true → IfNone found (length payload < 6) → IfNone found (LacksSize file)
none_in file rest (Some s) r code payload same is frame short = tt
none_in file rest None r code payload same is frame short =
    no_size file rest r (λ other. no_both _ frame (ap is_any_frame same ∙ other.no_frame)) (λ w h c has. omega (arith, has.long, short, ap length is))
