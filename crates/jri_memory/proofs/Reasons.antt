-- A call that moves a position returns one status, by what is true of the header's bytes and of the position.
use Rattle.std.proofs.Common.{◌≡◌, ◌≢◌, inl, inr, ℕ, ◌<◌, ◌⊎◌, List, length, refl, sym, subst, ◌∙◌, arith}
use Rattle.std.specs.List.{All}
use Rattle.jr_segments.specs.declared.refusal.Refusal.{Refusal}
use Rattle.jr_segments.specs.declared.refusal.Refusal.TheVariants.{Memory}
use Rattle.jr_head.specs.HeadValue.{HeadValue}
use Rattle.jr_head.specs.Heads.{HeadOf, RefusalOf}
use Rattle.jr_head.proofs.OneHeadLaws.{one_head_or_one_fault}
use Rattle.jr_arrival.specs.Parts.{FilePart}
use Rattle.jr_arrival.specs.Places.{rows_with_space}
use Rattle.jr_arrival.specs.Settled.{WantsMore}
use Rattle.jr_arrival.specs.declared.place.RowPlace.{RowPlace}
use Rattle.jri_memory.specs.declared.places.PlaceError.{PlaceError}
use Rattle.jri_memory.specs.declared.places.PlaceError.TheVariants.{Refused, NoRows, BufferTooSmall, NotInWindow}
use Rattle.jri_memory.specs.declared.rows_report.RowsReport.{RowsReport}
use Rattle.jri_memory.specs.Rows.{ReturnsRows, SkipsRows, HasRowAt, IsInPart, IsWhy, LacksSpaceForRow, LacksRows, LiesInside, LiesOutside}

one_head : (bytes : List ℕ) (g h : HeadValue) → All (λ b. b < 256) bytes → HeadOf bytes g → HeadOf bytes h → g ≡ h
one_head bytes g h fits a b = elim (one_head_or_one_fault bytes fits) [ inl one ↦ one.only g a ∙ sym (one.only h b) | inr fault ↦ absurd (fault.no_head g a) ]

no_fault : (bytes : List ℕ) (h : HeadValue) (f : Refusal) → All (λ b. b < 256) bytes → HeadOf bytes h → RefusalOf bytes f → ⊥
no_fault bytes h f fits a b = elim (one_head_or_one_fault bytes fits) [ inl one ↦ one.no_fault f b | inr fault ↦ fault.no_head h a ]

-- a header that is there wants no more bytes
pub wants_none : (bytes : List ℕ) (h : HeadValue) → All (λ b. b < 256) bytes → HeadOf bytes h → WantsMore bytes → ⊥
wants_none bytes h fits a (inl early) = no_fault bytes h _ fits a early
wants_none bytes h fits a (inr few) = no_fault bytes h _ fits a few.0

-- of the header's bytes, and a position in them
module _ (header : List ℕ) (fits : All (λ b. b < 256) header) (p : RowPlace) (rows : ℕ) where
  -- an image that has a row there does not lack one
  pub has_rows : (h : HeadValue) → HeadOf header h → HasRowAt h p rows → LacksRows header p rows → ⊥
  has_rows h a there lacks = lacks.none (subst (λ (g : HeadValue). HasRowAt g p rows) (one_head header h lacks.h fits a lacks.is) there)

  pub has_space : (h : HeadValue) (space : ℕ) → HeadOf header h → 0 < rows_with_space h p.row space → LacksSpaceForRow header p rows space → ⊥
  has_space h space a some lacks =
      let none : rows_with_space h p.row space ≡ 0 = subst (λ (g : HeadValue). rows_with_space g p.row space ≡ 0) (one_head header lacks.h h fits lacks.is a) lacks.less in
      omega (arith, some, none)

  pub is_inside : (x : FilePart) → LiesInside header x p rows → LiesOutside header x p rows → ⊥
  is_inside x inside outside = outside.out (subst (λ (g : HeadValue). IsInPart x g p) (one_head header inside.h outside.h fits inside.is outside.is) inside.within)

  pub wants_or_inside : (x : FilePart) → WantsMore header ⊎ LiesInside header x p rows → LiesOutside header x p rows → ⊥
  wants_or_inside x (inl wants) outside = wants_none header outside.h fits outside.is wants
  wants_or_inside x (inr inside) outside = is_inside x inside outside

  -- a call that returns or skips rows has some at the position, and space for the next
  module _ (x : FilePart) (new : RowPlace) (r : RowsReport) where
    pub returns_rows : (old pixels : List ℕ) → ReturnsRows header x rows p new old pixels r → LacksRows header p rows → ⊥
    returns_rows old pixels (inl awaits) lacks = wants_none header lacks.h fits lacks.is awaits.0.wanted
    returns_rows old pixels (inr given) lacks = has_rows given.h given.moves.head given.there lacks

    pub returns_space : (old pixels : List ℕ) → ReturnsRows header x rows p new old pixels r → LacksSpaceForRow header p rows (length old) → ⊥
    returns_space old pixels (inl awaits) lacks = wants_none header lacks.h fits lacks.is awaits.0.wanted
    returns_space old pixels (inr given) lacks = has_space given.h (length old) given.moves.head given.space lacks

    pub skips_rows : SkipsRows header x rows p new r → LacksRows header p rows → ⊥
    skips_rows (inl awaits) lacks = wants_none header lacks.h fits lacks.is awaits.wanted
    skips_rows (inr skipped) lacks = has_rows skipped.h skipped.moves.head skipped.there lacks

  -- what is true of the position is why it is not moved, unless memory ran out
  module _ (x : FilePart) (space : ℕ) where
    pub only_rows : (e : PlaceError) → e ≢ Refused Memory → IsWhy header x p rows space e → LacksRows header p rows → e ≡ NoRows
    only_rows (Refused f) other why lacks = absurd (no_fault header lacks.h f fits lacks.is (why (λ m. other (subst (λ (g : Refusal). Refused f ≡ Refused g) m refl))).is)
    only_rows NoRows other why lacks = refl
    only_rows BufferTooSmall other why lacks = absurd (has_rows why.h why.is why.there lacks)
    only_rows NotInWindow other why lacks = absurd (has_rows why.h why.is why.there lacks)

    pub only_outside : (e : PlaceError) → e ≢ Refused Memory → (e ≡ BufferTooSmall → LiesInside header x p rows) → IsWhy header x p rows space e → LiesOutside header x p rows → e ≡ NotInWindow
    only_outside (Refused f) other within why lies = absurd (no_fault header lies.h f fits lies.is (why (λ m. other (subst (λ (g : Refusal). Refused f ≡ Refused g) m refl))).is)
    only_outside NoRows other within why lies = absurd (has_rows lies.h lies.is lies.there why)
    only_outside BufferTooSmall other within why lies = absurd (is_inside x (within refl) lies)
    only_outside NotInWindow other within why lies = refl

    pub only_space : (e : PlaceError) → e ≢ Refused Memory → e ≢ NotInWindow → IsWhy header x p rows space e → LacksSpaceForRow header p rows space → e ≡ BufferTooSmall
    only_space (Refused f) other inside why lacks = absurd (no_fault header lacks.h f fits lacks.is (why (λ m. other (subst (λ (g : Refusal). Refused f ≡ Refused g) m refl))).is)
    only_space NoRows other inside why lacks = absurd (has_rows lacks.h lacks.is lacks.there why)
    only_space BufferTooSmall other inside why lacks = refl
    only_space NotInWindow other inside why lacks = absurd (inside refl)
