-- What a view shows after one more MCU.
use Rattle.std.proofs.Common.{◌≡◌, ℕ, Bool, inl, inr, ◌⊎◌, ◌+◌, ◌-◌, ◌*◌, ◌<◌, ◌≤◌, true, false, List, slice_index_or, refl, sym, ap, ◌∙◌, arith}
use Rattle.std.proofs.lemmas.Bool.{cases_order}
use Rattle.jr_head.specs.Geometry.{blocks_of, mcus_of}
use Rattle.jr_scan.specs.ScanValue.{ScanValue}
use Rattle.jr_piece.specs.Units.{grey_unit}
use Rattle.jr_view.specs.ViewValue.{ViewValue}
use Rattle.jr_view.specs.Views.{IsSameAt, AddsMcu, AddsMcus, has_seen, unit_at}

is_same : (v : ViewValue) (mcu : ℕ) → IsSameAt v v mcu
is_same v mcu = record { seen = refl; units = λ k lt. refl }

same_blocks : (a b : ViewValue) → b.scan ≡ a.scan → blocks_of b.scan.head ≡ blocks_of a.scan.head
same_blocks a b e = ap (λ (s : ScanValue). blocks_of s.head) e

-- two unchanged steps are one
both_same : (a b c : ViewValue) (mcu : ℕ) → b.scan ≡ a.scan → IsSameAt a b mcu → IsSameAt b c mcu → IsSameAt a c mcu
both_same a b c mcu e s t = record {
  seen = s.seen ∙ t.seen;
  units = λ k lt. s.units k lt ∙ t.units k (omega (arith, lt, same_blocks a b e));
}

-- a test is passed or not
pub reports : (b : Bool) → (b ≡ true) ⊎ (b ≡ false)
reports true = inl refl
reports false = inr refl

-- nothing is shown yet
pub show_none : (v : ViewValue) (first count : ℕ) (units : List (List ℕ)) → count ≡ 0 → AddsMcus v first count units v
show_none v first count units e = record {
  scan = refl;
  seen = λ mcu a. absurd (omega (arith, a.from, a.before, e));
  shown = λ mcu a. absurd (omega (arith, a.from, a.before, e));
  kept = λ mcu f. is_same v mcu;
  others = λ mcu o. is_same v mcu;
}

module _ (old cur : ViewValue) (first d m : ℕ) (units : List (List ℕ)) where
  -- the next one was seen before
  pub show_seen : m ≡ first + d → AddsMcus old first d units cur → has_seen cur m ≡ true → AddsMcus old first (d + 1) units cur
  show_seen le s here =
      let was : has_seen old m ≡ true = (s.others m (inr (omega arith))).seen ∙ here in
      record {
        scan = s.scan;
        seen = λ mcu a. elim (cases_order mcu m) [
          | inl e ↦ ap (has_seen cur) e ∙ here
          | inr o ↦ elim o [
            | inl lt ↦ s.seen mcu (record { picture = a.picture; from = a.from; before = omega arith })
            | inr gt ↦ absurd (omega (arith, a.before))
          ]
        ];
        shown = λ mcu a none. elim (cases_order mcu m) [
          | inl e ↦
              let f : true ≡ false = sym was ∙ sym (ap (has_seen old) e) ∙ none in
              absurd (cc f)
          | inr o ↦ elim o [
            | inl lt ↦ s.shown mcu (record { picture = a.picture; from = a.from; before = omega arith }) none
            | inr gt ↦ absurd (omega (arith, a.before))
          ]
        ];
        kept = s.kept;
        others = λ mcu o. elim o [
          | inl lt ↦ s.others mcu (inl lt)
          | inr ge ↦ s.others mcu (inr (omega arith))
        ];
      }

  -- the next one is shown
  pub show_more : (new : ViewValue) (from : ℕ) → m ≡ first + d → from ≡ d * blocks_of old.scan.head → AddsMcus old first d units cur → has_seen cur m ≡ false → AddsMcu cur m units from new
      → AddsMcus old first (d + 1) units new
  show_more new from le at s none t =
      let blocks = same_blocks old cur s.scan in
      let blocks_new = same_blocks cur new t.scan in
      let next : (mcu : ℕ) → mcu ≡ m → d ≡ mcu - first = λ mcu e. omega arith in
      record {
        scan = t.scan ∙ s.scan;
        seen = λ mcu a. elim (cases_order mcu m) [
          | inl e ↦ ap (has_seen new) e ∙ t.seen
          | inr o ↦ elim o [
            | inl lt ↦ sym (t.others mcu (inl lt)).seen ∙ s.seen mcu (record { picture = a.picture; from = a.from; before = omega arith })
            | inr gt ↦ absurd (omega (arith, a.before))
          ]
        ];
        shown = λ mcu a f. elim (cases_order mcu m) [
          | inl e ↦ λ k lt.
              ap (λ j. unit_at new j k) e ∙ t.shown k lt ∙ ap (λ j. slice_index_or units (j + k) grey_unit) (at ∙ ap (λ j. j * blocks_of old.scan.head) (next mcu e))
          | inr o ↦ elim o [
            | inl lt ↦ λ k few.
                sym ((t.others mcu (inl lt)).units k (omega (arith, few, blocks_new))) ∙ s.shown mcu (record { picture = a.picture; from = a.from; before = omega arith }) f k (omega (arith, few, blocks_new))
            | inr gt ↦ absurd (omega (arith, a.before))
          ]
        ];
        kept = λ mcu f. elim (cases_order mcu m) [
          | inl e ↦
              let g : false ≡ true = sym none ∙ ap (has_seen cur) (sym e) ∙ sym (s.kept mcu f).seen ∙ f in
              absurd (cc g)
          | inr o ↦ both_same old cur new mcu s.scan (s.kept mcu f) (t.others mcu o)
        ];
        others = λ mcu o. elim o [
          | inl lt ↦ both_same old cur new mcu s.scan (s.others mcu (inl lt)) (t.others mcu (inl (omega arith)))
          | inr ge ↦ both_same old cur new mcu s.scan (s.others mcu (inr (omega arith))) (t.others mcu (inr (omega arith)))
        ];
      }

-- all MCUs of the image are shown
pub show_all : (old new : ViewValue) (first count done : ℕ) (units : List (List ℕ)) → done ≤ count → (done < count → mcus_of old.scan.head ≤ first + done) → AddsMcus old first done units new → AddsMcus old first count units new
show_all old new first count done units le end s = record {
  scan = s.scan;
  seen = λ mcu a. s.seen mcu (record { picture = a.picture; from = a.from; before = grind (arith, a.picture, a.before, end) });
  shown = λ mcu a. s.shown mcu (record { picture = a.picture; from = a.from; before = grind (arith, a.picture, a.before, end) });
  kept = s.kept;
  others = λ mcu o. elim o [
    | inl lt ↦ s.others mcu (inl lt)
    | inr ge ↦ s.others mcu (inr (omega arith))
  ];
}
