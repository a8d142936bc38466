-- Accepted frame headers have valid components.
use Rattle.std.proofs.Common.{◌≡◌, ◌⊎◌, inl, inr, ℕ, zero, suc, ◌+◌, ◌*◌, ◌%◌, ◌<◌, ◌≤◌, Bool, true, false, List, [], ◌∷◌, length, take, drop, max, refl, sym, ap, ◌∙◌, arith}
use Rattle.std.specs.Prelude.{All, Option, sum_by, slice_index_or, not, ◌||◌, ◌&&◌, ◌==◌, nat_lt, if◌then◌else◌}
use Rattle.std.specs.Option.{option_map_or}
use Rattle.std.specs.List.{AllZip, AllByRecursion, fold, list_all, zip}
use Rattle.std.proofs.lemmas.Bool.{and_parts, ltb-true, ltb-false, eqb-true}
use Rattle.std.proofs.lemmas.List.{length-drop, length-take-le, get_or_default}
use Rattle.std.proofs.lemmas.List.Elements.{All-from_recursion}
use Rattle.std.proofs.lemmas.List.Sums.{sum_by-cons}
use Rattle.std.proofs.lemmas.Slice.Zip.{AllZip-long}
use Rattle.jr_head.specs.declared.component.Component.{Component}
use Rattle.jr_segments.specs.declared.frame.Frame.{Frame}
use Rattle.jr_segments.specs.declared.frame.FrameComponent.{FrameComponent}
use Rattle.jr_segments.specs.declared.kind.Kind.{Kind}
use Rattle.jr_segments.specs.declared.kind.Kind.TheVariants.{Grey, Rgb, Ycc}
use Rattle.jr_segments.specs.Bytes.{byte}
use Rattle.jr_segments.specs.Frames.{is_factor, have_factors, divides, is_ill_sampled, blocks, IsAccepted}
use Rattle.jr_segments.specs.Frames.{greatest_horizontal as frame_across, greatest_vertical as frame_down}
use Rattle.jr_head.specs.Geometry.{no_component, units_of, component_count, greatest_across, greatest_down, IsSampled, IsSubsampled, IsCoded, AreValid}
use Rattle.jr_segments.specs.Marks.{kind_by}
use Rattle.jr_head.specs.Definitions.{HasFactors, HaveFactors}
use Rattle.jr_head.specs.Scans.{selectors_in, selectors}
use Rattle.jr_head.proofs.SamplingLaws.{within_most, most_small, most_some}

-- ---- the number of entries of a scan header

pairs_count : (n : ℕ) (s : List ℕ) → length s ≡ 2 * n → length (selectors_in s) ≡ n
unfolding selectors_in
pairs_count zero [] h = refl
pairs_count zero (a ∷ s) h = absurd (omega (arith, h))
pairs_count (suc n) [] h = absurd (omega (arith, h))
pairs_count (suc n) (a ∷ []) h = absurd (omega (arith, h))
pairs_count (suc n) (a ∷ b ∷ s) h = ap suc (pairs_count n s (omega (arith, h)))

pub selectors_count : (p : List ℕ) → length p ≡ 4 + 2 * byte 0 p → length (selectors p) ≡ byte 0 p
selectors_count p h =
    let front = take (1 + 2 * byte 0 p) p in
    let long : length front ≡ 1 + 2 * byte 0 p = length-take-le (1 + 2 * byte 0 p) p (omega (arith, h)) in
    pairs_count (byte 0 p) (drop 1 front) (omega (arith, long, length-drop 1 front))

pub each_first : {A B C : Type 0} (R : A → B → Type 0) (xs : List A) (ys : List B) (zs : List C) → length zs ≡ length ys → AllZip (λ x u. R x u.0) xs (zip ys zs) → AllZip R xs ys
each_first R [] [] zs e h = tt
each_first R (x ∷ xs) [] zs e h = absurd h
each_first R xs (y ∷ ys) [] e h = absurd (omega (arith, e))
each_first R [] (y ∷ ys) (z ∷ zs) e h = absurd h
each_first R (x ∷ xs) (y ∷ ys) (z ∷ zs) e h = (h.0, each_first R xs ys zs (omega (arith, e)) h.1)

-- ---- several components have the factors of the frame header

greatest_same : (f : Component → ℕ) (g : FrameComponent → ℕ) (m : ℕ) (cs : List Component) (fs : List FrameComponent) → AllZip (λ c e. f c ≡ g e) cs fs
    → fold (λ n c. max n (f c)) m cs ≡ fold (λ n e. max n (g e)) m fs
greatest_same f g m [] [] h = refl
greatest_same f g m [] (e ∷ fs) h = absurd h
greatest_same f g m (c ∷ cs) [] h = absurd h
greatest_same f g m (c ∷ cs) (e ∷ fs) h = rw h.0 (greatest_same f g (max m (g e)) cs fs h.1)

same_across : (cs : List Component) (fs : List FrameComponent) → AllZip (HasFactors false) cs fs → AllZip (λ c e. c.horizontal ≡ e.horizontal) cs fs
same_across [] [] h = tt
same_across [] (e ∷ fs) h = absurd h
same_across (c ∷ cs) [] h = absurd h
same_across (c ∷ cs) (e ∷ fs) h = (h.0.horizontal, same_across cs fs h.1)

same_down : (cs : List Component) (fs : List FrameComponent) → AllZip (HasFactors false) cs fs → AllZip (λ c e. c.vertical ≡ e.vertical) cs fs
same_down [] [] h = tt
same_down [] (e ∷ fs) h = absurd h
same_down (c ∷ cs) [] h = absurd h
same_down (c ∷ cs) (e ∷ fs) h = (h.0.vertical, same_down cs fs h.1)

same_units : (cs : List Component) (fs : List FrameComponent) → AllZip (HasFactors false) cs fs → sum_by units_of cs ≡ blocks fs
same_units [] [] h = refl
same_units [] (e ∷ fs) h = absurd h
same_units (c ∷ cs) [] h = absurd h
same_units (c ∷ cs) (e ∷ fs) h =
    let one : units_of c ≡ e.horizontal * e.vertical = rw (h.0.horizontal, h.0.vertical) refl in
    sum_by-cons units_of c cs ∙ rw (one, same_units cs fs h.1) (sym (sum_by-cons (λ (x : FrameComponent). x.horizontal * x.vertical) e fs))

-- ---- the factors are from 1 to 4

one_sampled : (c : Component) (h v : ℕ) → c.horizontal ≡ h → c.vertical ≡ v → length c.quantiser ≡ 64 → (is_factor h && is_factor v) ≡ true → IsSampled c
one_sampled c h v eh ev long good =
    let both = and_parts (is_factor h) (is_factor v) good in
    let across = and_parts (nat_lt 0 h) (nat_lt h 5) both.0 in
    let down = and_parts (nat_lt 0 v) (nat_lt v 5) both.1 in
    record {
      across = rw eh (ltb-true 0 h across.0);
      narrow = rw eh (omega (arith, ltb-true h 5 across.1));
      down = rw ev (ltb-true 0 v down.0);
      low = rw ev (omega (arith, ltb-true v 5 down.1));
      elements = long;
    }

each_sampled : (cs : List Component) (fs : List FrameComponent) → AllZip (HasFactors false) cs fs → have_factors fs ≡ true → AllByRecursion IsSampled cs
unfolding have_factors
each_sampled [] [] h good = tt
each_sampled [] (e ∷ fs) h good = absurd h
each_sampled (c ∷ cs) [] h good = absurd h
each_sampled (c ∷ cs) (e ∷ fs) h good =
    let both = and_parts (is_factor e.horizontal && is_factor e.vertical) (list_all (λ (x : FrameComponent). is_factor x.horizontal && is_factor x.vertical) fs) good in
    (one_sampled c e.horizontal e.vertical h.0.horizontal h.0.vertical h.0.elements both.0, each_sampled cs fs h.1 both.1)

-- ---- and divide the greatest

abbrev Divide : ℕ → ℕ → Component → Type 0
Divide across down c = (across % c.horizontal ≡ 0) × (down % c.vertical ≡ 0)

one_divides : (d n : ℕ) → divides d n ≡ true → n % d ≡ 0
one_divides d n h = eqb-true (n % d) 0 (and_parts (nat_lt 0 d) (n % d == 0) h).1

each_divides : (across down : ℕ) (cs : List Component) (fs : List FrameComponent) → AllZip (HasFactors false) cs fs
    → list_all (λ c. divides c.horizontal across && divides c.vertical down) fs ≡ true → AllByRecursion (Divide across down) cs
each_divides across down [] [] h good = tt
each_divides across down [] (e ∷ fs) h good = absurd h
each_divides across down (c ∷ cs) [] h good = absurd h
each_divides across down (c ∷ cs) (e ∷ fs) h good =
    let both = and_parts (divides e.horizontal across && divides e.vertical down) (list_all (λ (x : FrameComponent). divides x.horizontal across && divides x.vertical down) fs) good in
    let here = and_parts (divides e.horizontal across) (divides e.vertical down) both.0 in
    let this : Divide across down c = (rw h.0.horizontal (one_divides e.horizontal across here.0), rw h.0.vertical (one_divides e.vertical down here.1)) in
    (this, each_divides across down cs fs h.1 both.1)

all_subsampled : (cs : List Component) → All (Divide (greatest_across cs) (greatest_down cs)) cs → All (IsSubsampled (greatest_across cs) (greatest_down cs)) cs
all_subsampled cs h = λ i d lt.
    let same = get_or_default cs i d no_component lt in
    record {
      narrower = rw same (within_most (λ c. c.horizontal) 0 cs i lt);
      lower = rw same (within_most (λ c. c.vertical) 0 cs i lt);
      across_divides = (h i d lt).0;
      down_divides = (h i d lt).1;
    }

well_parts : (d : Bool) (n : ℕ) → (not d || nat_lt 10 n) ≡ false → (d ≡ true) × (n ≤ 10)
well_parts true n h = (refl, ltb-false 10 n h)
well_parts false n h = absurd cc

well_sampled : (fs : List FrameComponent) → length fs ≡ 3 → is_ill_sampled fs ≡ false
    → (list_all (λ c. divides c.horizontal (frame_across fs) && divides c.vertical (frame_down fs)) fs ≡ true) × (blocks fs ≤ 10)
unfolding is_ill_sampled
well_sampled fs three h =
    well_parts (list_all (λ (c : FrameComponent). divides c.horizontal (frame_across fs) && divides c.vertical (frame_down fs)) fs) (blocks fs) (rw three at h)

-- ---- valid components

abbrev Tests : List Component → Type 0
Tests cs = All IsSampled cs × All (IsSubsampled (greatest_across cs) (greatest_down cs)) cs × (sum_by units_of cs ≤ 10)

several : (cs : List Component) (fs : List FrameComponent) → length fs ≡ 3 → AllZip (HasFactors false) cs fs → have_factors fs ≡ true → is_ill_sampled fs ≡ false → Tests cs
several cs fs three h good well =
    let across : greatest_across cs ≡ frame_across fs = greatest_same (λ c. c.horizontal) (λ e. e.horizontal) 0 cs fs (same_across cs fs h) in
    let down : greatest_down cs ≡ frame_down fs = greatest_same (λ c. c.vertical) (λ e. e.vertical) 0 cs fs (same_down cs fs h) in
    let w = well_sampled fs three well in
    let divided : AllByRecursion (Divide (greatest_across cs) (greatest_down cs)) cs = rw (across, down) (each_divides (frame_across fs) (frame_down fs) cs fs h w.0) in (
      All-from_recursion IsSampled cs (each_sampled cs fs h good),
      all_subsampled cs (All-from_recursion (Divide (greatest_across cs) (greatest_down cs)) cs divided),
      rw (same_units cs fs h) w.1,
    )

single : (c : Component) → c.horizontal ≡ 1 → c.vertical ≡ 1 → length c.quantiser ≡ 64 → Tests (c ∷ [])
single c h v long =
    let sampled : IsSampled c = one_sampled c 1 1 h v long refl in
    let divided : Divide (greatest_across (c ∷ [])) (greatest_down (c ∷ [])) c = (rw h refl, rw v refl) in (
      All-from_recursion IsSampled (c ∷ []) (sampled, tt),
      all_subsampled (c ∷ []) (All-from_recursion (Divide (greatest_across (c ∷ [])) (greatest_down (c ∷ []))) (c ∷ []) (divided, tt)),
      rw (h, v) (omega arith),
    )

each_coded : (is_single : Bool) (cs : List Component) (fs : List FrameComponent) → AllZip (HasFactors is_single) cs fs → AllByRecursion IsCoded cs
each_coded is_single [] [] h = tt
each_coded is_single [] (e ∷ fs) h = absurd h
each_coded is_single (c ∷ cs) [] h = absurd h
each_coded is_single (c ∷ cs) (e ∷ fs) h = (h.0.coded, each_coded is_single cs fs h.1)

all_valid : (kind : Kind) (cs : List Component) → length cs ≡ component_count kind → 0 < length cs → Tests cs → All IsCoded cs
    → (kind ≡ Grey → ((slice_index_or cs 0 no_component).horizontal ≡ 1) × ((slice_index_or cs 0 no_component).vertical ≡ 1)) → AreValid kind cs
all_valid kind cs count some t coded ones = record {
  count = count;
  sampled = t.0;
  coded = coded;
  single = ones;
  subsampled = t.1;
  across = most_some (λ c. c.horizontal) cs some (λ c s. s.across) t.0;
  narrow = most_small (λ c. c.horizontal) 4 cs (λ c s. s.narrow) t.0;
  down = most_some (λ c. c.vertical) cs some (λ c s. s.down) t.0;
  low = most_small (λ c. c.vertical) 4 cs (λ c s. s.low) t.0;
  blocks = t.2;
}

one_valid : (cs : List Component) (fs : List FrameComponent) → length fs ≡ 1 → AllZip (HasFactors true) cs fs → AreValid Grey cs
one_valid cs [] one h = absurd (omega (arith, one))
one_valid cs (e ∷ f ∷ fs) one h = absurd (omega (arith, one))
one_valid [] (e ∷ []) one h = absurd h
one_valid (c ∷ d ∷ cs) (e ∷ []) one h = absurd h.1
one_valid (c ∷ []) (e ∷ []) one h =
    all_valid Grey (c ∷ []) refl (omega arith) (single c h.0.horizontal h.0.vertical h.0.elements) (All-from_recursion IsCoded (c ∷ []) (h.0.coded, tt)) (λ _. (h.0.horizontal, h.0.vertical))

two_kinds : (b : Bool) → (component_count (if b then Rgb else Ycc) ≡ 3) × ((if b then Rgb else Ycc) ≡ Grey → ⊥)
two_kinds true = (refl, λ e. absurd cc)
two_kinds false = (refl, λ e. absurd cc)

coloured : (is_jfif : Bool) (transform : Option ℕ) → (component_count (kind_by false is_jfif transform) ≡ 3) × (kind_by false is_jfif transform ≡ Grey → ⊥)
coloured is_jfif transform = two_kinds (option_map_or (λ t. t == 0) transform false && not is_jfif)

more_valid : (is_jfif : Bool) (transform : Option ℕ) (cs : List Component) (fs : List FrameComponent) → length fs ≡ 3 → AllZip (HasFactors false) cs fs → have_factors fs ≡ true
    → is_ill_sampled fs ≡ false → AreValid (kind_by false is_jfif transform) cs
more_valid is_jfif transform cs fs three h good well =
    let count : length cs ≡ 3 = sym (AllZip-long (HasFactors false) cs fs h) ∙ three in
    let k = coloured is_jfif transform in
    all_valid (kind_by false is_jfif transform) cs (count ∙ sym k.0) (omega (arith, count)) (several cs fs three h good well) (All-from_recursion IsCoded cs (each_coded false cs fs h)) (λ e. absurd (k.1 e))

by_count : (f : Frame) (cs : List Component) (is_jfif : Bool) (transform : Option ℕ) → IsAccepted f → HaveFactors f.components.items cs → (length f.components.items ≡ 1) ⊎ (length f.components.items ≡ 3)
    → AreValid (kind_by (length f.components.items == 1) is_jfif transform) cs
by_count f cs is_jfif transform a h (inl one) = rw one (one_valid cs f.components.items one (rw one at h))
by_count f cs is_jfif transform a h (inr three) = rw three (more_valid is_jfif transform cs f.components.items three (rw three at h) a.factors a.sampled)

pub valid : (f : Frame) (cs : List Component) (is_jfif : Bool) (transform : Option ℕ) → IsAccepted f → HaveFactors f.components.items cs → AreValid (kind_by (length f.components.items == 1) is_jfif transform) cs
valid f cs is_jfif transform a h = by_count f cs is_jfif transform a h a.count

pub few_there : (kind : Kind) (cs : List Component) → length cs ≡ component_count kind → length cs ≤ 3
few_there Grey cs h = omega (arith, h)
few_there Rgb cs h = omega (arith, h)
few_there Ycc cs h = omega (arith, h)
