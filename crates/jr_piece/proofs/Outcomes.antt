-- The samples of an interval's blocks, and the one outcome of an interval.
use Rattle.std.proofs.Common.{◌≡◌, ℕ, ◌<◌, min, Bool, true, false, inl, inr, List, [], ◌∷◌, ◌++◌, length, get_or, take, refl, sym, ap, subst, ◌∙◌, arith}
use Rattle.std.specs.Prelude.{ℤ}
use Rattle.std.proofs.lemmas.Bool.{cases_lt}
use Rattle.std.proofs.lemmas.List.{length-append, length-take, get_or-take, get_or_append_left, ext_get_or}
use Rattle.std.proofs.Math.Seq.{get_or-append_seam}
use Rattle.jr_head.specs.HeadValue.{HeadValue}
use Rattle.jr_head.specs.Geometry.{quantiser_of}
use Rattle.jr_scan.specs.IntervalValue.{IntervalValue}
use Rattle.jr_mcu.specs.Mcus.{component}
use Rattle.jr_scan.specs.Mcus.{Decodes, HasNoDecoding, Front, LongestFront}
use Rattle.jr_scan.proofs.ScanLaws.{OneDecoding, OneFront}
use Rattle.jr_idct.specs.Transform.{samples}
use Rattle.jr_piece.specs.PieceValue.{PieceValue}
use Rattle.jr_piece.specs.Outcome.{AreSamples, IsSound, IsDamaged, IsOutcome}

pub no_samples : (h : HeadValue) → AreSamples h [] []
no_samples h = record { count = refl; each = λ n lt. absurd (omega arith) }

-- the samples after one block is appended
pub more_samples : (h : HeadValue) (zs : List (List ℤ)) (units : List (List ℕ)) (z : List ℤ) (u : List ℕ) → AreSamples h zs units → u ≡ samples z (quantiser_of h (component h (length zs))) → AreSamples h (zs ++ z ∷ []) (units ++ u ∷ [])
more_samples h zs units z u s is =
    record {
      count = omega (arith, length-append zs (z ∷ []), length-append units (u ∷ []), s.count);
      each = λ n lt. elim (cases_lt n (length zs)) [
        | inl below ↦
            get_or_append_left units (u ∷ []) [] n (omega (arith, s.count)) ∙ s.each n below
            ∙ ap (λ (b : List ℤ). samples b (quantiser_of h (component h n))) (sym (get_or_append_left zs (z ∷ []) [] n below))
        | inr beyond ↦
            let e : n ≡ length zs = omega (arith, length-append zs (z ∷ [])) in
            let there : get_or (units ++ u ∷ []) n [] ≡ u = ap (λ (k : ℕ). get_or (units ++ u ∷ []) k []) (e ∙ sym s.count) ∙ get_or-append_seam units u [] [] in
            let block : get_or (zs ++ z ∷ []) n [] ≡ z = ap (λ (k : ℕ). get_or (zs ++ z ∷ []) k []) e ∙ get_or-append_seam zs z [] [] in
            there ∙ is ∙ ap (λ (k : ℕ). samples z (quantiser_of h (component h k))) (sym e) ∙ ap (λ (b : List ℤ). samples b (quantiser_of h (component h n))) (sym block)
      ];
    }

-- the samples of the first blocks
pub first_samples : (h : HeadValue) (zs : List (List ℤ)) (units : List (List ℕ)) (m : ℕ) → AreSamples h zs units → AreSamples h (take m zs) (take m units)
first_samples h zs units m s =
    record {
      count = length-take m units ∙ ap (min m) s.count ∙ sym (length-take m zs);
      each = λ n lt.
          let few : n < min m (length zs) = subst (λ (k : ℕ). n < k) (length-take m zs) lt in
          get_or-take m units n [] (omega arith) ∙ s.each n (omega arith) ∙ ap (λ (b : List ℤ). samples b (quantiser_of h (component h n))) (sym (get_or-take m zs n [] (omega arith)));
    }

-- a list of blocks has one list of samples
pub same_samples : (h : HeadValue) (zs : List (List ℤ)) (us vs : List (List ℕ)) → AreSamples h zs us → AreSamples h zs vs → us ≡ vs
same_samples h zs us vs a b = ext_get_or [] us vs (a.count ∙ sym b.count) (λ n lt. a.each n (omega (arith, a.count)) ∙ sym (b.each n (omega (arith, a.count))))

-- what a reader that has ended reports about its interval
pub record Ended (i : IntervalValue) (zs : List (List ℤ)) (units : List (List ℕ)) (is_sound : Bool) (front : ℕ) : Type 0 where
  pub samples : AreSamples i.head zs units
  pub longest : LongestFront i front zs
  pub decodes : is_sound ≡ true → Decodes i zs
  pub none : is_sound ≡ false → HasNoDecoding i

whole_front : (i : IntervalValue) (zs ys : List (List ℤ)) (front : ℕ) → Decodes i zs → LongestFront i front ys → front ≡ i.mcus
whole_front i zs ys front d f =
    let whole : Front i i.mcus zs = record { at_most = omega arith; taken = d.taken; rest = d.padding; mcus = d.mcus; spelled = d.spelled } in
    omega (arith, f.longest i.mcus zs whole, f.front.at_most)

pub outcome : (i : IntervalValue) (zs : List (List ℤ)) (units : List (List ℕ)) (is_sound : Bool) (front : ℕ) → Ended i zs units is_sound front
    → IsOutcome (record { interval = i; is_sound = is_sound; front = front; samples = units })
outcome i zs units is_sound front e =
    record {
      sound = λ t. record { blocks = zs; decodes = e.decodes t; samples = e.samples };
      whole = λ t. whole_front i zs zs front (e.decodes t) e.longest;
      damaged = λ f. record { undecodable = e.none f; blocks = zs; longest = e.longest; samples = e.samples };
    }

-- what a piece has in addition to its interval
abbrev piece : IntervalValue → Bool → ℕ → List (List ℕ) → PieceValue
piece i b k us = record { interval = i; is_sound = b; front = k; samples = us }

same_piece : (i j : IntervalValue) (b c : Bool) (k m : ℕ) (us vs : List (List ℕ)) → i ≡ j → b ≡ c → k ≡ m → us ≡ vs → piece i b k us ≡ piece j c m vs
same_piece i j b c k m us vs e f g h = rw (e, f, g, h) refl

both_sound : OneDecoding → (i : IntervalValue) (us vs : List (List ℕ)) → IsSound i us → IsSound i vs → us ≡ vs
both_sound one i us vs a b = same_samples i.head b.blocks us vs (subst (λ (zs : List (List ℤ)). AreSamples i.head zs us) (one i a.blocks b.blocks a.decodes b.decodes) a.samples) b.samples

same_front : (i : IntervalValue) (k m : ℕ) (zs ys : List (List ℤ)) → LongestFront i k zs → LongestFront i m ys → k ≡ m
same_front i k m zs ys a b = omega (arith, a.longest m ys b.front, b.longest k zs a.front)

both_damaged : OneFront → (i : IntervalValue) (k m : ℕ) (us vs : List (List ℕ)) → IsDamaged i k us → IsDamaged i m vs → us ≡ vs
both_damaged one i k m us vs a b =
    let e = same_front i k m a.blocks b.blocks a.longest b.longest in
    let f : Front i m a.blocks = subst (λ (n : ℕ). Front i n a.blocks) e a.longest.front in
    same_samples i.head b.blocks us vs (subst (λ (zs : List (List ℤ)). AreSamples i.head zs us) (one i m a.blocks b.blocks f b.longest.front) a.samples) b.samples

same_outcome : OneDecoding → OneFront → (i : IntervalValue) (b c : Bool) (k m : ℕ) (us vs : List (List ℕ)) → IsOutcome (piece i b k us) → IsOutcome (piece i c m vs) → piece i b k us ≡ piece i c m vs
same_outcome one front i true true k m us vs p q = same_piece i i true true k m us vs refl refl (p.whole refl ∙ sym (q.whole refl)) (both_sound one i us vs (p.sound refl) (q.sound refl))
same_outcome one front i true false k m us vs p q = absurd ((q.damaged refl).undecodable (p.sound refl).blocks (p.sound refl).decodes)
same_outcome one front i false true k m us vs p q = absurd ((p.damaged refl).undecodable (q.sound refl).blocks (q.sound refl).decodes)
same_outcome one front i false false k m us vs p q =
    let a = p.damaged refl in
    let b = q.damaged refl in
    same_piece i i false false k m us vs refl refl (same_front i k m a.blocks b.blocks a.longest b.longest) (both_damaged front i k m us vs a b)

pub one_outcome : OneDecoding → OneFront → (p q : PieceValue) → p.interval ≡ q.interval → IsOutcome p → IsOutcome q → p ≡ q
one_outcome one front p q e a b =
    let moved : piece p.interval q.is_sound q.front q.samples ≡ q = same_piece p.interval q.interval q.is_sound q.is_sound q.front q.front q.samples q.samples e refl refl refl in
    same_outcome one front p.interval p.is_sound q.is_sound p.front q.front p.samples q.samples a (subst IsOutcome (sym moved) b) ∙ moved
