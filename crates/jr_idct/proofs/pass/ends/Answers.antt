use Rattle.std.proofs.Common.{◌≡◌, ℕ, ◌^◌, ◌<◌, ◌+ℤ◌, ◌-ℤ◌, ap, ap₂, ◌∙◌, w16, w32}
use Rattle.jr_idct.specs.Matrix.{at, floor_div}
use Rattle.jr_idct.proofs.Vectors.{unchanged}
use Rattle.jr_idct.proofs.pass.ends.Goals as goal

pub shifted-lower-requires : goal.shifted-lower-requires
shifted-lower-requires c =
    let e = unchanged w32 8 c.args.lower_even _ c.well_formed.0 in
    let o = unchanged w32 8 c.args.lower_odd _ c.well_formed.1.0 in
    record { few = c.requires.few; short = rw (e, o) c.requires.lower }

pub shifted-upper-requires : goal.shifted-upper-requires
shifted-upper-requires c =
    let e = unchanged w32 8 c.args.upper_even _ c.well_formed.1.1.0 in
    let o = unchanged w32 8 c.args.upper_odd _ c.well_formed.1.1.1.0 in
    record { few = c.requires.few; short = rw (e, o) c.requires.upper }

pub narrowed-first-requires : goal.narrowed-first-requires
narrowed-first-requires c =
    let is_lower : (j : ℕ) → j < 8 → at c.shifted-lower.result.0 j ≡ floor_div (at c.args.lower_even j +ℤ at c.args.lower_odd j) (2 ^ c.args.bits) =
    λ j h. c.shifted-lower.ensures.sum j h ∙ ap₂ (λ x y. floor_div (at x j +ℤ at y j) (2 ^ c.args.bits)) (unchanged w32 8 c.args.lower_even _ c.well_formed.0) (unchanged w32 8 c.args.lower_odd _ c.well_formed.1.0) in
    let is_upper : (j : ℕ) → j < 8 → at c.shifted-upper.result.0 j ≡ floor_div (at c.args.upper_even j +ℤ at c.args.upper_odd j) (2 ^ c.args.bits) =
    λ j h. c.shifted-upper.ensures.sum j h ∙ ap₂ (λ x y. floor_div (at x j +ℤ at y j) (2 ^ c.args.bits)) (unchanged w32 8 c.args.upper_even _ c.well_formed.1.1.0) (unchanged w32 8 c.args.upper_odd _ c.well_formed.1.1.1.0) in
    let l = unchanged w32 8 c.shifted-lower.result.0 _ c.shifted-lower.type_inv.1.1.0 in
    let u = unchanged w32 8 c.shifted-upper.result.0 _ c.shifted-upper.type_inv.1.1.0 in
    record {
      lower = λ j h. rw (l, is_lower j h) (c.requires.lower j h).0.1;
      upper = λ j h. rw (u, is_upper j h) (c.requires.upper j h).0.1;
    }

pub narrowed-last-requires : goal.narrowed-last-requires
narrowed-last-requires c =
    let is_lower : (j : ℕ) → j < 8 → at c.shifted-lower.result.1 j ≡ floor_div (at c.args.lower_even j -ℤ at c.args.lower_odd j) (2 ^ c.args.bits) =
    λ j h. c.shifted-lower.ensures.difference j h ∙ ap₂ (λ x y. floor_div (at x j -ℤ at y j) (2 ^ c.args.bits)) (unchanged w32 8 c.args.lower_even _ c.well_formed.0) (unchanged w32 8 c.args.lower_odd _ c.well_formed.1.0) in
    let is_upper : (j : ℕ) → j < 8 → at c.shifted-upper.result.1 j ≡ floor_div (at c.args.upper_even j -ℤ at c.args.upper_odd j) (2 ^ c.args.bits) =
    λ j h. c.shifted-upper.ensures.difference j h ∙ ap₂ (λ x y. floor_div (at x j -ℤ at y j) (2 ^ c.args.bits)) (unchanged w32 8 c.args.upper_even _ c.well_formed.1.1.0) (unchanged w32 8 c.args.upper_odd _ c.well_formed.1.1.1.0) in
    let l = unchanged w32 8 c.shifted-lower.result.1 _ c.shifted-lower.type_inv.1.1.1.0 in
    let u = unchanged w32 8 c.shifted-upper.result.1 _ c.shifted-upper.type_inv.1.1.1.0 in
    record {
      lower = λ j h. rw (l, is_lower j h) (c.requires.lower j h).1.1;
      upper = λ j h. rw (u, is_upper j h) (c.requires.upper j h).1.1;
    }

pub returns : goal.returns
returns c =
    let lower_even = unchanged w32 8 c.args.lower_even _ c.well_formed.0 in
    let lower_odd = unchanged w32 8 c.args.lower_odd _ c.well_formed.1.0 in
    let upper_even = unchanged w32 8 c.args.upper_even _ c.well_formed.1.1.0 in
    let upper_odd = unchanged w32 8 c.args.upper_odd _ c.well_formed.1.1.1.0 in
    let first = unchanged w16 16 c.narrowed-first.result _ c.narrowed-first.type_inv in
    let last = unchanged w16 16 c.narrowed-last.result _ c.narrowed-last.type_inv in
    record {
      first_lower = rw first
          (λ j b. c.narrowed-first.ensures.lower j b ∙ ap (λ x. at x j) (unchanged w32 8 c.shifted-lower.result.0 _ c.shifted-lower.type_inv.1.1.0) ∙ c.shifted-lower.ensures.sum j b
          ∙ ap₂ (λ x y. floor_div (at x j +ℤ at y j) (2 ^ c.args.bits)) lower_even lower_odd);
      first_upper = rw first
          (λ j b. c.narrowed-first.ensures.upper j b ∙ ap (λ x. at x j) (unchanged w32 8 c.shifted-upper.result.0 _ c.shifted-upper.type_inv.1.1.0) ∙ c.shifted-upper.ensures.sum j b
          ∙ ap₂ (λ x y. floor_div (at x j +ℤ at y j) (2 ^ c.args.bits)) upper_even upper_odd);
      last_lower = rw last
          (λ j b. c.narrowed-last.ensures.lower j b ∙ ap (λ x. at x j) (unchanged w32 8 c.shifted-lower.result.1 _ c.shifted-lower.type_inv.1.1.1.0) ∙ c.shifted-lower.ensures.difference j b
          ∙ ap₂ (λ x y. floor_div (at x j -ℤ at y j) (2 ^ c.args.bits)) lower_even lower_odd);
      last_upper = rw last
          (λ j b. c.narrowed-last.ensures.upper j b ∙ ap (λ x. at x j) (unchanged w32 8 c.shifted-upper.result.1 _ c.shifted-upper.type_inv.1.1.1.0) ∙ c.shifted-upper.ensures.difference j b
          ∙ ap₂ (λ x y. floor_div (at x j -ℤ at y j) (2 ^ c.args.bits)) upper_even upper_odd);
    }
