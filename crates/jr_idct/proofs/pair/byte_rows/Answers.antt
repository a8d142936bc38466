use Rattle.std.proofs.Common.{rules, ◌≡◌, ℕ, ◌+◌, ◌*◌, ◌/◌, ◌%◌, ◌<◌, true, false, [], ◌∷◌, w16}
use Rattle.std.specs.Prelude.{slice_index, slice_index_or}
use Rattle.jr_idct.specs.Lanes.{lane}
use Rattle.jr_idct.specs.Transform.{byte_of}
use Rattle.jr_idct.proofs.Passes.{below_four}
use Rattle.jr_idct.proofs.Rows.{byte_at_row}
use Rattle.jr_idct.proofs.Vectors.{unchanged}
use Rattle.jr_idct.proofs.pair.byte_rows.Goals as goal

pub returns : goal.returns
returns c =
    let u0 = unchanged w16 16 c.args.t.0 _ c.well_formed.0.1.1.0 in
    let u1 = unchanged w16 16 c.args.t.1 _ c.well_formed.0.1.1.1.0 in
    let u2 = unchanged w16 16 c.args.t.2 _ c.well_formed.0.1.1.1.1.0 in
    let u3 = unchanged w16 16 c.args.t.3 _ c.well_formed.0.1.1.1.1.1.0 in
    let u4 = unchanged w16 16 c.args.t.4 _ c.well_formed.0.1.1.1.1.1.1.0 in
    let u5 = unchanged w16 16 c.args.t.5 _ c.well_formed.0.1.1.1.1.1.1.1.0 in
    let u6 = unchanged w16 16 c.args.t.6 _ c.well_formed.0.1.1.1.1.1.1.1.1.0 in
    let u7 = unchanged w16 16 c.args.t.7 _ c.well_formed.0.1.1.1.1.1.1.1.1.1.0 in
    let c0 : (q : ℕ) → q < 32 → slice_index c.two_columns-c0.result q ≡ byte_of (lane (c.args.t.0 ∷ c.args.t.4 ∷ []) (q / 8 % 2) (8 * (q / 16) + q % 8)) = λ q h. search (rules, (rw (u0, u4) at c.two_columns-c0.ensures) q h) in
    let c1 : (q : ℕ) → q < 32 → slice_index c.two_columns-c1.result q ≡ byte_of (lane (c.args.t.1 ∷ c.args.t.5 ∷ []) (q / 8 % 2) (8 * (q / 16) + q % 8)) = λ q h. search (rules, (rw (u1, u5) at c.two_columns-c1.ensures) q h) in
    let c2 : (q : ℕ) → q < 32 → slice_index c.two_columns-c2.result q ≡ byte_of (lane (c.args.t.2 ∷ c.args.t.6 ∷ []) (q / 8 % 2) (8 * (q / 16) + q % 8)) = λ q h. search (rules, (rw (u2, u6) at c.two_columns-c2.ensures) q h) in
    let c3 : (q : ℕ) → q < 32 → slice_index c.two_columns-c3.result q ≡ byte_of (lane (c.args.t.3 ∷ c.args.t.7 ∷ []) (q / 8 % 2) (8 * (q / 16) + q % 8)) = λ q h. search (rules, (rw (u3, u7) at c.two_columns-c3.ensures) q h) in
    let columns = below_four (λ m. (q : ℕ) → q < 32 → slice_index (slice_index_or (c.two_columns-c0.result ∷ c.two_columns-c1.result ∷ c.two_columns-c2.result ∷ c.two_columns-c3.result ∷ []) m []) q ≡ byte_of (lane (slice_index_or (c.args.t.0 ∷ c.args.t.1 ∷ c.args.t.2 ∷ c.args.t.3 ∷ c.args.t.4 ∷ c.args.t.5 ∷ c.args.t.6 ∷ c.args.t.7 ∷ []) m [] ∷ slice_index_or (c.args.t.0 ∷ c.args.t.1 ∷ c.args.t.2 ∷ c.args.t.3 ∷ c.args.t.4 ∷ c.args.t.5 ∷ c.args.t.6 ∷ c.args.t.7 ∷ []) (4 + m) [] ∷ []) (q / 8 % 2) (8 * (q / 16) + q % 8))) c0 c1 c2 c3 in
    record {
      first = λ r k h g. search (rules, byte_at_row false (c.two_columns-c0.result ∷ c.two_columns-c1.result ∷ c.two_columns-c2.result ∷ c.two_columns-c3.result ∷ []) (c.turned_bytes.result.0 ∷ c.turned_bytes.result.1 ∷ c.turned_bytes.result.2 ∷ c.turned_bytes.result.3 ∷ []) c.args.t.0 c.args.t.1 c.args.t.2 c.args.t.3 c.args.t.4 c.args.t.5 c.args.t.6 c.args.t.7 columns c.turned_bytes.ensures r k h g);
      second = byte_at_row true (c.two_columns-c0.result ∷ c.two_columns-c1.result ∷ c.two_columns-c2.result ∷ c.two_columns-c3.result ∷ []) (c.turned_bytes.result.0 ∷ c.turned_bytes.result.1 ∷ c.turned_bytes.result.2 ∷ c.turned_bytes.result.3 ∷ []) c.args.t.0 c.args.t.1 c.args.t.2 c.args.t.3 c.args.t.4 c.args.t.5 c.args.t.6 c.args.t.7 columns c.turned_bytes.ensures;
    }
