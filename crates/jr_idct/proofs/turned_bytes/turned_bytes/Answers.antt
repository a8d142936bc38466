use Rattle.std.proofs.Common.{◌≡◌, true, false, ap₂, ◌∙◌}
use Rattle.jr_idct.specs.Lanes.{bytes, fours}
use Rattle.jr_idct.proofs.ByteTurns.{by, byte_turns}
use Rattle.jr_idct.proofs.turned_bytes.turned_bytes.Goals as goal

pub returns : goal.returns
returns c =
    let a0 : c.by_bytes-a0.result ≡ by bytes false c.args.x.0 c.args.x.2 = c.by_bytes-a0.ensures in
    let a1 : c.by_bytes-a1.result ≡ by bytes true c.args.x.0 c.args.x.2 = c.by_bytes-a1.ensures in
    let a2 : c.by_bytes-a2.result ≡ by bytes false c.args.x.1 c.args.x.3 = c.by_bytes-a2.ensures in
    let a3 : c.by_bytes-a3.result ≡ by bytes true c.args.x.1 c.args.x.3 = c.by_bytes-a3.ensures in
    let b0 : c.by_bytes-b0.result ≡ by bytes false (by bytes false c.args.x.0 c.args.x.2) (by bytes false c.args.x.1 c.args.x.3) = c.by_bytes-b0.ensures ∙ ap₂ (by bytes false) a0 a2 in
    let b1 : c.by_bytes-b1.result ≡ by bytes true (by bytes false c.args.x.0 c.args.x.2) (by bytes false c.args.x.1 c.args.x.3) = c.by_bytes-b1.ensures ∙ ap₂ (by bytes true) a0 a2 in
    let b2 : c.by_bytes-b2.result ≡ by bytes false (by bytes true c.args.x.0 c.args.x.2) (by bytes true c.args.x.1 c.args.x.3) = c.by_bytes-b2.ensures ∙ ap₂ (by bytes false) a1 a3 in
    let b3 : c.by_bytes-b3.result ≡ by bytes true (by bytes true c.args.x.0 c.args.x.2) (by bytes true c.args.x.1 c.args.x.3) = c.by_bytes-b3.ensures ∙ ap₂ (by bytes true) a1 a3 in
    let r0 : c.by_fours-r0.result ≡ by fours false (by bytes false (by bytes false c.args.x.0 c.args.x.2) (by bytes false c.args.x.1 c.args.x.3)) (by bytes false (by bytes true c.args.x.0 c.args.x.2) (by bytes true c.args.x.1 c.args.x.3)) = c.by_fours-r0.ensures ∙ ap₂ (by fours false) b0 b2 in
    let r1 : c.by_fours-r1.result ≡ by fours true (by bytes false (by bytes false c.args.x.0 c.args.x.2) (by bytes false c.args.x.1 c.args.x.3)) (by bytes false (by bytes true c.args.x.0 c.args.x.2) (by bytes true c.args.x.1 c.args.x.3)) = c.by_fours-r1.ensures ∙ ap₂ (by fours true) b0 b2 in
    let r2 : c.by_fours-r2.result ≡ by fours false (by bytes true (by bytes false c.args.x.0 c.args.x.2) (by bytes false c.args.x.1 c.args.x.3)) (by bytes true (by bytes true c.args.x.0 c.args.x.2) (by bytes true c.args.x.1 c.args.x.3)) = c.by_fours-r2.ensures ∙ ap₂ (by fours false) b1 b3 in
    let r3 : c.by_fours-r3.result ≡ by fours true (by bytes true (by bytes false c.args.x.0 c.args.x.2) (by bytes false c.args.x.1 c.args.x.3)) (by bytes true (by bytes true c.args.x.0 c.args.x.2) (by bytes true c.args.x.1 c.args.x.3)) = c.by_fours-r3.ensures ∙ ap₂ (by fours true) b1 b3 in
    rw (r0, r1, r2, r3)
    (byte_turns c.args.x.0 c.args.x.1 c.args.x.2 c.args.x.3 c.well_formed.0.1.1.0.1.0.1 c.well_formed.0.1.1.1.0.1.0.1 c.well_formed.0.1.1.1.1.0.1.0.1 c.well_formed.0.1.1.1.1.1.0.1.0.1)
