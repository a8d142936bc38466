use Rattle.std.proofs.Common.{◌≡◌, true, false, ap₂, ◌∙◌, w16}
use Rattle.jr_idct.specs.Lanes.{doubles, quads, word_lanes}
use Rattle.jr_idct.proofs.Turns.{by, turns}
use Rattle.jr_idct.proofs.Vectors.{unchanged}
use Rattle.jr_idct.proofs.turned.turned.Goals as goal

pub returns : goal.returns
returns c =
    let u0 = unchanged w16 16 c.args.y.0 _ c.well_formed.0.1.1.0 in
    let u1 = unchanged w16 16 c.args.y.1 _ c.well_formed.0.1.1.1.0 in
    let u2 = unchanged w16 16 c.args.y.2 _ c.well_formed.0.1.1.1.1.0 in
    let u3 = unchanged w16 16 c.args.y.3 _ c.well_formed.0.1.1.1.1.1.0 in
    let u4 = unchanged w16 16 c.args.y.4 _ c.well_formed.0.1.1.1.1.1.1.0 in
    let u5 = unchanged w16 16 c.args.y.5 _ c.well_formed.0.1.1.1.1.1.1.1.0 in
    let u6 = unchanged w16 16 c.args.y.6 _ c.well_formed.0.1.1.1.1.1.1.1.1.0 in
    let u7 = unchanged w16 16 c.args.y.7 _ c.well_formed.0.1.1.1.1.1.1.1.1.1.0 in
    let a0 : c.by_words-a0.result ≡ by word_lanes false c.args.y.0 c.args.y.1 = c.by_words-a0.ensures ∙ ap₂ (by word_lanes false) u0 u1 in
    let ua0 = unchanged w16 16 c.by_words-a0.result _ c.by_words-a0.type_inv in
    let a1 : c.by_words-a1.result ≡ by word_lanes true c.args.y.0 c.args.y.1 = c.by_words-a1.ensures ∙ ap₂ (by word_lanes true) u0 u1 in
    let ua1 = unchanged w16 16 c.by_words-a1.result _ c.by_words-a1.type_inv in
    let a2 : c.by_words-a2.result ≡ by word_lanes false c.args.y.2 c.args.y.3 = c.by_words-a2.ensures ∙ ap₂ (by word_lanes false) u2 u3 in
    let ua2 = unchanged w16 16 c.by_words-a2.result _ c.by_words-a2.type_inv in
    let a3 : c.by_words-a3.result ≡ by word_lanes true c.args.y.2 c.args.y.3 = c.by_words-a3.ensures ∙ ap₂ (by word_lanes true) u2 u3 in
    let ua3 = unchanged w16 16 c.by_words-a3.result _ c.by_words-a3.type_inv in
    let a4 : c.by_words-a4.result ≡ by word_lanes false c.args.y.4 c.args.y.5 = c.by_words-a4.ensures ∙ ap₂ (by word_lanes false) u4 u5 in
    let ua4 = unchanged w16 16 c.by_words-a4.result _ c.by_words-a4.type_inv in
    let a5 : c.by_words-a5.result ≡ by word_lanes true c.args.y.4 c.args.y.5 = c.by_words-a5.ensures ∙ ap₂ (by word_lanes true) u4 u5 in
    let ua5 = unchanged w16 16 c.by_words-a5.result _ c.by_words-a5.type_inv in
    let a6 : c.by_words-a6.result ≡ by word_lanes false c.args.y.6 c.args.y.7 = c.by_words-a6.ensures ∙ ap₂ (by word_lanes false) u6 u7 in
    let ua6 = unchanged w16 16 c.by_words-a6.result _ c.by_words-a6.type_inv in
    let a7 : c.by_words-a7.result ≡ by word_lanes true c.args.y.6 c.args.y.7 = c.by_words-a7.ensures ∙ ap₂ (by word_lanes true) u6 u7 in
    let ua7 = unchanged w16 16 c.by_words-a7.result _ c.by_words-a7.type_inv in
    let b0 : c.by_doubles-b0.result ≡ by doubles false (by word_lanes false c.args.y.0 c.args.y.1) (by word_lanes false c.args.y.2 c.args.y.3) = c.by_doubles-b0.ensures ∙ ap₂ (by doubles false) (ua0 ∙ a0) (ua2 ∙ a2) in
    let ub0 = unchanged w16 16 c.by_doubles-b0.result _ c.by_doubles-b0.type_inv in
    let b1 : c.by_doubles-b1.result ≡ by doubles true (by word_lanes false c.args.y.0 c.args.y.1) (by word_lanes false c.args.y.2 c.args.y.3) = c.by_doubles-b1.ensures ∙ ap₂ (by doubles true) (ua0 ∙ a0) (ua2 ∙ a2) in
    let ub1 = unchanged w16 16 c.by_doubles-b1.result _ c.by_doubles-b1.type_inv in
    let b2 : c.by_doubles-b2.result ≡ by doubles false (by word_lanes true c.args.y.0 c.args.y.1) (by word_lanes true c.args.y.2 c.args.y.3) = c.by_doubles-b2.ensures ∙ ap₂ (by doubles false) (ua1 ∙ a1) (ua3 ∙ a3) in
    let ub2 = unchanged w16 16 c.by_doubles-b2.result _ c.by_doubles-b2.type_inv in
    let b3 : c.by_doubles-b3.result ≡ by doubles true (by word_lanes true c.args.y.0 c.args.y.1) (by word_lanes true c.args.y.2 c.args.y.3) = c.by_doubles-b3.ensures ∙ ap₂ (by doubles true) (ua1 ∙ a1) (ua3 ∙ a3) in
    let ub3 = unchanged w16 16 c.by_doubles-b3.result _ c.by_doubles-b3.type_inv in
    let b4 : c.by_doubles-b4.result ≡ by doubles false (by word_lanes false c.args.y.4 c.args.y.5) (by word_lanes false c.args.y.6 c.args.y.7) = c.by_doubles-b4.ensures ∙ ap₂ (by doubles false) (ua4 ∙ a4) (ua6 ∙ a6) in
    let ub4 = unchanged w16 16 c.by_doubles-b4.result _ c.by_doubles-b4.type_inv in
    let b5 : c.by_doubles-b5.result ≡ by doubles true (by word_lanes false c.args.y.4 c.args.y.5) (by word_lanes false c.args.y.6 c.args.y.7) = c.by_doubles-b5.ensures ∙ ap₂ (by doubles true) (ua4 ∙ a4) (ua6 ∙ a6) in
    let ub5 = unchanged w16 16 c.by_doubles-b5.result _ c.by_doubles-b5.type_inv in
    let b6 : c.by_doubles-b6.result ≡ by doubles false (by word_lanes true c.args.y.4 c.args.y.5) (by word_lanes true c.args.y.6 c.args.y.7) = c.by_doubles-b6.ensures ∙ ap₂ (by doubles false) (ua5 ∙ a5) (ua7 ∙ a7) in
    let ub6 = unchanged w16 16 c.by_doubles-b6.result _ c.by_doubles-b6.type_inv in
    let b7 : c.by_doubles-b7.result ≡ by doubles true (by word_lanes true c.args.y.4 c.args.y.5) (by word_lanes true c.args.y.6 c.args.y.7) = c.by_doubles-b7.ensures ∙ ap₂ (by doubles true) (ua5 ∙ a5) (ua7 ∙ a7) in
    let ub7 = unchanged w16 16 c.by_doubles-b7.result _ c.by_doubles-b7.type_inv in
    let c0 : c.interleave_quads-c0.result ≡ by quads false (by doubles false (by word_lanes false c.args.y.0 c.args.y.1) (by word_lanes false c.args.y.2 c.args.y.3)) (by doubles false (by word_lanes false c.args.y.4 c.args.y.5) (by word_lanes false c.args.y.6 c.args.y.7)) = c.interleave_quads-c0.ensures ∙ ap₂ (by quads false) (ub0 ∙ b0) (ub4 ∙ b4) in
    let uc0 = unchanged w16 16 c.interleave_quads-c0.result _ c.interleave_quads-c0.type_inv ∙ c0 in
    let c1 : c.interleave_quads-c1.result ≡ by quads true (by doubles false (by word_lanes false c.args.y.0 c.args.y.1) (by word_lanes false c.args.y.2 c.args.y.3)) (by doubles false (by word_lanes false c.args.y.4 c.args.y.5) (by word_lanes false c.args.y.6 c.args.y.7)) = c.interleave_quads-c1.ensures ∙ ap₂ (by quads true) (ub0 ∙ b0) (ub4 ∙ b4) in
    let uc1 = unchanged w16 16 c.interleave_quads-c1.result _ c.interleave_quads-c1.type_inv ∙ c1 in
    let c2 : c.interleave_quads-c2.result ≡ by quads false (by doubles true (by word_lanes false c.args.y.0 c.args.y.1) (by word_lanes false c.args.y.2 c.args.y.3)) (by doubles true (by word_lanes false c.args.y.4 c.args.y.5) (by word_lanes false c.args.y.6 c.args.y.7)) = c.interleave_quads-c2.ensures ∙ ap₂ (by quads false) (ub1 ∙ b1) (ub5 ∙ b5) in
    let uc2 = unchanged w16 16 c.interleave_quads-c2.result _ c.interleave_quads-c2.type_inv ∙ c2 in
    let c3 : c.interleave_quads-c3.result ≡ by quads true (by doubles true (by word_lanes false c.args.y.0 c.args.y.1) (by word_lanes false c.args.y.2 c.args.y.3)) (by doubles true (by word_lanes false c.args.y.4 c.args.y.5) (by word_lanes false c.args.y.6 c.args.y.7)) = c.interleave_quads-c3.ensures ∙ ap₂ (by quads true) (ub1 ∙ b1) (ub5 ∙ b5) in
    let uc3 = unchanged w16 16 c.interleave_quads-c3.result _ c.interleave_quads-c3.type_inv ∙ c3 in
    let c4 : c.interleave_quads-c4.result ≡ by quads false (by doubles false (by word_lanes true c.args.y.0 c.args.y.1) (by word_lanes true c.args.y.2 c.args.y.3)) (by doubles false (by word_lanes true c.args.y.4 c.args.y.5) (by word_lanes true c.args.y.6 c.args.y.7)) = c.interleave_quads-c4.ensures ∙ ap₂ (by quads false) (ub2 ∙ b2) (ub6 ∙ b6) in
    let uc4 = unchanged w16 16 c.interleave_quads-c4.result _ c.interleave_quads-c4.type_inv ∙ c4 in
    let c5 : c.interleave_quads-c5.result ≡ by quads true (by doubles false (by word_lanes true c.args.y.0 c.args.y.1) (by word_lanes true c.args.y.2 c.args.y.3)) (by doubles false (by word_lanes true c.args.y.4 c.args.y.5) (by word_lanes true c.args.y.6 c.args.y.7)) = c.interleave_quads-c5.ensures ∙ ap₂ (by quads true) (ub2 ∙ b2) (ub6 ∙ b6) in
    let uc5 = unchanged w16 16 c.interleave_quads-c5.result _ c.interleave_quads-c5.type_inv ∙ c5 in
    let c6 : c.interleave_quads-c6.result ≡ by quads false (by doubles true (by word_lanes true c.args.y.0 c.args.y.1) (by word_lanes true c.args.y.2 c.args.y.3)) (by doubles true (by word_lanes true c.args.y.4 c.args.y.5) (by word_lanes true c.args.y.6 c.args.y.7)) = c.interleave_quads-c6.ensures ∙ ap₂ (by quads false) (ub3 ∙ b3) (ub7 ∙ b7) in
    let uc6 = unchanged w16 16 c.interleave_quads-c6.result _ c.interleave_quads-c6.type_inv ∙ c6 in
    let c7 : c.interleave_quads-c7.result ≡ by quads true (by doubles true (by word_lanes true c.args.y.0 c.args.y.1) (by word_lanes true c.args.y.2 c.args.y.3)) (by doubles true (by word_lanes true c.args.y.4 c.args.y.5) (by word_lanes true c.args.y.6 c.args.y.7)) = c.interleave_quads-c7.ensures ∙ ap₂ (by quads true) (ub3 ∙ b3) (ub7 ∙ b7) in
    let uc7 = unchanged w16 16 c.interleave_quads-c7.result _ c.interleave_quads-c7.type_inv ∙ c7 in
    rw (uc0, uc1, uc2, uc3, uc4, uc5, uc6, uc7)
    (turns c.args.y.0 c.args.y.1 c.args.y.2 c.args.y.3 c.args.y.4 c.args.y.5 c.args.y.6 c.args.y.7 c.well_formed.0.1.1.0.1.0.1 c.well_formed.0.1.1.1.0.1.0.1 c.well_formed.0.1.1.1.1.0.1.0.1 c.well_formed.0.1.1.1.1.1.0.1.0.1 c.well_formed.0.1.1.1.1.1.1.0.1.0.1 c.well_formed.0.1.1.1.1.1.1.1.0.1.0.1 c.well_formed.0.1.1.1.1.1.1.1.1.0.1.0.1 c.well_formed.0.1.1.1.1.1.1.1.1.1.0.1.0.1)
