use Rattle.std.proofs.Common.{ap, ◌∙◌, ◌≡◌}
use Rattle.jr_segments.specs.Frames.{frame_tests, size_tests, component_tests, components, components_in}
use Rattle.jr_segments.proofs.TestLaws.{exit_first, exit_second, none_both}
use Rattle.jr_segments.proofs.FrameLaws.{frame_count}
use Rattle.jr_segments.proofs.frame.read_frame.Goals as goal

pub returns-in_err-width-clause-obeys : goal.returns-in_err-width-clause-obeys
unfolding frame_tests
returns-in_err-width-clause-obeys c =
    exit_first c.from_residual.result c.in_err-width.field-0.0 (size_tests c.args.code c.args.payload.now) (component_tests (components c.args.payload.now)) c.from_residual.ensures.1 c.in_err-width.ensures.obeys

pub returns-in_err-check_components-clause-obeys : goal.returns-in_err-check_components-clause-obeys
unfolding frame_tests
returns-in_err-check_components-clause-obeys c =
    let e : c.deref.result.now ≡ components c.args.payload.now = c.deref.ensures.value ∙ c.in_ok-components.ensures ∙ ap components_in c.split_at.ensures.back in
    exit_second c.from_residual-in_err-check_components.result c.in_err-check_components.field-0.0 (size_tests c.args.code c.args.payload.now) (component_tests (components c.args.payload.now))
    c.from_residual-in_err-check_components.ensures.1 c.in_ok-width.ensures.obeys (rw e at c.in_err-check_components.ensures.obeys)

pub returns-clause-obeys : goal.returns-clause-obeys
unfolding frame_tests
returns-clause-obeys c =
    let e : c.deref.result.now ≡ components c.args.payload.now = c.deref.ensures.value ∙ c.in_ok-components.ensures ∙ ap components_in c.split_at.ensures.back in
    none_both (size_tests c.args.code c.args.payload.now) (component_tests (components c.args.payload.now)) c.in_ok-width.ensures.obeys (rw e at c.in_ok-check_components.ensures.obeys)

pub returns-clause-accepted : goal.returns-clause-accepted
returns-clause-accepted c =
    let sizes = c.in_ok-width.ensures in
    let checked = c.in_ok-check_components.ensures in
    let e : c.deref.result.now ≡ components c.args.payload.now = c.deref.ensures.value ∙ c.in_ok-components.ensures ∙ ap components_in c.split_at.ensures.back in
    let f : c.in_ok-components.components.items ≡ components c.args.payload.now = c.in_ok-components.ensures ∙ ap components_in c.split_at.ensures.back in
    record {
      wide = sizes.across.0;
      narrow = sizes.across.1;
      high = sizes.down.0;
      low = sizes.down.1;
      pixels = sizes.few;
      count = rw f (frame_count c.args.payload.now sizes.count);
      factors = rw f (rw e at checked.factors);
      sampled = rw f (rw e at checked.sampled);
    }
