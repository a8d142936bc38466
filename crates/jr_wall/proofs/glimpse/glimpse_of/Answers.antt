use Rattle.std.proofs.Common.{◌<◌, sym, subst, rules}
use Rattle.jr_head.specs.HeadValue.{HeadValue}
use Rattle.jr_head.specs.Geometry.{components_of}
use Rattle.jr_paint.specs.Geometry.{samples_across, samples_down}
use Rattle.jr_picture.specs.DecodedScan.{marks_of}
use Rattle.jr_picture.specs.Samples.{samples_of}
use Rattle.jr_picture.proofs.DecodedPictures.{same_picture}
use Rattle.jr_wall.specs.Glimpses.{IsGlimpse}
use Rattle.jr_wall.proofs.glimpse.glimpse_of.Goals as goal

pub look-requires-clause-component : goal.look-requires-clause-component
look-requires-clause-component c = subst (λ (h : HeadValue). c.args.c < components_of h) (sym (c.is_of.ensures.0 c.if-is_of.true).0) c.requires.component

pub look-requires-clause-column : goal.look-requires-clause-column
look-requires-clause-column c = subst (λ (h : HeadValue). c.args.x < samples_across h c.args.c) (sym (c.is_of.ensures.0 c.if-is_of.true).0) c.requires.column

pub look-requires-clause-line : goal.look-requires-clause-line
look-requires-clause-line c = subst (λ (h : HeadValue). c.args.y < samples_down h c.args.c) (sym (c.is_of.ensures.0 c.if-is_of.true).0) c.requires.line

pub returns-then-is_of-clause-picture : goal.returns-then-is_of-clause-picture
returns-then-is_of-clause-picture c =
    let b = c.args.board.now in
    same_picture b.scan c.args.scan.now (marks_of b) (samples_of b) (c.is_of.ensures.0 c.if-is_of.true) c.look.ensures.picture

pub returns-then-is_of-clause-glimpse : goal.returns-then-is_of-clause-glimpse
returns-then-is_of-clause-glimpse c =
    let b = c.args.board.now in
    subst (λ (h : HeadValue). IsGlimpse h (marks_of b) (samples_of b) c.args.c c.args.x c.args.y c.look.result) (c.is_of.ensures.0 c.if-is_of.true).0 c.look.ensures.glimpse

pub returns-then-is_of-clause-none : goal.returns-then-is_of-clause-none
returns-then-is_of-clause-none c = search rules

pub returns-else-is_of-clause-picture : goal.returns-else-is_of-clause-picture
returns-else-is_of-clause-picture c = search rules

pub returns-else-is_of-clause-glimpse : goal.returns-else-is_of-clause-glimpse
returns-else-is_of-clause-glimpse c = search rules

pub returns-else-is_of-clause-none : goal.returns-else-is_of-clause-none
returns-else-is_of-clause-none c = search (rules, c.is_of.ensures)
