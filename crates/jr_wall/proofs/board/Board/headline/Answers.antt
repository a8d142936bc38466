use Rattle.std.proofs.Common.{rules}
use Rattle.jr_picture.proofs.DecodedPictures.{picture}
use Rattle.jr_wall.proofs.board.Board.headline.Goals as goal

pub returns-clause-picture : goal.returns-clause-picture
returns-clause-picture c = picture c.args.self.now c.assert_invariant.ensures (search rules)

pub returns-clause-counts : goal.returns-clause-counts
returns-clause-counts c = search rules
