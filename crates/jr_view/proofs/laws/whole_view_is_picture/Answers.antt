use Rattle.jr_view.proofs.WholeViews.{shows_first, view_text}
use Rattle.jr_view.proofs.laws.whole_view_is_picture.Goals as goal

pub returns-clause-picture : goal.returns-clause-picture
returns-clause-picture c v head part all = (_, shows_first v head part all)

pub returns-clause-text : goal.returns-clause-text
returns-clause-text c = view_text
