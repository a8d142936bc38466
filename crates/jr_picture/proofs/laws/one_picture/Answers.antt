use Rattle.jr_picture.proofs.Pictures as pictures
use Rattle.jr_picture.proofs.laws.one_picture.Goals as goal

pub returns : goal.returns
returns c = pictures.one_picture
