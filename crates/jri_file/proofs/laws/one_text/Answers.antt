use Rattle.jr_head.proofs.OneHeadLaws.{one_head_or_one_fault}
use Rattle.jr_cut.proofs.CutLaw.{one_cut}
use Rattle.jr_picture.proofs.Pictures.{one_picture}
use Rattle.jri_file.proofs.OneText.{one_text}
use Rattle.jri_file.proofs.laws.one_text.Goals as goal

pub returns : goal.returns
returns c file first s t k m f g bytes p q = one_text file first (one_head_or_one_fault file bytes) (λ n at bytes a b. one_cut n at bytes a.datas b.datas a.end b.end a.is b.is) one_picture s t k m f g p q
