use Rattle.jri_file.proofs.EachPicture.{each_scan}
use Rattle.jri_file.proofs.laws.each_scan_has_a_picture.Goals as goal

pub returns : goal.returns
returns c = each_scan
