use Rattle.std.proofs.Common.{rules, sym}
use Rattle.jri_canvas.proofs.Vectors.{in_order}
use Rattle.jri_canvas.proofs.line.copy_three.Goals as goal

pub returns : goal.returns
returns c = search (rules, sym (in_order c.args.line.now c.args.width c.requires.line))
