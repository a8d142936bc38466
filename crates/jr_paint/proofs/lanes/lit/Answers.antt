use Rattle.std.proofs.Common.{rules}
use Rattle.jr_paint.proofs.Clamped.{clamped_are_bytes, clamped_value}
use Rattle.jr_paint.proofs.lanes.lit.Goals as goal

pub overflow_cast-result : goal.overflow_cast-result
overflow_cast-result c = clamped_are_bytes c.args.even c.args.even_over c.args.odd c.args.odd_over c.fits-even.0 c.fits-even_over.0 c.fits-odd.0 c.fits-odd_over.0 c.requires.small_even c.requires.small_odd c.requires.even c.requires.odd

pub returns : goal.returns
returns c = search (rules, clamped_value c.args.even c.args.even_over c.args.odd c.args.odd_over c.fits-even.0 c.fits-even_over.0 c.fits-odd.0 c.fits-odd_over.0 c.requires.small_even c.requires.small_odd c.requires.even c.requires.odd)
