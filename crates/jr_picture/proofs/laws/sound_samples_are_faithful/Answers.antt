use Rattle.std.proofs.Common.{arith, rules, subst, ◌%◌}
use Rattle.jr_head.specs.Geometry.{quantiser_of}
use Rattle.jr_mcu.specs.Mcus.{component, block_of}
use Rattle.jr_scan.specs.ScanValue as scans
use Rattle.jr_picture.specs.declared.mark.Mark.{Mark}
use Rattle.jr_picture.specs.Headline.{spot_of, unit_number, Shows, ShowsDecoding}
use Rattle.jr_picture.proofs.Exactness.{faithful}
use Rattle.jr_picture.proofs.laws.sound_samples_are_faithful.Goals as goal

pub returns : goal.returns
returns c scan marks f i picture sound =
    let v = scans.interval_of scan i in
    let shown : ShowsDecoding v f = subst (λ (m : Mark). Shows m v f) sound (picture.each i) in
    record {
      blocks = shown.blocks;
      decodes = shown.decodes;
      samples = λ k x y held small.
          let n = unit_number v.head (spot_of v.head k x y) in
          let z = block_of shown.blocks n in
          let q = quantiser_of v.head (component v.head n) in
          let is = shown.samples k x y held in
          search (rules, small, faithful c.samples_are_faithful.ensures z q (f k x y) (y % 8) (x % 8) (omega arith) (omega arith) is);
    }
