use Rattle.std.proofs.Common.{sym, subst, ◌≡◌, ℕ, ◌*◌, ◌<◌, length}
use Rattle.jr_head.specs.Geometry.{blocks_of, mcus_across, mcus_down}
use Rattle.jr_picture.specs.DecodedScan.{DecodedScan}
use Rattle.jr_scan.specs.ScanValue.{ScanValue}
use Rattle.jr_rows.specs.Bands.{ShowsMcus}
use Rattle.jr_rows.specs.Groups.{units_in}
use Rattle.jr_rows.specs.Rows.{AreRead, DecodesFirst, HasSampleSpace}
use Rattle.jr_crew.proofs.row.paint_read.Goals as goal

pub transform-requires : goal.transform-requires
transform-requires c =
    let row = c.args.row in
    let blocks = c.args.blocks.now in
    let there = sym c.scan.ensures in
    let below = subst (λ (s : ScanValue). row < mcus_down s.head) there c.requires.row in
    let space = subst (λ (s : ScanValue). HasSampleSpace s.head c.args.work.now) there c.requires.space in
    let long = subst (λ (s : ScanValue). length blocks ≡ mcus_across s.head * blocks_of s.head) there c.requires.long in
    let read = subst (λ (n : ℕ). AreRead c.args.part.now.scan n row blocks) (sym c.limit.ensures.value) c.requires.read in
    record { row = below; space = space; long = long; read = subst (λ (s : ScanValue). AreRead s c.limit.result row blocks) there read }

pub paint_decoded-requires-clause-space : goal.paint_decoded-requires-clause-space
paint_decoded-requires-clause-space c = subst (λ (s : ScanValue). HasSampleSpace s.head c.transform.new.self) c.scan.ensures c.transform.ensures.space

pub paint_decoded-requires-clause-units : goal.paint_decoded-requires-clause-units
paint_decoded-requires-clause-units c =
    let t = c.args.part.now.scan in
    let row = c.args.row in
    let groups = c.transform.new.self.lines.groups in
    let there = subst (λ (s : ScanValue). (b : DecodedScan) → DecodesFirst s c.limit.result b → ShowsMcus b (row * mcus_across s.head) (units_in s.head groups)) c.scan.ensures c.transform.ensures.units in
    subst (λ (n : ℕ). (b : DecodedScan) → DecodesFirst t n b → ShowsMcus b (row * mcus_across t.head) (units_in t.head groups)) c.limit.ensures.value there
