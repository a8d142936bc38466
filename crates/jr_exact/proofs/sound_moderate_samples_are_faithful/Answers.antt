use Rattle.jr_exact.proofs.sound_moderate_samples_are_faithful.Goals as goal

pub returns : goal.returns
returns c scan marks f i picture sound =
    let shown = c.sound_samples_are_faithful.ensures scan marks f i picture sound in
    record {
      blocks = shown.blocks;
      decodes = shown.decodes;
      samples = λ k x y held moderate. shown.samples k x y held (c.moderate_blocks_have_little_energy.ensures _ moderate);
    }
