use Rattle.std.proofs.Common.{arith}
use Rattle.jri_memory.proofs.mend.mend_files.Goals as goal

pub returns-in-Ok-clause-sound : goal.returns-in-Ok-clause-sound
returns-in-Ok-clause-sound c sound =
    let store = c.write_mended.ensures in
    record {
      chosen = c.in-Ok.mended.choices.items;
      file = c.in-Ok.mended.file.items;
      is = c.in-Ok.ensures.mended;
      written = store.written (λ small. omega (arith, sound, small));
      listed = store.listed (λ small. omega (arith, sound, small));
      reported = store.reported;
    }

pub returns-in-Ok-clause-damaged : goal.returns-in-Ok-clause-damaged
returns-in-Ok-clause-damaged c damaged =
    let store = c.write_mended.ensures in
    record {
      chosen = c.in-Ok.mended.choices.items;
      file = c.in-Ok.mended.file.items;
      is = c.in-Ok.ensures.mended;
      written = store.written (λ small. omega (arith, damaged, small));
      listed = store.listed (λ small. omega (arith, damaged, small));
      reported = store.reported;
    }

pub returns-in-Ok-clause-space : goal.returns-in-Ok-clause-space
returns-in-Ok-clause-space c small =
    let store = c.write_mended.ensures in
    record {
      chosen = c.in-Ok.mended.choices.items;
      file = c.in-Ok.mended.file.items;
      is = c.in-Ok.ensures.mended;
      reported = store.reported;
      less = store.space small;
    }

pub returns-in-Ok-clause-nothing : goal.returns-in-Ok-clause-nothing
returns-in-Ok-clause-nothing c unsound undamaged fits = absurd (fits (c.write_mended.ensures.few unsound undamaged))
