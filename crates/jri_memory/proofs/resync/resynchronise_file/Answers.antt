use Rattle.jri_memory.proofs.resync.resynchronise_file.Goals as goal

pub returns-in-Ok-clause-done : goal.returns-in-Ok-clause-done
returns-in-Ok-clause-done c done =
    let store = c.write_resynced.ensures in
    record {
      resynced = c.in-Ok.resynced;
      is = c.in-Ok.ensures.resynced;
      written = store.written done;
      listed = store.listed done;
      reported = store.reported;
    }

pub returns-in-Ok-clause-space : goal.returns-in-Ok-clause-space
returns-in-Ok-clause-space c small =
    let store = c.write_resynced.ensures in
    record {
      resynced = c.in-Ok.resynced;
      is = c.in-Ok.ensures.resynced;
      reported = store.reported;
      less = store.space small;
    }

pub returns-in-Ok-clause-nothing : goal.returns-in-Ok-clause-nothing
returns-in-Ok-clause-nothing c undone fits = absurd (fits (c.write_resynced.ensures.few undone))
