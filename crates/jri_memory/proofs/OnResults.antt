-- A proposition holds for any result.
use Rattle.std.specs.Prelude.{Result, Ok, Err, OnOk}

pub on_ok : {T E : Type 0} (r : Result T E) (P : Type 0) → P → OnOk r P
on_ok (Ok x) P p = p
on_ok (Err e) P p = tt
