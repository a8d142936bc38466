-- Too many bytes are refused.
use Rattle.std.proofs.Common.{inl, ℕ, ◌<◌, List, length, refl}
use Rattle.std.proofs.lemmas.Bool.{lt-ltb}
use Rattle.jr_base.specs.declared.limits.TheConstants.{MAX_FILE_BYTES}
use Rattle.jr_segments.specs.declared.refusal.Refusal.TheVariants.{TooLong}
use Rattle.jr_head.specs.Heads.{RefusalOf}

pub is_too_long : (bytes : List ℕ) → MAX_FILE_BYTES < length bytes → RefusalOf bytes TooLong
is_too_long bytes l = let e = lt-ltb MAX_FILE_BYTES (length bytes) l in inl (rw e refl)
