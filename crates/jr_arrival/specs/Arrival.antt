-- The bytes of a file that is still arriving, and the files that they can become.
use Rattle.std.specs.Prelude.{◌≡◌, ◌≢◌, ℕ, ◌<◌, ◌≤◌, List, ◌++◌, length, All}
use Rattle.jr_base.specs.declared.limits.TheConstants.{MAX_FILE_BYTES}
use Rattle.jr_segments.specs.declared.refusal.Refusal.{Refusal}
use Rattle.jr_segments.specs.declared.refusal.Refusal.TheVariants.{EndsEarly, NotJpeg}

-- the file begins with these bytes, and is not too long
pub record CanBecome (bytes file : List ℕ) : Type 0 where
  pub more : List ℕ
  pub is : file ≡ bytes ++ more
  pub are_bytes : All (λ b. b < 256) file
  pub small : length file ≤ MAX_FILE_BYTES

-- a refusal of the bytes that does not say that some are missing: EndsEarly does, and so does NotJpeg if SOI is not there whole
pub record IsFinalFault (bytes : List ℕ) (f : Refusal) : Type 0 where
  pub not_early : f ≢ EndsEarly
  pub start : f ≡ NotJpeg → 2 ≤ length bytes
