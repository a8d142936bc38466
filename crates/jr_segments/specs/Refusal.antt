use Rattle.std.specs.Prelude.{Bool, true, false, ◌==◌, ◌||◌, ℕ, Option, None, Some}
use Rattle.jr_segments.specs.declared.refusal.Refusal.{Refusal}
use Rattle.jr_segments.specs.declared.refusal.Refusal.TheVariants.{NotJpeg, EndsEarly, ExpectedMarker, UnexpectedMarker, NotBaseline, BadLength, BadQuantTable, BadCodeTable, SecondFrame, BadPrecision, BadSize, TooManyPixels, BadComponents, BadSampling, BadScanHeader, NoFrame, MissingTable, TooLong, Memory}

abbrev pub number_of : Refusal → ℕ
number_of NotJpeg = 1
number_of EndsEarly = 2
number_of (ExpectedMarker at) = 3
number_of (UnexpectedMarker code) = 4
number_of (NotBaseline code) = 5
number_of (BadLength code) = 6
number_of BadQuantTable = 7
number_of BadCodeTable = 8
number_of SecondFrame = 9
number_of BadPrecision = 10
number_of BadSize = 11
number_of TooManyPixels = 12
number_of BadComponents = 13
number_of BadSampling = 14
number_of BadScanHeader = 15
number_of NoFrame = 16
number_of MissingTable = 17
number_of TooLong = 18
number_of Memory = 19

-- the offset of a missing marker, or a marker's code
abbrev pub detail_of : Refusal → Option ℕ
detail_of (ExpectedMarker at) = Some at
detail_of (UnexpectedMarker code) = Some code
detail_of (NotBaseline code) = Some code
detail_of (BadLength code) = Some code
detail_of refusal = None

-- whether a valid file may have this refusal, since it is of a kind that is not decoded:
-- other frames, samples, sizes, components, samplings and scans, tables that are not in the file, and the markers DAC (CC) and DHP (DE)
abbrev pub may_be_valid : Refusal → Bool
may_be_valid (UnexpectedMarker code) = code == 204 || code == 222
may_be_valid (NotBaseline code) = true
may_be_valid BadPrecision = true
may_be_valid BadSize = true
may_be_valid TooManyPixels = true
may_be_valid BadComponents = true
may_be_valid BadSampling = true
may_be_valid BadScanHeader = true
may_be_valid MissingTable = true
may_be_valid TooLong = true
may_be_valid refusal = false
