-- The numbers that the definitions take from the code, as numerals: a code that has another one does not meet these examples.
use Rattle.std.proofs.Common.{◌≡◌, ℕ, ◌+◌, ◌*◌, ◌^◌, ◌<◌, ◌≤◌, length, [], ◌∷◌, refl}
use Rattle.jr_base.specs.declared.limits.TheConstants.{MAX_FILE_BYTES, MAX_PIXELS, MAX_MCUS_ACROSS, MAX_WORKERS}
use Rattle.jr_base.specs.declared.marker.TheConstants.{APP0, APP14, APP15, COM, DHT, DQT, DRI, EOI, PREFIX, RST0, RST7, SOF0, SOF1, SOF10, SOF11, SOF13, SOF14, SOF15, SOF2, SOF3, SOF5, SOF6, SOF7, SOF9, SOI, SOS}
use Rattle.jr_base.specs.declared.quantisers.TheConstants.{MAX_PRODUCT}
use Rattle.jr_mend.specs.declared.choice.TheConstants.{MAX_COPIES}
use Rattle.jr_mend.specs.declared.outlook.TheConstants.{SURE_BYTES}
use Rattle.jr_scan.specs.IntervalValue.{IntervalValue}
use Rattle.jr_arrival.specs.LongerFile.{IsNeverWhole, MayGrow}

-- The codes of markers (T.81, table B.1): C0 to C3, C5 to C7, C9 to CB and CD to CF start frames.

frame_codes : SOF0 ∷ SOF1 ∷ SOF2 ∷ SOF3 ∷ SOF5 ∷ SOF6 ∷ SOF7 ∷ SOF9 ∷ SOF10 ∷ SOF11 ∷ SOF13 ∷ SOF14 ∷ SOF15 ∷ []
    ≡ 192 ∷ 193 ∷ 194 ∷ 195 ∷ 197 ∷ 198 ∷ 199 ∷ 201 ∷ 202 ∷ 203 ∷ 205 ∷ 206 ∷ 207 ∷ []
frame_codes = refl

-- The prefix of a marker is FF; C4, D0, D7, D8, D9, DA, DB, DD, E0, EE, EF and FE are the codes of the others.

other_codes : PREFIX ∷ DHT ∷ RST0 ∷ RST7 ∷ SOI ∷ EOI ∷ SOS ∷ DQT ∷ DRI ∷ APP0 ∷ APP14 ∷ APP15 ∷ COM ∷ []
    ≡ 255 ∷ 196 ∷ 208 ∷ 215 ∷ 216 ∷ 217 ∷ 218 ∷ 219 ∷ 221 ∷ 224 ∷ 238 ∷ 239 ∷ 254 ∷ []
other_codes = refl

-- The limits: bytes of a file, pixels of an image, MCUs across, workers.

file_limit : MAX_FILE_BYTES ≡ 2 ^ 30
file_limit = refl

pixel_limit : MAX_PIXELS ≡ 2 ^ 28
pixel_limit = refl

limits : MAX_MCUS_ACROSS ∷ MAX_WORKERS ∷ [] ≡ 8192 ∷ 64 ∷ []
limits = refl

-- The most copies that are mended, and the bytes of a sector, over which markers that are in step are the file's own.

mending : MAX_COPIES ∷ SURE_BYTES ∷ [] ≡ 64 ∷ 512 ∷ []
mending = refl

-- The greatest product for which a transform of 16 bits is exact.

largest_product : MAX_PRODUCT ≡ 1096
largest_product = refl

-- The most bits of an MCU: those of ten blocks of 27 and 63 times 26 bits. With this number after its prefix an interval is final,
-- with fewer it may grow.

bits_of_an_mcu : (i : IntervalValue) (mcu : ℕ) (n : IsNeverWhole i mcu) → 10 * (27 + 63 * 26) ≤ length n.longest.front.rest
bits_of_an_mcu i mcu n = n.long

fewer_bits : (i : IntervalValue) (front : ℕ) (m : MayGrow i front) → length m.longest.front.rest < 10 * (27 + 63 * 26)
fewer_bits i front m = m.short
