-- A window, and what its data spell.
use Rattle.std.proofs.Common.{◌≡◌, ℕ, ◌+◌, ◌-◌, ◌*◌, ◌^◌, ◌<◌, ◌≤◌, inl, inr, List, [], ◌∷◌, ◌++◌, length, take, drop, sym, ap, subst, ◌∙◌, length-append, length-drop, length-take-le, arith}
use Rattle.std.specs.Prelude.{Bool, true, min}
use Rattle.std.specs.List.{flat_map}
use Rattle.std.proofs.lemmas.Bool.{cases_lt}
use Rattle.std.proofs.lemmas.List.{append_cancel_left, drop-drop, drop-take, length-map, take-append-drop}
use Rattle.std.proofs.Math.Seq.{take-append_seam}
use Rattle.jr_cut.specs.Cut.{Spelling, spelling, byte_spelled, IsRaw, IsStop}
use Rattle.jr_cut.proofs.Cuts.{raw_none, rest_is}
use Rattle.jr_cut.proofs.Spellings.{further, up_to_stop}
use Rattle.jr_arrival.specs.declared.window.Window.{Window}
use Rattle.jr_arrival.specs.FileSources.{IsOffset, IsWindow, Spells, data_in, trimmed}
use Rattle.jr_arrival.specs.Meaning.{HasBits}
use Rattle.jr_cut.proofs.Slices.{length_front, split_at}
use Rattle.jr_arrival.proofs.Spelled.{same_spelled}

pub window_long : (w : Window) → IsWindow w → length (data_in w) ≡ w.found - w.from
window_long w is = length-take-le (w.found - w.from) (drop w.from w.space.items) (omega (arith, is.from, is.found, is.space, length-drop w.from w.space.items))

-- at a stop there is no data
pub stopped : (bytes found : List ℕ) (at : ℕ) → found ≡ [] → at ≤ length bytes → IsStop (drop at bytes) → Spells bytes at found true
stopped bytes found at none within stop =
    let here : at + 0 ≡ at = omega arith in
    record { read = 0; within = omega (arith, within); spelled = subst (IsRaw []) (sym none) raw_none; stop = λ ends. subst (λ (k : ℕ). IsStop (drop k bytes)) (sym here) stop }

-- what a window is filled with
pub filled : (bytes space : List ℕ) (at found : ℕ) (ends : Bool) → at ≤ length bytes
    → (read : ℕ) × (read ≤ length (take (length bytes - at) (drop at bytes))) × IsRaw (take read (take (length bytes - at) (drop at bytes))) (take found space) × (ends ≡ true → IsStop (drop read (take (length bytes - at) (drop at bytes))))
    → Spells bytes at (take (found - 0) (drop 0 space)) ends
filled bytes space at found ends within stated =
    let rest = rest_is bytes at in
    let read = stated.0 in
    let all : found - 0 ≡ found = omega arith in
    record {
      read = read;
      within = omega (arith, within, stated.1, ap length rest, length-drop at bytes);
      spelled = subst (λ (k : ℕ). IsRaw (take read (drop at bytes)) (take k space)) (sym all) (subst (λ (xs : List ℕ). IsRaw (take read xs) (take found space)) rest stated.2);
      stop = λ e. subst IsStop (drop-drop read at bytes) (subst (λ (xs : List ℕ). IsStop (drop read xs)) rest (stated.3 e));
    }

-- a bit that has come is in a window that reaches over the first byte
pub bit_there : (bytes : List ℕ) (at bit n found : ℕ) (front : List ℕ) → HasBits bytes at bit → bit < 8 → IsRaw (take n (drop at bytes)) front → (length front < min bit 1 → IsStop (drop n (drop at bytes))) → length front ≤ found → bit ≤ 8 * found
bit_there bytes at bit n found front b low is stop le = elim (cases_lt (length front) (min bit 1)) [
  | inr enough ↦ omega (arith, low, enough, le)
  | inl less ↦
      let raw = drop at bytes in
      let most = up_to_stop (take n raw) front (take b.read raw) b.found (drop n raw) (drop b.read raw) is b.spelled (take-append-drop n raw ∙ sym (take-append-drop b.read raw)) (stop less) in
      omega (arith, most, b.few, le)
]

-- the bits of a window have come
pub window_bits : (w : Window) (bit : ℕ) → IsWindow w → bit ≤ 8 * (w.found - w.from) → HasBits w.file.bytes.now w.at bit
window_bits w bit is le = record { read = is.spells.read; found = data_in w; within = is.spells.within; spelled = is.spells.spelled; few = omega (arith, window_long w is, le) }

-- the file bytes that spell `byte` bytes of data spell the first `byte` bytes of the window
pub offset_spelled : (bytes found : List ℕ) (ends : Bool) (at byte n : ℕ) (s : Spells bytes at found ends) → byte ≤ length found → (front : List ℕ) → IsRaw (take n (drop at bytes)) front → length front ≤ byte → (length front < byte → IsStop (drop n (drop at bytes)))
    → IsRaw (take n (drop at bytes)) (take byte found)
offset_spelled bytes found ends at byte n s few front is short stop =
    let long : length (take byte found) ≡ byte = length-take-le byte found few in
    let begin : IsRaw (take s.read (drop at bytes)) (take byte found ++ drop byte found) = subst (λ (xs : List ℕ). IsRaw (take s.read (drop at bytes)) xs) (sym (take-append-drop byte found)) s.spelled in
    let same = same_spelled (drop at bytes) (take byte found) (drop byte found) front n s.read is (omega (arith, short, long)) (λ lt. stop (omega (arith, lt, long))) begin in
    subst (λ (xs : List ℕ). IsRaw (take n (drop at bytes)) xs) same is

-- a byte of data takes at least one byte of the file
spelled_few : (raw found : List ℕ) → IsRaw raw found → length found ≤ length raw
spelled_few raw found is = omega (arith, ap length is.means, length-map is.parts byte_spelled, ap length is.spelled, go is.parts)
  where
    go : (parts : List Spelling) → length parts ≤ length (flat_map spelling parts)
    go [] = omega arith
    go (p ∷ ps) = omega (arith, go ps, length-append (spelling p) (flat_map spelling ps), some p)
      where
        some : (p : Spelling) → 0 < length (spelling p)
        some (Spelling.Plain byte) = omega arith
        some (Spelling.Stuffed more) = omega arith

-- ---- a window that begins at the byte of the next MCU

module _ (w : Window) (is : IsWindow w) (byte at : ℕ) (le : byte ≤ w.found - w.from) (off : IsOffset w byte at) where
  abbrev bytes : List ℕ
  bytes = w.file.bytes.now

  front_long : length (take byte (data_in w)) ≡ byte
  front_long = length-take-le byte (data_in w) (omega (arith, window_long w is, le))

  pub trimmed_later : w.at + byte ≤ at
  trimmed_later = omega (arith, off.is, spelled_few (take off.read (drop w.at bytes)) (take byte (data_in w)) off.spelled, front_long, length_front bytes w.at off.read (omega (arith, off.is, off.within)))

  rest : drop byte (data_in w) ≡ data_in (trimmed w byte at)
  rest =
      let k = w.found - (w.from + byte) in
      let sum : w.found - w.from ≡ byte + k = omega (arith, is.from, le) in
      ap (λ (n : ℕ). drop byte (take n (drop w.from w.space.items))) sum ∙ drop-take byte k (drop w.from w.space.items) ∙ ap (take k) (drop-drop byte w.from w.space.items)

  spells_on : Spells bytes at (data_in (trimmed w byte at)) w.ends
  spells_on =
      let s = is.spells in
      let front = take byte (data_in w) in
      let tail = drop (w.at + s.read) bytes in
      let f = further (take off.read (drop w.at bytes)) front (take s.read (drop w.at bytes)) (data_in w) (drop (w.at + off.read) bytes) tail off.spelled s.spelled (sym (split_at bytes w.at off.read) ∙ split_at bytes w.at s.read) (omega (arith, window_long w is, front_long, le)) in
      let there : drop at bytes ≡ f.raw ++ tail = ap (λ (k : ℕ). drop k bytes) off.is ∙ f.spelled in
      let sum : at + length f.raw ≡ w.at + s.read = omega (arith, ap length there, length-append f.raw tail, length-drop at bytes, length-drop (w.at + s.read) bytes, off.within, s.within) in
      let raw : take (length f.raw) (drop at bytes) ≡ f.raw = ap (take (length f.raw)) there ∙ take-append_seam f.raw tail in
      let added : f.added ≡ drop byte (data_in w) = append_cancel_left front f.added (drop byte (data_in w)) (sym f.is ∙ sym (take-append-drop byte (data_in w))) in
      record {
        read = length f.raw;
        within = omega (arith, sum, s.within);
        spelled = subst (λ (x : List ℕ). IsRaw x (data_in (trimmed w byte at))) (sym raw) (subst (IsRaw f.raw) (added ∙ rest) f.raw_is);
        stop = λ e. subst (λ (k : ℕ). IsStop (drop k bytes)) (sym sum) (s.stop e);
      }

  pub trimmed_window : IsWindow (trimmed w byte at)
  trimmed_window = record {
    space = is.space;
    from = omega (arith, is.from, le);
    found = is.found;
    at = off.within;
    spells = spells_on;
    full = is.full;
  }

-- if an MCU is not whole, a window at a later byte of the file leaves less of it, and so does one that reaches further
pub left_less : (long at at' reach next reach' from byte found bit : ℕ) → at + byte ≤ at' → at' ≤ long → 8 * byte ≤ bit → bit < 8 * byte + 8 → 8 * (found - from) < 16650 + bit → (long ≤ reach → found ≡ 16384) → (from + byte ≡ 0 → reach + 1 < 2 ^ 64 → reach < next) → reach ≤ next → next ≤ reach' → long < 2 ^ 64
    → (long - at') + (long - reach') + 0 < (long - at) + (long - reach) + from
left_less long at at' reach next reach' from byte found bit later within low high few full further on more small = elim (cases_lt 0 (from + byte)) [
  | inl some ↦ omega (arith, later, within, on, more, some)
  | inr none ↦ elim (cases_lt reach long) [
    | inl lt ↦ omega (arith, later, within, lt, more, further (omega (arith, none)) (omega (arith, lt, small)))
    | inr past ↦ absurd (omega (arith, full past, few, high, none))
  ]
]
