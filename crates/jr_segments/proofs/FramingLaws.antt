-- Which test of a segment's framing fails first.
use Rattle.std.proofs.Common.{◌≡◌, ◌≢◌, ℕ, Bool, List, ◌++◌, drop, Some, None}
use Rattle.jr_segments.specs.declared.refusal.Refusal.{Refusal}
use Rattle.jr_segments.specs.declared.refusal.Refusal.TheVariants.{Memory}
use Rattle.jr_segments.specs.Bytes.{byte}
use Rattle.jr_segments.specs.Tests.{Test, first_fault}
use Rattle.jr_segments.specs.Segments.{framing_tests, marker_tests, code_tests, length_tests, at_code}
use Rattle.jr_segments.proofs.TestLaws.{obeys_front, obeys_back}

-- a refusal of these tests, unless memory ran out
abbrev pub Refuses : Refusal → List Test → Type 0
Refuses r ts = r ≢ Memory → first_fault ts ≡ Some r

pub at_marker : (framed : Bool) (at : ℕ) (bytes : List ℕ) (r : Refusal) → Refuses r (marker_tests at bytes) → Refuses r (framing_tests framed at bytes)
unfolding framing_tests
at_marker framed at bytes r h =
    obeys_front (marker_tests at bytes) (code_tests framed (byte 0 (at_code bytes)) ++ length_tests (byte 0 (at_code bytes)) (drop 1 (at_code bytes))) r h

pub at_its_code : (framed : Bool) (at : ℕ) (bytes : List ℕ) (r : Refusal) (code : ℕ) → code ≡ byte 0 (at_code bytes) → first_fault (marker_tests at bytes) ≡ None
    → Refuses r (code_tests framed code) → Refuses r (framing_tests framed at bytes)
unfolding framing_tests
at_its_code framed at bytes r code e h k = rw (← e)
    (obeys_back (marker_tests at bytes) (code_tests framed code ++ length_tests code (drop 1 (at_code bytes))) r h
    (obeys_front (code_tests framed code) (length_tests code (drop 1 (at_code bytes))) r k))

pub at_its_length : (framed : Bool) (at : ℕ) (bytes : List ℕ) (r : Refusal) (code : ℕ) (body : List ℕ) → code ≡ byte 0 (at_code bytes) → body ≡ drop 1 (at_code bytes)
    → first_fault (marker_tests at bytes) ≡ None → first_fault (code_tests framed code) ≡ None → Refuses r (length_tests code body) → Refuses r (framing_tests framed at bytes)
unfolding framing_tests
at_its_length framed at bytes r code body e f h k l = rw (← e, ← f)
    (obeys_back (marker_tests at bytes) (code_tests framed code ++ length_tests code body) r h (obeys_back (code_tests framed code) (length_tests code body) r k l))
