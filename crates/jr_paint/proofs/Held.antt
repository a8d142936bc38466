-- Bytes that are held back before they are written.
use Rattle.std.proofs.Common.{◌≡◌, ℕ, ◌≤◌, ◌+◌, List, [], ◌++◌, length, take, arith, Option, Result, Ok, Err, OnOk, OnErr, is_err, append_assoc, ap, refl, ◌∙◌, sym}
use Rattle.std.proofs.lemmas.Slice.{take-put_mid}
use borrow.Rule.Slice.PartMut.{put_mid}
use Rattle.jr_base.specs.declared.tally.Tally.{Tally}
use Rattle.jr_base.specs.Tally.{Writes, WritesBeginning, has_failed, known_in}
use Rattle.jr_base.proofs.Appending.{then, none_yet, front_after}
use Rattle.jr_paint.specs.Written.{IsSent, WritesUpTo}

module _ {T : Type 0} (known : T → Option (List ℕ)) where
  pub nothing_written : (a : Tally T) (text : List ℕ) → WritesUpTo known a a text text
  nothing_written a text = record { sent = []; whole = refl; appended = none_yet (known_in known a) }

  -- of what was held back, all but `left` is written
  pub written_on : (a b c : Tally T) (text held left : List ℕ) → WritesUpTo known a b text held → WritesUpTo known b c held left → WritesUpTo known a c text left
  written_on a b c text held left p q = record {
    sent = p.sent ++ q.sent;
    whole = p.whole ∙ ap (λ z. p.sent ++ z) q.whole ∙ sym (append_assoc p.sent q.sent left);
    appended = then _ _ _ _ _ p.appended q.appended;
  }

  -- more is held back
  pub held_more : (a b : Tally T) (text held more : List ℕ) → WritesUpTo known a b text held → WritesUpTo known a b (text ++ more) (held ++ more)
  held_more a b text held more p = record {
    sent = p.sent;
    whole = ap (λ z. z ++ more) p.whole ∙ append_assoc p.sent held more;
    appended = p.appended;
  }

  -- pixels are painted after the bytes that are held back
  pub painted : (a b : Tally T) (text xs ys : List ℕ) (at n k : ℕ) → length ys ≡ n → at ≤ length xs → WritesUpTo known a b text (take at xs) → WritesUpTo known a b (text ++ ys) (take (at + n) (put_mid at k xs ys))
  painted a b text xs ys at n k long inside p =
      let e : take (at + n) (put_mid at k xs ys) ≡ take at xs ++ ys = take-put_mid at k xs ys (at + n) (omega (arith, long)) inside in
      rw e (held_more a b text (take at xs) ys p)

  pub begun : (a b c : Tally T) (text held : List ℕ) → WritesUpTo known a b text held → WritesBeginning known b c held → WritesBeginning known a c text
  begun a b c text held p q = rw p.whole (front_after _ _ _ p.sent held p.appended q)

  -- all that was held back is written, or a prefix of it
  pub rest_sent : {U E : Type 0} (a b c : Tally T) (r : Result U E) (text held : List ℕ) → WritesUpTo known a b text held → OnOk r (Writes known b c held) → OnErr r (WritesBeginning known b c held) → has_failed c ≡ is_err r → IsSent known a c r text
  rest_sent a b c (Ok v) text held p q e f = record { ok = rw p.whole (then _ _ _ _ _ p.appended q); err = tt; failed = f }
  rest_sent a b c (Err v) text held p q e f = record { ok = tt; err = begun a b c text held p e; failed = f }
