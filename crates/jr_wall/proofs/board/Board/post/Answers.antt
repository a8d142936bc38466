use Rattle.std.proofs.Common.{◌≡◌, ◌≢◌, ◌↔◌, ℕ, zero, suc, ◌+◌, ◌<◌, length, Bool, true, false, is_some, cond, not, refl, Option, Some, None, IsTrue, List, [], ◌∷◌, get_or, set, map, sym, ap, ◌∙◌, subst, arith}
use Rattle.std.specs.declared.sync.Arc.{Arc}
use Rattle.std.specs.declared.alloc.Global.{Global}
use Rattle.std.specs.Arc.{arc_value}
use Rattle.std.proofs.lemmas.List.{map-set, length-map, get_or_default}
use Rattle.jr_scan.specs.ScanValue.{HasInterval, ScanValue}
use Rattle.jr_piece.specs.PieceValue.{PieceValue}
use Rattle.jr_picture.specs.DecodedScan.{DecodedScan, IsFor, piece_at, mark_of, marks_of}
use Rattle.jr_piece.specs.Outcome.{IsOutcome}
use Rattle.jr_picture.specs.declared.mark.Mark.TheVariants.{Blank, Sound, Damaged}
use Rattle.jr_wall.specs.Kept.{KeepsCounts, shared_piece}
use Rattle.jr_picture.specs.Headline.{mark_in}
use Rattle.jr_wall.proofs.Pieces.{Posted, posts, held_at}
use Rattle.jr_picture.proofs.DecodedPictures.{marks_at}
use mir.Val.{bool_byte}
use Rattle.jr_wall.proofs.board.Board.post.Goals as goal

-- posts, by the fields
fields_post : (scan : ScanValue) (items : List (Option (Arc PieceValue Global))) (n : ℕ) (p : PieceValue) (q : PieceValue) (b : Bool) (sound damaged more less : ℕ)
    → KeepsCounts (record { scan = scan; pieces = map shared_piece items }) sound damaged → n ≡ p.interval.number → IsFor p.interval scan → IsOutcome p → get_or items n None ≡ None → q ≡ p → b ≡ q.is_sound
    → more ≡ bool_byte b → less ≡ bool_byte (not b) → Posted (record { scan = scan; pieces = map shared_piece items }) n p (sound + more) (damaged + less)
fields_post scan items n p q b sound damaged more less k is for outcome none same sound_is m l =
    let s : b ≡ p.is_sound = sound_is ∙ ap (λ (x : PieceValue). x.is_sound) same in
    posts (record { scan = scan; pieces = map shared_piece items }) n p sound damaged more less k is for outcome (held_at items n ∙ ap shared_piece none) (m ∙ ap bool_byte s) (l ∙ ap (λ x. bool_byte (not x)) s)

-- the piece is of an interval of the scan
for_of : (s t : ScanValue) (p q : PieceValue) (r : Bool) → t ≡ s → q ≡ p → IsTrue r ↔ HasInterval t q.interval → r ≡ true → IsFor p.interval s
for_of s t p q r scan piece is held = subst (λ (x : ScanValue). HasInterval x p.interval) scan (subst (λ (x : PieceValue). HasInterval t x.interval) piece (is.0 held))

-- no piece is held if none was read
none_is : {A : Type 0} (x : Option A) → is_some x ≡ false → x ≡ None
none_is None e = refl
none_is (Some a) e = absurd cc

none_read : {A : Type 0} (xs : List (Option A)) (n : ℕ) (x : Option A) → x ≡ get_or xs n x → is_some x ≡ false → get_or xs n None ≡ None
none_read [] n x e nothing = refl
none_read (y ∷ ys) zero x e nothing = sym e ∙ none_is x nothing
none_read (y ∷ ys) (suc n) x e nothing = none_read ys n x e nothing

within_items : (n i all held items : ℕ) → n ≡ i → i < all → held ≡ all → held ≡ items → n < items
within_items n i all held items e lt same long = omega (arith, e, lt, same, long)

abbrev board_of : ScanValue → List (Option PieceValue) → DecodedScan
board_of scan pieces = record { scan = scan; pieces = pieces }

pub index-requires : goal.index-requires
index-requires c =
    let for = for_of (arc_value c.self.inside.scan) c.deref-3.result.now (arc_value c.args.piece) c.deref-2.result.now c.is_for.result c.deref-3.ensures c.deref-2.ensures c.is_for.ensures c.if-not-is_for.false in
    let n = c.number-number.ensures ∙ ap (λ (p : PieceValue). p.interval.number) c.deref-4.ensures in
    within_items c.number-number.result _ _ _ _ n for.0 c.self.invariant.valid.places (length-map c.self.inside.pieces.items shared_piece ∙ sym c.self.inside.pieces.ok.0)

pub index_mut-requires : goal.index_mut-requires
index_mut-requires c =
    let for = for_of (arc_value c.self.inside.scan) c.deref-3.result.now (arc_value c.args.piece) c.deref-2.result.now c.is_for.result c.deref-3.ensures c.deref-2.ensures c.is_for.ensures c.if-not-is_for.false in
    let n = c.number-number.ensures ∙ ap (λ (p : PieceValue). p.interval.number) c.deref-4.ensures in
    within_items c.number-number.result _ _ _ _ n for.0 c.self.invariant.valid.places (length-map c.self.inside.pieces.items shared_piece ∙ sym c.self.inside.pieces.ok.0)

pub overflow_add-sound : goal.overflow_add-sound
overflow_add-sound c =
    let for = for_of (arc_value c.self.inside.scan) c.deref-3.result.now (arc_value c.args.piece) c.deref-2.result.now c.is_for.result c.deref-3.ensures c.deref-2.ensures c.is_for.ensures c.if-not-is_for.false in
    let n = c.number-number.ensures ∙ ap (λ (p : PieceValue). p.interval.number) c.deref-4.ensures in
    let none = none_read c.self.inside.pieces.items c.number-number.result c.index.result.now c.index.ensures (sym c.is_some.ensures ∙ c.if-is_some.false) in
    let p = fields_post (arc_value c.self.inside.scan) c.self.inside.pieces.items c.number-number.result (arc_value c.args.piece) c.deref-5.result.now c.is_sound-is_sound.result c.self.inside.sound c.self.inside.damaged c.from.result (bool_byte (not c.is_sound-is_sound.result))
    c.self.invariant n for (subst IsOutcome c.deref.ensures c.assert_invariant.ensures) none c.deref-5.ensures c.is_sound-is_sound.ensures c.from.ensures refl in
    omega (arith, p.sound_fits)

pub overflow_add-damaged : goal.overflow_add-damaged
overflow_add-damaged c =
    let for = for_of (arc_value c.self.inside.scan) c.deref-3.result.now (arc_value c.args.piece) c.deref-2.result.now c.is_for.result c.deref-3.ensures c.deref-2.ensures c.is_for.ensures c.if-not-is_for.false in
    let n = c.number-number.ensures ∙ ap (λ (p : PieceValue). p.interval.number) c.deref-4.ensures in
    let none = none_read c.self.inside.pieces.items c.number-number.result c.index.result.now c.index.ensures (sym c.is_some.ensures ∙ c.if-is_some.false) in
    let p = fields_post (arc_value c.self.inside.scan) c.self.inside.pieces.items c.number-number.result (arc_value c.args.piece) c.deref-5.result.now c.is_sound-is_sound.result c.self.inside.sound c.self.inside.damaged c.from.result c.from-2.result
    c.self.invariant n for (subst IsOutcome c.deref.ensures c.assert_invariant.ensures) none c.deref-5.ensures c.is_sound-is_sound.ensures c.from.ensures c.from-2.ensures in
    omega (arith, p.damaged_fits)

pub invariant_of-self : goal.invariant_of-self
invariant_of-self c =
    let for = for_of (arc_value c.self.inside.scan) c.deref-3.result.now (arc_value c.args.piece) c.deref-2.result.now c.is_for.result c.deref-3.ensures c.deref-2.ensures c.is_for.ensures c.if-not-is_for.false in
    let n = c.number-number.ensures ∙ ap (λ (p : PieceValue). p.interval.number) c.deref-4.ensures in
    let none = none_read c.self.inside.pieces.items c.number-number.result c.index.result.now c.index.ensures (sym c.is_some.ensures ∙ c.if-is_some.false) in
    let p = fields_post (arc_value c.self.inside.scan) c.self.inside.pieces.items c.number-number.result (arc_value c.args.piece) c.deref-5.result.now c.is_sound-is_sound.result c.self.inside.sound c.self.inside.damaged c.from.result c.from-2.result
    c.self.invariant n for (subst IsOutcome c.deref.ensures c.assert_invariant.ensures) none c.deref-5.ensures c.is_sound-is_sound.ensures c.from.ensures c.from-2.ensures in
    subst (λ (ps : List (Option PieceValue)). KeepsCounts (record { scan = arc_value c.self.inside.scan; pieces = ps }) (c.self.inside.sound + c.from.result) (c.self.inside.damaged + c.from-2.result))
    (sym (map-set shared_piece c.self.inside.pieces.items c.number-number.result (Some c.args.piece))) p.kept

pub returns-clause-ok : goal.returns-clause-ok
returns-clause-ok c =
    let for = for_of (arc_value c.self.inside.scan) c.deref-3.result.now (arc_value c.args.piece) c.deref-2.result.now c.is_for.result c.deref-3.ensures c.deref-2.ensures c.is_for.ensures c.if-not-is_for.false in
    let n = c.number-number.ensures ∙ ap (λ (p : PieceValue). p.interval.number) c.deref-4.ensures in
    let none = none_read c.self.inside.pieces.items c.number-number.result c.index.result.now c.index.ensures (sym c.is_some.ensures ∙ c.if-is_some.false) in
    let v = c.self.view_is in
    record {
      for = subst (λ (b : DecodedScan). IsFor (arc_value c.args.piece).interval b.scan) v for;
      blank = ap (λ (b : DecodedScan). piece_at b (arc_value c.args.piece).interval.number) (sym v) ∙ held_at c.self.inside.pieces.items (arc_value c.args.piece).interval.number
          ∙ ap (λ k. shared_piece (get_or c.self.inside.pieces.items k None)) (sym n) ∙ ap shared_piece none;
      posted = ap (board_of (arc_value c.self.inside.scan)) (map-set shared_piece c.self.inside.pieces.items c.number-number.result (Some c.args.piece))
          ∙ ap (λ k. board_of (arc_value c.self.inside.scan) (set (map shared_piece c.self.inside.pieces.items) k (Some (arc_value c.args.piece)))) n
          ∙ ap (λ (b : DecodedScan). board_of b.scan (set b.pieces (arc_value c.args.piece).interval.number (Some (arc_value c.args.piece)))) v;
    }

-- what is posted has a mark
marked : (b : Bool) → cond b Sound Damaged ≢ Blank
marked true e = absurd cc
marked false e = absurd cc

posted_marked : (p : Option (Arc PieceValue Global)) → is_some p ≡ true → mark_of (shared_piece p) ≢ Blank
posted_marked None t e = absurd cc
posted_marked (Some p) t e = marked (arc_value p).is_sound e

pub returns-then-is_some-clause-err : goal.returns-then-is_some-clause-err
returns-then-is_some-clause-err c =
    let i = (arc_value c.args.piece).interval in
    let there = for_of (arc_value c.self.inside.scan) c.deref-3.result.now (arc_value c.args.piece) c.deref-2.result.now c.is_for.result c.deref-3.ensures c.deref-2.ensures c.is_for.ensures c.if-not-is_for.false in
    let for = subst (λ (b : DecodedScan). IsFor i b.scan) c.self.view_is there in
    let n = c.number-number.ensures ∙ ap (λ (p : PieceValue). p.interval.number) c.deref-4.ensures in
    let items = c.self.inside.pieces.items in
    let lt = within_items c.number-number.result i.number _ _ (length items) n there.0 c.self.invariant.valid.places (length-map items shared_piece) in
    let found : is_some (get_or items c.number-number.result None) ≡ true
    = ap is_some (sym (c.index.ensures ∙ get_or_default items c.number-number.result c.index.result.now None lt)) ∙ sym c.is_some.ensures ∙ c.if-is_some.true in
    let held : is_some (get_or c.self.inside.pieces.items i.number None) ≡ true = subst (λ (k : ℕ). is_some (get_or c.self.inside.pieces.items k None) ≡ true) n found in
    let here : shared_piece (get_or c.self.inside.pieces.items i.number None) ≡ piece_at c.args.self.now i.number
    = sym (held_at c.self.inside.pieces.items i.number) ∙ ap (λ (b : DecodedScan). piece_at b i.number) c.self.view_is in
    let mark : mark_in (marks_of c.args.self.now) i.number ≡ mark_of (shared_piece (get_or c.self.inside.pieces.items i.number None))
    = marks_at c.args.self.now.pieces i.number ∙ ap mark_of (sym here) in
    (refl, (refl, for, λ blank. posted_marked (get_or c.self.inside.pieces.items i.number None) held (sym mark ∙ blank)))
