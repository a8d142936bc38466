-- Notes of cells after one of them changed, whatever the cells hold.
use Rattle.std.proofs.Common.{◌≡◌, ℕ, ◌+◌, ◌<◌, List, Option, Some, None, length, get_or, set, map, IfSome, IfNone, sym, ap, subst, ◌∙◌, arith, get_or-set_same, get_or-set_other}
use Rattle.std.proofs.lemmas.List.{get_or-map, map-set, length-map, get_or_past, set-get_or}
use Rattle.std.proofs.Math.Seq.{map-set_same}
use Rattle.std.specs.declared.alloc.Global.{Global}
use Rattle.std.specs.Borrow.{Bor}
use Rattle.std.specs.Option.{MatchOption}
use mathlib.Core.Logic.{dite}
use native.Mathlib.Decide.{ℕ_discrete, dec_le}
use Rattle.once_cell.specs.declared.race.note.Note.{Note}
use Rattle.once_cell.specs.Once.{cell_name, Agrees}
use Rattle.jr_cells.specs.Notes.{names_of, known_of, KnowAt, KnowNothingAt, KeepAll, KeepOthers}

-- a note of a list is replaced by one of the same cell that knows what it knew
pub record IsRenewed {X : Type 0} (ns : List (Note X)) (at : ℕ) (old new : Note X) : Type 0 where
  pub within : at < length ns
  pub there : old ≡ get_or ns at old
  pub cell : new.cell ≡ old.cell
  pub keeps : (x : X) → old.known ≡ Some x → new.known ≡ Some x

pub length-names : {X : Type 0} (ns : List (Note X)) → length (names_of ns) ≡ length ns
length-names ns = length-map ns (λ m. m.cell)

pub length-known : {X : Type 0} (ns : List (Note X)) → length (known_of ns) ≡ length ns
length-known ns = length-map ns (λ m. m.known)

pub as_many : {X : Type 0} (ns : List (Note X)) (names : List ℕ) → names_of ns ≡ names → length ns ≡ length names
as_many ns names e = sym (length-names ns) ∙ ap length e

pub within_notes : {X : Type 0} (ns : List (Note X)) (cs : List (Global × ℕ)) (at : ℕ) → names_of ns ≡ map cell_name cs → at < length cs → at < length ns
within_notes ns cs at e h = omega (arith, h, as_many ns (map cell_name cs) e, length-map cs cell_name)

-- the note at an index is that of the cell there
pub same_name : {X : Type 0} (ns : List (Note X)) (cs : List (Global × ℕ)) (at : ℕ) (n : Note X) (c : Global × ℕ) → names_of ns ≡ map cell_name cs → at < length cs → n ≡ get_or ns at n → c ≡ get_or cs at c → n.cell ≡ cell_name c
same_name {X} ns cs at n c e short a b =
    let long = within_notes ns cs at e short in
    ap (λ (m : Note X). m.cell) a ∙ sym (get_or-map (λ (m : Note X). m.cell) ns at n 0 long) ∙ ap (λ (l : List ℕ). get_or l at 0) e ∙ get_or-map cell_name cs at c 0 short ∙ ap cell_name (sym b)

pub kept_one : {X : Type 0} (old new : Option X) (x : X) → new ≡ Some x → Agrees old x → (y : X) → old ≡ Some y → new ≡ Some y
kept_one None new x e h y f = absurd (let z : None ≡ Some y = f in cc)
kept_one (Some z) new x e h y f = e ∙ ap Some (sym h) ∙ f

pub kept_by_get : {X : Type 0} (r : Option (Bor X)) (old new : Option X) → MatchOption r ((old ≡ None) × (new ≡ None)) (λ b. (new ≡ Some b.now) × Agrees old b.now) → (y : X) → old ≡ Some y → new ≡ Some y
kept_by_get None old new m y f = absurd (let z : None ≡ Some y = sym m.0 ∙ f in cc)
kept_by_get (Some b) old new m y f = kept_one old new b.now m.0 m.1 y f

pub kept_by_set : {X : Type 0} (old new : Option X) → (x : X) × (new ≡ Some x) × Agrees old x → (y : X) → old ≡ Some y → new ≡ Some y
kept_by_set old new k y f = kept_one old new k.0 k.1 k.2 y f

pub names_kept : {X : Type 0} (ns : List (Note X)) (at : ℕ) (old new : Note X) → IsRenewed ns at old new → names_of (set ns at new) ≡ names_of ns
names_kept {X} ns at old new r = map-set_same (λ (m : Note X). m.cell) ns at new old (r.cell ∙ ap (λ (m : Note X). m.cell) r.there)

-- what the new note knows is known there
pub here : {X : Type 0} (ns : List (Note X)) (at : ℕ) (new : Note X) → at < length ns → get_or (known_of (set ns at new)) at None ≡ new.known
here {X} ns at new h =
    ap (λ (l : List (Option X)). get_or l at None) (map-set (λ (m : Note X). m.known) ns at new) ∙ get_or-set_same (known_of ns) at new.known None (omega (arith, h, length-known ns))

-- and elsewhere what was known is known
pub elsewhere : {X : Type 0} (ns : List (Note X)) (at : ℕ) (new : Note X) → KeepOthers at ns (set ns at new)
elsewhere {X} ns at new j apart = ap (λ (l : List (Option X)). get_or l j None) (map-set (λ (m : Note X). m.known) ns at new) ∙ get_or-set_other (known_of ns) at j new.known None apart

pub was : {X : Type 0} (ns : List (Note X)) (at : ℕ) (old : Note X) → at < length ns → old ≡ get_or ns at old → get_or (known_of ns) at None ≡ old.known
was {X} ns at old h e = get_or-map (λ (m : Note X). m.known) ns at old None h ∙ ap (λ (m : Note X). m.known) (sym e)

pub all_kept : {X : Type 0} (ns : List (Note X)) (at : ℕ) (old new : Note X) → IsRenewed ns at old new → KeepAll ns (set ns at new)
all_kept ns at old new r j x k = dite (ℕ_discrete j at)
    (λ same. let there : get_or (known_of ns) at None ≡ Some x = ap (λ (m : ℕ). get_or (known_of ns) m None) (sym same) ∙ k in
    ap (λ (m : ℕ). get_or (known_of (set ns at new)) m None) same ∙ here ns at new r.within ∙ r.keeps x (sym (was ns at old r.within r.there) ∙ there))
    (λ apart. elsewhere ns at new j apart ∙ k)

-- what a look found
pub found : {X : Type 0} (ns : List (Note X)) (at : ℕ) (old new : Note X) (r : Option (Bor X)) → at < length ns → MatchOption r ((old.known ≡ None) × (new.known ≡ None)) (λ b. (new.known ≡ Some b.now) × Agrees old.known b.now)
    → IfSome r (λ b. KnowAt (set ns at new) at b.now)
found ns at old new None h m = tt
found ns at old new (Some b) h m = here ns at new h ∙ m.0

-- and what it did not find
pub missed : {X : Type 0} (ns : List (Note X)) (at : ℕ) (old new : Note X) (r : Option (Bor X)) → at < length ns → old ≡ get_or ns at old → MatchOption r ((old.known ≡ None) × (new.known ≡ None)) (λ b. (new.known ≡ Some b.now) × Agrees old.known b.now)
    → IfNone r ((known_of (set ns at new) ≡ known_of ns) × KnowNothingAt ns at)
missed {X} ns at old new None h e m = (map-set_same (λ (k : Note X). k.known) ns at new old (m.1 ∙ sym m.0 ∙ ap (λ (k : Note X). k.known) e), was ns at old h e ∙ m.0)
missed ns at old new (Some b) h e m = tt

-- two lists of notes agree at each index below n
abbrev pub AgreeBelow : {X : Type 0} → ℕ → List (Note X) → List (Note X) → Type 0
AgreeBelow {X} n a b = (i : ℕ) (x y : X) → i < n → KnowAt a i x → KnowAt b i y → x ≡ y

pub known_within : {X : Type 0} (ns : List (Note X)) (i : ℕ) (x : X) → KnowAt ns i x → i < length ns
known_within ns i x e = dite (dec_le (length ns) i) (λ h. absurd (let z : None ≡ Some x = sym (get_or_past (known_of ns) i None (omega (arith, h, length-known ns))) ∙ e in cc)) (λ h. omega arith)

both_know : {X : Type 0} (m n : Option X) (x y : X) → IfSome n (Agrees m) → m ≡ Some x → n ≡ Some y → x ≡ y
both_know None n x y h e f = absurd (let z : None ≡ Some x = e in cc)
both_know (Some a) None x y h e f = absurd (let z : None ≡ Some y = f in cc)
both_know (Some a) (Some b) x y h e f = let p : a ≡ x = cc in let q : b ≡ y = cc in sym p ∙ h ∙ q

pub agree_more : {X : Type 0} (a b : List (Note X)) (i : ℕ) (m n : Note X) → m ≡ get_or a i m → n ≡ get_or b i n → IfSome n.known (Agrees m.known) → AgreeBelow i a b → AgreeBelow (i + 1) a b
agree_more a b i m n e f same below j x y h kx ky = dite (ℕ_discrete j i)
    (λ is.
    let kx' : KnowAt a i x = ap (λ (k : ℕ). get_or (known_of a) k None) (sym is) ∙ kx in
    let ky' : KnowAt b i y = ap (λ (k : ℕ). get_or (known_of b) k None) (sym is) ∙ ky in
    both_know m.known n.known x y same (sym (was a i m (known_within a i x kx') e) ∙ kx') (sym (was b i n (known_within b i y ky') f) ∙ ky'))
    (λ apart. below j x y (omega arith) kx ky)

-- a note that is written back unchanged
pub set_back : {X : Type 0} (l : List (Note X)) (i : ℕ) (m n : Note X) → n ≡ get_or l i n → m ≡ n → set l i m ≡ l
set_back {X} l i m n e f = ap (λ (k : Note X). set l i k) (f ∙ e) ∙ set-get_or l i n

-- notes of one cell
pub same_cell : {X : Type 0} (a b a' b' : List (Note X)) (i : ℕ) (m n : Note X) → names_of a ≡ names_of b → a' ≡ a → b' ≡ b → i < length a' → m ≡ get_or a' i m → n ≡ get_or b' i n → n.cell ≡ m.cell
same_cell {X} a b a' b' i m n e ea eb h f g =
    let same : names_of a' ≡ names_of b' = ap names_of ea ∙ e ∙ ap names_of (sym eb) in
    let h' : i < length b' = omega (arith, h, ap length same, length-names a', length-names b') in
    ap (λ (k : Note X). k.cell) g ∙ sym (get_or-map (λ (k : Note X). k.cell) b' i n 0 h') ∙ ap (λ (l : List ℕ). get_or l i 0) (sym same) ∙ get_or-map (λ (k : Note X). k.cell) a' i m 0 h ∙ ap (λ (k : Note X). k.cell) (sym f)

pub agree_on : {X : Type 0} (a b a' b' : List (Note X)) (i : ℕ) (m n other : Note X) → a' ≡ a → b' ≡ b → m ≡ get_or a' i m → n ≡ get_or b' i n → other ≡ n → IfSome other.known (Agrees m.known) → AgreeBelow i a b → AgreeBelow (i + 1) a b
agree_on {X} a b a' b' i m n other ea eb e f is same = agree_more a b i m n (e ∙ ap (λ (l : List (Note X)). get_or l i m) ea) (f ∙ ap (λ (l : List (Note X)). get_or l i n) eb) (subst (λ (k : Note X). IfSome k.known (Agrees m.known)) is same)
