-- What is left of a block after its first items.
use Rattle.std.proofs.Common.{◌≡◌, ℕ, zero, suc, ◌+◌, ◌-◌, ◌<◌, ◌≤◌, Bool, List, [], ◌∷◌, ◌++◌, length, replicate, set, refl, sym, ap, subst, ◌∙◌, inl, inr, append_assoc, length-append, arith}
use Rattle.std.specs.Prelude.{ℤ, pos}
use Rattle.std.specs.List.{flat_map, AllByRecursion}
use Rattle.std.proofs.lemmas.List.{append-nil}
use Rattle.std.proofs.Math.ListN.{length-replicate}
use Rattle.jr_mcu.proofs.Words.{IsPrefixFree}
use Rattle.jr_code.specs.Code.{Table}
use Rattle.jr_mcu.specs.Block.{AcCode, IsAcCode, code_bits, entries, IsEnd, OthersAt}
use Rattle.jr_code.specs.Bits.{value}
use Rattle.jr_mcu.specs.Block.AcCode.{ZeroRun, RunAndSize}
use Rattle.jr_mcu.specs.Step.{TakesAcCode, TakesEnd, HasNoStep, TakesOthers, HasNoOthers}
use Rattle.jr_mcu.proofs.AcCodes.{same_code, not_end}

-- bits begin with what is left of a block, after its other coefficients `done`; rest follows it
pub record Goes (ac : Table) (done others : List ℤ) (bits rest : List Bool) : Type 0 where
  pub items : List AcCode
  pub tail : List Bool
  pub each : AllByRecursion (IsAcCode ac) items
  pub end : IsEnd ac (length done + length (flat_map entries items)) tail
  pub spelled : bits ≡ flat_map code_bits items ++ (tail ++ rest)
  pub values : others ≡ done ++ (flat_map entries items ++ replicate (63 - (length done + length (flat_map entries items))) (pos 0))

pub entries_some : (ac : Table) (i : AcCode) → IsAcCode ac i → 0 < length (entries i)
entries_some ac (ZeroRun w) h = omega arith
entries_some ac (RunAndSize r s w x) h = omega (arith, length-append (replicate r (pos 0)) (value x ∷ []))

pub step_back : (ac : Table) (i : AcCode) (done others : List ℤ) (bits rest : List Bool) → IsAcCode ac i → Goes ac (done ++ entries i) others bits rest → Goes ac done others (code_bits i ++ bits) rest
step_back ac i done others bits rest is g =
    let n : length (done ++ entries i) + length (flat_map entries g.items) ≡ length done + length (entries i ++ flat_map entries g.items)
    = omega (arith, length-append done (entries i), length-append (entries i) (flat_map entries g.items)) in
    record {
      items = i ∷ g.items;
      tail = g.tail;
      each = (is, g.each);
      end = subst (λ (k : ℕ). IsEnd ac k g.tail) n g.end;
      spelled = ap (λ (b : List Bool). code_bits i ++ b) g.spelled ∙ sym (append_assoc (code_bits i) (flat_map code_bits g.items) (g.tail ++ rest));
      values = g.values ∙ append_assoc done (entries i) _ ∙ ap (λ (x : List ℤ). done ++ x) (sym (append_assoc (entries i) (flat_map entries g.items) _)) ∙ ap (λ (k : ℕ). done ++ ((entries i ++ flat_map entries g.items) ++ replicate (63 - k) (pos 0))) n;
    }

step_on_at : (ac : Table) → IsPrefixFree ac → (i : AcCode) (done others : List ℤ) (bits rest : List Bool) → IsAcCode ac i → length done ≤ 62
    → (items : List AcCode) (tail : List Bool) → AllByRecursion (IsAcCode ac) items → IsEnd ac (length done + length (flat_map entries items)) tail
    → code_bits i ++ bits ≡ flat_map code_bits items ++ (tail ++ rest)
    → others ≡ done ++ (flat_map entries items ++ replicate (63 - (length done + length (flat_map entries items))) (pos 0))
    → Goes ac (done ++ entries i) others bits rest
step_on_at ac free i done others bits rest is space [] tail each (inl full) spelled values = absurd (omega (arith, full.0))
step_on_at ac free i done others bits rest is space [] tail each (inr end) spelled values = absurd (not_end ac free i tail bits rest is end.1 spelled)
step_on_at ac free i done others bits rest is space (j ∷ js) tail each end spelled values =
    let same = same_code ac free i j bits (flat_map code_bits js ++ (tail ++ rest)) is each.0 (spelled ∙ append_assoc (code_bits j) (flat_map code_bits js) (tail ++ rest)) in
    let n : length done + length (entries j ++ flat_map entries js) ≡ length (done ++ entries j) + length (flat_map entries js)
    = omega (arith, length-append done (entries j), length-append (entries j) (flat_map entries js)) in
    let there : Goes ac (done ++ entries j) others bits rest = record {
      items = js;
      tail = tail;
      each = each.1;
      end = subst (λ (k : ℕ). IsEnd ac k tail) n end;
      spelled = same.1;
      values = values ∙ ap (λ (x : List ℤ). done ++ x) (append_assoc (entries j) (flat_map entries js) _) ∙ sym (append_assoc done (entries j) _) ∙ ap (λ (k : ℕ). (done ++ entries j) ++ (flat_map entries js ++ replicate (63 - k) (pos 0))) n;
    } in
    subst (λ (k : AcCode). Goes ac (done ++ entries k) others bits rest) (sym same.0) there

pub step_on : (ac : Table) → IsPrefixFree ac → (i : AcCode) (done others : List ℤ) (bits rest : List Bool) → IsAcCode ac i → length done ≤ 62 → Goes ac done others (code_bits i ++ bits) rest → Goes ac (done ++ entries i) others bits rest
step_on ac free i done others bits rest is space g = step_on_at ac free i done others bits rest is space g.items g.tail g.each g.end g.spelled g.values

-- a block is what is left of it if nothing is done
pub of_others : (ac : Table) (others : List ℤ) (old bits rest : List Bool) → OthersAt ac others bits → old ≡ bits ++ rest → Goes ac [] others old rest
of_others ac others old bits rest o split =
    let z : 0 + length (flat_map entries o.items) ≡ length (flat_map entries o.items) = omega arith in
    record {
      items = o.items;
      tail = o.tail;
      each = o.each;
      end = subst (λ (k : ℕ). IsEnd ac k o.tail) (sym z) o.end;
      spelled = split ∙ ap (λ (b : List Bool). b ++ rest) o.spelled ∙ append_assoc (flat_map code_bits o.items) o.tail rest;
      values = o.values ∙ ap (λ (k : ℕ). flat_map entries o.items ++ replicate (63 - k) (pos 0)) (sym z);
    }

pub to_others : (ac : Table) (others : List ℤ) (old rest : List Bool) → Goes ac [] others old rest → TakesOthers ac others old rest
to_others ac others old rest g =
    let z : 0 + length (flat_map entries g.items) ≡ length (flat_map entries g.items) = omega arith in
    record {
      bits = flat_map code_bits g.items ++ g.tail;
      is = record {
        items = g.items;
        tail = g.tail;
        each = g.each;
        end = subst (λ (k : ℕ). IsEnd ac k g.tail) z g.end;
        spelled = refl;
        values = g.values ∙ ap (λ (k : ℕ). flat_map entries g.items ++ replicate (63 - k) (pos 0)) z;
      };
      split = g.spelled ∙ sym (append_assoc (flat_map code_bits g.items) g.tail rest);
    }

-- the reader's progress in the block
pub record IsPartialCut (ac : Table) (first : ℤ) (old bits : List Bool) (block : List ℤ) (index : ℕ) : Type 0 where
  pub done : List ℤ
  pub count : length done + 1 ≡ index
  pub within : index ≤ 64
  pub blocks : block ≡ first ∷ (done ++ replicate (64 - index) (pos 0))
  pub on : (others : List ℤ) (rest : List Bool) → Goes ac [] others old rest → Goes ac done others bits rest
  pub back : (others : List ℤ) (rest : List Bool) → Goes ac done others bits rest → Goes ac [] others old rest

pub partial_none : (ac : Table) (first : ℤ) (bits : List Bool) → IsPartialCut ac first bits bits (first ∷ replicate 63 (pos 0)) 1
partial_none ac first bits = record { done = []; count = refl; within = omega arith; blocks = refl; on = λ others rest g. g; back = λ others rest g. g }

-- one more code is read
pub partial_more : (ac : Table) → IsPrefixFree ac → (first : ℤ) (old bits new : List Bool) (block block' made : List ℤ) (index place' : ℕ)
    → (s : IsPartialCut ac first old bits block index) → index < 64 → TakesAcCode ac made bits new
    → place' ≡ index + length made → place' ≤ 64
    → block' ≡ first ∷ ((s.done ++ made) ++ replicate (64 - place') (pos 0))
    → IsPartialCut ac first old new block' place'
partial_more ac free first old bits new block block' made index place' s space t next fits written =
    let e = t.returned in
    record {
      done = s.done ++ made;
      count = omega (arith, length-append s.done made, s.count, next);
      within = fits;
      blocks = written;
      on = λ others rest g. subst (λ (m : List ℤ). Goes ac (s.done ++ m) others new rest) e (step_on ac free t.code s.done others new rest t.is (omega (arith, s.count)) (subst (λ (b : List Bool). Goes ac s.done others b rest) t.split (s.on others rest g)));
      back = λ others rest g. s.back others rest (subst (λ (b : List Bool). Goes ac s.done others b rest) (sym t.split) (step_back ac t.code s.done others new rest t.is (subst (λ (m : List ℤ). Goes ac (s.done ++ m) others new rest) (sym e) g)));
    }

-- all coefficients are there
pub partial_all : (ac : Table) (first : ℤ) (old bits : List Bool) (block : List ℤ) (index : ℕ) → IsPartialCut ac first old bits block index → 64 ≤ index
    → (others : List ℤ) × (block ≡ first ∷ others) × TakesOthers ac others old bits
partial_all ac first old bits block index s all =
    let n : 64 - index ≡ 0 = omega arith in
    let m : length s.done + 0 ≡ 63 = omega (arith, s.count, s.within) in
    let k : 63 - (length s.done + 0) ≡ 0 = omega arith in
    let b : block ≡ first ∷ s.done = s.blocks ∙ rw n (ap (λ (x : List ℤ). first ∷ x) (append-nil s.done)) in
    let g : Goes ac s.done s.done bits bits = record { items = []; tail = []; each = tt; end = inl (m, refl); spelled = refl; values = sym (append-nil s.done) ∙ ap (λ (q : ℕ). s.done ++ replicate q (pos 0)) (sym k) } in
    (s.done, b, to_others ac s.done old bits (s.back s.done bits g))

-- a code of 00 says that the others are 0
pub partial_end : (ac : Table) (first : ℤ) (old bits new : List Bool) (block : List ℤ) (index : ℕ) → IsPartialCut ac first old bits block index → index < 64 → TakesEnd ac bits new
    → (others : List ℤ) × (block ≡ first ∷ others) × TakesOthers ac others old new
partial_end ac first old bits new block index s space t =
    let others = s.done ++ replicate (64 - index) (pos 0) in
    let k : 63 - (length s.done + 0) ≡ 64 - index = omega (arith, s.count) in
    let g : Goes ac s.done others bits new = record { items = []; tail = t.word; each = tt; end = inr (omega (arith, s.count), t.is); spelled = t.split; values = ap (λ (q : ℕ). s.done ++ replicate q (pos 0)) (sym k) } in
    (others, s.blocks, to_others ac others old new (s.back others new g))

no_goes_at : (ac : Table) (done others : List ℤ) (bits rest : List Bool) → length done ≤ 62 → HasNoStep ac bits → (items : List AcCode) (tail : List Bool) → AllByRecursion (IsAcCode ac) items → IsEnd ac (length done + length (flat_map entries items)) tail → bits ≡ flat_map code_bits items ++ (tail ++ rest) → ⊥
no_goes_at ac done others bits rest space none [] tail each (inl full) spelled = omega (arith, full.0)
no_goes_at ac done others bits rest space none [] tail each (inr end) spelled = none.no_end tail rest end.1 spelled
no_goes_at ac done others bits rest space none (i ∷ is) tail each end spelled = none.no_code i (flat_map code_bits is ++ (tail ++ rest)) each.0 (spelled ∙ append_assoc (code_bits i) (flat_map code_bits is) (tail ++ rest))

-- if no step begins what is left, the bits do not begin with a block
pub partial_stuck : (ac : Table) (first : ℤ) (old bits : List Bool) (block : List ℤ) (index : ℕ) → IsPartialCut ac first old bits block index → index < 64 → HasNoStep ac bits → HasNoOthers ac old
partial_stuck ac first old bits block index s space none others b rest o split =
    let g = s.on others rest (of_others ac others old b rest o split) in
    no_goes_at ac s.done others bits rest (omega (arith, s.count)) none g.items g.tail g.each g.end g.spelled

pub end_within : (ac : Table) (n : ℕ) (tail : List Bool) → IsEnd ac n tail → n ≤ 63
end_within ac n tail (inl full) = omega (arith, full.0)
end_within ac n tail (inr end) = omega (arith, end.0)

-- if the next code advances past the last position, the bits do not begin with a block
pub partial_over : (ac : Table) → IsPrefixFree ac → (first : ℤ) (old bits new : List Bool) (block made : List ℤ) (index : ℕ) → IsPartialCut ac first old bits block index → index < 64 → TakesAcCode ac made bits new → 64 < index + length made → HasNoOthers ac old
partial_over ac free first old bits new block made index s space t over others b rest o split =
    let g = s.on others rest (of_others ac others old b rest o split) in
    let h = step_on ac free t.code s.done others new rest t.is (omega (arith, s.count)) (subst (λ (x : List Bool). Goes ac s.done others x rest) t.split g) in
    omega (arith, end_within ac _ h.tail h.end, length-append s.done (entries t.code), ap length t.returned, s.count)

-- a write after a run of zeros
pub set_at : (done : List ℤ) (n run : ℕ) (v : ℤ) → run < n → set (done ++ replicate n (pos 0)) (length done + run) v ≡ (done ++ (replicate run (pos 0) ++ v ∷ [])) ++ replicate (n - (run + 1)) (pos 0)
set_at [] zero run v h = absurd (omega arith)
set_at [] (suc n) zero v h = let e : n ≡ suc n - (0 + 1) = omega arith in ap (λ (k : ℕ). v ∷ replicate k (pos 0)) e
set_at [] (suc n) (suc run) v h =
    let e : 0 + suc run ≡ suc (0 + run) = omega arith in
    let k : n - (run + 1) ≡ suc n - (suc run + 1) = omega arith in
    let lt : run < n = omega arith in
    ap (λ (q : ℕ). set (pos 0 ∷ replicate n (pos 0)) q v) e ∙ ap (λ (x : List ℤ). pos 0 ∷ x) (set_at [] n run v lt) ∙ ap (λ (q : ℕ). pos 0 ∷ ((replicate run (pos 0) ++ v ∷ []) ++ replicate q (pos 0))) k
set_at (x ∷ done) n run v h =
    let e : suc (length done) + run ≡ suc (length done + run) = omega arith in
    ap (λ (q : ℕ). set (x ∷ (done ++ replicate n (pos 0))) q v) e ∙ ap (λ (y : List ℤ). x ∷ y) (set_at done n run v h)

-- the block after an item's value is written
pub block_written : (first v : ℤ) (done block : List ℤ) (index run at : ℕ) → block ≡ first ∷ (done ++ replicate (64 - index) (pos 0)) → length done + 1 ≡ index → at ≡ index + run → at < 64
    → set block at v ≡ first ∷ ((done ++ (replicate run (pos 0) ++ v ∷ [])) ++ replicate (64 - (at + 1)) (pos 0))
block_written first v done block index run at is count e h =
    let a : at ≡ suc (length done + run) = omega arith in
    let k : (64 - index) - (run + 1) ≡ 64 - (at + 1) = omega arith in
    let lt : run < 64 - index = omega arith in
    ap (λ (b : List ℤ). set b at v) is ∙ ap (λ (q : ℕ). set (first ∷ (done ++ replicate (64 - index) (pos 0))) q v) a ∙ ap (λ (x : List ℤ). first ∷ x) (set_at done (64 - index) run v lt) ∙ ap (λ (q : ℕ). first ∷ ((done ++ (replicate run (pos 0) ++ v ∷ [])) ++ replicate q (pos 0))) k

pub partial_coef : (ac : Table) → IsPrefixFree ac → (first v : ℤ) (old bits new : List Bool) (block block' : List ℤ) (index run at place' : ℕ)
    → IsPartialCut ac first old bits block index → index < 64 → TakesAcCode ac (replicate run (pos 0) ++ v ∷ []) bits new → at ≡ index + run → at ≤ 63 → block' ≡ set block at v → place' ≡ at + 1 → IsPartialCut ac first old new block' place'
partial_coef ac free first v old bits new block block' index run at place' s space t is fits wrote next =
    let n : length (replicate run (pos 0) ++ v ∷ []) ≡ run + 1 = omega (arith, length-append (replicate run (pos 0)) (v ∷ []), length-replicate run (pos 0)) in
    let written : block' ≡ first ∷ ((s.done ++ (replicate run (pos 0) ++ v ∷ [])) ++ replicate (64 - place') (pos 0))
    = wrote ∙ block_written first v s.done block index run at s.blocks s.count is (omega (arith, fits)) ∙ ap (λ (q : ℕ). first ∷ ((s.done ++ (replicate run (pos 0) ++ v ∷ [])) ++ replicate (64 - q) (pos 0))) (sym next) in
    partial_more ac free first old bits new block block' (replicate run (pos 0) ++ v ∷ []) index place' s space t (omega (arith, n, is, next)) (omega (arith, next, fits)) written
