-- A reader that takes over MCUs of a speculative read.
use Rattle.std.proofs.Common.{◌≡◌, ℕ, ◌+◌, ◌-◌, ◌*◌, ◌<◌, ◌≤◌, List, [], ◌++◌, length, take, drop, append_assoc, length-append, refl, sym, ap, subst, ◌∙◌, inl, inr, arith}
use Rattle.std.specs.Prelude.{ℤ}
use Rattle.std.proofs.lemmas.List.{append-nil, length-take-le, take-append-le}
use Rattle.std.proofs.lemmas.List.Elements.{All-append}
use Rattle.std.proofs.lemmas.Slice.{take-put_mid_below}
use Rattle.std.proofs.Math.Seq.{drop-append_seam, take-add}
use borrow.Rule.Slice.PartMut.{put_mid, post_of}
use Rattle.std.specs.List.{All}
use Rattle.jr_head.specs.Geometry.{IsValid, order_of}
use Rattle.jr_scan.specs.declared.place.Place.{Place}
use Rattle.jr_scan.specs.declared.place.RunEnd.TheVariants.{AllRead}
use Rattle.jr_mcu.specs.Block.{IsInRange}
use Rattle.jr_scan.specs.IntervalValue.{IntervalValue}
use Rattle.jr_scan.specs.Run.{RunOf, run_from, IsRun}
use Rattle.jr_scan.specs.McuReader.{McuReaderValue, HasRead, HasEnded, per_mcu}
use Rattle.jr_scan.proofs.McuReaders.{no_first, passed_on, read_on}

-- a reader, k MCUs later
abbrev gone : McuReaderValue → ℕ → Place → McuReaderValue
gone r k to = record { run = r.run; mcu = r.mcu + k; place = to }

-- the run of the speculative read's interval is one of the reader's
pub own_run : (r : McuReaderValue) (i : IntervalValue) (p to : Place) (k : ℕ) (ys : List (List ℤ)) → i ≡ r.run.interval → p ≡ r.place → IsRun (run_from i p k) ys to AllRead → IsRun (run_from r.run.interval r.place k) ys to AllRead
own_run r i p to k ys same at run = subst (λ (j : IntervalValue). IsRun (run_from j r.place k) ys to AllRead) same (subst (λ (q : Place). IsRun (run_from i q k) ys to AllRead) at run)

pub gone_read : (r new : McuReaderValue) (k : ℕ) (to : Place) (zs ys : List (List ℤ)) → IsValid r.run.interval.head → new ≡ gone r k to → r.mcu + k ≤ r.run.mcus → IsRun (run_from r.run.interval r.place k) ys to AllRead → HasRead r zs → HasRead new (zs ++ ys)
gone_read r new k to zs ys valid is few run s = subst (λ (x : McuReaderValue). HasRead x (zs ++ ys)) (sym is) (read_on r (gone r k to) k zs ys valid refl refl few run s)

pub gone_passed : (r new : McuReaderValue) (k : ℕ) (to : Place) (zs ys : List (List ℤ)) → IsValid r.run.interval.head → new ≡ gone r k to → r.mcu + k ≤ r.run.mcus → IsRun (run_from r.run.interval r.place k) ys to AllRead → HasRead r zs
    → (ys : List (List ℤ)) × (length ys ≡ k * per_mcu r) × All IsInRange ys × HasRead new (zs ++ ys)
gone_passed r new k to zs ys valid is few run s = passed_on r (gone r k to) new k zs ys valid refl refl few run is s

-- none follow a reader that has ended
pub ended_stays : (r new : McuReaderValue) (k : ℕ) (to : Place) (ys : List (List ℤ)) → 0 < k → r.mcu + k ≤ r.run.mcus → IsRun (run_from r.run.interval r.place k) ys to AllRead → HasEnded r → new ≡ r
ended_stays r new k to ys some few run (inl full) = absurd (omega (arith, some, few, full))
ended_stays r new k to ys some few run (inr none) = let first = no_first r.run.interval r.place to k ys none run in absurd (omega (arith, some, first))

-- the first elements of a slice after a write: those before the part, and the part's first ones
take_grown : (a k n : ℕ) (xs ys : List (List ℤ)) → n ≤ length ys → a ≤ length xs → take (a + n) (put_mid a k xs ys) ≡ take a xs ++ take n ys
take_grown a k n xs ys fits le =
    let rest = ys ++ post_of a k xs in
    let after : drop a (put_mid a k xs ys) ≡ rest = ap (λ (j : ℕ). drop j (take a xs ++ rest)) (sym (length-take-le a xs le)) ∙ drop-append_seam (take a xs) rest in
    take-add a n (put_mid a k xs ys)
    ∙ ap (λ (l : List (List ℤ)). l ++ take n (drop a (put_mid a k xs ys))) (take-put_mid_below a k xs ys a (omega arith) le)
    ∙ ap (λ (l : List (List ℤ)). take a xs ++ take n l) after
    ∙ ap (λ (l : List (List ℤ)). take a xs ++ l) (take-append-le n ys (post_of a k xs) fits)

-- the first blocks of a slice are those of n MCUs, from a reader to another
pub record HaveRead (r new : McuReaderValue) (n : ℕ) (blocks : List (List ℤ)) : Type 0 where
  pub read : (zs : List (List ℤ)) → HasRead r zs → HasRead new (zs ++ take (n * per_mcu r) blocks)
  pub in_range : All IsInRange (take (n * per_mcu r) blocks)

pub read_both : (r mid new : McuReaderValue) (done some per : ℕ) (xs ys : List (List ℤ)) → mid.run ≡ r.run → per ≡ per_mcu r → some * per_mcu mid ≤ length ys → done * per_mcu r ≤ length xs
    → HaveRead r mid done xs → HaveRead mid new some ys → HaveRead r new (done + some) (put_mid (done * per) (length xs - done * per) xs ys)
read_both r mid new done some per xs ys run size fits space first second =
    let same : per_mcu mid ≡ per_mcu r = ap (λ (o : RunOf). length (order_of o.interval.head)) run in
    let a = done * per in
    let all = put_mid a (length xs - a) xs ys in
    let left = take (done * per_mcu r) xs in
    let right = take (some * per_mcu mid) ys in
    let at : done * per ≡ done * per_mcu r = ap (λ (n : ℕ). done * n) size in
    let on : some * per_mcu mid ≡ some * per_mcu r = ap (λ (n : ℕ). some * n) same in
    let sum : (done + some) * per_mcu r ≡ a + some * per_mcu mid = omega (arith, at, on) in
    let e : take ((done + some) * per_mcu r) all ≡ left ++ right
    = ap (λ (n : ℕ). take n all) sum ∙ take_grown a (length xs - a) (some * per_mcu mid) xs ys fits (omega (arith, at, space)) ∙ ap (λ (n : ℕ). take n xs ++ right) at in
    record {
      read = λ zs s. subst (HasRead new) (append_assoc zs left right ∙ ap (λ (l : List (List ℤ)). zs ++ l) (sym e)) (second.read (zs ++ left) (first.read zs s));
      in_range = subst (All IsInRange) (sym e) (All-append IsInRange left right first.in_range second.in_range);
    }

-- some blocks of n MCUs are between a reader and another
abbrev pub HavePassed : McuReaderValue → McuReaderValue → ℕ → Type 0
HavePassed r new n = (zs : List (List ℤ)) → HasRead r zs → (ys : List (List ℤ)) × (length ys ≡ n * per_mcu r) × All IsInRange ys × HasRead new (zs ++ ys)

pub passed_none : (r : McuReaderValue) → HavePassed r r 0
passed_none r zs s = ([], omega arith, λ k d lt. absurd (omega (arith, lt)), subst (HasRead r) (sym (append-nil zs)) s)

pub passed_both : (r mid new : McuReaderValue) (done some : ℕ) → mid.run ≡ r.run → HavePassed r mid done → HavePassed mid new some → HavePassed r new (done + some)
passed_both r mid new done some run first second zs s =
    let same : per_mcu mid ≡ per_mcu r = ap (λ (o : RunOf). length (order_of o.interval.head)) run in
    let on : some * per_mcu mid ≡ some * per_mcu r = ap (λ (n : ℕ). some * n) same in
    let sum : (done + some) * per_mcu r ≡ done * per_mcu r + some * per_mcu r = omega arith in
    let a = first zs s in
    let b = second (zs ++ a.0) a.3 in
    (a.0 ++ b.0, omega (arith, length-append a.0 b.0, a.1, b.1, sum, on), All-append IsInRange a.0 b.0 a.2 b.2, subst (HasRead new) (append_assoc zs a.0 b.0) b.3)

pub stays_both : (r mid new : McuReaderValue) → (HasEnded r → mid ≡ r) → (HasEnded mid → new ≡ mid) → HasEnded r → new ≡ r
stays_both r mid new first second ended = let same = first ended in second (subst HasEnded (sym same) ended) ∙ same
