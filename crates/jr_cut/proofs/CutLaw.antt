-- There is one way to cut a scan's bytes.
use Rattle.std.proofs.Common.{◌≡◌, ◌≢◌, ℕ, suc, ◌+◌, ◌%◌, ◌<◌, ◌⊎◌, List, [], ◌∷◌, ◌++◌, length, replicate, map, refl, sym, ap, subst, ◌∙◌, inl, inr, append_assoc, length-append, arith}
use Rattle.std.specs.List.{flat_map, AllByRecursion}
use Rattle.std.proofs.lemmas.List.{append-nil}
use Rattle.jr_base.specs.declared.marker.TheConstants.{EOI, PREFIX, RST0, SOI}
use Rattle.jr_cut.specs.declared.scan_end.ScanEnd.{ScanEnd}
use Rattle.jr_cut.specs.declared.scan_end.ScanEnd.TheVariants.{EndOfImage, OtherMarker, OutOfStep, ExtraRestart, EndOfFile}
use Rattle.jr_cut.specs.Cut.{Spelling, IsSpelling, spelling, byte_spelled, IsRaw, marker, CodedSegment, with_markers, HasMarker, IsEnding, CutFrom, IsCut, IsStop}
use Rattle.jr_cut.specs.Cut.Spelling.{Plain, Stuffed}
use Rattle.jr_cut.proofs.Cuts.{run_same, run_end, stop_some}

pub zero_not : ◌≢◌ {A = ℕ} 0 PREFIX
zero_not e = omega arith

pub run_of : (more code : ℕ) (rest : List ℕ) → marker more code ++ rest ≡ replicate (suc more) PREFIX ++ (code ∷ rest)
run_of more code rest = ap (λ (x : List ℕ). PREFIX ∷ x) (append_assoc (replicate more PREFIX) (code ∷ []) rest)

pub same_spelling : (p q : Spelling) (x y : List ℕ) → IsSpelling p → IsSpelling q → spelling p ++ x ≡ spelling q ++ y → (p ≡ q) × (x ≡ y)
same_spelling (Plain a) (Plain b) x y hp hq e = let h : a ≡ b = cc in (ap Plain h, cc)
same_spelling (Plain a) (Stuffed n) x y hp hq e = let h : a ≡ PREFIX = cc in absurd (hp h)
same_spelling (Stuffed m) (Plain b) x y hp hq e = let h : b ≡ PREFIX = cc in absurd (hq h)
same_spelling (Stuffed m) (Stuffed n) x y hp hq e =
    let r = run_same (suc m) (suc n) 0 0 x y zero_not zero_not (sym (run_of m 0 x) ∙ e ∙ run_of n 0 y) in
    let h : m ≡ n = omega (arith, r.0) in
    (ap Stuffed h, r.2)

pub not_stop : (tail y : List ℕ) (p : Spelling) → IsStop tail → IsSpelling p → tail ≡ spelling p ++ y → ⊥
not_stop tail y (Plain b) stop hp e = omega (arith, (stop_some tail 0 b y stop e hp).0)
not_stop tail y (Stuffed m) stop hp e = (stop_some tail (suc m) 0 y stop (e ∙ run_of m 0 y) zero_not).1 refl

same_parts : (ps qs : List Spelling) (s t : List ℕ) → AllByRecursion IsSpelling ps → AllByRecursion IsSpelling qs → IsStop s → IsStop t → flat_map spelling ps ++ s ≡ flat_map spelling qs ++ t → (ps ≡ qs) × (s ≡ t)
same_parts [] [] s t hp hq hs ht e = (refl, e)
same_parts [] (q ∷ qs) s t hp hq hs ht e = absurd (not_stop s (flat_map spelling qs ++ t) q hs hq.0 (e ∙ append_assoc (spelling q) (flat_map spelling qs) t))
same_parts (p ∷ ps) [] s t hp hq hs ht e = absurd (not_stop t (flat_map spelling ps ++ s) p ht hp.0 (sym e ∙ append_assoc (spelling p) (flat_map spelling ps) s))
same_parts (p ∷ ps) (q ∷ qs) s t hp hq hs ht e =
    let first = same_spelling p q (flat_map spelling ps ++ s) (flat_map spelling qs ++ t) hp.0 hq.0 (sym (append_assoc (spelling p) (flat_map spelling ps) s) ∙ e ∙ append_assoc (spelling q) (flat_map spelling qs) t) in
    let others = same_parts ps qs s t hp.1 hq.1 hs ht first.1 in
    let a : p ≡ q = first.0 in
    let b : ps ≡ qs = others.0 in
    (cc, others.1)

same_raw : (r q a b s t : List ℕ) → IsRaw r a → IsRaw q b → IsStop s → IsStop t → r ++ s ≡ q ++ t → (a ≡ b) × (s ≡ t)
same_raw r q a b s t hr hq hs ht e =
    let p = same_parts hr.parts hq.parts s t hr.each hq.each hs ht (ap (λ (x : List ℕ). x ++ s) (sym hr.spelled) ∙ e ∙ ap (λ (x : List ℕ). x ++ t) hq.spelled) in
    (hr.means ∙ ap (map byte_spelled) p.0 ∙ sym hq.means, p.1)

pub marker_stop : (tail : List ℕ) (code : ℕ) → HasMarker tail code → code ≢ 0 → code ≢ PREFIX → IsStop tail
marker_stop tail code h not_0 not_prefix = record { more = suc h.0; rest = code ∷ h.1; spelled = h.2 ∙ run_of h.0 code h.1; stops = inr (omega arith, code, h.1, not_0, not_prefix, refl) }

pub ending_stop : (n k at : ℕ) (tail : List ℕ) (end : ScanEnd) → IsEnding n k at tail end → IsStop tail
ending_stop n k at tail EndOfFile h = record { more = h.0; rest = []; spelled = h.1 ∙ sym (append-nil (replicate h.0 PREFIX)); stops = inl refl }
ending_stop n k at tail EndOfImage h = marker_stop tail EOI h (λ e. omega arith) (λ e. omega arith)
ending_stop n k at tail (ExtraRestart o) h = marker_stop tail (RST0 + h.0) h.2 (λ e. omega arith) (λ e. omega (arith, h.1))
ending_stop n k at tail (OutOfStep f x o) h = marker_stop tail (RST0 + f) h.1 (λ e. omega arith) (λ e. omega (arith, h.0))
ending_stop n k at tail (OtherMarker c o) h = marker_stop tail c h.2 (λ e. omega (arith, h.0)) (λ e. omega (arith, h.1))

pub markers_stop : (n j k at : ℕ) (ps : List CodedSegment) (tail : List ℕ) (end : ScanEnd) → IsEnding n j at tail end → IsStop (with_markers k ps ++ tail)
markers_stop n j k at [] tail end h = ending_stop n j at tail end h
markers_stop n j k at (p ∷ ps) tail end h =
    marker_stop _ (RST0 + k % 8) (p.more, (p.raw ++ with_markers (suc k) ps) ++ tail, append_assoc (marker p.more (RST0 + k % 8)) (p.raw ++ with_markers (suc k) ps) tail) (λ e. omega arith) (λ e. omega arith)

pub same_marker : (tail : List ℕ) (a b : ℕ) → HasMarker tail a → HasMarker tail b → a ≢ PREFIX → b ≢ PREFIX → a ≡ b
same_marker tail a b f g ha hb = (run_same (suc f.0) (suc g.0) a b f.1 g.1 ha hb (sym (run_of f.0 a f.1) ∙ sym f.2 ∙ g.2 ∙ run_of g.0 b g.1)).1

no_marker : (tail : List ℕ) (a more : ℕ) → HasMarker tail a → a ≢ PREFIX → tail ≡ replicate more PREFIX → ⊥
no_marker tail a more f ha e = run_end (suc f.0) more a f.1 ha (sym (run_of f.0 a f.1) ∙ sym f.2 ∙ e)

other_end : (c : ℕ) → (c < RST0) ⊎ ((c ≡ SOI) ⊎ (EOI < c)) → EOI ≡ c → ⊥
other_end c (inl l) e = omega arith
other_end c (inr (inl q)) e = omega arith
other_end c (inr (inr g)) e = omega arith

other_restart : (c j : ℕ) → (c < RST0) ⊎ ((c ≡ SOI) ⊎ (EOI < c)) → j < 8 → RST0 + j ≡ c → ⊥
other_restart c j (inl l) h e = omega arith
other_restart c j (inr (inl q)) h e = omega arith
other_restart c j (inr (inr g)) h e = omega arith

-- an end of the scan is not a marker of the next number
pub ending_not_next : (n k at : ℕ) (tail : List ℕ) (end : ScanEnd) → IsEnding n k at tail end → HasMarker tail (RST0 + k % 8) → k + 1 < n → ⊥
ending_not_next n k at tail EndOfFile h m space = no_marker tail (RST0 + k % 8) h.0 m (λ e. omega arith) h.1
ending_not_next n k at tail EndOfImage h m space = let e = same_marker tail EOI (RST0 + k % 8) h m (λ e. omega arith) (λ e. omega arith) in omega (arith, e)
ending_not_next n k at tail (ExtraRestart o) h m space = omega (arith, h.3)
ending_not_next n k at tail (OutOfStep f x o) h m space =
    let e = same_marker tail (RST0 + f) (RST0 + k % 8) h.1 m (λ e. omega (arith, h.0)) (λ e. omega arith) in
    let same : f ≡ x = omega (arith, e, h.3) in h.4 same
ending_not_next n k at tail (OtherMarker c o) h m space = other_restart c (k % 8) h.3 (omega arith) (same_marker tail (RST0 + k % 8) c m h.2 (λ e. omega arith) (λ e. omega (arith, h.1)))

same_ending : (n k at : ℕ) (tail : List ℕ) (a b : ScanEnd) → IsEnding n k at tail a → IsEnding n k at tail b → a ≡ b
same_ending n k at tail EndOfFile EndOfFile h g = refl
same_ending n k at tail EndOfFile EndOfImage h g = absurd (no_marker tail EOI h.0 g (λ e. omega arith) h.1)
same_ending n k at tail EndOfFile (ExtraRestart o') h g = absurd (no_marker tail (RST0 + g.0) h.0 g.2 (λ e. omega (arith, g.1)) h.1)
same_ending n k at tail EndOfFile (OutOfStep f' x' o') h g = absurd (no_marker tail (RST0 + f') h.0 g.1 (λ e. omega (arith, g.0)) h.1)
same_ending n k at tail EndOfFile (OtherMarker c' o') h g = absurd (no_marker tail c' h.0 g.2 (λ e. omega (arith, g.1)) h.1)
same_ending n k at tail EndOfImage EndOfFile h g = absurd (no_marker tail EOI g.0 h (λ e. omega arith) g.1)
same_ending n k at tail EndOfImage EndOfImage h g = refl
same_ending n k at tail EndOfImage (ExtraRestart o') h g = let q = same_marker tail EOI (RST0 + g.0) h g.2 (λ e. omega arith) (λ e. omega (arith, g.1)) in absurd (omega (arith, q, g.1))
same_ending n k at tail EndOfImage (OutOfStep f' x' o') h g = let q = same_marker tail EOI (RST0 + f') h g.1 (λ e. omega arith) (λ e. omega (arith, g.0)) in absurd (omega (arith, q, g.0))
same_ending n k at tail EndOfImage (OtherMarker c' o') h g = absurd (other_end c' g.3 (same_marker tail EOI c' h g.2 (λ e. omega arith) (λ e. omega (arith, g.1))))
same_ending n k at tail (ExtraRestart o) EndOfFile h g = absurd (no_marker tail (RST0 + h.0) g.0 h.2 (λ e. omega (arith, h.1)) g.1)
same_ending n k at tail (ExtraRestart o) EndOfImage h g = let q = same_marker tail (RST0 + h.0) EOI h.2 g (λ e. omega (arith, h.1)) (λ e. omega arith) in absurd (omega (arith, q, h.1))
same_ending n k at tail (ExtraRestart o) (ExtraRestart o') h g = ap ExtraRestart (h.4 ∙ sym g.4)
same_ending n k at tail (ExtraRestart o) (OutOfStep f' x' o') h g = absurd (omega (arith, h.3, g.2))
same_ending n k at tail (ExtraRestart o) (OtherMarker c' o') h g = absurd (other_restart c' h.0 g.3 h.1 (same_marker tail (RST0 + h.0) c' h.2 g.2 (λ e. omega (arith, h.1)) (λ e. omega (arith, g.1))))
same_ending n k at tail (OutOfStep f x o) EndOfFile h g = absurd (no_marker tail (RST0 + f) g.0 h.1 (λ e. omega (arith, h.0)) g.1)
same_ending n k at tail (OutOfStep f x o) EndOfImage h g = let q = same_marker tail (RST0 + f) EOI h.1 g (λ e. omega (arith, h.0)) (λ e. omega arith) in absurd (omega (arith, q, h.0))
same_ending n k at tail (OutOfStep f x o) (ExtraRestart o') h g = absurd (omega (arith, h.2, g.3))
same_ending n k at tail (OutOfStep f x o) (OutOfStep f' x' o') h g = let q = same_marker tail (RST0 + f) (RST0 + f') h.1 g.1 (λ e. omega (arith, h.0)) (λ e. omega (arith, g.0)) in let a : f ≡ f' = omega (arith, q) in let b : x ≡ x' = h.3 ∙ sym g.3 in let c : o ≡ o' = h.5 ∙ sym g.5 in cc
same_ending n k at tail (OutOfStep f x o) (OtherMarker c' o') h g = absurd (other_restart c' f g.3 h.0 (same_marker tail (RST0 + f) c' h.1 g.2 (λ e. omega (arith, h.0)) (λ e. omega (arith, g.1))))
same_ending n k at tail (OtherMarker c o) EndOfFile h g = absurd (no_marker tail c g.0 h.2 (λ e. omega (arith, h.1)) g.1)
same_ending n k at tail (OtherMarker c o) EndOfImage h g = absurd (other_end c h.3 (sym (same_marker tail c EOI h.2 g (λ e. omega (arith, h.1)) (λ e. omega arith))))
same_ending n k at tail (OtherMarker c o) (ExtraRestart o') h g = absurd (other_restart c g.0 h.3 g.1 (sym (same_marker tail c (RST0 + g.0) h.2 g.2 (λ e. omega (arith, h.1)) (λ e. omega (arith, g.1)))))
same_ending n k at tail (OtherMarker c o) (OutOfStep f' x' o') h g = absurd (other_restart c f' h.3 g.0 (sym (same_marker tail c (RST0 + f') h.2 g.1 (λ e. omega (arith, h.1)) (λ e. omega (arith, g.0)))))
same_ending n k at tail (OtherMarker c o) (OtherMarker c' o') h g = let a : c ≡ c' = same_marker tail c c' h.2 g.2 (λ e. omega (arith, h.1)) (λ e. omega (arith, g.1)) in let b : o ≡ o' = h.4 ∙ sym g.4 in cc

same_segments : (n k j i o o' total : ℕ) (raw raw' first first' tail tail' : List ℕ) (ps qs : List CodedSegment) (a b : ScanEnd)
    → IsRaw raw first → IsRaw raw' first' → AllByRecursion (λ p. IsRaw p.raw p.bytes) ps → AllByRecursion (λ p. IsRaw p.raw p.bytes) qs
    → j ≡ k + length ps → i ≡ k + length qs → j < n → i < n → IsEnding n j o tail a → IsEnding n i o' tail' b → o + length tail ≡ total → o' + length tail' ≡ total
    → raw ++ (with_markers k ps ++ tail) ≡ raw' ++ (with_markers k qs ++ tail') → (first ∷ map (λ p. p.bytes) ps ≡ first' ∷ map (λ p. p.bytes) qs) × (a ≡ b)
same_segments n k j i o o' total raw raw' first first' tail tail' [] [] a b hr hr' hp hq ej ei lj li ha hb lo lo' e =
    let r = same_raw raw raw' first first' tail tail' hr hr' (ending_stop n j o tail a ha) (ending_stop n i o' tail' b hb) e in
    let tails : tail ≡ tail' = r.1 in
    let eo : o' ≡ o = omega (arith, lo, lo', ap length tails) in
    let ij : i ≡ j = omega arith in
    let b1 = subst (λ (q : ℕ). IsEnding n q o' tail' b) ij hb in
    let b2 = subst (λ (q : ℕ). IsEnding n j q tail' b) eo b1 in
    let b3 = subst (λ (t : List ℕ). IsEnding n j o t b) (sym tails) b2 in
    (ap (λ (x : List ℕ). x ∷ []) r.0, same_ending n j o tail a b ha b3)
same_segments n k j i o o' total raw raw' first first' tail tail' [] (q ∷ qs) a b hr hr' hp hq ej ei lj li ha hb lo lo' e =
    let r = same_raw raw raw' first first' tail _ hr hr' (ending_stop n j o tail a ha) (markers_stop n i k o' (q ∷ qs) tail' b hb) e in
    let jk : j ≡ k = omega arith in
    let h = subst (λ (x : ℕ). IsEnding n x o tail a) jk ha in
    absurd (ending_not_next n k o tail a h (q.more, (q.raw ++ with_markers (suc k) qs) ++ tail', r.1 ∙ append_assoc (marker q.more (RST0 + k % 8)) (q.raw ++ with_markers (suc k) qs) tail') (omega arith))
same_segments n k j i o o' total raw raw' first first' tail tail' (p ∷ ps) [] a b hr hr' hp hq ej ei lj li ha hb lo lo' e =
    let r = same_raw raw raw' first first' _ tail' hr hr' (markers_stop n j k o (p ∷ ps) tail a ha) (ending_stop n i o' tail' b hb) e in
    let ik : i ≡ k = omega arith in
    let h = subst (λ (x : ℕ). IsEnding n x o' tail' b) ik hb in
    absurd (ending_not_next n k o' tail' b h (p.more, (p.raw ++ with_markers (suc k) ps) ++ tail, sym r.1 ∙ append_assoc (marker p.more (RST0 + k % 8)) (p.raw ++ with_markers (suc k) ps) tail) (omega arith))
same_segments n k j i o o' total raw raw' first first' tail tail' (p ∷ ps) (q ∷ qs) a b hr hr' hp hq ej ei lj li ha hb lo lo' e =
    let r = same_raw raw raw' first first' _ _ hr hr' (markers_stop n j k o (p ∷ ps) tail a ha) (markers_stop n i k o' (q ∷ qs) tail' b hb) e in
    let c = RST0 + k % 8 in
    let not_ff : c ≢ PREFIX = λ z. omega arith in
    let left : replicate (suc p.more) PREFIX ++ (c ∷ ((p.raw ++ with_markers (suc k) ps) ++ tail)) ≡ replicate (suc q.more) PREFIX ++ (c ∷ ((q.raw ++ with_markers (suc k) qs) ++ tail'))
    = sym (run_of p.more c ((p.raw ++ with_markers (suc k) ps) ++ tail)) ∙ sym (append_assoc (marker p.more c) (p.raw ++ with_markers (suc k) ps) tail) ∙ r.1 ∙ append_assoc (marker q.more c) (q.raw ++ with_markers (suc k) qs) tail' ∙ run_of q.more c ((q.raw ++ with_markers (suc k) qs) ++ tail') in
    let m = run_same (suc p.more) (suc q.more) c c _ _ not_ff not_ff left in
    let whole : p.raw ++ (with_markers (suc k) ps ++ tail) ≡ q.raw ++ (with_markers (suc k) qs ++ tail') = sym (append_assoc p.raw (with_markers (suc k) ps) tail) ∙ m.2 ∙ append_assoc q.raw (with_markers (suc k) qs) tail' in
    let others = same_segments n (suc k) j i o o' total p.raw q.raw p.bytes q.bytes tail tail' ps qs a b hp.0 hq.0 hp.1 hq.1 (omega arith) (omega arith) lj li ha hb lo lo' whole in
    let x : first ≡ first' = r.0 in
    let y = others.0 in
    (ap (λ (z : List ℕ). z ∷ p.bytes ∷ map (λ (w : CodedSegment). w.bytes) ps) x ∙ ap (λ (zs : List (List ℕ)). first' ∷ zs) y, others.1)

-- the offset of the tail and its length are those of all the bytes
total_of : (n k at : ℕ) (bytes : List ℕ) (datas : List (List ℕ)) (end : ScanEnd) (c : CutFrom n k at bytes datas end) → at + length (c.raw ++ with_markers k c.segments) + length c.tail ≡ at + length bytes
total_of n k at bytes datas end c = omega (arith, ap length c.spelled, length-append c.raw (with_markers k c.segments), length-append c.raw (with_markers k c.segments ++ c.tail), length-append (with_markers k c.segments) c.tail)

pub one_cut : (n at : ℕ) (bytes : List ℕ) (xs ys : List (List ℕ)) (a b : ScanEnd) → IsCut n at bytes xs a → IsCut n at bytes ys b → (xs ≡ ys) × (a ≡ b)
one_cut n at bytes xs ys a b c d =
    let s = same_segments n 0 (0 + length c.segments) (0 + length d.segments) _ _ (at + length bytes) c.raw d.raw c.first d.first c.tail d.tail c.segments d.segments a b c.is_raw d.is_raw c.each d.each refl refl c.few d.few c.ends d.ends (total_of n 0 at bytes xs a c) (total_of n 0 at bytes ys b d) (sym c.spelled ∙ d.spelled) in
    (c.means ∙ s.0 ∙ sym d.means, s.1)
