-- More bytes keep the header, and the data of each interval.
use Rattle.std.proofs.Common.{◌≡◌, ◌≢◌, ℕ, zero, suc, ◌-◌, ◌<◌, ◌≤◌, ◌⊎◌, List, [], ◌∷◌, ◌++◌, length, replicate, drop, get_or, refl, sym, ap, subst, ◌∙◌, inl, inr, length-append, arith}
use Rattle.std.proofs.lemmas.List.{append-nil, drop-append-le}
use Rattle.jr_arrival.specs.PartialRows.{GrowsInto}
use Rattle.jr_head.specs.HeadValue.{HeadValue}
use Rattle.jr_head.specs.Heads.{HeadOf, HasOneHead, HasOneFault}
use Rattle.jr_head.proofs.OneHeadLaws.{one_head_or_one_fault}
use Rattle.jr_cut.specs.declared.scan_end.ScanEnd.TheVariants.{EndOfFile}
use Rattle.jr_cut.specs.Cut.{IsCut, Cutting}
use Rattle.jr_scan.specs.PartialScan.{PartialScanValue, HasCome}
use Rattle.jr_scan.specs.IntervalValue.{IntervalValue}
use Rattle.jr_scan.specs.ScanValue.{ScanValue, IsScanOf, interval_of, intervals_of, mcus_in}
use Rattle.jr_arrival.proofs.ScanIntervals.{count_is, none_in}
use Rattle.jr_arrival.specs.Arrival.{CanBecome}
use Rattle.jr_arrival.specs.LongerFile.{GrowsTo, HasScan, IsOver, KeepsScan}
use Rattle.jr_arrival.proofs.HeadsStay.{head_is_final}
use Rattle.jr_arrival.proofs.CutsGoOn.{cut_is_final}

-- ---- the header

one_head : (file : List ℕ) (g h : HeadValue) → HasOneHead file ⊎ HasOneFault file → HeadOf file g → HeadOf file h → g ≡ h
one_head file g h (inl one) a b = one.only g a ∙ sym (one.only h b)
one_head file g h (inr fault) a b = absurd (fault.no_head g a)

pub same_head : (bytes file : List ℕ) (g h : HeadValue) → CanBecome bytes file → HeadOf bytes g → HeadOf file h → h ≡ g
same_head bytes file g h can a b = one_head file h g (one_head_or_one_fault file can.are_bytes) b (head_is_final bytes file g can a)

-- ---- the intervals' data

-- after the segments there is nothing
get_padded : (ds : List (List ℕ)) (m i : ℕ) → get_or (ds ++ replicate m []) i [] ≡ get_or ds i []
get_padded [] m i = none_in m i
get_padded (d ∷ ds) m zero = refl
get_padded (d ∷ ds) m (suc i) = get_padded ds m i

pub data_at : (s : ScanValue) (segments : List (List ℕ)) (m i : ℕ) → s.intervals ≡ segments ++ replicate m [] → get_or s.intervals i [] ≡ get_or segments i []
data_at s segments m i e = ap (λ (l : List (List ℕ)). get_or l i []) e ∙ get_padded segments m i

get_more : (ended : List (List ℕ)) (last more : List ℕ) (others : List (List ℕ)) (i : ℕ) → (rest : List ℕ) × (get_or (ended ++ (last ++ more) ∷ others) i [] ≡ get_or (ended ++ last ∷ []) i [] ++ rest)
get_more [] last more others zero = (more, refl)
get_more [] last more others (suc i) = (get_or others i [], refl)
get_more (e ∷ ended) last more others zero = ([], sym (append-nil e))
get_more (e ∷ ended) last more others (suc i) = get_more ended last more others i

get_ended : (ended : List (List ℕ)) (last last' : List ℕ) (others : List (List ℕ)) (i : ℕ) → i < length ended → get_or (ended ++ last' ∷ others) i [] ≡ get_or (ended ++ last ∷ []) i []
get_ended [] last last' others i lt = absurd (omega (arith, lt))
get_ended (e ∷ ended) last last' others zero lt = refl
get_ended (e ∷ ended) last last' others (suc i) lt = get_ended ended last last' others i (omega (arith, lt))

-- an interval of a scan with the same header, by its data
pub interval_is : (s t : ScanValue) (i : ℕ) (bytes : List ℕ) → t.head ≡ s.head → get_or t.intervals i [] ≡ bytes → interval_of t i ≡ record { number = i; mcus = mcus_in s.head i; bytes = bytes; head = s.head }
interval_is s t i bytes h d =
    ap (λ (g : HeadValue). (let v : IntervalValue = record { number = i; mcus = mcus_in g i; bytes = get_or t.intervals i []; head = g } in v)) h
    ∙ ap (λ (b : List ℕ). (let v : IntervalValue = record { number = i; mcus = mcus_in s.head i; bytes = b; head = s.head } in v)) d

-- the scans of bytes, and of more
module _ (bytes more : List ℕ) (s t : ScanValue) (heads : t.head ≡ s.head) (starts : s.head.scan_at ≤ length bytes) (a : IsScanOf bytes s) (b : IsScanOf (bytes ++ more) t) where
  abbrev h : HeadValue
  h = s.head

  -- what both are cut from
  past : drop h.scan_at (bytes ++ more) ≡ drop h.scan_at bytes ++ more
  past = drop-append-le h.scan_at bytes more starts

  cut_there : IsCut (intervals_of h) h.scan_at (drop h.scan_at bytes ++ more) b.segments t.ended
  cut_there =
      subst (λ (f : List ℕ). IsCut (intervals_of h) h.scan_at f b.segments t.ended) past
      (subst (λ (g : HeadValue). IsCut (intervals_of g) g.scan_at (drop g.scan_at (bytes ++ more)) b.segments t.ended) heads b.cut)

  abbrev before : IsScanOf bytes s → Cutting (intervals_of h) h.scan_at (drop h.scan_at bytes)
  before c = record { datas = c.segments; end = s.ended; is = c.cut }

  abbrev after : Cutting (intervals_of h) h.scan_at (drop h.scan_at bytes ++ more)
  after = record { datas = b.segments; end = t.ended; is = cut_there }

  grown : (c : IsScanOf bytes s) → GrowsTo c.segments b.segments
  grown c = (cut_is_final (intervals_of h) h.scan_at (drop h.scan_at bytes) more (before c) after).0

  finished : (c : IsScanOf bytes s) → s.ended ≢ EndOfFile → (b.segments ≡ c.segments) × (t.ended ≡ s.ended)
  finished c n = (cut_is_final (intervals_of h) h.scan_at (drop h.scan_at bytes) more (before c) after).1 n

  so_far : (c : IsScanOf bytes s) (i : ℕ) → get_or s.intervals i [] ≡ get_or c.segments i []
  so_far c i = data_at s c.segments (intervals_of h - length c.segments) i c.intervals

  there : (i : ℕ) → get_or t.intervals i [] ≡ get_or b.segments i []
  there i = data_at t b.segments (intervals_of t.head - length b.segments) i b.intervals

  data_goes_on : (i : ℕ) → (more : List ℕ) × (get_or t.intervals i [] ≡ get_or s.intervals i [] ++ more)
  data_goes_on i =
      let c = a in
      let g = grown c in
      let m = get_more g.ended g.last g.more g.others i in
      (m.0, there i ∙ ap (λ (l : List (List ℕ)). get_or l i []) g.longer_is ∙ m.1 ∙ ap (λ (l : List (List ℕ)). get_or l i [] ++ m.0) (sym g.is) ∙ ap (λ (d : List ℕ). d ++ m.0) (sym (so_far c i)))

  data_ended : (i : ℕ) (c : IsScanOf bytes s) → IsOver s (length c.segments) i → get_or t.intervals i [] ≡ get_or s.intervals i []
  data_ended i c (inl n) = there i ∙ ap (λ (l : List (List ℕ)). get_or l i []) (finished c n).0 ∙ sym (so_far c i)
  data_ended i c (inr lt) =
      let g = grown c in
      let few : i < length g.ended = omega (arith, lt, ap length g.is, length-append g.ended (g.last ∷ [])) in
      there i ∙ ap (λ (l : List (List ℕ)). get_or l i []) g.longer_is ∙ get_ended g.ended g.last (g.last ++ g.more) g.others i few ∙ ap (λ (l : List (List ℕ)). get_or l i []) (sym g.is) ∙ sym (so_far c i)

  kept : KeepsScan bytes s t
  kept = record {
    head = heads;
    so_far = data_goes_on;
    whole = λ i e. interval_is s t i (get_or s.intervals i []) heads (data_ended i e.0 e.1);
    end = λ n. (finished a n).1;
  }

  -- no fewer segments
  pub grown_few : length a.segments ≤ length b.segments
  grown_few = let g = grown a in omega (arith, ap length g.is, length-append g.ended (g.last ∷ []), ap length g.longer_is, length-append g.ended ((g.last ++ g.more) ∷ g.others))

-- so a scan whose file is arriving becomes the longer one
module _ (bytes more : List ℕ) (part : PartialScanValue) (t : ScanValue) (heads : t.head ≡ part.scan.head) (come : HasCome part bytes) (b : IsScanOf (bytes ++ more) t) where
  pub becomes : GrowsInto part t
  becomes =
      let s = part.scan in
      let keeps = kept bytes more s t heads come.starts come.scan b in
      record {
        head = heads;
        count = count_is (bytes ++ more) t b ∙ ap intervals_of heads ∙ sym (count_is bytes s come.scan);
        so_far = keeps.so_far;
        whole = λ i over. keeps.whole i (come.scan, subst (λ (n : ℕ). IsOver s n i) (sym come.segments) over);
        end = keeps.end;
      }

-- of a file that the bytes can become
module _ (bytes file : List ℕ) (s t : ScanValue) (can : CanBecome bytes file) (a : HasScan bytes s) (b : HasScan file t) where
  heads_are : t.head ≡ s.head
  heads_are = same_head bytes file s.head t.head can a.head b.head

  begins : s.head.scan_at ≤ length bytes
  begins = omega (arith, a.head.scan_at)

  longer : IsScanOf (bytes ++ can.more) t
  longer = subst (λ (f : List ℕ). IsScanOf f t) can.is b.scan

  pub scan_is_final : KeepsScan bytes s t
  scan_is_final = kept bytes can.more s t heads_are begins a.scan longer

pub file_becomes : (bytes file : List ℕ) (part : PartialScanValue) (t : ScanValue) → CanBecome bytes file → HeadOf bytes part.scan.head → HasCome part bytes → HasScan file t → GrowsInto part t
file_becomes bytes file part t can head come b =
    let has : HasScan bytes part.scan = record { head = head; scan = come.scan } in
    becomes bytes can.more part t (heads_are bytes file part.scan t can has b) come (longer bytes file part.scan t can has b)
