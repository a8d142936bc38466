use Rattle.std.proofs.Common.{◌<◌, ℕ, List, length, take, drop, refl, ap, subst, length-drop, arith}
use Rattle.jr_cut.specs.Cut.{IsRaw, IsStop}
use Rattle.jr_cut.proofs.Cuts.{rest_is}
use Rattle.jr_arrival.specs.FileSources.{data_in}
use Rattle.jr_arrival.proofs.Windows.{offset_spelled, window_long}
use Rattle.jr_arrival.proofs.window.Window.offset.Goals as goal

pub returns : goal.returns
returns c =
    let i = c.args.self.now in
    let w = c.requires.window in
    let n = c.spelled_length.result in
    let bytes = i.file.bytes.now in
    let found = data_in i in
    let e = c.spelled_length.ensures.spells in
    let long = window_long i w in
    let rest = rest_is bytes i.at in
    let is : IsRaw (take n (drop i.at bytes)) e.0 = subst (λ (xs : List ℕ). IsRaw (take n xs) e.0) rest e.1 in
    let stop : length e.0 < c.args.byte → IsStop (drop n (drop i.at bytes)) = λ lt. subst (λ (xs : List ℕ). IsStop (drop n xs)) rest (e.3 lt) in
    record {
      read = n;
      is = refl;
      within = omega (arith, c.spelled_length.ensures.within, ap length rest, length-drop i.at bytes, w.at);
      spelled = offset_spelled bytes found i.ends i.at c.args.byte n w.spells (omega (arith, long, c.requires.byte)) e.0 is e.2 stop;
    }
