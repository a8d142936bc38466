use Rattle.std.proofs.Common.{◌≡◌, ◌≤◌, ◌+◌, ◌-◌, ◌*◌, ℕ, List, length, drop, ap, sym, ◌∙◌, arith, rules}
use Rattle.jr_code.specs.Bits.{bits}
use Rattle.jr_scan.specs.Run.{left_at}
use Rattle.jr_scan.specs.McuReader.{McuReaderValue}
use Rattle.jr_scan.proofs.McuReaders.{left_is}
use Rattle.jr_scan.proofs.mcu_reader.McuReader.advance_to.Goals as goal

pub invariant_of-self : goal.invariant_of-self
invariant_of-self c =
    let i = c.self.inside.interval in
    let to = c.args.place.now in
    let is : c.bits_from-self-inside.result ≡ left_at i to = c.bits_from-self-inside.ensures ∙ ap (λ (b : List ℕ). drop to.bit (bits b)) c.bytes.ensures.bytes in
    let within : to.bit ≤ 8 * length i.bytes = omega (arith, c.requires.within, ap (λ (r : McuReaderValue). length r.run.interval.bytes) c.self.view_is) in
    let at : to.bit ≡ 8 * length i.bytes - length c.bits_from-self-inside.result = omega (arith, ap length is, left_is i to, within) in
    record {
      valid = c.self.invariant.valid;
      few = omega (arith, c.requires.few, ap (λ (r : McuReaderValue). r.mcu) c.self.view_is, ap (λ (r : McuReaderValue). r.run.mcus) c.self.view_is);
      small = c.self.invariant.small;
      bits = is ∙ ap (λ (k : ℕ). drop k (bits i.bytes)) at;
      three = search rules;
      in_range = search (rules, c.requires.in_range);
    }

pub returns : goal.returns
returns c =
    let i = c.self.inside.interval in
    let to = c.args.place.now in
    let is : c.bits_from-self-inside.result ≡ left_at i to = c.bits_from-self-inside.ensures ∙ ap (λ (b : List ℕ). drop to.bit (bits b)) c.bytes.ensures.bytes in
    let within : to.bit ≤ 8 * length i.bytes = omega (arith, c.requires.within, ap (λ (r : McuReaderValue). length r.run.interval.bytes) c.self.view_is) in
    let at : to.bit ≡ 8 * length i.bytes - length c.bits_from-self-inside.result = omega (arith, ap length is, left_is i to, within) in
    let here : McuReaderValue = record { run = record { interval = i; from = c.self.inside.from; mcus = c.self.inside.mcus }; mcu = c.self.inside.mcu + c.args.mcus; place = to } in
    ap (λ (k : ℕ). record { run = here.run; mcu = here.mcu; place = record { bit = k; predictions = to.predictions } }) (sym at)
    ∙ ap (λ (v : McuReaderValue). record { run = v.run; mcu = v.mcu + c.args.mcus; place = to }) c.self.view_is
