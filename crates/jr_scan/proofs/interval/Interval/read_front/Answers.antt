use Rattle.std.proofs.Common.{◌∙◌, ap, rules, Bool, ℕ, IsTrue, ◌≡◌, List, sym, subst}
use Rattle.std.specs.Prelude.{ℤ}
use Rattle.jr_scan.specs.FrontValue.{FrontValue}
use Rattle.jr_scan.specs.IntervalValue.{IntervalValue}
use Rattle.jr_scan.specs.Mcus.{Decodes, LongestFront}
use Rattle.jr_scan.specs.McuReader.{HasReadAll}
use Rattle.jr_scan.proofs.InRange.{front_in_range}
use Rattle.jr_scan.proofs.Fronts.{stated, stated_only}
use Rattle.jr_scan.proofs.interval.Interval.read_front.Goals as goal

pub returns-clause-front : goal.returns-clause-front
returns-clause-front c =
    let i = c.args.self.now in
    let zs = c.in_ok-blocks.blocks.items in
    let front = c.mcus.ensures.front i zs ((c.in_ok-blocks.ensures.run, c.in_ok-blocks.ensures.read), c.in_ok-blocks.ensures.ended) in
    let mcus : c.of.result.mcus ≡ c.mcus.result = search (rules, ap (λ (f : FrontValue). f.mcus) c.of.ensures) in
    let blocks : c.of.result.blocks ≡ zs = search (rules, ap (λ (f : FrontValue). f.blocks) c.of.ensures) in
    subst (λ (k : ℕ). LongestFront i k c.of.result.blocks) (sym mcus) (subst (λ (ys : List (List ℤ)). LongestFront i c.mcus.result ys) (sym blocks) front)

abbrev Reports : IntervalValue → Bool → List (List ℤ) → Type 0
Reports i b zs = (IsTrue b → Decodes i zs) × (Decodes i zs → IsTrue b)

pub returns-clause-sound : goal.returns-clause-sound
returns-clause-sound c =
    let i = c.args.self.now in
    let zs = c.in_ok-blocks.blocks.items in
    let all : HasReadAll c.in_ok-blocks.reader i zs = ((c.in_ok-blocks.ensures.run, c.in_ok-blocks.ensures.read), c.in_ok-blocks.ensures.ended) in
    let both : Reports i c.is_sound.result zs = (λ t. c.is_sound.ensures.sound t i zs all.0, λ d. stated i zs c.is_sound.result (λ f. c.is_sound.ensures.damaged f i zs all) d) in
    let same : c.of.result.is_sound ≡ c.is_sound.result = search (rules, ap (λ (f : FrontValue). f.is_sound) c.of.ensures) in
    let blocks : c.of.result.blocks ≡ zs = search (rules, ap (λ (f : FrontValue). f.blocks) c.of.ensures) in
    subst (λ (b : Bool). Reports i b c.of.result.blocks) (sym same) (subst (Reports i c.is_sound.result) (sym blocks) both)

pub returns-clause-damaged : goal.returns-clause-damaged
returns-clause-damaged c =
    let i = c.args.self.now in
    let zs = c.in_ok-blocks.blocks.items in
    let all : HasReadAll c.in_ok-blocks.reader i zs = ((c.in_ok-blocks.ensures.run, c.in_ok-blocks.ensures.read), c.in_ok-blocks.ensures.ended) in
    let blocks : c.of.result.blocks ≡ zs = search (rules, ap (λ (f : FrontValue). f.blocks) c.of.ensures) in
    λ ys d. stated_only i zs ys c.is_sound.result (λ t. c.is_sound.ensures.sound t i zs all.0) (λ f. c.is_sound.ensures.damaged f i zs all) d ∙ sym blocks

pub returns-clause-in_range : goal.returns-clause-in_range
returns-clause-in_range c =
    let i = c.args.self.now in
    let zs = c.in_ok-blocks.blocks.items in
    let front = c.mcus.ensures.front i zs ((c.in_ok-blocks.ensures.run, c.in_ok-blocks.ensures.read), c.in_ok-blocks.ensures.ended) in
    let blocks : c.of.result.blocks ≡ zs = search (rules, ap (λ (f : FrontValue). f.blocks) c.of.ensures) in
    front_in_range i c.mcus.result c.of.result.blocks (subst (λ (ys : List (List ℤ)). LongestFront i c.mcus.result ys) (sym blocks) front)
