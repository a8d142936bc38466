use Rattle.std.proofs.Common.{rules, arith, ◌∙◌, ◌≤◌, length, Some}
use Rattle.std.specs.Io.Buffered.{reader_remaining}
use Rattle.jri_archive.specs.Names.{IsNextListed}
use Rattle.jri_archive.proofs.NextNames.{next_listed, next_word}
use Rattle.jri_archive.proofs.given.GivenNames.next.Goals as goal

pub returns-then-self-len : goal.returns-then-self-len
returns-then-self-len g c names e =
    search (
      rules,
      next_word _ c.self.inside.words.items c.self.inside.taken c.self.inside.list c.index.result.now c.in_ok-name.name (search rules) c.index.ensures
          (c.in_ok-name.ensures.items_if_clones_equal (λ x y e. e) ∙ c.as_slice.ensures.value) names (c.self.view_is ∙ e),
    )

pub returns-then-self : goal.returns-then-self
returns-then-self g c names e =
    let self = c.self.inside in
    let remaining = reader_remaining g.I.Read.remaining in
    let all : length self.words.items ≤ self.taken = omega (arith, c.if-self-len.false, c.len.ensures) in
    let next : IsNextListed (remaining c.in-Some.list) (Some c.in-Some-2.listed) (remaining c.read_name.new.list) = search (rules, c.in_ok-listed.ensures) in
    search (rules, next_listed remaining self.words.items self.taken c.in-Some.list c.read_name.new.list c.in-Some-2.listed all next names (search (rules, c.self.view_is, e)))
