use Rattle.std.proofs.Common.{◌≡◌, ◌≢◌, ℕ, [], eqb, true, false, inl, List, length, refl, ap, sym, subst, ◌∙◌, arith, rules}
use Rattle.std.proofs.lemmas.Bool.{eqb-true, true≢false}
use Rattle.std.proofs.lemmas.List.{nil_from_length}
use Rattle.jr_view.specs.PartialViews.{view_of}
use Rattle.jr_view.proofs.PartialViews.{keeps_as, keeps_more, keeps_open, seen_as, with_items_is}
use Rattle.jr_view.proofs.partial_view.show_settled.Goals as goal

pub returns-in-Err-clause-kept : goal.returns-in-Err-clause-kept
returns-in-Err-clause-kept c =
    let a = c.args in
    keeps_open a.partial_file.now c.open.new.partial_file a.pixels.now.items c.open.new.pixels.items a.row.now.items c.open.new.row.items (search (rules, c.open.ensures.kept))

pub returns-in-Err-clause-refusal : goal.returns-in-Err-clause-refusal
returns-in-Err-clause-refusal c other bytes seen = c.in-Err.ensures.refusal other bytes seen.partial_file

pub returns-then-is_empty-clause-kept : goal.returns-then-is_empty-clause-kept
returns-then-is_empty-clause-kept c =
    let a = c.args in
    keeps_open a.partial_file.now c.open.new.partial_file a.pixels.now.items c.open.new.pixels.items a.row.now.items c.open.new.row.items (search (rules, c.open.ensures.kept))

pub returns-then-is_empty-clause-settled : goal.returns-then-is_empty-clause-settled
returns-then-is_empty-clause-settled c bytes seen =
    let is : (eqb (length c.open.new.pixels.items) 0) ≡ true = search rules in
    inl (c.in-Ok.ensures.wanted (nil_from_length c.open.new.pixels.items (eqb-true (length c.open.new.pixels.items) 0 is)) bytes seen.partial_file)

pub returns-then-is_empty-clause-wanted : goal.returns-then-is_empty-clause-wanted
returns-then-is_empty-clause-wanted c empty bytes seen = c.in-Ok.ensures.wanted empty bytes seen.partial_file

pub returns-in-Ok-show_all-clause-seen : goal.returns-in-Ok-show_all-clause-seen
returns-in-Ok-show_all-clause-seen c bytes seen =
    let a = c.args in
    let o = c.open.new in
    let s = c.show_all.new in
    let row = c.as_mut_slice in
    let pixels = c.as_mut_slice-2 in
    let pixels_long : length s.pixels ≡ length o.pixels.items = c.show_all.auto.pixels ∙ ap (λ (l : List ℕ). length l) pixels.ensures.value in
    let row_long : length s.row ≡ length o.row.items = c.show_all.auto.row ∙ ap (λ (l : List ℕ). length l) row.ensures.value in
    let pixels_are = with_items_is o.pixels.len o.pixels.items s.pixels o.pixels.ok.0 pixels_long in
    let row_is = with_items_is o.row.len o.row.items s.row o.row.ok.0 row_long in
    let opened = seen_as o.partial_file o.pixels.items o.row.items pixels.result.now row.result.now pixels.ensures.value row.ensures.value bytes (c.open.ensures.seen bytes seen) in
    seen_as s.partial_file s.pixels s.row _ _ pixels_are row_is bytes (c.show_all.ensures.seen bytes opened)

pub returns-in-Ok-show_all-clause-kept : goal.returns-in-Ok-show_all-clause-kept
returns-in-Ok-show_all-clause-kept c =
    let a = c.args in
    let o = c.open.new in
    let s = c.show_all.new in
    let row = c.as_mut_slice in
    let pixels = c.as_mut_slice-2 in
    let pixels_long : length s.pixels ≡ length o.pixels.items = c.show_all.auto.pixels ∙ ap (λ (l : List ℕ). length l) pixels.ensures.value in
    let pixels_are = with_items_is o.pixels.len o.pixels.items s.pixels o.pixels.ok.0 pixels_long in
    let before : a.pixels.now.items ≢ [] → o.pixels.items ≡ a.pixels.now.items = search (rules, c.open.ensures.kept) in
    let opened = keeps_open a.partial_file.now o.partial_file a.pixels.now.items o.pixels.items a.row.now.items o.row.items before in
    let shown = keeps_as o.partial_file s.partial_file o.pixels.items o.row.items pixels.result.now row.result.now s.pixels s.row _ s.row pixels.ensures.value row.ensures.value pixels_are refl c.show_all.ensures.kept in
    keeps_more (view_of a.partial_file.now a.pixels.now.items a.row.now.items) (view_of o.partial_file o.pixels.items o.row.items) (view_of s.partial_file _ s.row) c.open.ensures.seen (omega (arith, c.open.ensures.lines)) opened shown

pub returns-in-Err-show_all-clause-seen : goal.returns-in-Err-show_all-clause-seen
returns-in-Err-show_all-clause-seen c bytes seen =
    let a = c.args in
    let o = c.open.new in
    let s = c.show_all.new in
    let row = c.as_mut_slice in
    let pixels = c.as_mut_slice-2 in
    let pixels_long : length s.pixels ≡ length o.pixels.items = c.show_all.auto.pixels ∙ ap (λ (l : List ℕ). length l) pixels.ensures.value in
    let row_long : length s.row ≡ length o.row.items = c.show_all.auto.row ∙ ap (λ (l : List ℕ). length l) row.ensures.value in
    let pixels_are = with_items_is o.pixels.len o.pixels.items s.pixels o.pixels.ok.0 pixels_long in
    let row_is = with_items_is o.row.len o.row.items s.row o.row.ok.0 row_long in
    let opened = seen_as o.partial_file o.pixels.items o.row.items pixels.result.now row.result.now pixels.ensures.value row.ensures.value bytes (c.open.ensures.seen bytes seen) in
    seen_as s.partial_file s.pixels s.row _ _ pixels_are row_is bytes (c.show_all.ensures.seen bytes opened)

pub returns-in-Err-show_all-clause-kept : goal.returns-in-Err-show_all-clause-kept
returns-in-Err-show_all-clause-kept c =
    let a = c.args in
    let o = c.open.new in
    let s = c.show_all.new in
    let row = c.as_mut_slice in
    let pixels = c.as_mut_slice-2 in
    let pixels_long : length s.pixels ≡ length o.pixels.items = c.show_all.auto.pixels ∙ ap (λ (l : List ℕ). length l) pixels.ensures.value in
    let pixels_are = with_items_is o.pixels.len o.pixels.items s.pixels o.pixels.ok.0 pixels_long in
    let before : a.pixels.now.items ≢ [] → o.pixels.items ≡ a.pixels.now.items = search (rules, c.open.ensures.kept) in
    let opened = keeps_open a.partial_file.now o.partial_file a.pixels.now.items o.pixels.items a.row.now.items o.row.items before in
    let shown = keeps_as o.partial_file s.partial_file o.pixels.items o.row.items pixels.result.now row.result.now s.pixels s.row _ s.row pixels.ensures.value row.ensures.value pixels_are refl c.show_all.ensures.kept in
    keeps_more (view_of a.partial_file.now a.pixels.now.items a.row.now.items) (view_of o.partial_file o.pixels.items o.row.items) (view_of s.partial_file _ s.row) c.open.ensures.seen (omega (arith, c.open.ensures.lines)) opened shown

pub returns-in-Ok-show_all-clause-settled : goal.returns-in-Ok-show_all-clause-settled
returns-in-Ok-show_all-clause-settled c bytes seen =
    let o = c.open.new in
    c.in-Ok-show_all.ensures.settled bytes (seen_as o.partial_file o.pixels.items o.row.items c.as_mut_slice-2.result.now c.as_mut_slice.result.now c.as_mut_slice-2.ensures.value c.as_mut_slice.ensures.value bytes (c.open.ensures.seen bytes seen))

pub returns-in-Err-show_all-clause-refusal : goal.returns-in-Err-show_all-clause-refusal
returns-in-Err-show_all-clause-refusal c other bytes seen =
    let o = c.open.new in
    c.in-Err-show_all.ensures.refusal other bytes (seen_as o.partial_file o.pixels.items o.row.items c.as_mut_slice-2.result.now c.as_mut_slice.result.now c.as_mut_slice-2.ensures.value c.as_mut_slice.ensures.value bytes (c.open.ensures.seen bytes seen))

pub returns-in-Err-show_all-clause-stays : goal.returns-in-Err-show_all-clause-stays
returns-in-Err-show_all-clause-stays c bytes seen =
    let o = c.open.new in
    c.in-Err-show_all.ensures.stays bytes (seen_as o.partial_file o.pixels.items o.row.items c.as_mut_slice-2.result.now c.as_mut_slice.result.now c.as_mut_slice-2.ensures.value c.as_mut_slice.ensures.value bytes (c.open.ensures.seen bytes seen))

pub returns-in-Ok-show_all-clause-wanted : goal.returns-in-Ok-show_all-clause-wanted
returns-in-Ok-show_all-clause-wanted c empty bytes seen =
    let o = c.open.new in
    let s = c.show_all.new in
    let pixels = c.as_mut_slice-2 in
    let pixels_long : length s.pixels ≡ length o.pixels.items = c.show_all.auto.pixels ∙ ap (λ (l : List ℕ). length l) pixels.ensures.value in
    let pixels_are = with_items_is o.pixels.len o.pixels.items s.pixels o.pixels.ok.0 pixels_long in
    let none : length o.pixels.items ≡ 0 = sym pixels_long ∙ ap (λ (l : List ℕ). length l) (sym pixels_are ∙ empty) in
    let some : (eqb (length o.pixels.items) 0) ≡ false = search rules in
    absurd (true≢false (subst (λ (n : ℕ). (eqb n 0) ≡ false) none some))
