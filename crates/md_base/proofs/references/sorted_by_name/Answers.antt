-- The sort is by name and stable.
use Rattle.std.proofs.Common.{rules, ap, ◌∙◌}
use Rattle.std.proofs.lemmas.List.Sorted.{answers_always}
use Rattle.md_base.specs.Reference.{name_table, named}
use Rattle.md_base.proofs.Sorting.{named-stable}
use Rattle.md_base.proofs.references.sorted_by_name.Goals as goal

pub returns : goal.returns
returns c =
    let by_name = answers_always _ _ _ (λ f a r g called. search rules) in
    let facts = c.in_ok-sort_by_key.ensures in
    let copied = c.in_ok-extend_from_slice.ensures.items in (
      facts.sorted (λ entry. entry.0) by_name,
      λ name.
          named-stable c.extend_from_slice.new.self.items c.sort_by_key.new.self.items
          (facts.stable (λ entry. entry.0) by_name) name
          ∙ ap (λ entries. named (name_table entries) name) (search (rules, copied)),
    )
