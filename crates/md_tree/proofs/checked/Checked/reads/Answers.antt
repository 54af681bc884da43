-- Where the node lies that a name reads: for each such name the fact has the place that was
-- sought, which is the defined one. The search doesn't go through the names, nor make the
-- induction of `Searching`.
use Rattle.std.proofs.Common.{◌≡◌, ℕ, suc, true, refl, ap, ◌∙◌}
use Rattle.md_tree.proofs.Common.{Name, lie, Fact, Sought, Handed, is_reader, search_of}
use Rattle.md_tree.proofs.Common.{tables_after, contributing_over, sought_over, facts_at}
use Rattle.md_tree.proofs.Common.{position_at}
use Rattle.md_base.specs.declared.event.Name.TheVariants as name_variants
use name_variants.{HeadingAtx, ListOrdered, Link, Image, GfmFootnoteCall, Definition}
use name_variants.{GfmFootnoteDefinition}
use Rattle.md_pattern.specs.Facts.{read_at_of}
use Rattle.md_tree.proofs.Kept.{facts_are, numbers}
use Rattle.md_tree.proofs.Numbers.{at-with}
use Rattle.md_tree.proofs.Placing.{children-placed}
use Rattle.md_tree.proofs.Searching.{reads-found}
use Rattle.md_tree.proofs.checked.Checked.reads.Goals as goal

reader_place : (name : Name) (tables contributing : ℕ) (sought : Sought) → is_reader name ≡ true →
    read_at_of name tables contributing sought ≡ sought.read_at
reader_place HeadingAtx tables contributing sought h = refl
reader_place ListOrdered tables contributing sought h = refl
reader_place Link tables contributing sought h = refl
reader_place Image tables contributing sought h = refl
reader_place GfmFootnoteCall tables contributing sought h = refl
reader_place Definition tables contributing sought h = refl
reader_place GfmFootnoteDefinition tables contributing sought h = refl
reader_place _ tables contributing sought h = absurd (lie h)

pub returns-clause-reads : goal.returns-clause-reads
returns-clause-reads c = λ name children enters reader entered.
    let given = c.args.self.now in
    let index = c.args.index in
    let found = c.fact.ensures.fact name children enters entered in
    c.position_read.ensures
    ∙ ap (λ (g : Handed). position_at g.events c.self.inside.facts c.fact.result.read_at)
    c.self.view_is ∙ ap (λ fs. position_at given.events fs c.fact.result.read_at)
    (facts_are c.self.inside given index c.self.invariant c.self.view_is)
    ∙ at-with given.events (numbers c.self.inside given index c.self.invariant c.self.view_is)
    (facts_at given.events) c.fact.result.read_at
    ∙ ap (λ (f : Fact). position_at given.events (facts_at given.events) f.read_at) found.1
    ∙ ap (λ n. position_at given.events (facts_at given.events) n)
    (reader_place name (tables_after found.0 children) (contributing_over (suc index) children 0)
    (sought_over (suc index) children (search_of name)) reader)
    ∙ reads-found (position_at given.events (facts_at given.events)) refl name children (suc index)
    (children-placed given index name enters children entered) reader
