-- What a `Checked` keeps is what the tree of its events says, at each index of an event. The calls
-- of `Checked` only look something up: what they answer is right by this. First: the indices of the
-- definitions are those of events that enter one.
use Rattle.std.proofs.Common.{◌≡◌, ℕ, suc, cond, Some, List, [], ◌∷◌, ◌++◌, length, refl, sym, ap}
use Rattle.std.proofs.Common.{◌∙◌, append-nil, arith, ◌<◌, Bool, true, Option, subst}
use Rattle.md_tree.proofs.Common.{slice_get, All, All-cons, All-append, All-nil, Point, Event, Name}
use Rattle.md_tree.proofs.Common.{Forest, Empty, Node, flatten, entering, exiting, index_after}
use Rattle.md_tree.proofs.Common.{EntersAt, length_one, map, length-map, Position, GfmTable, Inside}
use Rattle.md_tree.proofs.Common.{Fact, Reading, alignments, Handed, IsReadAs, IsChecked}
use Rattle.md_tree.proofs.Common.{standing_of, ExitsAt, has_reading, IsEnteredAt, EntersNode}
use Rattle.md_tree.proofs.Common.{handed_of, IsKept, facts_at, tables_at, fact_at, EntersSome}
use Rattle.md_tree.proofs.Common.{position_ended, AreDefinitions, mentions_of, mention_of, Exit}
use Rattle.md_tree.proofs.Common.{Mention, Referral, reading_of, number_for, with_number}
use Rattle.md_tree.proofs.Common.{facts_with, is_of_definitions, definition_for, place_of}
use Rattle.md_base.specs.declared.event.Name.TheVariants.{Definition}
use Rattle.md_base.specs.NameTests.{is_link_definition}
use Rattle.md_pattern.specs.Partners.{definition_entries}
use Rattle.md_tree.proofs.Placing.{got_entry, in_node, after_node, length_events}
use Rattle.md_tree.specs.Found.{IsFactAt}
use Rattle.md_tree.specs.Numbers.{AreNumbered, ExitsOf}
use Rattle.md_tree.proofs.Numbers.{recorded-at, got-with, ended-with, length-with, kept-number}
use Rattle.md_tree.proofs.Numbers.{number-definition}
use Rattle.md_pattern.proofs.Passing.{definitions-flatten}
use Rattle.md_tree.proofs.Indexed.{HaveText, EndedAt-checked, ReadAt, ReadAt-ended}
use Rattle.md_tree.proofs.Entering.{got_inside, EntersNode-entered, found-entered, facts_at-inside}

own_definition : (events : List Event) (index : ℕ) (name : Name) (start : Point) →
    slice_get events index ≡ Some (entering name start) →
    All (λ i. EntersAt events i Definition) (cond (is_link_definition name) (index ∷ []) [])
own_definition events index Definition start there =
    All-cons (λ i. EntersAt events i Definition) index [] (
      entering Definition start,
      there,
      refl,
      refl,
    ) (All-nil (λ i. EntersAt events i Definition))
own_definition events index _ start there = All-nil (λ i. EntersAt events i Definition)

all_definitions : (events : List Event) (forest : Forest) (index : ℕ) (seen later : List Event) →
    length seen ≡ index → events ≡ seen ++ (flatten forest ++ later) →
    All (λ i. EntersAt events i Definition) (definition_entries index forest)
all_definitions events Empty index seen later e same = All-nil (λ i. EntersAt events i Definition)
all_definitions events (Node name start end children rest) index seen later e same =
    let exit = index_after (suc index) children in
    let first = entering name start in
    let last = exiting name end in
    let inner = flatten children in
    let holds : ℕ → Type 0 = λ i. EntersAt events i Definition in
    let own = cond (is_link_definition name) (index ∷ []) [] in
    let one = length_one seen first ∙ ap suc e in
    let inside = length_events children (suc index) (seen ++ first ∷ []) one in
    let there =
    got_entry events seen inner (flatten rest) later first last same index e in
    All-append holds (definition_entries (suc index) children)
    (own ++ definition_entries (suc exit) rest)
    (all_definitions events children (suc index) (seen ++ first ∷ []) (last
    ∷ (flatten rest ++ later)) one (in_node events seen inner (flatten rest) later first last same))
    (All-append holds own (definition_entries _ rest) (own_definition events index name start there)
    (all_definitions events rest (suc exit) _ later (length_one _ last
    ∙ ap suc inside) (after_node events seen inner _ later first last same)))

-- those of a document
pub definitions-entered : (events : List Event) (forest : Forest) → flatten forest ≡ events →
    All (λ i. EntersAt events i Definition) (definition_entries 0 forest)
definitions-entered events forest flattened =
    all_definitions events forest 0 [] [] refl (sym flattened ∙ sym (append-nil _))

module _ (inside : Inside) (given : Handed) (index : ℕ) (kept : IsKept inside)
    (same : handed_of inside ≡ given) where
  -- the document's nodes
  flattened : flatten kept.0.0 ≡ given.events
  flattened = IsReadAs.flattened kept.0.1 ∙ ap (λ (g : Handed). g.events) same

  abbrev pub numbers : List ℕ
  numbers = map (number_for given.bytes (mentions_of kept.0.0)) (mentions_of kept.0.0)

  pub facts_are : inside.facts ≡ facts_with numbers (facts_at given.events)
  facts_are = subst (λ g. AreNumbered g inside.facts) same kept.1 kept.0.0 flattened

  -- at an entry no number is kept
  entry-got : (name : Name) → EntersAt given.events index name → (fact : Fact) →
      slice_get inside.facts index ≡ Some fact → slice_get (facts_at given.events) index ≡ Some fact
  entry-got name enters fact got =
      let here = recorded-at kept.0.0 given.events index enters.0 flattened enters.1 in
      let kept_here =
      got-with (number_for given.bytes (mentions_of kept.0.0)) (mentions_of kept.0.0)
      _ index here.0 here.1 here.2 here.3 in
      here.2 ∙ ap (λ m. Some (with_number (number_for given.bytes (mentions_of kept.0.0) m) here.0))
      (sym (here.4.0 enters.2))
      ∙ sym kept_here ∙ ap (λ xs. slice_get xs index) (sym facts_are) ∙ got

  tables_are : map (λ t. t.items) inside.tables.items ≡ tables_at given.events
  tables_are = kept.2 ∙ ap (λ (g : Handed). tables_at g.events) same

  pub definitions-kept : AreDefinitions given inside.definitions.items
  definitions-kept forest flattens = grind (arith, definitions-flatten)

  pub definitions-enter : All (λ i. EntersAt given.events i Definition) inside.definitions.items
  definitions-enter =
      rw (definitions-kept kept.0.0 flattened)
      (definitions-entered given.events kept.0.0 flattened)

  -- an exit, whose place is looked up
  pub ended-kept : (is : Reading → Bool) (text : Point → Point → Option (List ℕ)) (name : Name) →
      HaveText given.bytes given.names is text → ExitsAt given.events index name →
      has_reading is (standing_of name) ≡ true → (place : Option Position) →
      place ≡ position_ended inside.events.now inside.facts index → ReadAt text given index place
  ended-kept is text name have exits reads place place_is =
      ReadAt-ended text given index place (EndedAt-checked is text given index name have
      (subst IsChecked same kept.0) exits reads)
      (place_is ∙ ap (λ (g : Handed). position_ended g.events inside.facts index) same
      ∙ ap (λ fs. position_ended given.events fs index) facts_are
      ∙ ended-with given.events numbers _ index)

  pub facts-inside : EntersSome given.events index → index < length inside.facts
  facts-inside enters =
      rw (facts_are, length-with)
      (facts_at-inside given index enters.0 enters.1 kept.0.0 flattened)

  pub node-entered : EntersSome given.events index → EntersNode given index
  node-entered enters = EntersNode-entered given index enters.0 enters.1 kept.0.0 flattened

  pub fact-kept : (fact : Fact) → slice_get inside.facts index ≡ Some fact →
      IsFactAt given index fact
  fact-kept fact got name children enters entered =
      let found = found-entered given index name enters children fact entered
      (entry-got name enters fact got) in
      (found.0, found.1)

  -- a table's columns
  pub columns-kept : EntersAt given.events index GfmTable → (fact : Fact) →
      slice_get inside.facts index ≡ Some fact → (children : Forest) →
      IsEnteredAt given index children →
      slice_get (map (λ t. t.items) inside.tables.items) fact.read_at ≡ Some (alignments children)
  columns-kept enters fact got children entered =
      let found = found-entered given index GfmTable enters children fact entered
      (entry-got GfmTable enters fact got) in
      ap (λ (f : Fact). slice_get (map (λ t. t.items) inside.tables.items) f.read_at) found.1
      ∙ ap (λ ts. slice_get ts (Fact.read_at (fact_at index found.0 GfmTable children))) tables_are
      ∙ found.2 refl

  pub columns-inside : EntersAt given.events index GfmTable → (fact : Fact) →
      slice_get inside.facts index ≡ Some fact → fact.read_at < length inside.tables.items
  columns-inside enters fact got =
      let node = node-entered (GfmTable, enters) in
      rw length-map at
      (got_inside (map (λ t. t.items) inside.tables.items) fact.read_at (alignments node.0)
      (columns-kept enters fact got node.0 node.1))

  -- the number at an exit
  pub exit-inside : (is : Name → Bool) → ExitsOf is given.events index → index < length inside.facts
  exit-inside is exits =
      let here = recorded-at kept.0.0 given.events index exits.1.0 flattened exits.1.1 in
      got_inside inside.facts index _ (ap (λ xs. slice_get xs index) facts_are ∙ got-with _ _
      _ index here.0 here.1 here.2 here.3)

  number-kept : (event : Event) → slice_get given.events index ≡ Some event →
      event.kind ≡ Exit → (fact : Fact) →
      slice_get inside.facts index ≡ Some fact → (forest : Forest) (mention : Mention) →
      flatten forest ≡ given.events → slice_get (mentions_of forest) index ≡ Some mention →
      (fact.read_at ≡ number_for given.bytes (mentions_of forest) mention)
      × ((target : Referral) × (mention ≡ mention_of (reading_of (standing_of event.name)) target))
  number-kept event there exits fact got forest mention flattens here =
      let recorded = recorded-at forest given.events index event flattens there in
      let number = number_for given.bytes (mentions_of forest) in
      let one : recorded.1 ≡ mention = one_some recorded.1 mention (sym recorded.3 ∙ here) in
      let two : with_number (number recorded.1) recorded.0 ≡ fact =
      one_some (with_number _ recorded.0) fact (sym (got-with number _
      _ index recorded.0 recorded.1 recorded.2 recorded.3) ∙ ap (λ xs. slice_get xs index)
      (sym (subst (λ g. AreNumbered g inside.facts) same kept.1 forest flattens)) ∙ got) in
      let at_exit = recorded.4.1 exits in (
        ap (λ (f : Fact). f.read_at) (sym two) ∙ kept-number _ recorded.0 at_exit.0 ∙ ap number one,
        (at_exit.1.0, sym one ∙ at_exit.1.1),
      )
    where
      one_some : {A : Type 0} (x y : A) → Some x ≡ Some y → x ≡ y
      one_some x y e = cc

  pub definition-kept : (exits : ExitsOf is_of_definitions given.events index) (fact : Fact) →
      slice_get inside.facts index ≡ Some fact → (forest : Forest) (mention : Mention) →
      flatten forest ≡ given.events → slice_get (mentions_of forest) index ≡ Some mention →
      place_of fact.read_at ≡ definition_for given.bytes (mentions_of forest) mention
  definition-kept exits fact got forest mention flattens here =
      let all = mentions_of forest in
      let kept_here =
      number-kept exits.1.0 exits.1.1 exits.1.2 fact got forest mention flattens here in
      let reads = reading_of (standing_of exits.0) in
      let is : mention ≡ mention_of reads kept_here.1.0 = kept_here.1.1
      ∙ ap (λ n. mention_of (reading_of (standing_of n)) kept_here.1.0) exits.1.3 in
      ap place_of (kept_here.0 ∙ ap (number_for given.bytes all) is)
      ∙ number-definition given.bytes all exits.0 kept_here.1.0 exits.2
      ∙ ap (definition_for given.bytes all) (sym is)
