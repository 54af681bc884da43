-- The node of the event at an index: its events and its children.
use Rattle.std.proofs.Common.{arith, ◌≡◌, ℕ, suc, ◌+◌, ◌==◌, Bool, true, false, Option, Some, None}
use Rattle.std.proofs.Common.{List, [], ◌∷◌, ◌++◌, length, refl, sym, ap, ◌∙◌, subst, append-nil}
use Rattle.std.specs.Prelude.{map, option_map, slice_get, if◌then◌else◌}
use Rattle.std.proofs.lemmas.Option.{slice_get-map}
use Rattle.std.proofs.lemmas.List.{length-map, map-append}
use Rattle.md_base.specs.declared.event.Event.{Event}
use Rattle.md_base.specs.declared.event.Kind.TheVariants.{Enter, Exit}
use Rattle.md_base.specs.declared.event.Name.{Name}
use Rattle.md_base.specs.declared.event.Name.TheVariants.{Paragraph}
use Rattle.md_base.specs.declared.event.Point.{Point}
use Rattle.md_base.specs.Tree.{Forest, flatten, entering, exiting}
use Rattle.md_pattern.specs.Partners.{partners_of}
use Rattle.md_pattern.specs.Standing.{standing_of}
use Rattle.md_tree.specs.declared.mention.Referral.TheVariants.{Missing}
use Rattle.md_tree.specs.Entered.{children_of}
use Rattle.md_tree.specs.Grammar.{Handed}
use Rattle.md_tree.specs.Mentions.{mention_of, mentions_of}
use Rattle.md_tree.specs.Rules.{reading_of, target_of}
use Rattle.md_tree.specs.Texts.{EntersAt, ExitsAt}
use Rattle.md_tree.proofs.OneTree.{flatten_one}
use Rattle.md_steps.specs.Run.{Noticed, noticed}
use Rattle.md_facts.proofs.Rows.{Row, rows_of, event_of, noticed_of, children_at, partner_at}
use Rattle.md_facts.proofs.Rows.{mention_at, event-rows, noticed-rows, children-rows, partner-rows}
use Rattle.md_facts.proofs.Rows.{mention-rows, seen_of, row_of}
use Rattle.md_facts.proofs.PairedRows.{Paired, paired}

origin : Point
origin = record { line = 0; column = 0; index = 0; vs = 0 }

-- the events are one document's at most
pub same-document : (one other : Forest) (events : List Event) → flatten one ≡ events →
    flatten other ≡ events →
    one ≡ other
same-document one other events e f = flatten_one Paragraph origin one other (e ∙ sym f)

-- the row of an entry
abbrev pub entry_row : Name → Point → Point → Forest → Bool → ℕ → ℕ → Row
entry_row name start end children last entry exit =
    record (row_of true entry last name start end children) { exit = exit }

-- a node by the indices of its two events
pub record NodeAt (given : Handed) (document : Forest) (name : Name) (entry exit : ℕ) : Type 0 where
  pub start : Point
  pub end : Point
  pub children : Forest
  pub last : Bool
  pub enters : slice_get given.events entry ≡ Some (entering name start)
  pub exits : slice_get given.events exit ≡ Some (exiting name end)
  pub at_entry : slice_get (noticed given.bytes true document) entry
      ≡ Some (seen_of given.bytes last children start end)
  pub at_exit : slice_get (noticed given.bytes true document) exit
      ≡ Some (seen_of given.bytes last children start end)
  pub to_exit : slice_get (partners_of 0 document) entry ≡ Some exit
  pub to_entry : slice_get (partners_of 0 document) exit ≡ Some entry
  pub inner : slice_get (children_of document) entry ≡ Some (Some children)
  pub mentions : slice_get (mentions_of document) exit
      ≡ Some (mention_of (reading_of (standing_of name)) (target_of children Missing))
  pub apart : exit ≡ entry + suc (length (flatten children))
  pub lasts : (suc exit == length given.events) ≡ last
  pub before : List Event
  pub beyond : List Event
  pub counted : length before ≡ entry
  pub parts : given.events ≡ (before ++ entering name start ∷ [])
      ++ (flatten children ++ (exiting name end ∷ beyond))
  pub seen : List Noticed
  pub unseen : List Noticed
  pub seen_counted : length seen ≡ entry
  pub seen_parts : noticed given.bytes true document
      ≡ (seen ++ seen_of given.bytes last children start end ∷ [])
      ++ (noticed given.bytes false children
      ++ (seen_of given.bytes last children start end ∷ unseen))
  pub there : slice_get (rows_of 0 true document) entry
      ≡ Some (entry_row name start end children last entry exit)

-- what is got of a list that another is mapped to
got-mapped : {A B : Type 0} (f : A → B) (xs : List A) {ys : List B} (i : ℕ) {x : A} →
    map f xs ≡ ys → slice_get xs i ≡ Some x → slice_get ys i ≡ Some (f x)
got-mapped f xs i same got = grind (arith, slice_get-map)

pub unmapped : {A B : Type 0} (f : A → B) (xs : List A) (i : ℕ) (y : B) →
    slice_get (map f xs) i ≡ Some y →
    (x : A) × (slice_get xs i ≡ Some x) × (f x ≡ y)
unmapped {A = A} f xs i y got = by (slice_get xs i) (sym (slice_get-map f xs i) ∙ got)
  where
    by : (o : Option A) → option_map f o ≡ Some y → (x : A) × (o ≡ Some x) × (f x ≡ y)
    by None e = cc
    by (Some x) e = (x, refl, cc)

-- a list in the parts of a node
mapped : {A B : Type 0} (f : A → B) (before : List A) (entry : A) (inner : List A) (exit : A)
    (beyond : List A) {own : List B} → map f inner ≡ own →
    map f ((before ++ entry ∷ []) ++ (inner ++ (exit ∷ beyond)))
    ≡ (map f before ++ f entry ∷ []) ++ (own ++ (f exit ∷ map f beyond))
mapped f before entry inner exit beyond same = grind (arith, map-append)

-- which of the two events the event of a row is, and its name
is_of : (b c : Bool) (name : Name) (start end : Point) →
    Event.kind (if b then entering name start else exiting name end)
    ≡ (if c then Enter else Exit) →
    (b ≡ c) × (name ≡ Event.name (if b then entering name start else exiting name end))
is_of b c name start end e = grind arith

-- ---- by its row
module _ (given : Handed) (document : Forest) (flat : flatten document ≡ given.events) where
  abbrev rows : List Row
  rows = rows_of 0 true document

  events-are : map event_of rows ≡ given.events
  events-are = event-rows document 0 true ∙ flat

  pub row-paired : (index : ℕ) (row : Row) → slice_get rows index ≡ Some row → Paired rows index row
  row-paired index row got = paired rows document true refl (sym (append-nil rows)) index row got

  pub node-of : (row : Row) (index : ℕ) → Paired rows index row →
      NodeAt given document row.name row.entry row.exit
  node-of row index pair =
      let seen-are = noticed-rows given.bytes document 0 true in
      let partners-are = partner-rows document 0 true in
      record {
        start = row.start;
        end = row.end;
        children = row.children;
        last = row.last;
        enters = got-mapped event_of rows _ events-are pair.entry_at;
        exits = got-mapped event_of rows _ events-are pair.exit_at;
        at_entry = got-mapped (noticed_of given.bytes) rows _ seen-are pair.entry_at;
        at_exit = got-mapped (noticed_of given.bytes) rows _ seen-are pair.exit_at;
        to_exit = got-mapped partner_at rows _ partners-are pair.entry_at;
        to_entry = got-mapped partner_at rows _ partners-are pair.exit_at;
        inner = got-mapped children_at rows _ (children-rows document 0 true) pair.entry_at;
        mentions = got-mapped mention_at rows _ (mention-rows document 0 true) pair.exit_at;
        apart = pair.apart;
        lasts = ap (λ n. suc row.exit == n)
            (sym (ap (λ es. length es) events-are) ∙ length-map rows event_of) ∙ pair.lasts;
        before = map event_of pair.before;
        beyond = map event_of pair.beyond;
        counted = length-map pair.before event_of ∙ pair.counted;
        parts = sym events-are ∙ ap (map event_of) pair.parts
            ∙ mapped event_of pair.before (record row { enters = true })
            (rows_of (suc row.entry) false row.children) (record row { enters = false }) pair.beyond
            (event-rows row.children (suc row.entry) false);
        seen = map (noticed_of given.bytes) pair.before;
        unseen = map (noticed_of given.bytes) pair.beyond;
        seen_counted = length-map pair.before (noticed_of given.bytes) ∙ pair.counted;
        seen_parts = sym seen-are ∙ ap (map (noticed_of given.bytes)) pair.parts
            ∙ mapped (noticed_of given.bytes) pair.before (record row { enters = true })
            (rows_of (suc row.entry) false row.children) (record row { enters = false }) pair.beyond
            (noticed-rows given.bytes row.children (suc row.entry) false);
        there = pair.entry_at;
      }

  -- the node that the event at an index enters, or exits
  node-found : (index : ℕ) (b : Bool) (event : Event) → slice_get given.events index ≡ Some event →
      event.kind ≡ (if b then Enter else Exit) →
      (other : ℕ) × NodeAt given document event.name (if b then index else other)
      (if b then other else index)
  node-found index b event got kind =
      let (row, there, same) =
      unmapped event_of rows index event (ap (λ es. slice_get es index) events-are ∙ got) in
      let is = is_of row.enters b row.name row.start row.end
      (ap (λ (e : Event). e.kind) same ∙ kind) in
      let pair = row-paired index row there in
      let here = pair.here ∙ ap (λ b. if b then row.entry else row.exit) is.0 in
      by row (node-of row index pair) (is.1 ∙ ap (λ (e : Event). e.name) same) b here
    where
      by : (row : Row) → NodeAt given document row.name row.entry row.exit → row.name ≡ event.name →
          (b : Bool) → index ≡ (if b then row.entry else row.exit) →
          (other : ℕ) × NodeAt given document event.name (if b then index else other)
          (if b then other else index)
      by row node named true here = (
        row.exit,
        subst (λ n. NodeAt given document n index row.exit) named
            (subst (λ i. NodeAt given document row.name i row.exit) (sym here) node),
      )
      by row node named false here = (
        row.entry,
        subst (λ n. NodeAt given document n row.entry index) named
            (subst (λ i. NodeAt given document row.name row.entry i) (sym here) node),
      )

  pub node-entered : (index : ℕ) (name : Name) → EntersAt given.events index name →
      (exit : ℕ) × NodeAt given document name index exit
  node-entered index name enters =
      let found = node-found index true enters.0 enters.1 enters.2 in
      (found.0, subst (λ n. NodeAt given document n index found.0) enters.3 found.1)

  pub node-exited : (index : ℕ) (name : Name) → ExitsAt given.events index name →
      (entry : ℕ) × NodeAt given document name entry index
  node-exited index name exits =
      let found = node-found index false exits.0 exits.1 exits.2 in
      (found.0, subst (λ n. NodeAt given document n found.0 index) exits.3 found.1)
