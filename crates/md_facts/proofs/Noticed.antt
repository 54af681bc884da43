-- What is noticed at both events of a node, and at the other event as it is found.
use Rattle.std.proofs.Common.{◌≡◌, ℕ, suc, ◌+◌, ◌≤◌, true, Option, Some, length, refl, sym, ap, ◌∙◌}
use Rattle.std.proofs.Common.{arith}
use Rattle.std.specs.Prelude.{slice_get}
use Rattle.md_base.specs.declared.event.Name.{Name}
use Rattle.md_base.specs.declared.event.Point.{Point}
use Rattle.md_base.specs.Tree.{Forest, flatten, entering, exiting}
use Rattle.md_tree.specs.Entered.{IsEnteredAt}
use Rattle.md_tree.specs.Grammar.{Handed}
use Rattle.md_tree.specs.Indices.{IsPartnerAt}
use Rattle.md_tree.specs.Texts.{EntersAt, ExitsAt}
use Rattle.md_content.specs.References.{Everywhere}
use Rattle.md_steps.specs.Run.{Noticed, noticed}
use Rattle.md_facts.specs.NodeFacts.{IsNoticedAt}
use Rattle.md_facts.proofs.PairedRows.{everywhere-at}
use Rattle.md_facts.proofs.Nodes.{NodeAt, same-document, node-entered, node-exited}
use Rattle.md_facts.proofs.Rows.{seen_of}

-- what is noticed of a node
abbrev pub noticed_in : (given : Handed) (document : Forest) (name : Name) (entry exit : ℕ) →
    NodeAt given document name entry exit → Noticed
noticed_in given document name entry exit node =
    seen_of given.bytes node.last node.children node.start node.end

pub noticed-same : (given : Handed) (document : Forest) (index : ℕ) (one other : Noticed) →
    flatten document ≡ given.events → IsNoticedAt given index one →
    slice_get (noticed given.bytes true document) index ≡ Some other → one ≡ other
noticed-same given document index one other flat there got = grind (arith, same-document)

-- at an entry
pub record Entered (given : Handed) (index : ℕ) (name : Name) (one : Noticed) : Type 0 where
  pub document : Forest
  pub flat : flatten document ≡ given.events
  pub exit : ℕ
  pub node : NodeAt given document name index exit
  pub is : one ≡ noticed_in given document name index exit node
  pub entered : IsEnteredAt given index node.children

pub entered : (given : Handed) (index : ℕ) (name : Name) (one : Noticed) →
    EntersAt given.events index name →
    IsNoticedAt given index one → Entered given index name one
entered given index name one enters there =
    let found = node-entered given there.0 there.1 index name enters in
    record {
      document = there.0;
      flat = there.1;
      exit = found.0;
      node = found.1;
      is = noticed-same given there.0 index one
          (noticed_in given there.0 name index found.0 found.1) there.1 there found.1.at_entry;
      entered = (there.0, there.1, found.1.inner);
    }

-- at an exit
pub record Exited (given : Handed) (index : ℕ) (name : Name) (one : Noticed) : Type 0 where
  pub document : Forest
  pub flat : flatten document ≡ given.events
  pub entry : ℕ
  pub node : NodeAt given document name entry index
  pub is : one ≡ noticed_in given document name entry index node
  pub entered : IsEnteredAt given entry node.children
  pub enters : EntersAt given.events entry name

pub exited : (given : Handed) (index : ℕ) (name : Name) (one : Noticed) →
    ExitsAt given.events index name →
    IsNoticedAt given index one → Exited given index name one
exited given index name one exits there =
    let found = node-exited given there.0 there.1 index name exits in
    record {
      document = there.0;
      flat = there.1;
      entry = found.0;
      node = found.1;
      is = noticed-same given there.0 index one
          (noticed_in given there.0 name found.0 index found.1) there.1 there found.1.at_exit;
      entered = (there.0, there.1, found.1.inner);
      enters = (entering name found.1.start, found.1.enters, refl, refl);
    }

-- the other event, as it is found
pub partner-entered : (given : Handed) (index : ℕ) (name : Name) (partner : Option ℕ) →
    EntersAt given.events index name → IsPartnerAt given index partner →
    (exit : ℕ) × (partner ≡ Some exit) × ExitsAt given.events exit name × (index ≤ exit)
    × ((one : Noticed) → IsNoticedAt given index one →
    IsNoticedAt given exit one × (exit ≡ index + one.inside))
partner-entered given index name partner enters there =
    let found = node-entered given there.0 there.1 index name enters in
    let node : NodeAt given there.0 name index found.0 = found.1 in (
      found.0,
      there.2 ∙ node.to_exit,
      (exiting name node.end, node.exits, refl, refl),
      before found.0 index (length (flatten node.children)) node.apart,
      λ one at.
          let is = noticed-same given there.0 index one
          (noticed_in given there.0 name index found.0 node) there.1 at node.at_entry in (
            (there.0, there.1, node.at_exit ∙ ap Some (sym is)),
            node.apart ∙ ap (λ (n : Noticed). index + n.inside) (sym is),
          ),
    )
  where
    before : (n m k : ℕ) → n ≡ m + suc k → m ≤ n
    before n m k e = omega (arith, e)

pub partner-exited : (given : Handed) (index : ℕ) (name : Name) (partner : Option ℕ) →
    ExitsAt given.events index name → IsPartnerAt given index partner →
    (entry : ℕ) × (partner ≡ Some entry) × EntersAt given.events entry name
    × ((one : Noticed) → IsNoticedAt given index one → IsNoticedAt given entry one)
partner-exited given index name partner exits there =
    let found = node-exited given there.0 there.1 index name exits in
    let node : NodeAt given there.0 name found.0 index = found.1 in (
      found.0,
      there.2 ∙ node.to_entry,
      (entering name node.start, node.enters, refl, refl),
      λ one at.
          let is = noticed-same given there.0 index one
          (noticed_in given there.0 name found.0 index node) there.1 at node.at_exit in
          (there.0, there.1, node.at_entry ∙ ap Some (sym is)),
    )

-- what holds of each node holds of it
pub node-everywhere :
    (holds : Name → Point → Point → Forest → Type 0) (given : Handed) (document : Forest)
    (name : Name) (entry exit : ℕ) (node : NodeAt given document name entry exit) →
    Everywhere holds document →
    holds name node.start node.end node.children
node-everywhere holds given document name entry exit node all = grind (arith, everywhere-at)

-- the node by the children that are known
pub record Known (given : Handed) (index : ℕ) (name : Name) (children : Forest) : Type 0 where
  pub document : Forest
  pub flat : flatten document ≡ given.events
  pub exit : ℕ
  pub node : NodeAt given document name index exit
  pub same : node.children ≡ children

pub known : (given : Handed) (index : ℕ) (name : Name) (children : Forest) →
    EntersAt given.events index name →
    IsEnteredAt given index children → Known given index name children
known given index name children enters entered =
    let found = node-entered given entered.0 entered.1 index name enters in
    record {
      document = entered.0;
      flat = entered.1;
      exit = found.0;
      node = found.1;
      same = some found.1.children children (sym found.1.inner ∙ entered.2);
    }
  where
    some : (a b : Forest) → Some (Some a) ≡ Some (Some b) → a ≡ b
    some a b e = cc

-- at each event of a node something is noticed
pub noticed-entered : (given : Handed) (document : Forest) (index : ℕ) (name : Name) →
    flatten document ≡ given.events → EntersAt given.events index name →
    (one : Noticed) × IsNoticedAt given index one
noticed-entered given document index name flat enters =
    let found = node-entered given document flat index name enters in
    (noticed_in given document name index found.0 found.1, (document, flat, found.1.at_entry))
