-- Where a node lies, by its two events.
use Rattle.std.proofs.Common.{◌≡◌, ℕ, suc, true, ◌+◌, ◌<◌, ◌==◌, Option, Some, List, [], ◌∷◌, ◌++◌}
use Rattle.std.proofs.Common.{length, refl, sym, ap, ◌∙◌, subst, arith}
use Rattle.std.specs.Prelude.{slice_get, IsSome}
use Rattle.md_base.specs.declared.event.Event.{Event}
use Rattle.md_base.specs.declared.event.Name.{Name}
use Rattle.md_base.specs.declared.event.Kind.TheVariants.{Enter, Exit}
use Rattle.md_base.specs.Tree.{Forest, Empty, Node, flatten, entering, exiting}
use Rattle.md_tree.specs.Grammar.{Handed}
use Rattle.md_tree.specs.Texts.{EntersAt, ExitsAt}
use Rattle.md_tree.proofs.Entering.{got_inside}
use Rattle.md_steps.specs.Run.{Noticed, noticed}
use Rattle.md_facts.specs.NodeFacts.{IsNoticedAt}
use Rattle.md_facts.proofs.Nodes.{NodeAt, node-entered}
use Rattle.md_facts.proofs.Noticed.{Entered, entered, Exited, exited}

pub some-there : {A : Type 0} (o : Option A) (x : A) → o ≡ Some x → IsSome o
some-there o x e = grind arith

pub start-noticed : (given : Handed) (index : ℕ) (name : Name) (one : Noticed) →
    EntersAt given.events index name →
    IsNoticedAt given index one → (event : Event) → slice_get given.events index ≡ Some event →
    event.point ≡ one.facts.place.start
start-noticed given index name one enters there event got =
    let seen : Entered given index name one = entered given index name one enters there in
    let node : NodeAt given seen.document name index seen.exit = seen.node in
    let same : event ≡ entering name node.start = some (sym got ∙ node.enters) in
    ap (λ (e : Event). e.point) same ∙ ap (λ (n : Noticed). n.facts.place.start) (sym seen.is)
  where
    some : {a b : Event} → Some a ≡ Some b → a ≡ b
    some e = cc

pub end-noticed : (given : Handed) (index : ℕ) (name : Name) (one : Noticed) →
    ExitsAt given.events index name →
    IsNoticedAt given index one → (event : Event) → slice_get given.events index ≡ Some event →
    event.point ≡ one.facts.place.end
end-noticed given index name one exits there event got =
    let seen : Exited given index name one = exited given index name one exits there in
    let node : NodeAt given seen.document name seen.entry index = seen.node in
    let same : event ≡ exiting name node.end = some (sym got ∙ node.exits) in
    ap (λ (e : Event). e.point) same ∙ ap (λ (n : Noticed). n.facts.place.end) (sym seen.is)
  where
    some : {a b : Event} → Some a ≡ Some b → a ≡ b
    some e = cc

pub last-noticed : (given : Handed) (index : ℕ) (name : Name) (one : Noticed) →
    ExitsAt given.events index name →
    IsNoticedAt given index one → (suc index == length given.events) ≡ one.facts.last
last-noticed given index name one exits there =
    let seen : Exited given index name one = exited given index name one exits there in
    seen.node.lasts ∙ ap (λ (n : Noticed). n.facts.last) (sym seen.is)

pub exit-inside : (given : Handed) (index : ℕ) (name : Name) → ExitsAt given.events index name →
    index < length given.events
exit-inside given index name exits = got_inside given.events index exits.0 exits.1

pub entry-inside : (given : Handed) (index : ℕ) (name : Name) → EntersAt given.events index name →
    index < length given.events
entry-inside given index name enters = got_inside given.events index enters.0 enters.1

-- after an entry comes another event, its own exit at the latest
pub entry-followed : (given : Handed) (document : Forest) → flatten document ≡ given.events →
    (index : ℕ) (name : Name) →
    EntersAt given.events index name → index + 1 < length given.events
entry-followed given document flat index name enters =
    let found = node-entered given document flat index name enters in
    let node : NodeAt given document name index found.0 = found.1 in
    by found.0 (length (flatten node.children)) (length given.events) node.apart
    (got_inside given.events found.0 (exiting name node.end) node.exits)
  where
    by : (exit inner count : ℕ) → exit ≡ index + suc inner → exit < count → index + 1 < count
    by exit inner count apart inside = omega (arith, apart, inside)

-- ---- a node without children

after-first : (before tail : List Event) (x : Event) →
    slice_get ((before ++ x ∷ []) ++ tail) (suc (length before)) ≡ slice_get tail 0
after-first [] tail x = refl
after-first (y ∷ before) tail x = after-first before tail x

-- a place that is found twice is one place
pub same-place : (o : Option ℕ) (one other : ℕ) → o ≡ Some one → o ≡ Some other → one ≡ other
same-place o one other e f = cc

pub one-more : (n : ℕ) → n + 1 ≡ suc n
one-more n = omega arith

-- where the event after an entry exits, nothing stands between them
leaf-exit : (given : Handed) (document : Forest) (name : Name) (entry exit : ℕ) →
    NodeAt given document name entry exit → (event : Event) →
    slice_get given.events (suc entry) ≡ Some event →
    event.kind ≡ Exit → exit ≡ suc entry
leaf-exit given document name entry exit node event got exits = by node.children refl
  where
    kinds : (x y : Event) → Some x ≡ Some y → x.kind ≡ y.kind
    kinds x y e = cc

    different : Enter ≡ Exit → exit ≡ suc entry
    different e = cc

    by : (children : Forest) → node.children ≡ children → exit ≡ suc entry
    by Empty e = node.apart ∙ ap (λ cs. entry + suc (length (flatten cs))) e ∙ one-more entry
    by (Node n start end children rest) e =
        let there : slice_get given.events (suc entry) ≡ Some (entering n start) =
        ap (λ es. slice_get es (suc entry)) node.parts
        ∙ ap (λ i. slice_get ((node.before ++ entering name node.start ∷ [])
        ++ (flatten node.children ++ (exiting name node.end ∷ node.beyond))) (suc i))
        (sym node.counted)
        ∙ after-first node.before (flatten node.children ++ (exiting name node.end ∷ node.beyond))
        (entering name node.start)
        ∙ ap (λ cs. slice_get (flatten cs ++ (exiting name node.end ∷ node.beyond)) 0) e in
        different (kinds (entering n start) event (sym there ∙ got) ∙ exits)

pub leaf-exits : (given : Handed) (document : Forest) → flatten document ≡ given.events →
    (index : ℕ) (name : Name) →
    EntersAt given.events index name → (event : Event) →
    slice_get given.events (suc index) ≡ Some event →
    event.kind ≡ Exit → ExitsAt given.events (suc index) name
leaf-exits given document flat index name enters event got exits =
    let found = node-entered given document flat index name enters in
    let node : NodeAt given document name index found.0 = found.1 in
    subst (λ i. ExitsAt given.events i name)
    (leaf-exit given document name index found.0 node event got exits)
    (exiting name node.end, node.exits, refl, refl)

pub leaf-noticed : (given : Handed) (index : ℕ) (name : Name) →
    EntersAt given.events index name → (event : Event) →
    slice_get given.events (suc index) ≡ Some event → event.kind ≡ Exit → (one : Noticed) →
    IsNoticedAt given index one → IsNoticedAt given (suc index) one
leaf-noticed given index name enters event got exits one there =
    let found = node-entered given there.0 there.1 index name enters in
    let node : NodeAt given there.0 name index found.0 = found.1 in
    let same = sym there.2 ∙ node.at_entry in (
      there.0,
      there.1,
      ap (λ i. slice_get (noticed given.bytes true there.0) i)
          (sym (leaf-exit given there.0 name index found.0 node event got exits))
          ∙ node.at_exit ∙ sym same,
    )
