-- Each exit of a text or a label has its text there. So a look-up at an index has the same result
-- in any tree of the events, and no look-up fails.
use Rattle.std.proofs.Common.{◌≡◌, ℕ, suc, Bool, true, Option, Some, None, List, [], ◌∷◌, ◌++◌}
use Rattle.std.proofs.Common.{length, refl, sym, ap, ◌∙◌, append-nil, arith}
use Rattle.std.specs.Prelude.{IsSome, option_copied}
use Rattle.std.specs.Borrow.{Bor}
use Rattle.md_tree.proofs.Common.{slice_get, All, Point, Position, Name, Exit, Event, text_between}
use Rattle.md_tree.proofs.Common.{label_between, Symbol, Role, Flow, Reading, Standing, Referral}
use Rattle.md_tree.proofs.Common.{Missing, Forest, flatten, entering, exiting, standing_of, spine}
use Rattle.md_tree.proofs.Common.{shown, inner_role, inner_before, last_symbol, place, broken_rule}
use Rattle.md_tree.proofs.Common.{reading_of, MeetRules, target_of, Handed, IsGrammatical, IsReadAs}
use Rattle.md_tree.proofs.Common.{IsChecked, facts_at, position_from, partner_event, position_ended}
use Rattle.md_tree.proofs.Common.{ExitsAt, positions_of, has_reading, is_text, is_identifier}
use Rattle.md_tree.proofs.Common.{length_one}
use Rattle.md_tree.proofs.EventRows.{rows_all, Steps, Row, rows_of}
use Rattle.md_tree.proofs.Entering.{row_at}
use Rattle.md_tree.proofs.Placing.{got_entry, in_node, after_node, length_events}
use Rattle.md_tree.proofs.OneTree.{flatten_one}

-- ---- rows

-- what is known of a row, of names with a reading and a text: at an exit, where the node lies,
-- and the text there
abbrev IsEnded : List Event → (Reading → Bool) → (Point → Point → Option (List ℕ)) → Row → Type 0
IsEnded events is text row =
    row.event.kind ≡ Exit → (position : Position) × (row.position ≡ Some position)
    × (position_from (slice_get events row.fact.partner) (Some row.event) ≡ Some position)
    × (has_reading is (standing_of row.event.name) ≡ true →
    (found : List ℕ) × (text position.start position.end ≡ Some found))

-- names with the reading have the text, where they break no rule
abbrev pub HaveText : List ℕ → List (List ℕ × List ℕ) → (Reading → Bool) →
    (Point → Point → Option (List ℕ)) → Type 0
HaveText bytes names is text =
    (standing : Standing) (around : Role) (before : Option Symbol) (start end : Point)
    (target : Referral) →
    broken_rule bytes names (reading_of standing) around before start end target ≡ None →
    has_reading is standing ≡ true → (found : List ℕ) × (text start end ≡ Some found)

-- where the nodes are among the events, and that they break no rule
abbrev Lies : List ℕ → List (List ℕ × List ℕ) → List Event → ℕ → ℕ → Forest → Type 0
Lies bytes names events index tables nodes =
    (around : Role) × (before : Option Symbol) × (seen : List Event) × (later : List Event)
    × MeetRules bytes names nodes around before × (length seen ≡ index)
    × (events ≡ seen ++ (flatten nodes ++ later))

rows_ended : (bytes : List ℕ) (names : List (List ℕ × List ℕ)) (is : Reading → Bool)
    (text : Point → Point → Option (List ℕ)) → HaveText bytes names is text →
    (events : List Event) (forest : Forest) → Lies bytes names events 0 0 forest →
    All (IsEnded events is text) (rows_of 0 0 forest)
rows_ended bytes names is text have events forest lies =
    rows_all (IsEnded events is text) (Lies bytes names events) step forest 0 0 lies
  where
    step : Steps (IsEnded events is text) (Lies bytes names events)
    step index tables name start end children rest holds =
        let st = standing_of name in
        let around = holds.0 in
        let before = holds.1 in
        let seen = holds.2 in
        let later = holds.3 in
        let meets = holds.4 in
        let same = holds.6 in
        let first = entering name start in
        let last = exiting name end in
        let inner = flatten children in
        let one = length_one seen first ∙ ap suc holds.5 in
        let inside = length_events children (suc index) (seen ++ first ∷ []) one in
        let there =
        got_entry events seen inner (flatten rest) later first last same index holds.5 in (
          λ exits. cc,
          λ exits. (
            place start end,
            refl,
            ap (λ o. position_from o (Some last)) there,
            λ reads. have st around before start end (target_of children Missing) meets.0 reads,
          ),
          (
            inner_role st around before,
            inner_before st before,
            seen ++ first ∷ [],
            last ∷ (flatten rest ++ later),
            meets.1,
            one,
            in_node events seen inner (flatten rest) later first last same,
          ),
          (
            around,
            last_symbol before (shown st (spine children)),
            ((seen ++ first ∷ []) ++ inner) ++ last ∷ [],
            later,
            meets.2,
            length_one ((seen ++ first ∷ []) ++ inner) last ∙ ap suc inside,
            after_node events seen inner (flatten rest) later first last same,
          ),
        )

-- ---- names with a text
pub text_names : (bytes : List ℕ) (names : List (List ℕ × List ℕ)) →
    HaveText bytes names is_text (text_between bytes)
text_names bytes names standing around before start end target e is = grind arith

pub identifier_names : (bytes : List ℕ) (names : List (List ℕ × List ℕ)) →
    HaveText bytes names is_identifier (label_between bytes)
identifier_names bytes names standing around before start end target e is = grind arith

-- ---- at an index

-- what is known of an exit, by what is found at the events: where its node lies, in any document of
-- the events, and the text there
pub record EndedAt (text : Point → Point → Option (List ℕ)) (given : Handed)
    (index : ℕ) : Type 0 where
  pub position : Position
  pub there : position_ended given.events (facts_at given.events) index ≡ Some position
  pub found : List ℕ
  pub is_found : text position.start position.end ≡ Some found
  pub position_is : (forest : Forest) (other : Position) → flatten forest ≡ given.events →
      slice_get (positions_of forest) index ≡ Some (Some other) → other ≡ position

pub EndedAt-checked : (is : Reading → Bool) (text : Point → Point → Option (List ℕ))
    (given : Handed) (index : ℕ) (name : Name) → HaveText given.bytes given.names is text →
    IsChecked given → ExitsAt given.events index name → has_reading is (standing_of name) ≡ true →
    EndedAt text given index
EndedAt-checked is text given index name have checked exits reads =
    let forest = checked.0 in
    let flattened = IsReadAs.flattened checked.1 in
    let events = given.events in
    let here = row_at given forest index exits.0 flattened exits.1 in
    let row = here.row in
    let all = rows_ended given.bytes given.names is text have events forest (
      Flow,
      None,
      [],
      [],
      IsGrammatical.rules (IsReadAs.grammatical checked.1),
      refl,
      sym flattened ∙ sym (append-nil (flatten forest)),
    ) in
    let ended = here.said (IsEnded events is text) all (ap Event.kind here.event_is ∙ exits.2) in
    let text_here = ended.3 (ap (λ (e : Event). has_reading is (standing_of e.name)) here.event_is
    ∙ ap (λ n. has_reading is (standing_of n)) exits.3 ∙ reads) in
    record {
      position = ended.0;
      there = ap (λ o. position_from (partner_event events o) (slice_get events index)) here.fact_is
          ∙ ap (λ o. position_from (slice_get events row.fact.partner) o)
          (exits.1 ∙ ap Some (sym here.event_is)) ∙ ended.2;
      found = text_here.0;
      is_found = text_here.1;
      position_is = λ other position same positioned.
          let one : other ≡ forest =
          flatten_one exits.0.name exits.0.point other forest (same ∙ sym flattened) in
          let got = ap (λ f. slice_get (positions_of f) index) (sym one) ∙ positioned in
          cc (got, here.position_is, ended.1);
    }

-- what the calls owe that read such a text: the place that is looked up is there, and a text is,
-- which is that of the node in any document of the events
pub record ReadAt (text : Point → Point → Option (List ℕ)) (given : Handed) (index : ℕ)
    (place : Option Position) : Type 0 where
  pub there : IsSome place
  pub text_there : (position : Position) (read : Option (Bor (List ℕ))) → place ≡ Some position →
      option_copied read ≡ text position.start position.end → IsSome read
  pub text_is : (position : Position) (read : Option (Bor (List ℕ))) (result : Bor (List ℕ)) →
      place ≡ Some position → option_copied read ≡ text position.start position.end →
      read ≡ Some result → (forest : Forest) (other : Position) → flatten forest ≡ given.events →
      slice_get (positions_of forest) index ≡ Some (Some other) →
      text other.start other.end ≡ Some result.now

pub ReadAt-ended : (text : Point → Point → Option (List ℕ)) (given : Handed) (index : ℕ)
    (place : Option Position) → EndedAt text given index →
    place ≡ position_ended given.events (facts_at given.events) index →
    ReadAt text given index place
ReadAt-ended text given index place ended is = grind arith
