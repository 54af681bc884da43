-- What definitions give is counted at the exits of links and images, where the check knows their
-- definitions; no other mention refers to a definition.
use Rattle.std.proofs.Common.{◌≡◌, ◌<◌, ℕ, zero, suc, ◌+◌, false, Option, Some, None}
use Rattle.std.proofs.Common.{List, [], ◌∷◌, length, refl, sym, subst, arith}
use Rattle.std.proofs.lemmas.Grind.{common_steps}
use Rattle.std.specs.Prelude.{map, drop, slice_get, ◌-◌}
use Rattle.std.proofs.lemmas.Option.{slice_get_within}
use Rattle.std.proofs.lemmas.List.{length-append, drop_all}
use Rattle.std.proofs.lemmas.Simd.{map-map}
use Rattle.md_base.specs.declared.event.Event.{Event}
use Rattle.md_base.specs.declared.event.Kind.{Kind}
use Rattle.md_base.specs.declared.event.Kind.TheVariants.{Enter, Exit}
use Rattle.md_base.specs.declared.event.Name.{Name}
use Rattle.md_base.specs.declared.event.Name.TheVariants.{Link, Image}
use Rattle.md_base.specs.Tree.{Forest, Empty, Node, flatten}
use Rattle.md_base.proofs.Lies.{lie}
use Rattle.md_pattern.specs.Standing.{standing_of}
use Rattle.md_pattern.specs.Facts.{facts_at}
use Rattle.md_pattern.specs.declared.facts.Fact.{Fact}
use Rattle.md_tree.specs.declared.mention.Referral.{Referral}
use Rattle.md_tree.specs.declared.mention.Referral.TheVariants.{Missing, Resource, Label}
use Rattle.md_tree.specs.declared.mention.Mention.{Mention}
use Rattle.md_tree.specs.Rules.{reading_of}
use Rattle.md_tree.specs.Texts.{EntersAt}
use Rattle.md_tree.specs.Mentions.{mention_of, mentions_of}
use Rattle.md_tree.specs.Numbers.{definition_for}
use Rattle.md_tree.proofs.Numbers.{IsRecorded, RecordedAt, recorded-at}
use Rattle.md_pattern.specs.Partners.{definition_entries}
use Rattle.md_length.specs.Reuse.{is_media, length_at, resolved_lengths, definition_length}
use Rattle.md_length.specs.Reuse.{definition_lengths, referred}
use Rattle.md_measure.specs.Counting.{capped}

-- a mention of neither a link nor an image refers to no definition
pub not-media :
    (bytes : List ℕ) (mentions : List Mention) (name : Name) (target : Referral) →
    is_media name ≡ false →
    definition_for bytes mentions (mention_of (reading_of (standing_of name)) target) ≡ None
not-media bytes mentions Link target is = lie (sym is)
not-media bytes mentions Image target is = lie (sym is)
not-media bytes mentions _ Missing is = refl
not-media bytes mentions _ Resource is = refl
not-media bytes mentions _ (Label label) is = refl

-- one mention further
pub led-step : (lengths : List ℕ) (leads : Mention → Option ℕ) (mentions : List Mention)
    (index : ℕ) (mention : Mention) → slice_get mentions index ≡ Some mention →
    resolved_lengths lengths leads (drop index mentions)
    ≡ length_at lengths (leads mention) + resolved_lengths lengths leads (drop (suc index) mentions)
led-step lengths leads [] index mention here = cc
led-step lengths leads (m ∷ mentions) zero mention here = grind arith
led-step lengths leads (m ∷ mentions) (suc index) mention here =
    led-step lengths leads mentions index mention here

-- as many mentions as events
pub mentions-length : (forest : Forest) → length (mentions_of forest) ≡ length (flatten forest)
mentions-length Empty = refl
mentions-length (Node name start end children rest) =
    grind (arith, length-append, mentions-length children, mentions-length rest)

-- no mention of an event that exits neither a link nor an image refers to a definition
pub none-led : (bytes : List ℕ) (document : Forest) (events : List Event) (index : ℕ)
    (event : Event) (mention : Mention) → flatten document ≡ events →
    slice_get events index ≡ Some event →
    slice_get (mentions_of document) index ≡ Some mention →
    (event.kind ≡ Exit → is_media event.name ≡ false) →
    definition_for bytes (mentions_of document) mention ≡ None
none-led bytes document events index event mention flat there here unless =
    by (recorded-at document events index event flat there)
  where
    leads : Mention → Type 0
    leads m = definition_for bytes (mentions_of document) m ≡ None

    of_kind : (kind : Kind) (fact : Fact) (m : Mention) → event.kind ≡ kind →
        IsRecorded event fact m → leads m
    of_kind Enter fact m is recorded = subst leads (sym (recorded.0 is)) refl
    of_kind Exit fact m is recorded =
        let (target, same) = (recorded.1 is).1 in
        subst leads (sym same)
        (not-media bytes (mentions_of document) event.name target (unless is))

    by : RecordedAt events (facts_at events) (mentions_of document) index event → leads mention
    by (fact, m, fact_there, m_there, recorded) =
        let same : m ≡ mention = cc in
        subst leads same (of_kind event.kind fact m refl recorded)

-- the first of the events that are left, and the others
pub split-there : (events : List Event) (index : ℕ) (event : Event) (following : List Event) →
    drop index events ≡ event ∷ following →
    (slice_get events index ≡ Some event) × (following ≡ drop (suc index) events)
split-there [] zero event following split = cc
split-there [] (suc index) event following split = cc
split-there (e ∷ events) zero event following split = (cc, cc)
split-there (e ∷ events) (suc index) event following split =
    split-there events index event following split

-- what is counted is counted once
pub capped-more : (counted more later : ℕ) →
    capped (capped (counted + capped more) + later) ≡ capped (counted + (more + later))
capped-more counted more later = grind (arith, common_steps)

-- at each event something is mentioned, or nothing is
pub mention-at : (document : Forest) (events : List Event) (index : ℕ) (event : Event) →
    flatten document ≡ events → slice_get events index ≡ Some event →
    (mention : Mention) × (slice_get (mentions_of document) index ≡ Some mention)
mention-at document events index event flat there = grind (arith, recorded-at)

-- there are no mentions after the last event
pub led-all : (lengths : List ℕ) (leads : Mention → Option ℕ) (document : Forest)
    (events : List Event) (index : ℕ) → flatten document ≡ events → index ≡ length events →
    resolved_lengths lengths leads (drop index (mentions_of document)) ≡ 0
led-all lengths leads document events index flat end = grind (arith, mentions-length, drop_all)

-- the event that enters a definition is one of the events
pub entered-within : (events : List Event) (index : ℕ) (name : Name) →
    EntersAt events index name → index < length events
entered-within events index name (event, there, kind, named) =
    slice_get_within events index event there

-- the lengths of the definitions, each cut
pub lengths-capped : (document : Forest) (events : List Event) → flatten document ≡ events →
    map (λ entry. capped (definition_length events entry)) (definition_entries 0 document)
    ≡ map capped (definition_lengths document)
lengths-capped document events flat = grind (arith, map-map)

-- ---- what is missing counts nothing

-- if there are no lengths, none is found
no-lengths : (leads : Mention → Option ℕ) (mentions : List Mention) →
    resolved_lengths [] leads mentions ≡ 0
no-lengths leads [] = refl
no-lengths leads (mention ∷ mentions) =
    let here = nowhere (leads mention) in
    let later = no-lengths leads mentions in
    omega (arith, here, later)
  where
    nowhere : (place : Option ℕ) → length_at [] place ≡ 0
    nowhere None = refl
    nowhere (Some zero) = refl
    nowhere (Some (suc place)) = refl

-- if there are no definitions, nothing refers to one
pub none-referred : (bytes : List ℕ) (document : Forest) → definition_entries 0 document ≡ [] →
    referred bytes document ≡ 0
none-referred bytes document none = grind (arith, no-lengths)
