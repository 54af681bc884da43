-- If there are no footnote calls, only references count.
use Rattle.std.proofs.Common.{◌≡◌, ℕ, suc, ◌+◌, false}
use Rattle.std.proofs.Common.{List, [], ◌∷◌, refl, ap, ◌∙◌, arith}
use Rattle.std.specs.Prelude.{◌-◌, Bool, if◌then◌else◌}
use Rattle.md_base.specs.declared.event.Event.{Event}
use Rattle.md_base.specs.declared.event.Kind.{Kind}
use Rattle.md_base.specs.declared.event.Kind.TheVariants.{Enter, Exit}
use Rattle.md_base.specs.Tree.{Forest, flatten}
use Rattle.md_html.specs.Reuse.{referred, is_call, entries, reuse}
use Rattle.md_html.specs.Work.{covered_from}
use Rattle.md_text.specs.declared.options.CompileOptions.{CompileOptions}

-- if no event enters a call, none is open
abbrev entered : Bool → Kind → ℕ
entered named kind = if (elim kind [ Enter ↦ named | Exit ↦ false ]) then 1 else 0

abbrev opened : Bool → Kind → ℕ
opened named kind = if named then (elim kind [ Enter ↦ suc 0 | Exit ↦ 0 - 1 ]) else 0

no-call : (named : Bool) (kind : Kind) (later : ℕ) → entered named kind + later ≡ 0 →
    opened named kind ≡ 0
no-call named kind later none = grind arith

none-covered : (events : List Event) (index : ℕ) → entries is_call events ≡ 0 →
    covered_from is_call index 0 events ≡ 0
none-covered [] index none = refl
none-covered (event ∷ events) index none =
    let later : entries is_call events ≡ 0 = omega (arith, none) in
    let closed = no-call (is_call event.name) event.kind (entries is_call events) none in
    let rest = ap (λ depth. covered_from is_call event.point.index depth events) closed
    ∙ none-covered events event.point.index later in
    omega (arith, rest)

-- then only references count
pub none-called :
    (options : CompileOptions) (bytes : List ℕ) (document : Forest) (events : List Event) →
    flatten document ≡ events → entries is_call events ≡ 0 →
    reuse options bytes document ≡ referred bytes document
none-called options bytes document events flat none = grind (arith, none-covered)
