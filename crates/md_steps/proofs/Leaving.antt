-- The other parts of a state where a node is left: headings, calls, footnotes, endings to slurp.
use Rattle.std.proofs.Common.{arith, ◌≡◌, ℕ, ◌==◌, Bool, true, false, ◌&&◌, ◌||◌, List, [], ◌∷◌}
use Rattle.std.proofs.Common.{◌++◌, refl, ap, ◌∙◌, append_assoc, append-nil, unwrap_or}
use Rattle.std.specs.Prelude.{if◌then◌else◌, count_by}
use Rattle.md_base.specs.declared.event.Name.{Name}
use Rattle.md_base.specs.declared.event.Name.TheVariants as name_variants
use name_variants.{LineEnding, HeadingSetextText, GfmFootnoteCall, GfmFootnoteDefinition}
use Rattle.md_base.specs.Is.{is}
use Rattle.md_base.specs.NameTests.{is_transparent, is_fence}
use Rattle.md_meaning.specs.Meaning.Layout.{when}
use Rattle.md_meaning.specs.Meaning.At.{Footnote, At}
use Rattle.md_meaning.specs.Meaning.Before.{is_first_fence, lets_slurp}
use Rattle.md_meaning.specs.Meaning.Nodes.{found_at}
use Rattle.md_content.specs.Underlined.{waits_past}
use Rattle.md_steps.specs.State.{State}
use Rattle.md_steps.specs.Steps.{heading_after, calls_after, footnotes_after, slurps_after}
use Rattle.md_steps.specs.Claim.{noted_all, seen}
use Rattle.md_steps.proofs.Noted.{noted-append}
use Rattle.md_steps.proofs.EachSide.{none-counted}

-- ---- the text of a heading
pub heading-known : (name : Name) (at : At) (waits after : Bool) (inner text heading : List ℕ) →
    (is HeadingSetextText name ≡ true → inner ≡ text) →
    (is_transparent name ≡ true → after ≡ true →
    heading ≡ unwrap_or at.found.heading at.before.heading) →
    (is LineEnding name ≡ true → waits ≡ true → heading ≡ at.before.heading) →
    (if is_transparent name then after else waits_past waits name) ≡ true →
    heading_after name inner heading ≡ unwrap_or (found_at at name text).heading at.before.heading
heading-known name at waits after inner text heading own through line h = grind arith

-- ---- calls and footnotes
pub calls-known : (name : Name) (identifier : List ℕ) (before own inner : List (List ℕ)) →
    inner ≡ before ++ own →
    calls_after name identifier inner
    ≡ before ++ (own ++ when (is GfmFootnoteCall name) (identifier ∷ []))
calls-known name identifier before own inner k = grind (arith, append_assoc, append-nil)

pub footnotes-known :
    (name : Name) (identifier text captured : List ℕ) (before own inner : List Footnote) →
    (is GfmFootnoteDefinition name ≡ true → captured ≡ text) → inner ≡ noted_all before own →
    footnotes_after name identifier captured inner ≡ noted_all before (own
    ++ when (is GfmFootnoteDefinition name) (record { identifier = identifier; text = text } ∷ []))
footnotes-known name identifier text captured before own inner same k =
    grind (arith, noted-append, append-nil)

-- ---- whether the next line ending is slurped

-- a fence depends on the fences before it
fence-slurps : (name : Name) (left : State) →
    (if is_fence name then slurps_after name left
    else (if left.scope.in_definition then left.slurps else (left.fences == 0) || left.slurps))
    ≡ (if left.scope.in_definition then left.slurps else (left.fences == 0) || left.slurps)
fence-slurps LineEnding left = refl
fence-slurps _ left = refl

fence-lets : (name : Name) (at : At) (slurps : Bool) →
    (if is_fence name then lets_slurp at name slurps
    else is_first_fence at || false || false || false || slurps && true)
    ≡ is_first_fence at || false || false || false || slurps && true
fence-lets LineEnding at slurps = refl
fence-lets _ at slurps = refl

-- any other name by the surroundings alone
abbrev slurping : At → Bool → Bool → Name → Bool → Bool
slurping at defines code name slurps = if defines then slurps
    else lets_slurp (record at { around = record at.around { in_code = code } }) name slurps

abbrev SlurpsSo : Bool → Bool → Bool → Name → At → State → Type 0
SlurpsSo defines code slurps name at left =
    (if is_fence name then slurping at defines code name slurps
    else slurps_after name (record left {
      scope = seen (record at.around { in_definition = defines; in_code = code })
          at.before.columns;
      slurps = slurps;
    })) ≡ slurping at defines code name slurps

slurps-so : (defines code slurps : Bool) (name : Name) (at : At) (left : State) →
    SlurpsSo defines code slurps name at left
slurps-so defines code slurps name at left = grind arith

pub slurps-known : (name : Name) (at : At) (left : State) (inner : Bool) → left.slurps ≡ inner →
    (is_fence name ≡ true → left.fences ≡ count_by is_fence at.before.spine) →
    slurps_after name (record left { scope = seen at.around at.before.columns })
    ≡ (if at.around.in_definition then inner else lets_slurp at name inner)
slurps-known name at left inner k fence =
    let counted : is_fence name ≡ true → (left.fences == 0) ≡ is_first_fence at =
    λ e. ap (λ n. n == 0) (fence e) ∙ none-counted is_fence at.before.spine in
    grind (
      arith,
      fence-lets name at inner,
      fence-slurps name (record left { scope = seen at.around at.before.columns }),
      slurps-so at.around.in_definition at.around.in_code left.slurps name at left,
    )
