-- Blocks stand in nothing that a definition reads.
use Rattle.std.proofs.Common.{◌≡◌, Bool, true, false, arith}
use Rattle.md_base.specs.declared.event.Name.{Name}
use Rattle.md_text.specs.declared.options.CompileOptions.{CompileOptions}
use Rattle.md_meaning.specs.declared.surroundings.Surroundings.{Surroundings}
use Rattle.md_meaning.specs.Meaning.Inherited.{inside}
use Rattle.md_steps.specs.Content.{Content, Blocks, is_allowed, content_inside}
use Rattle.md_steps.proofs.Standing.{follows, picked}

abbrev pub is_blocks : Content → Bool
is_blocks c = elim c [ Blocks ↦ true | _ ↦ false ]

-- blocks stand in nothing that a definition reads
abbrev pub Open : Content → Surroundings → Type 0
Open c around = is_blocks c ≡ true → (around.is_escaping ≡ true) × (around.in_code ≡ false)

pub open-inside :
    (options : CompileOptions) (loose : Bool) (c : Content) (name : Name) (a : Surroundings) →
    is_allowed c name ≡ true → Open c a → Open (content_inside c name) (inside options loose name a)
open-inside options loose c name a h plain_there k =
    grind (arith, follows, picked)
