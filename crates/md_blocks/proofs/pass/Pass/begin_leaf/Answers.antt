-- The first byte says which leaf may begin.
use Rattle.std.proofs.Common.{ℕ, Bool, List, ap, sym, subst, refl, ◌∙◌, ◌≡◌, ◌==◌, ◌&&◌}
use Rattle.std.proofs.Common.{false, not, None}
use Rattle.std.specs.Prelude.{◌||◌, get_or, if◌then◌else◌}
use Rattle.std.proofs.lemmas.Bool.{ne_eqb}
use Rattle.std.proofs.lemmas.Result.{IfOk-weaker}
use Rattle.md_blocks.specs.declared.options.MarkdownOptions.{MarkdownOptions}
use Rattle.md_blocks.specs.BlockStructure.{marks_begun, unless_underlined}
use Rattle.md_blocks.specs.LeafBlocks.{code_begun, heading_begun, html_begun, if_begun, kind_begun}
use Rattle.md_blocks.specs.OwnBlocks.{math_begun}
use Rattle.md_blocks.specs.Passes.{defined_in, state_of}
use Rattle.md_blocks.specs.Positions.{ending_of, rest_of, text_at}
use Rattle.md_blocks.specs.Rests.{Rest, unindented}
use Rattle.md_blocks.specs.States.{State, is_in_paragraph}
use Rattle.md_blocks.proofs.Choices.{chosen, tested}
use Rattle.md_blocks.proofs.LineLemmas.{text_is}
use Rattle.md_blocks.proofs.Steps.{both_ok, fence_is_none, no_underline, unchanged}
use Rattle.md_blocks.proofs.pass.Pass.begin_leaf.Goals as goal

-- what is claimed of it
abbrev Claim : MarkdownOptions → ℕ → ℕ → Bool → Rest → List ℕ → State → Bool → State → Type 0
Claim options n depth on rest ending state has new =
    (chosen (get_or (unindented rest) 0 0) options n depth on rest ending state
    ≡ if_begun has new) × (has ≡ false → new ≡ unless_underlined n on rest state)

-- nothing is changed where the byte underlines nothing
stays : (mark defined : ℕ) (on : Bool) (rest : Rest) (state : State) →
    mark ≡ get_or (unindented rest) 0 0 → (mark == 61 || mark == 45) ≡ false →
    unless_underlined defined on rest state ≡ state
stays mark defined on rest state is other =
    unchanged mark defined on (unindented rest) state is (no_underline on mark other)

pub returns-then-byte-eq35-clause-state : goal.returns-then-byte-eq35-clause-state
returns-then-byte-eq35-clause-state c =
    let p = c.args.self.now in
    let new = c.begin_heading.new.self in
    let place = c.args.position.now in
    let rest = rest_of place in
    let depth = c.args.depth in
    let ending = ending_of p.bytes.now place in
    let on = c.args.is_whole && is_in_paragraph (state_of p).leaf in
    let defined = defined_in p in
    both_ok c.begin_heading.result
    (λ has. heading_begun defined depth (text_at place) (state_of p) ≡ if_begun has (state_of new))
    (λ has. has ≡ false → state_of new ≡ state_of p)
    (λ has. c.args.byte ≡ get_or (text_at place) 0 0
    → Claim p.options.now (defined_in p) depth on rest ending (state_of p) has (state_of new))
    (λ has begun same is. let first = ap (λ t. get_or t 0 0) (text_is place) ∙ sym is
    ∙ c.if-byte-eq35.true in (
      ap (λ byte. chosen byte p.options.now defined depth on rest ending (state_of p)) first
          ∙ ap (λ t. heading_begun defined depth t (state_of p)) (text_is place) ∙ begun,
      λ none. same none ∙ sym (stays 35 defined on rest (state_of p) (sym first) refl),
    ))
    c.begin_heading.ensures.state c.begin_heading.ensures.same

pub returns-then-is_fence_mark-clause-state : goal.returns-then-is_fence_mark-clause-state
returns-then-is_fence_mark-clause-state c =
    let p = c.args.self.now in
    let new = c.begin_fenced.new.self in
    let place = c.args.position.now in
    let rest = rest_of place in
    let byte = c.args.byte in
    let depth = c.args.depth in
    let ending = ending_of p.bytes.now place in
    let on = c.args.is_whole && is_in_paragraph (state_of p).leaf in
    let fence = sym c.is_fence_mark.ensures ∙ c.if-is_fence_mark.true in
    both_ok c.begin_fenced.result
    (λ has. (code_begun (defined_in p) byte depth rest (state_of p) ≡ if_begun has (state_of new)))
    (λ has. has ≡ false → state_of new ≡ state_of p)
    (λ has. byte ≡ get_or (text_at place) 0 0
    → Claim p.options.now (defined_in p) depth on rest ending (state_of p) has (state_of new))
    (λ has begun same is. let first = ap (λ t. get_or t 0 0) (text_is place) ∙ sym is in (
      ap (λ b. chosen b p.options.now (defined_in p) depth on rest ending (state_of p)) first
          ∙ ap (λ so. tested so (byte == 96 || byte == 126) (byte == 36) (byte == 60) byte p.options.now
          (defined_in p) depth on rest ending (state_of p)) (ne_eqb byte 35 c.if-byte-eq35.false)
          ∙ ap (λ so. tested false so (byte == 36) (byte == 60) byte p.options.now
          (defined_in p) depth on rest ending (state_of p)) fence
          ∙ begun,
      λ none. same none ∙ sym (stays byte (defined_in p) on rest (state_of p) (sym first)
          (fence_is_none byte fence)),
    ))
    c.begin_fenced.ensures.state c.begin_fenced.ensures.same

pub returns-then-not-self-clause-state : goal.returns-then-not-self-clause-state
returns-then-not-self-clause-state c is =
    let p = c.args.self.now in
    let place = c.args.position.now in
    let rest = rest_of place in
    let depth = c.args.depth in
    let ending = ending_of p.bytes.now place in
    let on = c.args.is_whole && is_in_paragraph (state_of p).leaf in
    let first = ap (λ t. get_or t 0 0) (text_is place) ∙ sym is ∙ c.if-byte-eq36.true in (
      ap (λ byte. chosen byte p.options.now (defined_in p) depth on rest ending (state_of p)) first
          ∙ ap (λ so. if so then math_begun (defined_in p) depth rest ending (state_of p) else None) c.if-not-self.true,
      λ none. sym (stays 36 (defined_in p) on rest (state_of p) (sym first) refl),
    )

pub returns-then-byte-eq36-clause-state : goal.returns-then-byte-eq36-clause-state
returns-then-byte-eq36-clause-state c =
    let p = c.args.self.now in
    let new = c.begin_math.new.self in
    let place = c.args.position.now in
    let rest = rest_of place in
    let depth = c.args.depth in
    let ending = ending_of p.bytes.now place in
    let on = c.args.is_whole && is_in_paragraph (state_of p).leaf in
    both_ok c.begin_math.result
    (λ has. (math_begun (defined_in p) depth rest ending (state_of p) ≡ if_begun has (state_of new)))
    (λ has. has ≡ false → state_of new ≡ state_of p)
    (λ has. c.args.byte ≡ get_or (text_at place) 0 0
    → Claim p.options.now (defined_in p) depth on rest ending (state_of p) has (state_of new))
    (λ has begun same is. let first = ap (λ t. get_or t 0 0) (text_is place) ∙ sym is
    ∙ c.if-byte-eq36.true in (
      ap (λ byte. chosen byte p.options.now (defined_in p) depth on rest ending (state_of p)) first
          ∙ ap (λ so. if so then math_begun (defined_in p) depth rest ending (state_of p) else None)
          c.if-not-self.false
          ∙ begun,
      λ none. same none ∙ sym (stays 36 (defined_in p) on rest (state_of p) (sym first) refl),
    ))
    c.begin_math.ensures.state c.begin_math.ensures.same

pub returns-then-byte-eq60-clause-state : goal.returns-then-byte-eq60-clause-state
returns-then-byte-eq60-clause-state c =
    let p = c.args.self.now in
    let new = c.begin_html.new.self in
    let place = c.args.position.now in
    let rest = rest_of place in
    let depth = c.args.depth in
    let ending = ending_of p.bytes.now place in
    let on = c.args.is_whole && is_in_paragraph (state_of p).leaf in
    let in_paragraph = c.is_in_paragraph-in_paragraph.result in
    both_ok c.begin_html.result
    (λ has. (html_begun (defined_in p) depth (kind_begun (not in_paragraph) (text_at place)) rest ending (state_of p)
    ≡ if_begun has (state_of new)))
    (λ has. has ≡ false → state_of new ≡ state_of p)
    (λ has. c.args.byte ≡ get_or (text_at place) 0 0
    → Claim p.options.now (defined_in p) depth on rest ending (state_of p) has (state_of new))
    (λ has begun same is. let first = ap (λ t. get_or t 0 0) (text_is place) ∙ sym is
    ∙ c.if-byte-eq60.true in (
      ap (λ byte. chosen byte p.options.now (defined_in p) depth on rest ending (state_of p)) first
          ∙ ap (λ so. html_begun (defined_in p) depth (kind_begun (not so) (unindented rest)) rest ending (state_of p))
          (sym c.is_in_paragraph-in_paragraph.ensures.value)
          ∙ ap (λ t. html_begun (defined_in p) depth (kind_begun (not in_paragraph) t) rest ending (state_of p))
          (text_is place)
          ∙ begun,
      λ none. same none ∙ sym (stays 60 (defined_in p) on rest (state_of p) (sym first) refl),
    ))
    c.begin_html.ensures.state c.begin_html.ensures.same

pub returns-clause-state : goal.returns-clause-state
returns-clause-state c =
    let p = c.args.self.now in
    let new = c.begin_of_marks.new.self in
    let place = c.args.position.now in
    let rest = rest_of place in
    let byte = c.args.byte in
    let depth = c.args.depth in
    let ending = ending_of p.bytes.now place in
    let on = c.args.is_whole && is_in_paragraph (state_of p).leaf in
    let in_paragraph = c.is_in_paragraph-in_paragraph.result in
    IfOk-weaker c.begin_of_marks.result
    (λ has. byte ≡ get_or (text_at place) 0 0
    → (marks_begun (defined_in p) depth in_paragraph rest (state_of p) ≡ if_begun has (state_of new))
    × (has ≡ false → state_of new ≡ unless_underlined (defined_in p) in_paragraph rest (state_of p)))
    (λ has. byte ≡ get_or (text_at place) 0 0
    → Claim p.options.now (defined_in p) depth on rest ending (state_of p) has (state_of new))
    (λ has found is. let begun = found is in
    subst (λ so. Claim p.options.now (defined_in p) depth so rest ending (state_of p) has (state_of new))
    c.is_in_paragraph-in_paragraph.ensures.value (
      ap (λ b. chosen b p.options.now (defined_in p) depth in_paragraph rest ending (state_of p))
          (ap (λ t. get_or t 0 0) (text_is place) ∙ sym is)
          ∙ ap (λ so. tested so (byte == 96 || byte == 126) (byte == 36) (byte == 60) byte p.options.now
          (defined_in p) depth in_paragraph rest ending (state_of p)) (ne_eqb byte 35 c.if-byte-eq35.false)
          ∙ ap (λ so. tested false so (byte == 36) (byte == 60) byte p.options.now
          (defined_in p) depth in_paragraph rest ending (state_of p))
          (sym c.is_fence_mark.ensures ∙ c.if-is_fence_mark.false)
          ∙ ap (λ so. tested false false so (byte == 60) byte p.options.now
          (defined_in p) depth in_paragraph rest ending (state_of p)) (ne_eqb byte 36 c.if-byte-eq36.false)
          ∙ ap (λ so. tested false false false so byte p.options.now
          (defined_in p) depth in_paragraph rest ending (state_of p)) (ne_eqb byte 60 c.if-byte-eq60.false)
          ∙ begun.0,
      begun.1,
    ))
    c.begin_of_marks.ensures.state
