-- What was added begins where the text ended, and is ASCII.
use Rattle.std.proofs.Common.{rules, ◌≡◌, ◌<◌, ◌++◌, List, ℕ, length, ap, arith, string_bytes}
use Rattle.std.proofs.lemmas.Grind.{common_steps}
use Rattle.std.proofs.lemmas.List.{length-append}
use Rattle.std.proofs.lemmas.List.Elements.{All-from_get_or}
use Rattle.md_text.specs.Url.{sanitized}
use Rattle.md_text.proofs.PlainLemmas.{first-added}
use Rattle.md_text.proofs.UrlLaws.{sanitized-ascii}
use Rattle.md_text.proofs.url.push_sanitized_with_protocols.Goals as goal

pub truncate-requires : goal.truncate-requires
truncate-requires c =
    let value : List ℕ = c.args.value.now in
    let before : List ℕ = string_bytes c.args.out.now in
    let after : List ℕ = string_bytes c.push_sanitized.new.out in
    let start : c.len-start.result ≡ length before = search rules in
    let added : after ≡ before ++ sanitized value = c.in_ok-push_sanitized.ensures in
    let bytes = All-from_get_or (λ b. b < 256) value 0 (λ k _. (c.type_inv.value k).fits) in
    let first = first-added before (sanitized value) (sanitized-ascii value bytes) in
    λ _. (
      omega (arith, start, ap (λ t. length t) added, length-append before (sanitized value)),
      λ _ inside high. absurd (grind (arith, start, added, first, inside, high)),
    )

pub returns-then-not-has_permitted_protocol : goal.returns-then-not-has_permitted_protocol
returns-then-not-has_permitted_protocol c = grind (arith, common_steps)

pub returns-else-not-has_permitted_protocol : goal.returns-else-not-has_permitted_protocol
returns-else-not-has_permitted_protocol c = grind (arith, common_steps)
