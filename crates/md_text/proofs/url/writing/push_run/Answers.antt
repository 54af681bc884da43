-- The unchanged bytes, and the replacement of the byte after them.
use Rattle.std.proofs.Common.{◌≡◌, ◌++◌, ◌-◌, ℕ, List, false, length, get_or, take, drop, ap, ◌∙◌}
use Rattle.std.proofs.Common.{arith, append_assoc, string_bytes}
use Rattle.std.proofs.lemmas.List.{take_rest}
use Rattle.md_text.specs.Kept.{begins_kept, changed_byte}
use Rattle.md_text.specs.Url.{sanitized}
use Rattle.md_text.proofs.PlainLemmas.{sanitized-changed_first}
use Rattle.md_text.proofs.url.writing.push_run.Goals as goal

pub returns-in_ok-push_changed-in-len1-up-clause-value :
    goal.returns-in_ok-push_changed-in-len1-up-clause-value
returns-in_ok-push_changed-in-len1-up-clause-value c =
    let rest : List ℕ = c.args.rest.now in
    let before : List ℕ = string_bytes c.args.out.now in
    let n = c.args.run in
    let left : List ℕ = c.split_at.result.1.now in
    let first : List ℕ = changed_byte (get_or left 0 0) in
    let changes : begins_kept left ≡ false =
    ap begins_kept c.split_at.ensures.back ∙ c.requires.2 in
    ap (λ x. x ++ sanitized (take (length left - 1) (drop 1 left)))
    (c.in_ok-push_changed-in-len1-up.ensures ∙ ap (λ x. x ++ first)
    (c.in_ok-push_kept.ensures ∙ ap (λ x. before ++ x) c.split_at.ensures.front))
    ∙ ap (λ x. ((before ++ take n rest) ++ first) ++ sanitized x) (take_rest left 1)
    ∙ append_assoc (before ++ take n rest) first (sanitized (drop 1 left))
    ∙ ap (λ x. (before ++ take n rest) ++ x) (sanitized-changed_first left c.in-len1-up.len_at_least
    (omega (arith, c.if-byte-lt128.true)) changes ∙ ap sanitized c.split_at.ensures.back)
    ∙ append_assoc before (take n rest) (sanitized (drop n rest))
    ∙ ap (λ x. before ++ x) c.requires.0.2
