-- A few plain bytes or a triple, and the bytes after them.
use Rattle.std.proofs.Common.{◌≡◌, ◌≤◌, ◌+◌, ℕ, List, false, true, length, get_or, min, drop, sym}
use Rattle.std.proofs.Common.{ap, subst, ◌∙◌, arith}
use Rattle.std.proofs.lemmas.List.{take_rest}
use Rattle.std.specs.List.{prefix_len}
use Rattle.md_text.specs.Kept.{is_plain, begins_triple, begins_kept}
use Rattle.md_text.proofs.PlainLemmas.{kept-plain, kept-triple, kept-join, kept-ends, first-plain}
use Rattle.md_text.proofs.url.kept.kept_length.Goals as goal

-- the first and those after it
few-is : (bytes after : List ℕ) (n : ℕ) → 1 ≤ length bytes → is_plain (get_or bytes 0 0) ≡ true →
    n ≡ min 3 (prefix_len is_plain after) → after ≡ drop 1 bytes →
    1 + n ≡ min 4 (prefix_len is_plain bytes)
few-is bytes after n long plain is rest = first-plain bytes n long plain (rw rest at is)

pub kept_from-requires : goal.kept_from-requires
kept_from-requires c =
    kept-plain c.run_length.result c.args.bytes.now (omega (arith, c.run_length.ensures))

pub kept_from-requires-then-begins_triple : goal.kept_from-requires-then-begins_triple
kept_from-requires-then-begins_triple c =
    let bytes : List ℕ = c.args.bytes.now in
    let few = 1 + c.first_plain-few.result in
    let is = few-is bytes _ c.first_plain-few.result c.in-len1-up.len_at_least
    (sym c.is_plain_byte.ensures ∙ c.if-is_plain_byte.true) c.first_plain-few.ensures
    (take_rest bytes 1) in
    let triple = ap begins_triple (sym (take_rest bytes few)) ∙ sym c.begins_triple.ensures
    ∙ c.if-begins_triple.true in
    kept-join bytes few 3 (kept-plain few bytes (omega (arith, is)))
    (kept-triple (drop few bytes) triple)

pub kept_from-requires-in_default : goal.kept_from-requires-in_default
kept_from-requires-in_default c =
    kept-triple c.args.bytes.now (sym c.begins_triple-2.ensures ∙ c.if-begins_triple-2.true)

pub returns-else-begins_triple-clause-kept : goal.returns-else-begins_triple-clause-kept
returns-else-begins_triple-clause-kept c =
    let bytes : List ℕ = c.args.bytes.now in
    let is = few-is bytes _ c.first_plain-few.result c.in-len1-up.len_at_least
    (sym c.is_plain_byte.ensures ∙ c.if-is_plain_byte.true) c.first_plain-few.ensures
    (take_rest bytes 1) in
    kept-plain (1 + c.first_plain-few.result) bytes (omega (arith, is))

pub returns-else-begins_triple-clause-ends : goal.returns-else-begins_triple-clause-ends
returns-else-begins_triple-clause-ends c =
    let bytes : List ℕ = c.args.bytes.now in
    let few = 1 + c.first_plain-few.result in
    let is = few-is bytes _ c.first_plain-few.result c.in-len1-up.len_at_least
    (sym c.is_plain_byte.ensures ∙ c.if-is_plain_byte.true) c.first_plain-few.ensures
    (take_rest bytes 1) in
    let all : few ≡ prefix_len is_plain bytes = omega (arith, is, c.if-few-eq-FEW.false) in
    let other = ap begins_triple (sym (take_rest bytes few)) ∙ sym c.begins_triple.ensures
    ∙ c.if-begins_triple.false in
    subst (λ n. begins_kept (drop n bytes) ≡ false) (sym all)
    (kept-ends bytes (subst (λ n. begins_triple (drop n bytes) ≡ false) all other))
