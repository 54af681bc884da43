-- The name is what its length says.
use Rattle.std.proofs.Common.{ℕ, Bool, List, ◌≡◌, ◌-◌, ◌∙◌, nat_eq, codes, length, take, drop}
use Rattle.std.proofs.Common.{ap}
use Rattle.std.specs.List.{starts_with}
use Rattle.std.proofs.lemmas.List.{take_rest}
use Rattle.md_blocks.specs.Leaves.{without_first}
use Rattle.md_blocks.specs.HtmlBlocks.{named_kind, name_length, tag_kind}
use Rattle.md_blocks.proofs.html.kind_of_tag.Goals as goal

kind : (text rest inside : List ℕ) (n : ℕ) (is_closing : Bool)
    → rest ≡ take (length text - 1) (drop 1 text) → inside ≡ without_first 47 rest
    → n ≡ name_length inside → is_closing ≡ starts_with nat_eq text (codes "</")
    → named_kind is_closing (take n inside) (take (length inside - n) (drop n inside))
    ≡ tag_kind text
kind text rest inside n is_closing rest_is inside_is n_is closing_is =
    let whole = without_first 47 (drop 1 text) in
    let part = λ (m : ℕ) (xs : List ℕ). named_kind is_closing (take m xs) (drop m xs) in
    ap (named_kind is_closing (take n inside)) (take_rest inside n)
    ∙ ap (λ m. part m inside) n_is
    ∙ ap (λ xs. part (name_length xs) xs)
    (inside_is ∙ ap (without_first 47) (rest_is ∙ take_rest text 1))
    ∙ ap (λ closing. named_kind closing (take (name_length whole) whole)
    (drop (name_length whole) whole)) closing_is

pub returns : goal.returns
returns c =
    c.named_kind.ensures
    ∙ kind c.args.text.now c.in_ok-rest.rest.now c.without_first-inside.result.now
    c.name_length-length.result c.starts_with-is_closing.result c.in_ok-rest.ensures.lookup.0.2
    c.without_first-inside.ensures.value c.name_length-length.ensures.value
    c.starts_with-is_closing.ensures.value
