-- The nodes of a fragment: the root is a place for flow content, and its children are the inserted
-- nodes.
use Rattle.std.proofs.Common.{◌≡◌, ℕ, true, List, [], ◌∷◌, ◌++◌, ap, ◌∙◌, cond, codes}
use Rattle.std.specs.Prelude.{Some, None, option_map}
use Rattle.md_text.specs.Html.{Forest}
use Rattle.md_safe.specs.Token.{EndOfFile}
use Rattle.md_safe.specs.Tokens.{tokens}
use Rattle.md_safe.specs.Node.{InBody, Parser, Empty as NoNode}
use Rattle.md_safe.specs.Built.{at, open_at, put, IsPlace, Builds}
use Rattle.md_safe.specs.Page.{constructed}
use Rattle.md_safe.specs.Fragment.{is_flow_context, children_of, fragment_of}
use Rattle.md_safe.proofs.Pages.{constructed-after}

pub root-place : IsPlace InBody (open_at 0 (codes "html") NoNode) [] [] 1
root-place = search

pub fragment-built : (context : List ℕ) (f : Forest) → is_flow_context context ≡ true →
    Builds InBody (open_at 0 (codes "html") NoNode) [] [] 1 f →
    fragment_of context (tokens f ++ (EndOfFile ∷ [])) ≡ Some (put NoNode f)
fragment-built context f h built =
    let start : Parser = at InBody (open_at 0 (codes "html") NoNode ∷ []) [] 1 in
    let end : Parser = at InBody (open_at 0 (codes "html") (put NoNode f) ∷ []) [] built.0 in
    ap (λ b. cond b (option_map (λ document. children_of document.root)
    (constructed None start (tokens f ++ (EndOfFile ∷ [])))) None) h
    ∙ ap (option_map (λ document. children_of document.root))
    (constructed-after None start end (tokens f) (EndOfFile ∷ []) built.1)
