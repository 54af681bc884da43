-- A start tag switches to the mode "text" if it is `title`, and otherwise not.
use Rattle.std.proofs.Common.{subst, sym, true, arith, ◌≡◌, ℕ, Bool, false, cond, List, refl, ap}
use Rattle.std.proofs.Common.{codes}
use Rattle.std.specs.Prelude.{Option, Some, None, bytes_eq}
use Rattle.std.proofs.lemmas.Slice.Eq.{bytes_eq-Decides}
use Rattle.md_safe.specs.Token.{StartTag, TokenAttribute}
use Rattle.md_safe.specs.Node.{Mode, InText, InTableText, is_text, Parser}
use Rattle.md_safe.specs.AroundBody.{start_before_html, start_before_head, start_in_head}
use Rattle.md_safe.specs.AroundBody.{start_after_head, with_root, with_head, with_body}
use Rattle.md_safe.specs.InBody.{reconstructed, start_in_body}
use Rattle.md_safe.specs.Construction.{start, step}
use Rattle.md_safe.proofs.Cases.{cases}

-- a parser that is reached is in "text", or is not
record Tokenizes (text : Bool) (reached : Option Parser) : Type 0 where
  holds : (next : Parser) → reached ≡ Some next → is_text next.mode ≡ text

nowhere : (text : Bool) → Tokenizes text None
nowhere text = record { holds = λ next e. cc }

to : (text : Bool) (parser : Parser) → is_text parser.mode ≡ text → Tokenizes text (Some parser)
to text parser is = grind arith

either : (text : Bool) (b : Bool) (x y : Option Parser) → Tokenizes text x → Tokenizes text y →
    Tokenizes text (cond b x y)
either text b x y p q = grind arith

-- ---- no other tag

rebuilt : (parser : Parser) (change : Parser → Parser) → is_text (change parser).mode ≡ false →
    Tokenizes false (reconstructed parser change)
rebuilt parser change e = either _ _ _ _ (nowhere _) (to _ _ e)

-- a tag in a body
in-body : (name : List ℕ) (attributes : List TokenAttribute) (parser : Parser) →
    is_text parser.mode ≡ false →
    Tokenizes false (start_in_body name attributes parser)
in-body name attributes parser e = search (either, to, nowhere, rebuilt) depth 20 fits 4000

after-head : (name : List ℕ) (attributes : List TokenAttribute) (parser : Parser) →
    Tokenizes false (start_after_head name attributes parser)
after-head name attributes parser = either _ _ _ _ (to false _ refl)
    (in-body name attributes (with_body parser) refl)

in-head : (name : List ℕ) (attributes : List TokenAttribute) (parser : Parser) →
    bytes_eq name (codes "title") ≡ false → is_text parser.mode ≡ false →
    Tokenizes false (start_in_head name attributes parser)
in-head name attributes parser none e = search (either, to, after-head, none)

before-head : (name : List ℕ) (attributes : List TokenAttribute) (parser : Parser) →
    bytes_eq name (codes "title") ≡ false → Tokenizes
    false (start_before_head name attributes parser)
before-head name attributes parser none = either _ _ _ _ (to false _ refl)
    (in-head name attributes (with_head parser) none refl)

before-html : (name : List ℕ) (attributes : List TokenAttribute) (parser : Parser) →
    bytes_eq name (codes "title") ≡ false → Tokenizes
    false (start_before_html name attributes parser)
before-html name attributes parser none = either _ _ _ _ (to false _ refl)
    (before-head name attributes (with_root parser) none)

ruleset entering =
    (either, to, nowhere, before-html, before-head, in-head, after-head, in-body)

starts : (mode : Mode) (name : List ℕ) (attributes : List TokenAttribute) (parser : Parser) →
    parser.mode ≡ mode → bytes_eq name (codes "title") ≡ false →
    Tokenizes false (start mode name attributes parser)
starts (InText mode) name attributes parser e none = nowhere false
starts (InTableText mode) name attributes parser e none = nowhere false
starts _ name attributes parser e none = search (entering, ap is_text e)

-- ---- `title`

titles : (mode : Mode) (attributes : List TokenAttribute) (parser : Parser) →
    Tokenizes true (start mode (codes "title") attributes parser)
titles mode attributes parser = grind arith

steps : (text : Bool) (name : List ℕ) (attributes : List TokenAttribute) (flag : Bool) →
    ((parser : Parser) → Tokenizes text (start parser.mode name attributes parser)) →
    (parser : Parser) → Tokenizes text (step parser (StartTag name attributes flag))
steps text name attributes flag all parser = grind arith

pub switched :
    (parser next : Parser) (name : List ℕ) (attributes : List TokenAttribute) (flag : Bool) →
    step parser (StartTag name attributes flag) ≡ Some next →
    is_text next.mode ≡ bytes_eq name (codes "title")
switched parser next name attributes flag e = cases (bytes_eq name (codes "title"))
    (λ same. rw same ((subst (λ name. Tokenizes true (step parser (StartTag name attributes flag)))
    (sym ((bytes_eq-Decides name (codes "title")).0 same)) (steps true (codes "title") attributes
    flag (λ parser. titles parser.mode attributes parser) parser)).holds next e))
    (λ none. rw none ((steps false name attributes flag (λ parser. starts parser.mode name
    attributes parser refl none) parser).holds next e))
