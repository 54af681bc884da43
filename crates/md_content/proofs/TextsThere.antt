-- The texts that the meaning reads of a document of the grammar are there.
use Rattle.std.proofs.Common.{arith, ◌≡◌, ℕ, Bool, true, Option, None, List}
use Rattle.std.specs.Prelude.{is_some}
use Rattle.md_base.specs.declared.event.Name.{Name}
use Rattle.md_base.specs.declared.event.Point.{Point}
use Rattle.md_base.specs.Place.{text_when, text_between}
use Rattle.md_base.proofs.SpaceLemmas.{is_utf8-padded}
use Rattle.std.specs.Str.{is_utf8}
use Rattle.md_pattern.specs.declared.kinds.Symbol.{Symbol}
use Rattle.md_pattern.specs.declared.kinds.Role.{Role}
use Rattle.md_pattern.specs.declared.kinds.Standing.{Standing}
use Rattle.md_tree.specs.declared.mention.Referral.{Referral}
use Rattle.md_tree.specs.declared.rule.Rule.{Rule}
use Rattle.md_base.specs.Tree.{Forest, Empty, Node}
use Rattle.md_pattern.specs.Standing.{standing_of}
use Rattle.md_pattern.specs.Shape.{inner_role, inner_before}
use Rattle.md_tree.specs.Rules.{broken_by, broken_rule, reading_of}
use Rattle.md_tree.specs.Texts.{has_reading, is_text}
use Rattle.md_tree.specs.Grammar.{IsGrammatical}
use Rattle.md_content.specs.References.{Everywhere, HasItsText, HasItsLabel}
use Rattle.md_content.proofs.FineNodes.{IsFine, AreFine, fine}

-- a claim that a fine node meets holds of each
pub everywhere : (bytes : List ℕ) (names : List (List ℕ × List ℕ))
    (holds : Name → Point → Point → Forest → Type 0) →
    ((around : Role) (before : Option Symbol) (name : Name) (start end : Point)
    (children : Forest) → IsFine bytes names around before name start end children →
    AreFine bytes names children (inner_role (standing_of name) around before)
    (inner_before (standing_of name) before) → holds name start end children) →
    (forest : Forest) (around : Role) (before : Option Symbol) →
    AreFine bytes names forest around before →
    Everywhere holds forest
everywhere bytes names holds each Empty around before all = tt
everywhere bytes names holds each (Node name start end children rest) around before all = (
  each around before name start end children all.0 all.1,
  everywhere bytes names holds each children _ _ all.1,
  everywhere bytes names holds each rest _ _ all.2,
)

-- ---- texts
text_there : (text : Option (List ℕ)) (judged : List ℕ → Option Rule) →
    broken_by text judged ≡ None →
    is_some text ≡ true
text_there text judged e = grind arith

text-read : (bytes : List ℕ) (names : List (List ℕ × List ℕ)) (standing : Standing) (around : Role)
    (before : Option Symbol) (start end : Point) (target : Referral) →
    broken_rule bytes names (reading_of standing) around before start end target ≡ None →
    has_reading is_text standing ≡ true → is_some (text_between bytes start end) ≡ true
text-read bytes names standing around before start end target e h = grind arith

-- the same with spaces at its ends
text_when-there : (readable : Bool) (one other : List ℕ) → is_utf8 one ≡ is_utf8 other →
    is_some (text_when readable one) ≡ is_some (text_when readable other)
text_when-there readable one other same = grind arith

pub texts-there : (bytes : List ℕ) (names : List (List ℕ × List ℕ)) (document : Forest) →
    IsGrammatical bytes names document → Everywhere (HasItsText bytes) document
texts-there bytes names document grammatical =
    grind (arith, everywhere, text-read, fine, text_when-there, is_utf8-padded)

pub labels-there : (bytes : List ℕ) (names : List (List ℕ × List ℕ)) (document : Forest) →
    IsGrammatical bytes names document → Everywhere (HasItsLabel bytes) document
labels-there bytes names document grammatical = grind (arith, everywhere, fine, text_there)
