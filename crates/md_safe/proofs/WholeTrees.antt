-- A text that is contained without a link in a link is built as it is read.
use Rattle.std.proofs.Common.{◌≡◌, ℕ, true, false, List, refl, arith}
use Rattle.md_text.specs.Html.{Forest, Empty, Text, Void, Element, is_forest, any_attribute}
use Rattle.std.proofs.lemmas.Bool.{and_parts, and_from}
use Rattle.md_text.proofs.HtmlReading.{all-any}
use Rattle.md_safe.proofs.Tokenized.{read-tokenized}
use Rattle.md_safe.specs.Contents.{Flow, is_contained, IsUnnested}
use Rattle.md_safe.specs.Node.{Open, Entry, Mode}
use Rattle.md_safe.specs.Built.{has_whole_texts, IsPlace, Builds, IsBuiltAsRead}
use Rattle.md_safe.proofs.TreeSteps.{Position}
use Rattle.md_safe.proofs.Flow.{flow-done}

-- the texts of a reading
pub reading-texts : (forest : Forest) → is_forest forest ≡ true → has_whole_texts forest ≡ true
reading-texts Empty h = refl
reading-texts (Text bytes rest) h = grind (arith, and_parts, and_from, reading-texts rest)
reading-texts (Void name attributes rest) h = reading-texts rest (and_parts _ _ h).1
reading-texts (Element name attributes inner rest) h =
    let all = and_parts _ _ h in
    and_from _ _ (reading-texts inner (and_parts _ _ all.0).1) (reading-texts rest all.1)

pub forest-built : (forest : Forest) → has_whole_texts forest ≡ true →
    is_contained false Flow forest ≡ true →
    (mode : Mode) (node : Open) (others : List Open) (active : List Entry) (created : ℕ) →
    IsPlace mode node others active created → Builds mode node others active created forest
forest-built forest h c mode node others active created place =
    let x : Position = record {
      mode = mode;
      node = node;
      others = others;
      active = active;
      created = created;
    } in
    let d = flow-done forest Flow refl h c x (grind arith) in grind arith

pub text-built : (text : List ℕ) → IsUnnested text → IsBuiltAsRead text
text-built text h =
    let read = read-tokenized any_attribute text (grind (arith, all-any)) in
    grind (arith, forest-built, reading-texts)
