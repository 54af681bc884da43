-- A reader of HTML: it guesses a forest, tag after tag and text after text.
use Rattle.std.proofs.Common.{arith, ◌≡◌, ℕ, ◌==◌, Bool, true, if◌then◌else◌, List, [], ◌∷◌, ◌++◌}
use Rattle.std.proofs.Common.{drop, length, refl, zero, suc}
use Rattle.std.specs.List.{list_all}
use Rattle.md_text.specs.Html.{Attribute, Forest, Empty, Text, Void, Element}
use Rattle.md_text.proofs.HtmlNames.{is_name_byte, no_angle, no_quote}
use Rattle.md_text.proofs.HtmlSplit.{stops}

-- a result of reading, and the rest
pub record Left (X : Type 0) : Type 0 where
  pub found : X
  pub left : List ℕ

abbrev pub with_left : {X : Type 0} → X → List ℕ → Left X
with_left x r = record { found = x; left = r }

-- the longest run that passes a test
abbrev more_run : ℕ → Left (List ℕ) → Left (List ℕ)
more_run b r = with_left (b ∷ r.found) r.left

abbrev pub read_run : (ℕ → Bool) → List ℕ → Left (List ℕ)
read_run t [] = with_left [] []
read_run t (b ∷ rest) = if t b then more_run b (read_run t rest) else with_left [] (b ∷ rest)

pub read_run-at : (t : ℕ → Bool) (x a : List ℕ) → list_all t x ≡ true → stops t a ≡ true →
    read_run t (x ++ a) ≡ with_left x a
read_run-at t [] [] h s = refl
read_run-at t [] (b ∷ a) h s = grind (arith, s)
read_run-at t (b ∷ x) a h s = let later = read_run-at t x a in grind (arith, later, h, s)

-- ---- attributes
abbrev pub add_attribute : List ℕ → List ℕ → Left (List Attribute) → Left (List Attribute)
add_attribute name value r = with_left (record { name = name; value = value } ∷ r.found) r.left

abbrev pub past_value : (List ℕ → Left (List Attribute)) → List ℕ → Left (List ℕ) →
    Left (List Attribute)
past_value go name value = add_attribute name value.found (go (drop 1 value.left))

abbrev pub past_name : (List ℕ → Left (List Attribute)) → Left (List ℕ) → Left (List Attribute)
past_name go name = past_value go name.found (read_run no_quote (drop 2 name.left))

abbrev pub past_space : (List ℕ → Left (List Attribute)) → List ℕ → Left (List Attribute)
past_space go [] = with_left [] (32 ∷ [])
past_space go (b ∷ rest) = if b == 47 then with_left [] (32 ∷ b ∷ rest)
    else past_name go (read_run is_name_byte (b ∷ rest))

abbrev pub at_attribute : (List ℕ → Left (List Attribute)) → List ℕ → Left (List Attribute)
at_attribute go [] = with_left [] []
at_attribute go (b ∷ rest) = if b == 32 then past_space go rest else with_left [] (b ∷ rest)

-- at most a number of attributes
abbrev pub read_attributes : ℕ → List ℕ → Left (List Attribute)
read_attributes zero text = with_left [] text
read_attributes (suc n) text = at_attribute (read_attributes n) text

-- ---- forests
abbrev pub element_from : (List ℕ → Left Forest) → List ℕ → List Attribute → Left Forest →
    Left Forest → Left Forest
element_from go name attributes children rest =
    with_left (Element name attributes children.found rest.found) rest.left

abbrev pub past_children : (List ℕ → Left Forest) → List ℕ → List Attribute → Left Forest →
    Left Forest
past_children go name attributes children = element_from go name attributes children
    (go (drop 1 (drop (length name) (drop 2 children.left))))

abbrev pub void_from : List ℕ → List Attribute → Left Forest → Left Forest
void_from name attributes rest = with_left (Void name attributes rest.found) rest.left

abbrev pub past_attributes : (List ℕ → Left Forest) → List ℕ → List Attribute → List ℕ → Left Forest
past_attributes go name attributes [] = with_left Empty []
past_attributes go name attributes (b ∷ rest) =
    if b == 62 then past_children go name attributes (go rest)
    else void_from name attributes (go (drop 2 rest))

abbrev pub with_attributes_read : (List ℕ → Left Forest) → List ℕ → Left (List Attribute) →
    Left Forest
with_attributes_read go name attributes = past_attributes go name attributes.found attributes.left

abbrev pub past_tag_name : (List ℕ → Left Forest) → Left (List ℕ) → Left Forest
past_tag_name go name =
    with_attributes_read go name.found (read_attributes (length name.left) name.left)

abbrev pub past_angle : (List ℕ → Left Forest) → List ℕ → Left Forest
past_angle go [] = with_left Empty (60 ∷ [])
past_angle go (b ∷ rest) = if b == 47 then with_left Empty (60 ∷ b ∷ rest)
    else past_tag_name go (read_run is_name_byte (b ∷ rest))

abbrev pub text_from : List ℕ → Left Forest → Left Forest
text_from bytes rest = with_left (Text bytes rest.found) rest.left

abbrev pub past_text : (List ℕ → Left Forest) → Left (List ℕ) → Left Forest
past_text go bytes = text_from bytes.found (go bytes.left)

abbrev pub at_node : (List ℕ → Left Forest) → List ℕ → Left Forest
at_node go [] = with_left Empty []
at_node go (b ∷ rest) =
    if b == 60 then past_angle go rest else past_text go (read_run no_angle (b ∷ rest))

-- at most so deep and long
abbrev pub read_forest : ℕ → List ℕ → Left Forest
read_forest zero text = with_left Empty text
read_forest (suc n) text = at_node (read_forest n) text
