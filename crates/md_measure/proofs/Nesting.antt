-- What events that flatten a document decide is what is defined for the document.
use Rattle.std.proofs.Common.{◌≡◌, ℕ, suc, Bool, true, false, ◌&&◌, not, List, [], ◌∷◌, ◌++◌, refl}
use Rattle.std.proofs.Common.{ap, sym, ◌∙◌, append_assoc, arith}
use Rattle.std.specs.Prelude.{◌||◌, if◌then◌else◌}
use Rattle.std.proofs.lemmas.Bool.{true≢false}
use Rattle.std.proofs.lemmas.List.{append-nil}
use Rattle.md_base.specs.declared.event.Event.{Event}
use Rattle.md_base.specs.declared.event.Name.{Name}
use Rattle.md_base.specs.declared.event.Name.TheVariants.{Image, Link}
use Rattle.md_base.specs.Is.{is}
use Rattle.md_base.specs.Tree.{Forest, Empty, Node, flatten, exiting}
use Rattle.md_safe.specs.Links.{prints_link, has_nested_link}
use Rattle.md_measure.specs.Nesting.{is_link, is_image, is_none, one_less}
use Rattle.md_measure.specs.Nesting.{nests}

is_link-is : (name : Name) → is Link name ≡ is_link name
is_link-is Link = refl
is_link-is _ = refl

is_image-is : (name : Name) → is Image name ≡ is_image name
is_image-is Image = refl
is_image-is _ = refl

image_is_no_link : (name : Name) → is_image name ≡ true → is_link name ≡ false
image_is_no_link Link h = absurd (true≢false (sym h))
image_is_no_link _ h = refl

image_prints_none : (name : Name) → is_image name ≡ true → prints_link name ≡ false
image_prints_none Image h = refl
image_prints_none _ h = absurd (true≢false (sym h))

link_prints_one : (name : Name) → is_link name ≡ true → prints_link name ≡ true
link_prints_one Link h = refl
link_prints_one _ h = absurd (true≢false (sym h))

-- after the exit of a node
abbrev exit_then : Bool → Bool → Bool → ℕ → List Event → Bool
exit_then link image in_link images events =
    nests (if is_none images && link then false else in_link)
    (if image then one_less images else images) events

-- ---- in an image nothing counts

image_node :
    (link image : Bool) (images : ℕ) (in_link : Bool) (inside : ℕ → Bool) (after : List Event) →
    ((more : ℕ) → inside (suc more) ≡ exit_then link image in_link (suc more) after) →
    inside (if image then suc (suc images) else suc images) ≡ nests in_link (suc images) after
image_node link true images in_link inside after h = h (suc images)
image_node link false images in_link inside after h = h images

in_images : (forest : Forest) (in_link : Bool) (images : ℕ) (after : List Event) →
    nests in_link (suc images) (flatten forest ++ after) ≡ nests in_link (suc images) after
in_images Empty in_link images after = refl
in_images (Node name start end children rest) in_link images after =
    let tail : List Event = exiting name end ∷ (flatten rest ++ after) in
    let inside : ℕ → Bool = λ count.
    nests in_link count ((flatten children ++ (exiting name end ∷ flatten rest)) ++ after) in
    let split : (count : ℕ) → inside count ≡ nests in_link count (flatten children ++ tail) =
    grind (arith, append_assoc) in
    image_node (is_link name) (is_image name) images in_link inside (flatten rest ++ after)
    (λ more. split (suc more) ∙ in_images children in_link more tail)
    ∙ in_images rest in_link images after

-- ---- outside images

node : (link image prints : Bool) → (image ≡ true → link ≡ false) →
    (image ≡ true → prints ≡ false) →
    (link ≡ true → prints ≡ true) →
    (in_link : Bool) (children rest following : Bool → Bool) (inside : Bool → ℕ → Bool)
    (after : List Event) →
    ((b : Bool) → inside b 0 ≡ children b || exit_then link image b 0 after) →
    ((b : Bool) → inside b 1 ≡ exit_then link image b 1 after) →
    ((b : Bool) → nests b 0 after ≡ rest b || following b) →
    in_link && prints || inside (if link then true else in_link) (if image then 1 else 0)
    ≡ ((in_link && prints || not image && children (link || in_link)) || rest in_link)
    || following in_link
node link true prints unlinked unprinted printed in_link children rest following inside
    after at within next = grind arith
node link false prints unlinked unprinted printed in_link children rest following inside
    after at within next = grind arith

nested : (forest : Forest) (in_link : Bool) (after : List Event) →
    nests in_link 0 (flatten forest ++ after)
    ≡ has_nested_link in_link forest || nests in_link 0 after
nested Empty in_link after = refl
nested (Node name start end children rest) in_link after =
    let tail : List Event = exiting name end ∷ (flatten rest ++ after) in
    let inside : Bool → ℕ → Bool = λ b count.
    nests b count ((flatten children ++ (exiting name end ∷ flatten rest)) ++ after) in
    let split : (b : Bool) (count : ℕ) → inside b count ≡ nests b count (flatten children ++ tail) =
    grind (arith, append_assoc) in
    node (is_link name) (is_image name) (prints_link name) (image_is_no_link name)
    (image_prints_none name)
    (link_prints_one name) in_link (λ b. has_nested_link b children) (λ b. has_nested_link b rest)
    (λ b. nests b 0 after) inside (flatten rest ++ after)
    (λ b. split b 0 ∙ nested children b tail)
    (λ b. split b 1 ∙ in_images children b 0 tail)
    (λ b. nested rest b after)
    ∙ ap (λ image. ((in_link && prints_link name
    || not image && has_nested_link (is_link name || in_link) children)
    || has_nested_link in_link rest) || nests in_link 0 after) (sym (is_image-is name))
    ∙ ap (λ link. ((in_link && prints_link name
    || not (is Image name) && has_nested_link (link || in_link) children)
    || has_nested_link in_link rest) || nests in_link 0 after) (sym (is_link-is name))

pub summary_of_document : (document : Forest) (events : List Event) → flatten document ≡ events →
    nests false 0 events ≡ has_nested_link false document
summary_of_document document events flat =
    grind (arith, append-nil (flatten document), nested document false [])
