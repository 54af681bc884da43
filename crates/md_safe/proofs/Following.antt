-- The surroundings of a node suit its children and what follows it. Which names may stand before a
-- node's children, and before what follows it; blocks occur only in blocks, and a condition on
-- blocks alone covers no more after nodes. After a node's children, and after it, no first fence is
-- to come.
use Rattle.std.proofs.Common.{◌≡◌, Bool, true, false, ◌||◌, refl, subst, ℕ, List, [], ◌∷◌, ◌++◌}
use Rattle.std.proofs.Common.{append_assoc, append-nil, arith}
use Rattle.std.proofs.lemmas.Bool.{cond_both, or_left, or_right}
use Rattle.md_base.specs.declared.event.Name.{Name}
use Rattle.md_base.specs.Tree.{Forest, Empty, Node}
use Rattle.md_content.specs.Built.{Content, may_stand, content_of, content_past, content_after_node}
use Rattle.md_content.specs.Built.{is_fence, content_after, content_inside, IsBuilt, IsFit}
use Rattle.md_safe.proofs.Contents.{stays-after, Follows, spine_after_node, is_first}
use Rattle.md_safe.proofs.Insides.{allowed_inside, is_blocks, of-blocks, Suits, past_of, is_raw}
use Rattle.md_safe.proofs.Cases.{cases}
use Rattle.std.specs.List.{list_any}
use Rattle.md_base.specs.NameTests.{is_transparent, is_fence as fence_name}
use Rattle.md_base.specs.Children.{spine_names}
use Rattle.std.proofs.lemmas.List.Folds.{list_any-append}
use Rattle.md_base.specs.declared.event.Point.{Point}

pub suits-after-node : (escaping in_image : Bool) (content : Content) (name : Name)
    (children : Forest) → Suits escaping in_image content → Suits escaping
    in_image (content_after_node content name children)
suits-after-node escaping in_image content name children h =
    cond_both _ _ _ (Suits escaping in_image)
    (λ _. stays-after (Suits escaping in_image) past content children h) (λ _. past content name h)
  where
    past : (content : Content) (name : Name) → Suits escaping in_image content →
        Suits escaping in_image (content_past content name)
    past content name h =
        let after = past_of content name in
        record {
          escaped = λ asks. h.escaped (after.escaping asks);
          image = λ asks. h.image (after.image asks);
          outside = λ is. h.outside (after.blocks is);
        }

-- the two tests of fences are one
pub same_fence : (name : Name) → is_fence name ≡ fence_name name
same_fence name = grind arith

pub same_fences : (names : List Name) → list_any is_fence names ≡ list_any fence_name names
same_fences [] = refl
same_fences (name ∷ names) = (λ i. same_fence name i || same_fences names i)

-- one of two tests holds, and it isn't the first
pub second : (a b : Bool) → a ≡ false → (a || b) ≡ true → b ≡ true
second a b e h = grind arith

follows-node : (content : Content) (name : Name) (names : List Name) (children : Forest) →
    (is_transparent name || may_stand content name) ≡ true → Follows content names → (is_transparent
    name ≡ true → Follows (content_after content children) (names ++ spine_names children)) →
    Follows (content_after_node content name children) (spine_after_node name children names)
follows-node content name names children stands f inner =
    grind (arith, list_any-append, or_right, or_left, allowed_inside, cond_both)

pub follows-after : (bytes : List ℕ) (content : Content) (names : List Name) (forest : Forest) →
    IsBuilt bytes content forest → Follows content names →
    Follows (content_after content forest) (names ++ spine_names forest)
follows-after bytes content names Empty built f = rw append-nil f
follows-after bytes content names (Node name start end children rest) built f =
    subst (Follows (content_after (content_after_node content name children) rest))
    (grind (arith, append_assoc)) (follows-after bytes (content_after_node content name children)
    (spine_after_node name children names) rest built.3 (follows-node content name names children
    built.0 f (λ e. follows-after bytes content names children (rw e at built.2) f)))

pub follows-after-node :
    (bytes : List ℕ) (content : Content) (name : Name) (names : List Name) (children : Forest) →
    (is_transparent name || may_stand content name) ≡ true →
    IsBuilt bytes (content_inside content name) children →
    Follows content names
    → Follows (content_after_node content name children) (spine_after_node name children names)
follows-after-node bytes content name names children stands built f =
    grind (arith, follows-node, follows-after)

pub inside-blocks : (content : Content) (name : Name) → is_blocks (content_inside content name)
    ≡ true → is_blocks content ≡ true
inside-blocks content name = grind (arith, cond_both, of-blocks)

-- a condition on blocks alone covers no more after nodes
pub asked-after-node : (A : Type 0) (content : Content) (name : Name) (children : Forest) →
    (is_blocks content ≡ true → A) → is_blocks (content_after_node content name children) ≡ true → A
asked-after-node A content name children asked = cond_both _ _ _ (λ c. is_blocks c ≡ true → A) (λ _.
    stays-after (λ c. is_blocks c ≡ true → A) (λ c name asked h. asked ((past_of c name).blocks h))
    content children asked) (λ _ h. asked ((past_of content name).blocks h))

abbrev IsLater : Content → Type 0
IsLater content = is_first content ≡ false

fenced-after : (bytes : List ℕ) (content : Content) (children : Forest) →
    IsBuilt bytes content children →
    Follows content [] → list_any is_fence (spine_names children) ≡ true →
    IsLater (content_after content children)
fenced-after bytes content children built f h = grind (arith, follows-after, same_fences)

-- after a node's children no first fence is to come
pub later-inside :
    (bytes : List ℕ) (content : Content) (name : Name) (start end : Point) (children : Forest) →
    may_stand content name ≡ true → IsFit bytes name start end children →
    IsBuilt bytes (content_of name content) children
    → IsLater (content_after (content_of name content) children)
later-inside bytes content name start end children s fit built = cases (is_raw name)
    (grind (arith, fenced-after, allowed_inside)) (λ plain. stays-after IsLater
    (grind (arith, past_of)) (content_of name content) children (grind (arith, allowed_inside)))
