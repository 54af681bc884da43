-- What holds of the text of each content, in which surroundings it stands and after which names.
use Rattle.std.proofs.Common.{◌≡◌, ℕ, Bool, true, false, cond, List, [], ◌∷◌, ◌++◌, refl, ap, arith}
use Rattle.std.specs.List.{list_any}
use Rattle.std.proofs.lemmas.Bool.{cond_both}
use Rattle.md_base.specs.declared.event.Name.{Name}
use Rattle.md_base.specs.Tree.{Forest, Empty, Node}
use Rattle.md_base.specs.NameTests.{is_transparent, is_fence as fence_name}
use Rattle.md_base.specs.Children.{spine_names}
use Rattle.md_content.specs.Built.{Content, Blocks, Spans, Strings, FirstFence, FirstMathFence}
use Rattle.md_content.specs.Built.{Chunks, InfoAndMeta, MetaAlone, Done, Nothing, Sources}
use Rattle.md_content.specs.Built.{content_past, content_after, content_after_node}
use Rattle.md_safe.proofs.Texts.{Escaped}
use Rattle.md_safe.proofs.Tags.{Claim}
use Rattle.md_safe.proofs.Elements.{IsDone}
use Rattle.md_safe.proofs.RawElements.{IsRaw, IsInfo, code_tag, math_tag}

-- the names on the spine after a node
abbrev pub spine_after_node : Name → Forest → List Name → List Name
spine_after_node name children spine =
    spine ++ cond (is_transparent name) (spine_names children) (name ∷ [])

-- what holds of a text that stands as some content
abbrev pub Holds : Claim → Bool → Bool → Content → List ℕ → Type 0
Holds p escaping in_image Blocks x = p.holds x
Holds p escaping in_image Spans x = Escaped x
Holds p escaping in_image Strings x = escaping ≡ true → Escaped x
Holds p escaping in_image FirstFence x = IsRaw code_tag x
Holds p escaping in_image FirstMathFence x = IsRaw math_tag x
Holds p escaping in_image Chunks x = Escaped x
Holds p escaping in_image InfoAndMeta x = IsInfo code_tag x
Holds p escaping in_image MetaAlone x = x ≡ []
Holds p escaping in_image Done x = IsDone in_image x
Holds p escaping in_image Nothing x = x ≡ []
Holds p escaping in_image Sources x = Unit {0}

-- the names before a content: no fence before a first one, one before what follows it
abbrev pub Follows : Content → List Name → Type 0
Follows FirstFence names = list_any fence_name names ≡ false
Follows FirstMathFence names = list_any fence_name names ≡ false
Follows Chunks names = list_any fence_name names ≡ true
Follows _ names = Unit {0}

-- a first fence is to come
abbrev pub is_first : Content → Bool
is_first FirstFence = true
is_first FirstMathFence = true
is_first _ = false

-- what stays after each name stays after nodes
pub stays-after : (Q : Content → Type 0) → ((content : Content) (name : Name) → Q content → Q
    (content_past content name)) → (content : Content) (forest : Forest) → Q content →
    Q (content_after content forest)
stays-after Q past content Empty h = h
stays-after Q past content (Node name start end children rest) h = stays-after Q past (cond
    (is_transparent name) (content_after content children) (content_past content name)) rest
    (cond_both _ _ _ Q (λ _. stays-after Q past content children h) (λ _. past content name h))

-- blocks stand after blocks
pub blocks-stay : (forest : Forest) → content_after Blocks forest ≡ Blocks
blocks-stay forest = stays-after (λ content. content ≡ Blocks)
    (λ content name e. ap (λ content. content_past content name) e) Blocks forest refl

-- after each node in blocks the content is still blocks
pub after-blocks : (name : Name) (children : Forest) → content_after_node Blocks name
    children ≡ Blocks
after-blocks name children = grind (arith, cond_both, blocks-stay)
