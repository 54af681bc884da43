-- A content that nothing changes, and tests that it passes.
use Rattle.std.proofs.Common.{arith, ◌≡◌, Bool, refl, ap, ◌∙◌}
use Rattle.std.specs.Prelude.{if◌then◌else◌}
use Rattle.md_base.specs.declared.event.Name.{Name}
use Rattle.md_base.proofs.Lies.{lie}
use Rattle.md_base.specs.Tree.{Forest, Empty, Node}
use Rattle.md_base.specs.NameTests.{is_transparent}
use Rattle.md_steps.specs.Content.{Content, BeforeLabel, AfterLabel, Childless, Fits, content_past}
use Rattle.md_steps.specs.Content.{content_after, content_after_node}

pub one_or_other : {A : Type 0} (b : Bool) {x y z : A} → x ≡ z → y ≡ z → (if b then x else y) ≡ z
one_or_other b h k = grind arith

pub stays : (content : Content) (forest : Forest) → content_past content ≡ content →
    content_after content forest ≡ content
stays content Empty h = refl
stays content (Node name start end children rest) h =
    ap (λ c. content_after c rest) (one_or_other (is_transparent name) (stays content children h) h)
    ∙ stays content rest h

pub node-stays : (content : Content) (name : Name) (children : Forest) →
    content_past content ≡ content →
    content_after_node content name children ≡ content
node-stays content name children h = one_or_other (is_transparent name) (stays content children h) h

either : (p : Content → Bool) (b : Bool) (x y : Content) (v : Bool) → p x ≡ v → p y ≡ v →
    p (if b then x else y) ≡ v
either p b x y v h k = grind arith

-- a test that doesn't distinguish a content from what follows it
pub after-same : (p : Content → Bool) → ((c : Content) → p (content_past c) ≡ p c) →
    (content : Content) (forest : Forest) → p (content_after content forest) ≡ p content
after-same p past content Empty = refl
after-same p past content (Node name start end children rest) =
    after-same p past
    (if is_transparent name then content_after content children else content_past content) rest
    ∙ either p (is_transparent name) (content_after content children) (content_past content)
    (p content) (after-same p past content children) (past content)

pub node-same : (p : Content → Bool) → ((c : Content) → p (content_past c) ≡ p c) →
    (content : Content) (name : Name) (children : Forest) →
    p (content_after_node content name children) ≡ p content
node-same p past content name children =
    either p (is_transparent name) (content_after content children) (content_past content)
    (p content) (after-same p past content children) (past content)

pub past-as : (p : Content → Bool) → p AfterLabel ≡ p BeforeLabel → (c : Content) →
    p (content_past c) ≡ p c
past-as p same BeforeLabel = same
past-as p same _ = refl

-- nothing stands there
pub childless : (forest : Forest) → Fits Childless forest → forest ≡ Empty
childless Empty fits = refl
childless (Node name start end children rest) fits = lie fits.0
