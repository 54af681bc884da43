-- The facts about the content of a node that follow from the node being allowed in some content:
-- computed once for each content, for all names.
use Rattle.std.proofs.Common.{◌≡◌, Bool, true, false, not, ◌&&◌, ◌||◌, refl, arith}
use Rattle.std.proofs.lemmas.Bool.{and_parts}
use Rattle.md_base.specs.declared.event.Name.{Name}
use Rattle.md_base.specs.declared.event.Name.TheVariants.{Image}
use Rattle.md_base.specs.Is.{is as named}
use Rattle.md_base.specs.NameTests.{is_fence}
use Rattle.md_content.specs.Built.{Content, Blocks, Spans, FirstFence, Chunks, InfoAndMeta, Sources}
use Rattle.md_content.specs.Built.{is_source, may_stand, content_of, content_past}
use Rattle.md_steps.proofs.Standing.{implies, follows}
use Rattle.md_safe.proofs.Contents.{is_first}
use Rattle.md_base.proofs.Lies.{lie}

-- blocks
abbrev pub is_blocks : Content → Bool
is_blocks content = elim content [ Blocks ↦ true | _ ↦ false ]

pub is_blocks-same : (content : Content) → is_blocks content ≡ true → content ≡ Blocks
is_blocks-same content h = grind arith

-- what follows a first fence
abbrev pub is_chunks : Content → Bool
is_chunks content = elim content [ Chunks ↦ true | _ ↦ false ]

-- names that occur only in images
abbrev pub asks_image : Content → Bool
asks_image content = elim content [ Spans ↦ true | _ ↦ false ]

-- names that occur only where special characters are escaped
abbrev pub asks_escaping : Content → Bool
asks_escaping content = elim content [
  | Blocks ↦ true
  | Spans ↦ true
  | FirstFence ↦ true
  | InfoAndMeta ↦ true
  | Sources ↦ true
  | _ ↦ false
]

-- a node whose children begin with a first fence, wherever it stands
abbrev pub is_raw : Name → Bool
is_raw name = is_first (content_of name Blocks)

-- of a name that may stand in the content `c`, and what may stand in it, `i`
abbrev tells : Content → Name → Content → Bool
tells c n i =
    implies (asks_escaping i) (asks_escaping c && not (is_source n))
    && (implies (asks_image i) (asks_image c || named Image n)
    && (implies (is_first i) (is_raw n)
    && (implies (is_first c) (is_fence n) && not (is_chunks i))))

abbrev past_tells : Content → Content → Bool
past_tells c after =
    implies (asks_escaping after) (asks_escaping c) && (implies (asks_image after) (asks_image c)
    && (implies (is_blocks after) (is_blocks c)
    && (implies (is_blocks c) (is_blocks after) && not (is_first after))))

abbrev facts : Content → Name → Bool
facts c n =
    implies (is_blocks (content_of n c)) (is_blocks c)
    && (implies (may_stand c n) (tells c n (content_of n c)) && past_tells c (content_past c n))

all-facts : (c : Content) (n : Name) → facts c n ≡ true
all-facts c n = grind arith

-- blocks stand only in blocks
pub of-blocks : (c : Content) (n : Name) → is_blocks (content_of n c) ≡ true → is_blocks c ≡ true
of-blocks c n = follows _ _ (and_parts _ _ (all-facts c n)).0

-- what is known of the content after a name
pub record Past (c : Content) (n : Name) : Type 0 where
  pub escaping : asks_escaping (content_past c n) ≡ true → asks_escaping c ≡ true
  pub image : asks_image (content_past c n) ≡ true → asks_image c ≡ true
  pub blocks : is_blocks (content_past c n) ≡ true → is_blocks c ≡ true
  pub stays : is_blocks c ≡ true → is_blocks (content_past c n) ≡ true
  pub later : is_first (content_past c n) ≡ false

pub past_of : (c : Content) (n : Name) → Past c n
past_of c n = grind (arith, all-facts c n)

-- the surroundings in which a content may stand
pub record Suits (escaping in_image : Bool) (content : Content) : Type 0 where
  pub escaped : asks_escaping content ≡ true → escaping ≡ true
  pub image : asks_image content ≡ true → in_image ≡ true
  pub outside : is_blocks content ≡ true → in_image ≡ false

pub blocks-suit : Suits true false Blocks
blocks-suit = record { escaped = λ _. refl; image = λ h. lie h; outside = λ _. refl }

-- what is known of a name that may stand in the content
pub record Allowed (c : Content) (n : Name) : Type 0 where
  pub escaping : asks_escaping (content_of n c) ≡ true →
      (asks_escaping c ≡ true) × (is_source n ≡ false)
  pub image : asks_image (content_of n c) ≡ true → (asks_image c || named Image n) ≡ true
  pub first : is_first (content_of n c) ≡ true → is_raw n ≡ true
  pub fence : is_first c ≡ true → is_fence n ≡ true
  pub chunks : is_chunks (content_of n c) ≡ false

pub allowed_inside : (c : Content) (n : Name) → may_stand c n ≡ true → Allowed c n
allowed_inside c n stands = grind (arith, stands, all-facts c n)
