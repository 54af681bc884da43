-- Links and images as they are printed have readings, and their addresses pass the test.
use Rattle.std.proofs.Common.{◌≡◌, ℕ, Bool, true, List, [], ◌∷◌, refl, codes, arith}
use Rattle.std.specs.Prelude.{Option, Some, None}
use Rattle.std.proofs.lemmas.Bool.{cond_both}
use Rattle.md_text.specs.Html.{Attribute}
use Rattle.md_text.proofs.EscapedLemmas.{sanitized-escaped, sanitized_with-escaped}
use Rattle.md_text.specs.declared.options.CompileOptions.{CompileOptions}
use Rattle.md_meaning.specs.Meaning.At.{Target}
use Rattle.md_meaning.specs.Meaning.Media.{href, src, anchor, picture}
use Rattle.md_safe.proofs.Texts.{Escaped}
use Rattle.md_safe.proofs.Laid.{Adds}
use Rattle.md_safe.proofs.Tags.{IsTest, attribute, Tagged, Single, adds-flat}
use Rattle.md_safe.proofs.Cases.{OnSome}

-- a title is escaped, where there is one
abbrev pub IsEscapedTitle : Option (List ℕ) → Type 0
IsEscapedTitle title = OnSome Escaped title

-- a link
pub adds-link : {test : Attribute → Bool} {Q R : List ℕ → Type 0} {ending : List ℕ}
    {options : CompileOptions} → IsTest test options → Tagged test Q R (codes "a") →
    (target : Target) (label : List ℕ) → IsEscapedTitle target.title → Q label →
    Adds ending R (anchor options target label)
adds-link {test} {R = R} {ending} {options} known tagged target label h r = by target.title h
  where
    href_attribute : Attribute
    href_attribute = attribute (codes "href") (href options target.destination)

    e : Escaped (href options target.destination)
    e = grind (arith, cond_both, sanitized-escaped, sanitized_with-escaped)

    p : test href_attribute ≡ true
    p = known.link target.destination

    by : (title : Option (List ℕ)) → IsEscapedTitle title → Adds ending R (anchor options
        (record { destination = target.destination; title = title }) label)
    by None h = adds-flat refl (tagged.tag (href_attribute ∷ []) label (rw e refl) (rw p refl) r)
    by (Some title) h = adds-flat refl (tagged.tag (href_attribute ∷ attribute (codes "title") title
        ∷ []) label (rw (e, h) refl) (rw (p, known.other (codes "title") title refl) refl) r)

-- an image
pub adds-image : {test : Attribute → Bool} {R : List ℕ → Type 0} {ending : List ℕ}
    {options : CompileOptions} → IsTest test options → Single test R (codes "img") →
    (target : Target) (label : List ℕ) → IsEscapedTitle target.title → Escaped label →
    Adds ending R (picture options target label)
adds-image {test} {R} {ending} {options} known single target label h e = by target.title h
  where
    src_attribute : Attribute
    src_attribute = attribute (codes "src") (src options target.destination)

    v : Escaped (src options target.destination)
    v = grind (arith, cond_both, sanitized-escaped, sanitized_with-escaped)

    p : test src_attribute ≡ true
    p = known.image target.destination

    q : test (attribute (codes "alt") label) ≡ true
    q = known.other (codes "alt") label refl

    by : (title : Option (List ℕ)) → IsEscapedTitle title → Adds ending R (picture options
        (record { destination = target.destination; title = title }) label)
    by None h = adds-flat refl (single.tag (src_attribute ∷ attribute (codes "alt") label ∷ []) (rw
        (v, e) refl) (rw (p, q) refl))
    by (Some title) h = adds-flat refl (single.tag (src_attribute ∷ attribute (codes "alt") label ∷
        attribute (codes "title") title ∷ []) (rw (v, e, h) refl)
        (rw (p, q, known.other (codes "title") title refl) refl))
