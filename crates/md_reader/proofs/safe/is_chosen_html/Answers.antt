-- The text is a level of chosen elements, and so one of what authors may write.
use Rattle.std.proofs.Common.{◌≡◌, ℕ, true, List, map}
use Rattle.md_reader.specs.Permitted.{is_permitted, permits, images_of, links_of}
use Rattle.md_reader.specs.Safe.{IsSafeHtml}
use Rattle.md_reader.proofs.SafeLemmas.{whole, level-whole, read, unnested, nests, permitted-of}
use Rattle.md_reader.proofs.SafeLemmas.{authors-only, chosen_test, chosen-only, chosen-pass}
use Rattle.md_reader.proofs.SafeLemmas.{level-authors}
use Rattle.md_reader.proofs.safe.is_chosen_html.Goals as goal

abbrev names : (c : goal.After-is_read) → List (List ℕ)
names c = map (λ tag. tag.now) c.args.tags.now

safe : (c : goal.After-is_read) → c.is_read.result ≡ true →
    IsSafeHtml (links_of c.args.protocols) (images_of c.args.protocols) c.args.text.now
safe c h = whole (chosen_test (names c) (permits c.args.protocols)) (links_of c.args.protocols)
    (images_of c.args.protocols) c.args.text.now (permitted-of (permits c.args.protocols))
    (c.is_read.ensures.level h)

pub returns-clause-safe : goal.returns-clause-safe
returns-clause-safe c = λ h. safe c h

pub returns-clause-authors : goal.returns-clause-authors
returns-clause-authors c = λ h. authors-only (permits c.args.protocols) c.args.text.now
    (level-authors (names c) (permits c.args.protocols) c.args.text.now
    (c.is_read.ensures.level h))

pub returns-clause-chosen : goal.returns-clause-chosen
returns-clause-chosen c = λ h. chosen-only (names c) (permits c.args.protocols) c.args.text.now
    (c.is_read.ensures.level h)

pub returns-clause-exact : goal.returns-clause-exact
returns-clause-exact c = λ forest found authors only. c.is_read.ensures.exact (level-whole
    (chosen_test (names c) (permits c.args.protocols)) (links_of c.args.protocols)
    (images_of c.args.protocols) c.args.text.now forest
    (chosen-pass (names c) (permits c.args.protocols) forest authors found.permitted only) found)

pub returns-clause-tokens : goal.returns-clause-tokens
returns-clause-tokens c = λ h. c.reading_is_tokenized.ensures
    (is_permitted (links_of c.args.protocols) (images_of c.args.protocols)) c.args.text.now
    (read (links_of c.args.protocols) (images_of c.args.protocols) c.args.text.now (safe c h))

pub returns-clause-tree : goal.returns-clause-tree
returns-clause-tree c = λ h. c.text_is_built.ensures c.args.text.now
    (unnested (links_of c.args.protocols) (images_of c.args.protocols) c.args.text.now (safe c h))

pub returns-clause-nesting : goal.returns-clause-nesting
returns-clause-nesting c = λ h. nests (links_of c.args.protocols) (images_of c.args.protocols)
    c.args.text.now (safe c h)
