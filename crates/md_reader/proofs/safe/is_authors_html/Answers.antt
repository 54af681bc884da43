-- The text is a level of what authors may write.
use Rattle.std.proofs.Common.{◌≡◌, true}
use Rattle.md_reader.specs.Permitted.{is_permitted, permits, images_of, links_of}
use Rattle.md_reader.specs.Safe.{IsSafeHtml}
use Rattle.md_reader.proofs.SafeLemmas.{whole, level-whole, read, unnested, nests}
use Rattle.md_reader.proofs.SafeLemmas.{authors_test, authors-only, authors-pass, permitted-of}
use Rattle.md_reader.proofs.safe.is_authors_html.Goals as goal

safe : (c : goal.After-is_read) → c.is_read.result ≡ true →
    IsSafeHtml (links_of c.args.protocols) (images_of c.args.protocols) c.args.text.now
safe c h = whole (authors_test (permits c.args.protocols)) (links_of c.args.protocols)
    (images_of c.args.protocols) c.args.text.now (permitted-of (permits c.args.protocols))
    (c.is_read.ensures.level h)

pub returns-clause-safe : goal.returns-clause-safe
returns-clause-safe c = λ h. safe c h

pub returns-clause-authors : goal.returns-clause-authors
returns-clause-authors c = λ h. authors-only (permits c.args.protocols) c.args.text.now
    (c.is_read.ensures.level h)

pub returns-clause-exact : goal.returns-clause-exact
returns-clause-exact c = λ forest found authors. c.is_read.ensures.exact (level-whole
    (authors_test (permits c.args.protocols)) (links_of c.args.protocols)
    (images_of c.args.protocols) c.args.text.now forest
    (authors-pass (permits c.args.protocols) forest authors found.permitted) found)

pub returns-clause-tokens : goal.returns-clause-tokens
returns-clause-tokens c = λ h. c.reading_is_tokenized.ensures
    (is_permitted (links_of c.args.protocols) (images_of c.args.protocols)) c.args.text.now
    (read (links_of c.args.protocols) (images_of c.args.protocols) c.args.text.now (safe c h))

pub returns-clause-tree : goal.returns-clause-tree
returns-clause-tree c = λ h. c.text_is_built.ensures c.args.text.now
    (unnested (links_of c.args.protocols) (images_of c.args.protocols) c.args.text.now (safe c h))

pub returns-clause-nesting : goal.returns-clause-nesting
returns-clause-nesting c = λ h. nests (links_of c.args.protocols) (images_of c.args.protocols)
    c.args.text.now (safe c h)
