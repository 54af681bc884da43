-- The text is a level by protocols alone.
use Rattle.std.proofs.Common.{◌≡◌, true}
use Rattle.md_reader.specs.Permitted.{is_permitted, images_of, links_of}
use Rattle.md_reader.specs.Safe.{IsSafeHtml}
use Rattle.md_reader.specs.Tests.{permitted_test}
use Rattle.md_reader.proofs.SafeLemmas.{whole, level-permitted, read, unnested, nests}
use Rattle.md_reader.proofs.safe.is_safe_html_with.Goals as goal

safe : (c : goal.After-is_read) → c.is_read.result ≡ true →
    IsSafeHtml (links_of c.args.protocols) (images_of c.args.protocols) c.args.text.now
safe c h = whole (permitted_test (links_of c.args.protocols) (images_of c.args.protocols))
    (links_of c.args.protocols) (images_of c.args.protocols) c.args.text.now (λ a h. h)
    (c.is_read.ensures.level h)

pub returns-clause-safe : goal.returns-clause-safe
returns-clause-safe c = λ h. safe c h

pub returns-clause-exact : goal.returns-clause-exact
returns-clause-exact c = λ forest found. c.is_read.ensures.exact (level-permitted
    (links_of c.args.protocols) (images_of c.args.protocols) c.args.text.now forest found)

pub returns-clause-tokens : goal.returns-clause-tokens
returns-clause-tokens c = λ h. c.reading_is_tokenized.ensures
    (is_permitted (links_of c.args.protocols) (images_of c.args.protocols)) c.args.text.now
    (read (links_of c.args.protocols) (images_of c.args.protocols) c.args.text.now (safe c h))

pub returns-clause-tree : goal.returns-clause-tree
returns-clause-tree c = λ h. c.text_is_built.ensures c.args.text.now
    (unnested (links_of c.args.protocols) (images_of c.args.protocols) c.args.text.now (safe c h))

pub returns-clause-nesting : goal.returns-clause-nesting
returns-clause-nesting c = λ h. nests (links_of c.args.protocols) (images_of c.args.protocols)
    c.args.text.now (safe c h)
