-- An escaped text is safe, and so are its tokens and its tree.
use Rattle.std.proofs.Common.{ℕ, List, true}
use Rattle.std.specs.String.{string_bytes}
use Rattle.md_text.specs.Encode.{encoded}
use Rattle.md_text.specs.Url.{link_protocols, image_protocols}
use Rattle.md_text.proofs.EncodeLaws.{is_escaped-encoded}
use Rattle.md_safe.specs.Built.{IsBuiltAsRead}
use Rattle.md_safe.specs.Tokenized.{IsSafelyTokenized}
use Rattle.md_depth.specs.Levels.{NestsWithin}
use Rattle.md_reader.specs.Authors.{IsOfAuthors}
use Rattle.md_reader.specs.Chosen.{HasChosenOnly}
use Rattle.md_reader.specs.Permitted.{is_permitted}
use Rattle.md_reader.specs.Safe.{IsSafeHtml, max_depth}
use Rattle.md_reader.proofs.SafeLemmas.{ok-with, escaped-safe, links-safe, images-safe, read, unnested}
use Rattle.md_reader.proofs.SafeLemmas.{nests, escaped-safe-with}
use Rattle.md_clean.proofs.Authors.{escaped-authors, escaped-chosen}
use Rattle.md_clean.proofs.cleaning.escaped.Goals as goal

pub returns-clause-safe : goal.returns-clause-safe
returns-clause-safe c = ok-with string_bytes (IsSafeHtml link_protocols image_protocols)
    c.encode.result (encoded true c.args.text.now) c.encode.ensures.by_byte
    (escaped-safe (encoded true c.args.text.now) (is_escaped-encoded c.args.text.now))

pub returns-clause-authors : goal.returns-clause-authors
returns-clause-authors c = ok-with string_bytes IsOfAuthors c.encode.result
    (encoded true c.args.text.now) c.encode.ensures.by_byte
    (escaped-authors (encoded true c.args.text.now) (is_escaped-encoded c.args.text.now))

pub returns-clause-chosen : goal.returns-clause-chosen
returns-clause-chosen c = ok-with string_bytes
    (λ text. (tags : List (List ℕ)) → HasChosenOnly tags text) c.encode.result
    (encoded true c.args.text.now) c.encode.ensures.by_byte
    (λ tags. escaped-chosen tags (encoded true c.args.text.now)
    (is_escaped-encoded c.args.text.now))

pub returns-clause-protocols : goal.returns-clause-protocols
returns-clause-protocols c = ok-with string_bytes
    (λ text. (names : List (List ℕ)) → IsSafeHtml names names text) c.encode.result
    (encoded true c.args.text.now) c.encode.ensures.by_byte
    (λ names. escaped-safe-with names names (encoded true c.args.text.now)
    (is_escaped-encoded c.args.text.now))

pub returns-clause-tokens : goal.returns-clause-tokens
returns-clause-tokens c =
    let text : List ℕ = encoded true c.args.text.now in
    let safe : IsSafeHtml link_protocols image_protocols text =
    escaped-safe text (is_escaped-encoded c.args.text.now) in
    ok-with string_bytes IsSafelyTokenized c.encode.result text c.encode.ensures.by_byte (record {
      as_read = c.reading_is_tokenized.ensures (is_permitted link_protocols image_protocols) text
          (read link_protocols image_protocols text safe);
      safe_links = c.safe_text_has_safe_tokens.ensures.links text (links-safe text safe);
      safe_images = c.safe_text_has_safe_tokens.ensures.images text (images-safe text safe);
    })

pub returns-clause-tree : goal.returns-clause-tree
returns-clause-tree c = ok-with string_bytes IsBuiltAsRead c.encode.result
    (encoded true c.args.text.now) c.encode.ensures.by_byte
    (c.text_is_built.ensures (encoded true c.args.text.now)
    (unnested link_protocols image_protocols (encoded true c.args.text.now)
    (escaped-safe (encoded true c.args.text.now) (is_escaped-encoded c.args.text.now))))

pub returns-clause-nesting : goal.returns-clause-nesting
returns-clause-nesting c = ok-with string_bytes (NestsWithin max_depth) c.encode.result
    (encoded true c.args.text.now) c.encode.ensures.by_byte
    (nests link_protocols image_protocols (encoded true c.args.text.now)
    (escaped-safe (encoded true c.args.text.now) (is_escaped-encoded c.args.text.now)))
