-- The default protocols' schemes.
use Rattle.md_reader.proofs.SafeLemmas.{links-safe, images-safe}
use Rattle.md_reader.proofs.safe.is_safe_html.Goals as goal

pub returns-clause-safe : goal.returns-clause-safe
returns-clause-safe c = c.is_safe_html_with.ensures.safe

pub returns-clause-exact : goal.returns-clause-exact
returns-clause-exact c = c.is_safe_html_with.ensures.exact

pub returns-clause-tokens : goal.returns-clause-tokens
returns-clause-tokens c = λ h. record {
  as_read = c.is_safe_html_with.ensures.tokens h;
  safe_links = c.safe_text_has_safe_tokens.ensures.links c.args.text.now
      (links-safe c.args.text.now (c.is_safe_html_with.ensures.safe h));
  safe_images = c.safe_text_has_safe_tokens.ensures.images c.args.text.now
      (images-safe c.args.text.now (c.is_safe_html_with.ensures.safe h));
}

pub returns-clause-tree : goal.returns-clause-tree
returns-clause-tree c = c.is_safe_html_with.ensures.tree

pub returns-clause-nesting : goal.returns-clause-nesting
returns-clause-nesting c = c.is_safe_html_with.ensures.nesting
