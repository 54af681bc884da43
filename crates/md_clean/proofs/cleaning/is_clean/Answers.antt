-- The default protocols' schemes, with chosen elements and without.
use Rattle.md_reader.proofs.SafeLemmas.{links-safe, images-safe}
use Rattle.md_clean.proofs.cleaning.is_clean.Goals as goal

pub returns-in-Some-clause-safe : goal.returns-in-Some-clause-safe
returns-in-Some-clause-safe c = c.is_chosen_html.ensures.safe

pub returns-in-Some-clause-authors : goal.returns-in-Some-clause-authors
returns-in-Some-clause-authors c = c.is_chosen_html.ensures.authors

pub returns-in-Some-clause-tokens : goal.returns-in-Some-clause-tokens
returns-in-Some-clause-tokens c = λ h. record {
  as_read = c.is_chosen_html.ensures.tokens h;
  safe_links = c.safe_text_has_safe_tokens.ensures.links c.args.text.now
      (links-safe c.args.text.now (c.is_chosen_html.ensures.safe h));
  safe_images = c.safe_text_has_safe_tokens.ensures.images c.args.text.now
      (images-safe c.args.text.now (c.is_chosen_html.ensures.safe h));
}

pub returns-in-Some-clause-tree : goal.returns-in-Some-clause-tree
returns-in-Some-clause-tree c = c.is_chosen_html.ensures.tree

pub returns-in-Some-clause-nesting : goal.returns-in-Some-clause-nesting
returns-in-Some-clause-nesting c = c.is_chosen_html.ensures.nesting

pub returns-in-None-clause-safe : goal.returns-in-None-clause-safe
returns-in-None-clause-safe c = c.is_authors_html.ensures.safe

pub returns-in-None-clause-authors : goal.returns-in-None-clause-authors
returns-in-None-clause-authors c = c.is_authors_html.ensures.authors

pub returns-in-None-clause-tokens : goal.returns-in-None-clause-tokens
returns-in-None-clause-tokens c = λ h. record {
  as_read = c.is_authors_html.ensures.tokens h;
  safe_links = c.safe_text_has_safe_tokens.ensures.links c.args.text.now
      (links-safe c.args.text.now (c.is_authors_html.ensures.safe h));
  safe_images = c.safe_text_has_safe_tokens.ensures.images c.args.text.now
      (images-safe c.args.text.now (c.is_authors_html.ensures.safe h));
}

pub returns-in-None-clause-tree : goal.returns-in-None-clause-tree
returns-in-None-clause-tree c = c.is_authors_html.ensures.tree

pub returns-in-None-clause-nesting : goal.returns-in-None-clause-nesting
returns-in-None-clause-nesting c = c.is_authors_html.ensures.nesting
