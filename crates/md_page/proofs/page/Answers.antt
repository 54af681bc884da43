-- The text is that of `page_of`, and the rest follows from it.
use Rattle.std.proofs.Common.{true, ap, ◌∙◌}
use Rattle.std.proofs.lemmas.Result.{IfOk-weaker}
use Rattle.md_text.specs.Encode.{encoded}
use Rattle.md_safe.specs.PageTokens.{page_text}
use Rattle.md_page.proofs.Given.{page_given, page_emitted, page_constructed}
use Rattle.md_page.proofs.page.Goals as goal

pub returns-clause-text : goal.returns-clause-text
returns-clause-text c =
    IfOk-weaker c.page_of.result _ _ (λ text same. same
    ∙ ap (page_text (encoded true c.args.title.now)) c.as_str.ensures.text) c.page_of.ensures

pub returns-clause-page : goal.returns-clause-page
returns-clause-page c =
    IfOk-weaker c.page_of.result _ _ (λ text same. page_given c.args.title.now c.args.body.now _
    same c.as_str.ensures.safe) (returns-clause-text c)

pub returns-clause-tokenized : goal.returns-clause-tokenized
returns-clause-tokenized c =
    IfOk-weaker c.page_of.result _ _ (λ text same. page_emitted c.args.title.now c.args.body.now _
    same c.as_str.ensures.safe) (returns-clause-text c)

pub returns-clause-tree : goal.returns-clause-tree
returns-clause-tree c =
    IfOk-weaker c.page_of.result _ _ (λ text same. page_constructed c.args.title.now
    c.args.body.now _ same c.as_str.ensures.safe) (returns-clause-text c)
