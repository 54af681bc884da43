-- The text is that of `page_of`, and the rest follows from it.
use Rattle.std.proofs.Common.{true, ap, sym, ◌∙◌, subst}
use Rattle.std.proofs.lemmas.Result.{IfOk-weaker}
use Rattle.md_text.specs.Encode.{encoded}
use Rattle.md_safe.specs.PageTokens.{page_text}
use Rattle.md_page.specs.Added.{shown}
use Rattle.md_page.specs.Built.{IsBuiltPageAround}
use Rattle.md_page.specs.PageAround.{page_around, IsSafePage}
use Rattle.md_page.proofs.Paging.{page-emitted}
use Rattle.md_page.proofs.PagesAround.{page-around-built}
use Rattle.md_page.proofs.around.page_around.Goals as goal

pub returns-clause-text : goal.returns-clause-text
returns-clause-text g c =
    IfOk-weaker c.page_of.result _ _ (λ text same. same
    ∙ ap (page_text (encoded true c.args.title.now)) c.as_str.ensures.text) c.page_of.ensures

pub returns-clause-tokens : goal.returns-clause-tokens
returns-clause-tokens g c =
    IfOk-weaker c.page_of.result _ _ (λ text same x h.
    subst (λ t. IsSafePage t (page_around (shown c.args.title.now) x)) (sym same)
    (page-emitted c.args.title.now (g.H.Html.text c.args.body.now) c.as_str.ensures.written x h))
    (returns-clause-text g c)

pub returns-clause-tree : goal.returns-clause-tree
returns-clause-tree g c =
    IfOk-weaker c.page_of.result _ _ (λ text same built.
    subst (IsBuiltPageAround (shown c.args.title.now) (g.H.Html.text c.args.body.now)) (sym same)
    (page-around-built c.args.title.now (g.H.Html.text c.args.body.now) c.as_str.ensures.written
    built)) (returns-clause-text g c)
