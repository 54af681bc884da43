-- A field that encodes no option is reported with its own number; else each option is the one of
-- its field. The search alone takes long for so many fields.
use Rattle.std.proofs.Common.{refl}
use Rattle.md_markdown_abi.proofs.GivenLemmas.{fault_reported}
use Rattle.md_markdown_abi.proofs.option.read_markdown_options.Goals as goal

pub returns-in_err-read_flag-clause-err : goal.returns-in_err-read_flag-clause-err
returns-in_err-read_flag-clause-err c =
    let made = c.from_residual in
    fault_reported c.args.given.now 10 _ refl made.result _ made.ensures.1
    c.in_err-read_flag.ensures.err

pub returns-in_err-read_flag-2-clause-err : goal.returns-in_err-read_flag-2-clause-err
returns-in_err-read_flag-2-clause-err c =
    let made = c.from_residual-in_err-read_flag-2 in
    fault_reported c.args.given.now 11 _ refl made.result _ made.ensures.1
    c.in_err-read_flag-2.ensures.err

pub returns-in_err-read_flag-3-clause-err : goal.returns-in_err-read_flag-3-clause-err
returns-in_err-read_flag-3-clause-err c =
    let made = c.from_residual-in_err-read_flag-3 in
    fault_reported c.args.given.now 12 _ refl made.result _ made.ensures.1
    c.in_err-read_flag-3.ensures.err

pub returns-in_err-read_flag-4-clause-err : goal.returns-in_err-read_flag-4-clause-err
returns-in_err-read_flag-4-clause-err c =
    let made = c.from_residual-in_err-read_flag-4 in
    fault_reported c.args.given.now 13 _ refl made.result _ made.ensures.1
    c.in_err-read_flag-4.ensures.err

pub returns-in_err-read_flag-5-clause-err : goal.returns-in_err-read_flag-5-clause-err
returns-in_err-read_flag-5-clause-err c =
    let made = c.from_residual-in_err-read_flag-5 in
    fault_reported c.args.given.now 2 _ refl made.result _ made.ensures.1
    c.in_err-read_flag-5.ensures.err

pub returns-in_err-read_flag-6-clause-err : goal.returns-in_err-read_flag-6-clause-err
returns-in_err-read_flag-6-clause-err c =
    let made = c.from_residual-in_err-read_flag-6 in
    fault_reported c.args.given.now 1 _ refl made.result _ made.ensures.1
    c.in_err-read_flag-6.ensures.err

pub returns-in_err-read_html-clause-err : goal.returns-in_err-read_html-clause-err
returns-in_err-read_html-clause-err c =
    let made = c.from_residual-in_err-read_html in
    fault_reported c.args.given.now 3 _ refl made.result _ made.ensures.1
    c.in_err-read_html.ensures.err

pub returns-in_err-read_text-clause-err : goal.returns-in_err-read_text-clause-err
returns-in_err-read_text-clause-err c =
    let made = c.from_residual-in_err-read_text in
    fault_reported c.args.given.now 7 _ refl made.result _ made.ensures.1
    c.in_err-read_text.ensures.err

pub returns-in_err-read_text-2-clause-err : goal.returns-in_err-read_text-2-clause-err
returns-in_err-read_text-2-clause-err c =
    let made = c.from_residual-in_err-read_text-2 in
    fault_reported c.args.given.now 4 _ refl made.result _ made.ensures.1
    c.in_err-read_text-2.ensures.err

pub returns-in_err-read_flag-7-clause-err : goal.returns-in_err-read_flag-7-clause-err
returns-in_err-read_flag-7-clause-err c =
    let made = c.from_residual-in_err-read_flag-7 in
    fault_reported c.args.given.now 0 _ refl made.result _ made.ensures.1
    c.in_err-read_flag-7.ensures.err

pub returns-in_err-read_text-3-clause-err : goal.returns-in_err-read_text-3-clause-err
returns-in_err-read_text-3-clause-err c =
    let made = c.from_residual-in_err-read_text-3 in
    fault_reported c.args.given.now 5 _ refl made.result _ made.ensures.1
    c.in_err-read_text-3.ensures.err

pub returns-in_err-read_text-4-clause-err : goal.returns-in_err-read_text-4-clause-err
returns-in_err-read_text-4-clause-err c =
    let made = c.from_residual-in_err-read_text-4 in
    fault_reported c.args.given.now 6 _ refl made.result _ made.ensures.1
    c.in_err-read_text-4.ensures.err

pub returns-clause-ok : goal.returns-clause-ok
returns-clause-ok c = record {
  math = c.in_ok-read_flag.ensures.ok;
  front_matter = c.in_ok-read_flag-2.ensures.ok;
  footnotes = c.in_ok-read_flag-3.ensures.ok;
  tables = c.in_ok-read_flag-4.ensures.ok;
  bare_links = c.in_ok-read_flag-5.ensures.ok;
  hard_breaks = c.in_ok-read_flag-6.ensures.ok;
  html = c.in_ok-read_html.ensures.ok;
  base = c.in_ok-read_text.ensures.ok;
  footnote_prefix = c.in_ok-read_text-2.ensures.ok;
  number_ids = c.in_ok-read_flag-7.ensures.ok;
  footnote_label = c.in_ok-read_text-3.ensures.ok;
  footnote_back_label = c.in_ok-read_text-4.ensures.ok;
}
