-- A field that encodes no option is reported with its own number; else each option is the one of
-- its field. The search alone takes long for so many fields.
use Rattle.std.proofs.Common.{refl}
use Rattle.md_abi.proofs.OptionLemmas.{fault_reported}
use Rattle.md_abi.proofs.option.read_options.Goals as goal

pub returns-in_err-read_flag-clause-err : goal.returns-in_err-read_flag-clause-err
returns-in_err-read_flag-clause-err c =
    let made = c.from_residual in
    fault_reported c.args.given.now 0 _ refl made.result _ made.ensures.1
    c.in_err-read_flag.ensures.err

pub returns-in_err-read_flag-2-clause-err : goal.returns-in_err-read_flag-2-clause-err
returns-in_err-read_flag-2-clause-err c =
    let made = c.from_residual-in_err-read_flag-2 in
    fault_reported c.args.given.now 1 _ refl made.result _ made.ensures.1
    c.in_err-read_flag-2.ensures.err

pub returns-in_err-read_flag-3-clause-err : goal.returns-in_err-read_flag-3-clause-err
returns-in_err-read_flag-3-clause-err c =
    let made = c.from_residual-in_err-read_flag-3 in
    fault_reported c.args.given.now 2 _ refl made.result _ made.ensures.1
    c.in_err-read_flag-3.ensures.err

pub returns-in_err-read_flag-4-clause-err : goal.returns-in_err-read_flag-4-clause-err
returns-in_err-read_flag-4-clause-err c =
    let made = c.from_residual-in_err-read_flag-4 in
    fault_reported c.args.given.now 3 _ refl made.result _ made.ensures.1
    c.in_err-read_flag-4.ensures.err

pub returns-in_err-read_flag-5-clause-err : goal.returns-in_err-read_flag-5-clause-err
returns-in_err-read_flag-5-clause-err c =
    let made = c.from_residual-in_err-read_flag-5 in
    fault_reported c.args.given.now 4 _ refl made.result _ made.ensures.1
    c.in_err-read_flag-5.ensures.err

pub returns-in_err-read_flag-6-clause-err : goal.returns-in_err-read_flag-6-clause-err
returns-in_err-read_flag-6-clause-err c =
    let made = c.from_residual-in_err-read_flag-6 in
    fault_reported c.args.given.now 11 _ refl made.result _ made.ensures.1
    c.in_err-read_flag-6.ensures.err

pub returns-in_err-read_ending-clause-err : goal.returns-in_err-read_ending-clause-err
returns-in_err-read_ending-clause-err c =
    let made = c.from_residual-in_err-read_ending in
    fault_reported c.args.given.now 5 _ refl made.result _ made.ensures.1
    c.in_err-read_ending.ensures.err

pub returns-in_err-read_text-clause-err : goal.returns-in_err-read_text-clause-err
returns-in_err-read_text-clause-err c =
    let made = c.from_residual-in_err-read_text in
    fault_reported c.args.given.now 6 _ refl made.result _ made.ensures.1
    c.in_err-read_text.ensures.err

pub returns-in_err-read_text-2-clause-err : goal.returns-in_err-read_text-2-clause-err
returns-in_err-read_text-2-clause-err c =
    let made = c.from_residual-in_err-read_text-2 in
    fault_reported c.args.given.now 7 _ refl made.result _ made.ensures.1
    c.in_err-read_text-2.ensures.err

pub returns-in_err-read_text-3-clause-err : goal.returns-in_err-read_text-3-clause-err
returns-in_err-read_text-3-clause-err c =
    let made = c.from_residual-in_err-read_text-3 in
    fault_reported c.args.given.now 8 _ refl made.result _ made.ensures.1
    c.in_err-read_text-3.ensures.err

pub returns-in_err-read_text-4-clause-err : goal.returns-in_err-read_text-4-clause-err
returns-in_err-read_text-4-clause-err c =
    let made = c.from_residual-in_err-read_text-4 in
    fault_reported c.args.given.now 9 _ refl made.result _ made.ensures.1
    c.in_err-read_text-4.ensures.err

pub returns-in_err-read_text-5-clause-err : goal.returns-in_err-read_text-5-clause-err
returns-in_err-read_text-5-clause-err c =
    let made = c.from_residual-in_err-read_text-5 in
    fault_reported c.args.given.now 10 _ refl made.result _ made.ensures.1
    c.in_err-read_text-5.ensures.err

pub returns-clause-ok : goal.returns-clause-ok
returns-clause-ok c = record {
  any_img_src = c.in_ok-read_flag.ensures.ok;
  dangerous_html = c.in_ok-read_flag-2.ensures.ok;
  dangerous_protocol = c.in_ok-read_flag-3.ensures.ok;
  checkable = c.in_ok-read_flag-4.ensures.ok;
  tagfilter = c.in_ok-read_flag-5.ensures.ok;
  number_ids = c.in_ok-read_flag-6.ensures.ok;
  ending = c.in_ok-read_ending.ensures.ok;
  back_label = c.in_ok-read_text.ensures.ok;
  clobber_prefix = c.in_ok-read_text-2.ensures.ok;
  label = c.in_ok-read_text-3.ensures.ok;
  label_attributes = c.in_ok-read_text-4.ensures.ok;
  label_tag_name = c.in_ok-read_text-5.ensures.ok;
}
