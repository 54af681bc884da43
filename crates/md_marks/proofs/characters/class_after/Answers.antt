-- The first byte is a character of ASCII, or begins one of several bytes.
use Rattle.std.proofs.Common.{◌≡◌, ◌<◌, ◌≤◌, ◌∙◌, length, get_or, ap, sym, subst, arith}
use Rattle.std.specs.Prelude.{IfSome}
use Rattle.std.proofs.lemmas.Grind.{common_steps}
use Rattle.md_marks.specs.Characters.{class_of}
use Rattle.md_marks.proofs.CharacterLemmas.{first-none, first-short, first-long, BeginsLong}
use Rattle.md_marks.proofs.characters.class_after.Goals as goal

pub returns-in-None : goal.returns-in-None
returns-in-None c = λ utf8. first-none c.args.text.now c.in-None.ensures.value

pub returns-in-Some : goal.returns-in-Some
returns-in-Some c = λ utf8.
    let text = c.args.text.now in
    let value = c.in-Some.ensures.value in
    let some : 0 < length text = grind (arith, common_steps, value) in
    let byte : get_or text 0 0 ≡ c.in-Some.byte.now =
    grind (arith, common_steps, value) in
    let small : get_or text 0 0 < 128 = grind (arith, byte, c.if-byte-lt128.true) in
    c.class_of_byte.ensures c.if-byte-lt128.true ∙ ap class_of (sym byte)
    ∙ sym (first-short text utf8 some small)

pub returns-in-Some-2 : goal.returns-in-Some-2
returns-in-Some-2 c = λ utf8.
    let text = c.args.text.now in
    let value = c.in-Some.ensures.value in
    let some : 0 < length text = grind (arith, common_steps, value) in
    let byte : get_or text 0 0 ≡ c.in-Some.byte.now = grind (arith, common_steps, value) in
    let long = first-long text utf8 some (grind (arith, byte, c.if-byte-lt128.false)) in
    let code = BeginsLong.code long in
    let large = BeginsLong.large long in
    let found = c.first_character.ensures code (BeginsLong.after long) (BeginsLong.scalar long) large
    (BeginsLong.text_is long) byte in
    subst (λ one. IfSome one (λ c'. 128 ≤ c' → c.class_of.result ≡ class_of c')) found
    c.class_of.ensures large ∙ sym (BeginsLong.class long)
