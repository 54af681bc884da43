-- The last byte is a character of ASCII, or ends one of several bytes.
use Rattle.std.proofs.Common.{◌≡◌, ◌<◌, ◌≤◌, ◌-◌, ◌∙◌, length, get_or, ap, sym, subst, arith}
use Rattle.std.specs.Prelude.{IfSome}
use Rattle.std.proofs.lemmas.Grind.{common_steps}
use Rattle.md_marks.specs.Characters.{class_of}
use Rattle.md_marks.proofs.CharacterLemmas.{last-none, last-short, last-long, EndsLong}
use Rattle.md_marks.proofs.characters.class_before.Goals as goal

pub returns-in-None : goal.returns-in-None
returns-in-None c = λ utf8.
    let none : length c.args.text.now ≡ 0 = grind (arith, common_steps, c.in-None.ensures.value) in
    last-none c.args.text.now none

pub returns-in-Some : goal.returns-in-Some
returns-in-Some c = λ utf8.
    let text = c.args.text.now in
    let value = c.in-Some.ensures.value in
    let some : 0 < length text = grind (arith, common_steps, value) in
    let byte : get_or text (length text - 1) 0 ≡ c.in-Some.byte.now =
    grind (arith, common_steps, value) in
    let small : get_or text (length text - 1) 0 < 128 = grind (arith, byte, c.if-byte-lt128.true) in
    c.class_of_byte.ensures c.if-byte-lt128.true ∙ ap class_of (sym byte)
    ∙ sym (last-short text utf8 some small)

pub returns-in-Some-2 : goal.returns-in-Some-2
returns-in-Some-2 c = λ utf8.
    let text = c.args.text.now in
    let value = c.in-Some.ensures.value in
    let some : 0 < length text = grind (arith, common_steps, value) in
    let byte : get_or text (length text - 1) 0 ≡ c.in-Some.byte.now =
    grind (arith, common_steps, value) in
    let long = last-long text utf8 some (grind (arith, byte, c.if-byte-lt128.false)) in
    let code = EndsLong.code long in
    let large = EndsLong.large long in
    let found = c.last_character.ensures (EndsLong.before long) code (EndsLong.scalar long) large
    (EndsLong.text_is long) in
    subst (λ one. IfSome one (λ c'. 128 ≤ c' → c.class_of.result ≡ class_of c')) found
    c.class_of.ensures large ∙ sym (EndsLong.class long)
