-- One more id, which was free, is taken.
use Rattle.std.proofs.Common.{◌≡◌, ◌||◌, ◌++◌, ◌∷◌, [], ℕ, List, Bool, true, cond, length, map}
use Rattle.std.proofs.Common.{string_bytes, sym, ap, ◌∙◌, subst, arith}
use Rattle.std.specs.Str.{bytes_eq}
use Rattle.std.specs.BTreeSet.{contains_text}
use Rattle.std.proofs.lemmas.List.{map-append, length-append}
use Rattle.md_page.specs.GivenIds.{is_among, written_id}
use Rattle.md_slugs.specs.Chosen.{AreChosen}
use Rattle.md_slugs.proofs.Choosing.{one-more, has-more}
use Rattle.md_slugs.proofs.chosen.choose.Goals as goal

pub loop-heading-preserved : goal.loop-heading-preserved
loop-heading-preserved c =
    let others = map string_bytes c.args.others.now in
    let items = c.loop-heading.ids.items in
    let ids = map string_bytes items in
    let id : List ℕ = string_bytes c.in_ok-id.id in
    let has : List ℕ → Bool = λ w. contains_text c.loop-heading.taken w in
    let has' : List ℕ → Bool = λ w. contains_text c.take.new.taken w in
    let more : map string_bytes c.push.new.self.items ≡ ids ++ (id ∷ []) =
    ap (map string_bytes) c.in_ok-push.ensures.items
    ∙ map-append string_bytes items (c.in_ok-id.id ∷ []) in (
      omega (
        arith,
        ap length c.in_ok-push.ensures.items,
        length-append items (c.in_ok-id.id ∷ []),
        c.loop-heading.invariant.0,
      ),
      subst (AreChosen others) (sym more) (one-more others ids id has c.loop-heading.invariant.1
          c.loop-heading.invariant.2 c.in_ok-id.ensures),
      λ w. has-more others ids id has has' c.loop-heading.invariant.2
          (λ w. c.in_ok-take.ensures w
          ∙ ap (λ text. cond (bytes_eq (written_id text) w) true (has w)) c.as_str.ensures.value) w
          ∙ ap (λ y. is_among w others || is_among w (map written_id y)) (sym more),
    )
