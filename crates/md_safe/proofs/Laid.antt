-- What a list of pieces adds to a text: the claim on texts carried over to what is laid out.
use Rattle.std.proofs.Common.{◌≡◌, ℕ, Bool, List, [], ◌∷◌, ◌++◌, refl, sym, arith, subst}
use Rattle.std.proofs.Common.{append_assoc, append-nil}
use Rattle.md_meaning.specs.Meaning.Layout.{Piece, Text, Needed, Forced, laid_after, layout, when}
use Rattle.std.specs.List.{flat_map}
use Rattle.md_text.proofs.EscapedLemmas.{escaped-append}
use Rattle.md_safe.proofs.Texts.{Escaped}
pub use Rattle.md_steps.proofs.Laid.{laid-append}
use Rattle.std.proofs.lemmas.Bool.{cond_both}

-- a text followed by another one that fulfils a claim
pub record Grows (holds : List ℕ → Type 0) (before after : List ℕ) : Type 0 where
  pub added : List ℕ
  pub grown : after ≡ before ++ added
  pub it_holds : holds added

-- pieces add to each text another one that fulfils a claim
pub record Adds (ending : List ℕ) (holds : List ℕ → Type 0) (pieces : List Piece) : Type 0 where
  pub to : (text : List ℕ) → Grows holds text (laid_after ending text pieces)

-- something else holds as well
pub adds-weaker : {ending : List ℕ} {f g : List ℕ → Type 0} {pieces : List Piece} →
    ((x : List ℕ) → f x → g x) → Adds ending f pieces → Adds ending g pieces
adds-weaker weaker a = grind arith

-- one list after another
pub adds-append : {ending : List ℕ} {f g h : List ℕ → Type 0} {xs ys : List Piece} →
    ((x y : List ℕ) → f x → g y → h (x ++ y)) → Adds ending f xs → Adds ending g ys →
    Adds ending h (xs ++ ys)
adds-append {ending} {h = h} {xs} {ys} both a b = grind (arith, laid-append, append_assoc)

nothing_added : (f : List ℕ → Type 0) (text : List ℕ) → f [] → Grows f text text
nothing_added f text h = record { added = []; grown = sym (append-nil text); it_holds = h }

pub adds-nothing : {ending : List ℕ} {f : List ℕ → Type 0} → f [] → Adds ending f []
adds-nothing {f = f} h = record { to = λ text. nothing_added f text h }

pub adds-text : {ending : List ℕ} {f : List ℕ → Type 0} {x : List ℕ} → f x →
    Adds ending f (Text x ∷ [])
adds-text {x = x} h = record { to = λ text. record { added = x; grown = refl; it_holds = h } }

-- texts that may stand beside others: none, and two in a row
pub record IsBeside (W : List ℕ → Type 0) : Type 0 where
  pub none : W []
  pub both : (x y : List ℕ) → W x → W y → W (x ++ y)

pub escaped_beside : IsBeside Escaped
escaped_beside = record { none = refl; both = escaped-append }

pub adds-forced : {W : List ℕ → Type 0} {ending : List ℕ} → W ending → Adds ending W (Forced ∷ [])
adds-forced {ending = ending} h = grind arith

pub adds-needed : {W : List ℕ → Type 0} {ending : List ℕ} → IsBeside W → W ending →
    Adds ending W (Needed ∷ [])
adds-needed beside h = grind (arith, cond_both, nothing_added)

-- pieces, where a test holds
pub adds-when : {W : List ℕ → Type 0} {ending : List ℕ} {pieces : List Piece} → IsBeside W →
    (holds : Bool) → Adds ending W pieces → Adds ending W (when holds pieces)
adds-when beside holds a = grind (arith, adds-nothing)

-- one list after another for each of some things
pub adds-all : {A : Type 0} {ending : List ℕ} {R : List ℕ → Type 0} {f : A → List Piece} →
    IsBeside R → ((a : A) → Adds ending R (f a)) → (xs : List A) → Adds ending R (flat_map f xs)
adds-all beside each [] = adds-nothing beside.none
adds-all beside each (x ∷ xs) = adds-append beside.both (each x) (adds-all beside each xs)

-- any pieces add a text
pub adds-any : (ending : List ℕ) (pieces : List Piece) → Adds ending (λ x. Unit {0}) pieces
adds-any ending [] = adds-nothing tt
adds-any ending (piece ∷ pieces) = adds-append (λ x y f g. tt) (by piece) (adds-any ending pieces)
  where
    by : (piece : Piece) → Adds ending (λ x. Unit {0}) (piece ∷ [])
    by (Text x) = adds-text tt
    by Needed = adds-needed (record { none = tt; both = λ x y f g. tt }) tt
    by Forced = adds-forced tt

-- pieces laid out by themselves
pub adds-alone : {ending : List ℕ} {f : List ℕ → Type 0} {pieces : List Piece} →
    Adds ending f pieces → f (layout ending pieces)
adds-alone {f = f} a = let r = a.to [] in subst f (sym r.grown) r.it_holds
