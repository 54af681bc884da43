-- The number of open elements in a text, byte by byte: a tag begins with `<`, an end tag with `</`,
-- and a void tag with `<br`, `<hr` or `<i`. No other part of a tag has a `<`.
use Rattle.std.specs.List.{list_all}
use Rattle.std.proofs.Common.{◌≡◌, ℕ, ◌+◌, ◌≤◌, ◌==◌, zero, suc, max, Bool, true, false, cond, List}
use Rattle.std.proofs.Common.{[], ◌∷◌, ◌++◌, refl, arith}
use Rattle.md_text.proofs.HtmlNames.{no_angle}

-- the state of reading a text: anywhere, after `<`, after `<b`, after `<h`, or after `<` twice
pub data Spot : Type 0 where
  Out : Spot
  Begun : Spot
  OfB : Spot
  OfH : Spot
  Bad : Spot

-- besides, how many elements are open, and how many were at most
pub record State : Type 0 where
  pub spot : Spot
  pub level : ℕ
  pub top : ℕ

abbrev pub at : ℕ → ℕ → State
at level top = record { spot = Out; level = level; top = top }

abbrev pub lower : ℕ → ℕ
lower zero = 0
lower (suc n) = n

abbrev pub to : Spot → State → State
to spot s = record { spot = spot; level = s.level; top = s.top }

-- what a byte does: nothing, it goes on to a spot, opens an element, is in a void tag, or closes an
-- element
pub data Action : Type 0 where
  Stay : Action
  Move : (spot : Spot) → Action
  Open : Action
  Void : Action
  Close : Action

abbrev pub act : Action → State → State
act Stay s = s
act (Move spot) s = to spot s
act Open s = record { spot = Out; level = suc s.level; top = max s.top (suc s.level) }
act Void s = record { spot = Out; level = s.level; top = max s.top (suc s.level) }
act Close s = record { spot = Out; level = lower s.level; top = s.top }

-- after a first letter that a void tag may have
abbrev second : ℕ → Action
second byte = cond (byte == 114) Void (cond (byte == 60) (Move Bad) Open)

abbrev pub action : Spot → ℕ → Action
action Out byte = cond (byte == 60) (Move Begun) Stay
action Begun byte = cond (byte == 47) Close (cond (byte == 98) (Move OfB)
    (cond (byte == 104) (Move OfH) (cond (byte == 105) Void
    (cond (byte == 60) (Move Bad) Open))))
action OfB byte = second byte
action OfH byte = second byte
action Bad byte = Stay

abbrev pub step : State → ℕ → State
step s byte = act (action s.spot byte) s

abbrev pub run : State → List ℕ → State
run s [] = s
run s (byte ∷ bytes) = run (step s byte) bytes

pub run-append : (s : State) (x y : List ℕ) → run s (x ++ y) ≡ run (run s x) y
run-append s [] y = refl
run-append s (byte ∷ x) y = run-append (step s byte) x y

-- what has no `<` changes nothing
pub quiet : (x : List ℕ) → list_all no_angle x ≡ true → (l t : ℕ) → run (at l t) x ≡ at l t
quiet [] h l t = refl
quiet (byte ∷ x) h l t = grind (arith, quiet x)

-- a text changes the number of open elements from `a` to `b`, above those open before it, and at
-- most `n` are open in it
pub record Leads (a b n : ℕ) (x : List ℕ) : Type 0 where
  pub leads : (l t : ℕ) → l + n ≤ t → run (at (l + a) t) x ≡ at (l + b) t

pub leads-quiet : {a n : ℕ} (x : List ℕ) → list_all no_angle x ≡ true → Leads a a n x
leads-quiet {a} x h = record { leads = λ l t few. quiet x h (l + a) t }

infixr 4 ◌▹◌
pub ◌▹◌ : {a b c n : ℕ} {x y : List ℕ} → Leads a b n x → Leads b c n y → Leads a c n (x ++ y)
◌▹◌ {a} {b} {c} {n} {x} {y} f g = record {
  leads = λ l t few. rw (run-append, f.leads l t few) (g.leads l t few);
}

-- one or the other
pub leads-either : {a b n : ℕ} (test : Bool) {x y : List ℕ} → Leads a b n x → Leads a b n y →
    Leads a b n (cond test x y)
leads-either true f g = f
leads-either false f g = g

-- a start tag, as each computes
pub leads-open : {a n : ℕ} (x : List ℕ) →
    ((l t : ℕ) → run (at l t) x ≡ at (suc l) (max t (suc l))) → suc a ≤ n → Leads a (suc a) n x
leads-open {a} x computes fits =
    record { leads = λ l t few. grind (arith, computes (l + a) t) }

-- an end tag
pub leads-close : {a n : ℕ} (x : List ℕ) → ((l t : ℕ) → run (at (suc l) t) x ≡ at l t) →
    Leads (suc a) a n x
leads-close {a} x computes = record { leads = λ l t few. grind (arith, computes (l + a) t) }

-- a void tag
pub leads-void : {a n : ℕ} (x : List ℕ) →
    ((l t : ℕ) → run (at l t) x ≡ at l (max t (suc l))) → suc a ≤ n → Leads a a n x
leads-void {a} x computes fits =
    record { leads = λ l t few. grind (arith, computes (l + a) t) }

-- a text that keeps what is open, where some are open
pub leads-kept : {a m n : ℕ} {x : List ℕ} → Leads 0 0 m x → a + m ≤ n → Leads a a n x
leads-kept {a} {m} {n} {x} f fits =
    record { leads = λ l t few. grind (arith, f.leads (l + a) t (omega arith)) }
