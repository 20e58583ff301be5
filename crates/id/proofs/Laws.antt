-- The tests on kinds and counts, case by case. Assumes nothing.
use mathlib.Core.Path.{◌≡◌, sym, ap, ◌∙◌}
use mathlib.Core.Bool.{Bool, true}
use Prim.Native.Nat.{ℕ, ◌≤◌, ◌<◌}
use borrow.Author.Tests.{eq-eqb, ne_eqb}
use lib.Dec.{eqb}
use lib.ListN.{get_or, get_or-eq_default}
use Rattle.spec.specs.Bytes.{either}
use Rattle.spec.specs.Image.{arities, FREE, arity_right}
use Rattle.id.specs.Tables.{get_d_any}

pub first : (a b : Bool) → a ≡ true → true ≡ either a b
first a b e = sym (ap (λ (x : Bool). either x b) e)

-- the arity table
pub arity-in : (k : ℕ) → k < 10 → get_or arities k 0 ≡ get_or arities k FREE
unfolding arities
arity-in k h = get_d_any arities k 0 FREE h

pub arity-out : (k : ℕ) → 10 ≤ k → FREE ≡ get_or arities k FREE
unfolding arities
arity-out k h = sym (get_or-eq_default arities FREE {n = k} h)

pub right-free : (k n a : ℕ) → a ≡ get_or arities k FREE → a ≡ FREE → true ≡ arity_right k n
right-free k n a e f = first (eqb (get_or arities k FREE) FREE) (eqb n (get_or arities k FREE)) (eq-eqb _ _ (sym e ∙ f))

pub right-fixed : (k n a m : ℕ) → a ≡ get_or arities k FREE → (a ≡ FREE → ⊥) → m ≡ a → eqb n m ≡ arity_right k n
right-fixed k n a m e f g =
    ap (λ (x : ℕ). eqb n x) (g ∙ e) ∙ sym (ap (λ (b : Bool). either b (eqb n (get_or arities k FREE))) (ne_eqb _ _ (λ z. f (e ∙ z))))

-- the kinds that act by transport, and those whose children have no order
pub other : (k a : ℕ) (b : Bool) → (k ≡ a → ⊥) → b ≡ either (eqb k a) b
other k a b h = sym (ap (λ (x : Bool). either x b) (ne_eqb k a h))
