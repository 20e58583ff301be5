-- The tests of a member's children, for each way out of a turn.
use mathlib.Core.Path.{◌≡◌, refl, ap, ◌∙◌}
use mathlib.Core.Bool.{Bool, true, false}
use Prim.Native.Nat.{ℕ, ◌+◌, ◌<◌, ◌≤◌}
use native.Mathlib.Omega.{arith}
use borrow.Author.Tests.{le-ltb, lt-ltb, le-leb, lt-leb, eq-eqb, ne_eqb}
use lib.Dec.{eqb}
use lib.ListN.{length, drop}
use Rattle.spec.specs.Bytes.{Two, all}
use Rattle.spec.specs.Image.{Tables, Member, MSet, arity_right, child_right, kind_of, children_of}
use Rattle.laws.specs.AcceptedTurns.{all_go, all-stop, all_end}
use Rattle.image.specs.Loaded.{the_child}
use Rattle.span_rules.specs.Within.{own-long, own_at}
use Rattle.child_rules.specs.Member.{member_children_right}

-- ---- a child entry
module _ (t : Tables) (kind : ℕ) (x : Two) {a n : ℕ} (many : length t.classes ≡ n) (class : a ≡ x.0) where
  pub class-wrong : n ≤ a → false ≡ child_right t kind x
  class-wrong h = rw (many, ← class, le-ltb a n h) refl

  module _ {v : ℕ} (h : a < n) (count : v ≡ x.1) where
    pub none-wrong : v < 1 → false ≡ child_right t kind x
    none-wrong g = rw (many, ← class, lt-ltb a n h, ← count, lt-leb 1 v g) refl

    pub one_right : 1 ≤ v → v ≡ 1 → true ≡ child_right t kind x
    one_right g e = rw (many, ← class, lt-ltb a n h, ← count, le-leb 1 v g, eq-eqb v 1 e) refl

    pub more-right : 1 ≤ v → (v ≡ 1 → ⊥) → eqb kind MSet ≡ child_right t kind x
    more-right g e = rw (many, ← class, lt-ltb a n h, ← count, le-leb 1 v g, ne_eqb v 1 e) refl

-- ---- the children of member x
module _ (t : Tables) (x : Member) (w : x.first + x.count ≤ length t.children) (i : ℕ) where
  module _ {f : ℕ} (first : f ≡ x.first) (h : i < x.count) (p : Two → Bool) where
    pub own-stop : p (the_child t (f + i)) ≡ false → all p (drop i (children_of t x)) ≡ false
    own-stop e = all-stop p (children_of t x) i (0, 0) (omega (arith, own-long t x w)) (ap p (own_at t x i first h) ∙ e)

    pub own-go : p (the_child t (f + i)) ≡ true → all p (drop (i + 1) (children_of t x)) ≡ all p (drop i (children_of t x))
    own-go e = all_go p (children_of t x) i (0, 0) (omega (arith, own-long t x w)) (ap p (own_at t x i first h) ∙ e)

  pub own-end : (p : Two → Bool) → x.count ≤ i → all p (drop i (children_of t x)) ≡ true
  own-end p h = all_end p (children_of t x) i (omega (arith, own-long t x w))

-- ---- rule 8 for a member, part after part
module _ (t : Tables) (x : Member) {o k n : ℕ} (op : o ≡ x.op) (kind : k ≡ kind_of t o) (count : n ≡ x.count) where
  kind-is : k ≡ kind_of t x.op
  kind-is = kind ∙ ap (kind_of t) op

  pub arity-wrong : arity_right k n ≡ false → false ≡ member_children_right t x
  arity-wrong h = rw (← kind-is, rw count at h) refl

  pub own-left : {r : Bool} → arity_right k n ≡ true → r ≡ all (child_right t k) (children_of t x) → r ≡ member_children_right t x
  own-left h e = rw (← kind-is, rw count at h) e
