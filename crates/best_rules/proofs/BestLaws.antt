-- The test of a best member and its size, for each way out of it.
use mathlib.Core.Path.{◌≡◌, refl, sym}
use mathlib.Core.Bool.{Bool, false}
use mathlib.Core.List.{List, map}
use Prim.Native.Nat.{ℕ, ◌+◌, ◌*◌, ◌<◌, ◌≤◌}
use native.Mathlib.Nat.{mul-le-mul}
use native.Mathlib.Omega.{arith}
use borrow.Author.Tests.{le-ltb, lt-ltb, le-leb, lt-leb, ne_eqb}
use lib.Dec.{eqb}
use lib.ListN.{length, drop}
use Rattle.spec.specs.Bytes.{Two, sum}
use Rattle.spec.specs.Image.{Tables, Class, Member, BEST-SIZE, best_right, best_size, children_of, size_over, tables_of, the_class, the_member}
use Rattle.spec.specs.Meaning.{In}
use Rattle.laws.specs.Valid.{Spans, Children}
use Rattle.laws.specs.AcceptedLists.{in-at}
use Rattle.laws.specs.AcceptedTurns.{sum-go, sum-end}
use Rattle.image.specs.Loaded.{Loaded, the_child, classes-many}
use Rattle.image.specs.declared.Image.{Image}
use Rattle.span_rules.specs.Within.{class-room, own-long, own_at, own-within, member-there}

-- the largest product of two 4-byte numbers
pub product_le : (a b : ℕ) → a < 4294967296 → b < 4294967296 → a * b ≤ 18446744065119617025
product_le a b h g = omega (arith, mul-le-mul {n₁ = a} {m₁ = b} {n₂ = 4294967295} {m₂ = 4294967295} (omega arith) (omega arith))

-- ---- 1 plus the sum of count × best size
abbrev pub child_size : Tables → Two → ℕ
child_size t x = x.1 * best_size t x.0

pub size-start : (t : Tables) (l : List Two) → 1 + sum (map (child_size t) l) ≡ size_over t l
unfolding size_over
size-start t l = refl

pub size-over : (size whole : ℕ) {n : ℕ} → size ≤ BEST-SIZE → BEST-SIZE < n → n ≤ whole → false ≡ eqb size whole
size-over size whole h g e = sym (ne_eqb size whole (λ q. omega arith))

-- ---- the children of member x
module _ (t : Tables) (x : Member) (w : x.first + x.count ≤ length t.children) (i : ℕ) where
  module _ {f : ℕ} (first : f ≡ x.first) (h : i < x.count) where
    pub own_in : In (the_child t (f + i)) (children_of t x)
    own_in = rw (own_at t x i first h) at (in-at (children_of t x) i (0, 0) (omega (arith, own-long t x w)))

    pub own-sum : (g : Two → ℕ) → sum (map g (drop i (children_of t x))) ≡ g (the_child t (f + i)) + sum (map g (drop (i + 1) (children_of t x)))
    own-sum g = rw (← own_at t x i first h) (sum-go g (children_of t x) i (0, 0) (omega (arith, own-long t x w)))

  pub own-none : (g : Two → ℕ) → x.count ≤ i → sum (map g (drop i (children_of t x))) ≡ 0
  own-none g h = sum-end g (children_of t x) i (omega (arith, own-long t x w))

pub child-room : (s : List ℕ) (im : Image) {m : ℕ} → Loaded s im → Spans (tables_of s) → m < im.members
    → (f i : ℕ) → Children (tables_of s) → f ≡ (the_member (tables_of s) m).first → i < (the_member (tables_of s) m).count → (the_child (tables_of s) (f + i)).0 < im.classes
child-room s im {m} l v h f i k p b =
    omega (arith, classes-many s im l, k.child_class m (the_child (tables_of s) (f + i)) (member-there s im l v h) (own_in (tables_of s) (the_member (tables_of s) m) (own-within s im l v h) i p b))

-- ---- a best member, part after part
module _ (t : Tables) (x : Class) {f b : ℕ} (first : f ≡ x.first) (best : b ≡ x.best) where
  pub best-below : b < f → false ≡ best_right t x
  unfolding best_right
  best-below h = rw (← first, ← best, lt-leb f b h) refl

  module _ {n : ℕ} (h : f ≤ b) (count : n ≡ x.count) where
    pub best-above : f + n ≤ b → false ≡ best_right t x
    unfolding best_right
    best-above g = rw (← first, ← best, ← count, le-leb f b h, le-ltb b (f + n) g) refl

    module _ {z : ℕ} (g : b < f + n) (size : z ≡ x.size) where
      pub size_none : z < 1 → false ≡ best_right t x
      unfolding best_right
      size_none l = rw (← first, ← best, ← count, le-leb f b h, lt-ltb b (f + n) g, ← size, lt-leb 1 z l) refl

      pub size-large : 1 ≤ z → BEST-SIZE < z → false ≡ best_right t x
      unfolding best_right
      size-large l u = rw (← first, ← best, ← count, le-leb f b h, lt-ltb b (f + n) g, ← size, le-leb 1 z l, lt-leb z BEST-SIZE u) refl

      pub size-left : {r : Bool} → 1 ≤ z → z ≤ BEST-SIZE → r ≡ eqb z (size_over t (children_of t (the_member t b))) → r ≡ best_right t x
      unfolding best_right
      size-left l u e = rw (← first, ← best, ← count, le-leb f b h, lt-ltb b (f + n) g, ← size, le-leb 1 z l, le-leb z BEST-SIZE u) e

-- a best member within its class is a member of the image
pub best-room : (s : List ℕ) (im : Image) {c f n b : ℕ} → Loaded s im → Spans (tables_of s) → c < im.classes
    → f ≡ (the_class (tables_of s) c).first → n ≡ (the_class (tables_of s) c).count → b < f + n → b < im.members
best-room s im l v h p q g = omega (arith, class-room s im l v.classes_follow h p q)
