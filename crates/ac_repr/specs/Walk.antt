-- The walk through the representation pairs of two classes: operations of either class rising, places of the left class, places of the right class.
-- A place of a class is a member's number, or the end of its members, which stands for the class itself once.
use Rattle.std.specs.Prelude.{◌≡◌, Bool, true, false, not, List, [], ◌∷◌, ◌++◌, map, ℕ, suc, ◌+◌, ◌≤◌, ◌<◌, ltb, eqb, length, Option, Some, None}
use Rattle.spec.specs.Bytes.{pick, each}
use Rattle.spec.specs.Image.{Tables, NO-IDENTITY, identity_of, the_class, the_member}
use Rattle.ac_repr.specs.declared.Walk.{Walk}
use Rattle.laws.specs.Firsts.{passing}
use Rattle.ac_ops.specs.AcOps.{end_of, ac_op}

-- ---- places
-- place x of a class whose members end at `end` has a monomial under operation o
abbrev pub has_place : Tables → ℕ → ℕ → ℕ → Bool
has_place t end o x = pick (ltb x end) (eqb (the_member t x).op o) (pick (ltb end x) false (not (eqb (identity_of t o) NO-IDENTITY)))

-- from place x on
unfoldable pub places_from : Tables → ℕ → ℕ → ℕ → List ℕ
unfolding passing
places_from t end o x = passing (has_place t end o) x (suc end)

-- ---- pairs of places
abbrev pub walk_at : ℕ → ℕ → ℕ → Walk
walk_at o a b = record { op = o; a = a; b = b }

-- left place a beside the right places from y on
unfoldable pub row : Tables → ℕ → ℕ → ℕ → ℕ → List Walk
unfolding places_from
row t end o a y = map (walk_at o a) (places_from t end o y)

-- left places from x on beside all right places
unfoldable pub rows : Tables → ℕ → ℕ → ℕ → ℕ → List Walk
unfolding each places_from row
rows t l r o x = each (λ a. row t (end_of t r) o a (the_class t r).first) (places_from t (end_of t l) o x)

-- from pair w on, under w's operation
unfoldable pub under : Tables → ℕ → ℕ → Walk → List Walk
unfolding row rows
under t l r w = pick (has_place t (end_of t l) w.op w.a) (row t (end_of t r) w.op w.a w.b) [] ++ rows t l r w.op (suc w.a)

-- ---- "An MSet or Set operation of either class", from o on
unfoldable pub pairs_from : Tables → ℕ → ℕ → ℕ → List Walk
unfolding ac_op each passing rows
pairs_from t l r o = each (λ p. rows t l r p (the_class t l).first) (passing (ac_op t l r) o (length t.operations))

-- from pair w on
unfoldable pub walks : Tables → ℕ → ℕ → Walk → List Walk
unfolding under pairs_from
walks t l r w = under t l r w ++ pairs_from t l r (suc w.op)

-- "A class paired with itself has no actions."
unfoldable pub all_walks : Tables → ℕ → ℕ → List Walk
unfolding pairs_from
all_walks t l r = elim (eqb l r) [ true ↦ [] | false ↦ pairs_from t l r 0 ]

-- the state directly after w
abbrev pub after_of : Walk → Walk
after_of w = record { op = w.op; a = w.a; b = w.b + 1 }

-- the first pair, if there is one
abbrev pub step_of : List Walk → Option Walk
step_of [] = None
step_of (w ∷ l) = Some w

-- what is left at a step: its pair, and those after it
abbrev pub left_of : (Walk → List Walk) → Option Walk → List Walk
left_of later (Some w) = w ∷ later (after_of w)
left_of later None = []

-- the step's pair stands within the tables
abbrev pub Within : Tables → ℕ → ℕ → Option Walk → Type 0
Within t l r (Some w) = (w.op < length t.operations) × (w.a ≤ end_of t l) × (w.b ≤ end_of t r)
Within t l r None = Unit

-- beside left place a of operation o
abbrev pub Beside : Tables → ℕ → ℕ → ℕ → Option Walk → Type 0
Beside t r o a (Some w) = (w.op ≡ o) × (w.a ≡ a) × (w.b ≤ end_of t r)
Beside t r o a None = Unit

-- under operation o
abbrev pub Under : Tables → ℕ → ℕ → ℕ → Option Walk → Type 0
Under t l r o (Some w) = (w.op ≡ o) × (w.a ≤ end_of t l) × (w.b ≤ end_of t r)
Under t l r o None = Unit

-- A step beside one left place, and one under one operation.
pub record InRow (t : Tables) (r o a b : ℕ) (x : Option Walk) : Type 0 where
  pub left : row t (end_of t r) o a b ≡ left_of (λ w. row t (end_of t r) o a w.b) x
  pub beside : Beside t r o a x

pub record InOp (t : Tables) (l r o : ℕ) (list : List Walk) (x : Option Walk) : Type 0 where
  pub left : list ≡ left_of (under t l r) x
  pub placed : Under t l r o x

-- A step through the pairs of `list`: the answer is the first one, and `later` gives those after it.
pub record Stepped (t : Tables) (l r : ℕ) (later : Walk → List Walk) (list : List Walk) (x : Option Walk) : Type 0 where
  pub answer : x ≡ step_of list
  pub left : list ≡ left_of later x
  pub within : Within t l r x
